-- The bytes of a word of a line, written into a buffer of 32,768 bytes.
use Prim.Native.Nat.{ℕ, zero, suc, ◌+◌, ◌≤◌}
use native.Mathlib.Nat.{le_trans}
use native.Mathlib.Omega.{arith}
use mathlib.Core.Path.{◌≡◌, sym, ap, ◌∙◌}
use mathlib.Core.List.{List, [], ◌∷◌}
use lib.ListN.{length, take, replicate, length-drop, length-replicate}
use lib.Seq.{length-take-le}
use Rattle.output.specs.Output.{output, Wrote}
use Rattle.output.specs.Text.{run, behind_run}
use Rattle.output.specs.Read.{other, past}
use Rattle.output.proofs.OutputLaws as O
use Rattle.output.proofs.RunLaws.{run_le, run_drop}
use Rattle.in_hex.specs.Hex.{bytes_of}
use Rattle.input.specs.Words.{behind_spaces, word_at}
use Rattle.numbers.proofs.NumberLaws.{written}
use Rattle.script.specs.Replay.{bytes_at}

-- a word stands for half as many bytes as it has
half : (t : List ℕ) → length (bytes_of t) + length (bytes_of t) ≤ length t
half [] = omega arith
half (a ∷ []) = omega arith
half (a ∷ b ∷ s) = omega (arith, half s)

past_le : (x : ℕ) (t : List ℕ) → length (past x t) ≤ length t
past_le x t =
    let h = ap length (run_drop (other x) t) in
    omega (arith, length-drop 1 (behind_run (other x) t), length-drop (length (run (other x) t)) t)

behind_le : (k : ℕ) (t : List ℕ) → length (behind_spaces k t) ≤ length t
behind_le zero t = omega arith
behind_le (suc k) t = le_trans (behind_le k (past 32 t)) (past_le 32 t)

word_le : (k : ℕ) (t : List ℕ) → length (word_at k t) ≤ length t
unfolding word_at
word_le k t = le_trans (run_le (other 32) (behind_spaces k t)) (behind_le k t)

-- the buffer that the code has for them
abbrev buffer : List ℕ
buffer = replicate 32768 0

room : length buffer ≡ 32768
room = length-replicate {A = ℕ} 32768 0

-- the first n bytes of a text are those of word k of the line
pub record Held (k : ℕ) (line text : List ℕ) (n : ℕ) : Type 0 where
  pub inside : n ≤ length text
  pub count : n ≡ length (take n text)
  pub bytes : take n text ≡ bytes_at k line

-- so they are where the bytes of that word were written into the buffer
pub held : {line text w : List ℕ} {n : ℕ} (k : ℕ) → w ≡ word_at k line → Wrote (output buffer 0) (bytes_of w) (output text n) → length line ≤ 65536 → Held k line text n
held {line} {text} {w} {n} k e o short =
    let b : length (bytes_of w) ≤ 32768 = omega (arith, half w, ap length e, word_le k line) in
    let f = O.from_start o (omega (arith, room)) in
    let i : n ≤ length text = omega (arith, f.0, O.same o, room) in
    record {
      inside = i;
      count = sym (length-take-le n text i);
      bytes = written o (omega (arith, room)) ∙ ap bytes_of e;
    }

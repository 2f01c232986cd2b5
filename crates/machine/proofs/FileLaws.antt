-- A file of lines: a written message holds no byte 10, so a file gives its messages back.
use Prim.Native.Nat.{ℕ, zero, suc, ◌-◌, ◌<◌}
use native.Mathlib.Omega.{arith}
use mathlib.Core.Path.{◌≡◌, refl, ap, ap₂, sym, ◌∙◌, subst}
use mathlib.Core.Bool.{Bool, true, false, not, true≢false}
use mathlib.Core.List.{List, [], ◌∷◌, ◌++◌, map, append_assoc}
use lib.Dec.{eqb}
use lib.ListN.{length, take, length-append}
use lib.Seq.{take-append_seam}
use borrow.Author.Tests.{eqb-true, not-true}
use Rattle.output.specs.Text.{is_digit, all}
use Rattle.output.specs.Number.{decimal, digit}
use Rattle.output.specs.Read.{other, up_to, past}
use Rattle.output.proofs.TextLaws.{every_all, every_decimal, digit_is}
use Rattle.output.proofs.RunLaws.{all_append, all_in}
use Rattle.output.proofs.ReadLaws.{up_to_at, past_at}
use Rattle.message.specs.Message.{Message, escape_byte, escape_all, escape, arg, args_text, id_text, write_to, write, line, Escape, escapes, escape_in}
use Rattle.message.proofs.MessageLaws.{line_end}
use Rattle.line.specs.Line.{message, letter, title_byte, kind_byte, parse, WellFormed}
use Rattle.line.proofs.ReadBack.{read_back, written_apart}
use Rattle.machine.specs.Places.{Each, joined}
use Rattle.machine.specs.TwoDevices.{without_end}
use Rattle.machine.specs.Cut.{start_with, whole_lines}
use Rattle.machine.proofs.TestLaws.{and_true, cond_either, cond_false}

-- a byte of a kind that byte 10 is not of
not_end : (is : ℕ → Bool) → is 10 ≡ false → (b : ℕ) → is b ≡ true → other 10 b ≡ true
not_end is f b h = go (eqb b 10) refl
  where
    go : (t : Bool) → eqb b 10 ≡ t → not t ≡ true
    go true e = absurd (true≢false (sym h ∙ (ap is (eqb-true b 10 e) ∙ f)))
    go false e = refl

in_free : (es : List Escape) (b : ℕ) → eqb b 10 ≡ false → Each (λ (e : Escape). other 10 e.letter ≡ true) es → all (other 10) (escape_in es b) ≡ true
in_free [] b e h = rw e
in_free (x ∷ es) b e h = cond_either (λ l. all (other 10) l ≡ true) (eqb b x.byte) _ _ (rw h.0) (in_free es b e h.1)

escape_free : (b : ℕ) → all (other 10) (escape_byte b) ≡ true
unfolding escape_byte
escape_free b = go (eqb b 10) refl
  where
    go : (t : Bool) → eqb b 10 ≡ t → all (other 10) (escape_byte b) ≡ true
    go true e = ap (λ x. all (other 10) (escape_byte x)) (eqb-true b 10 e)
    go false e = in_free escapes b e (refl, (refl, (refl, (refl, (refl, (refl, (refl, tt)))))))

escape_all_free : (t : List ℕ) → all (other 10) (escape_all t) ≡ true
escape_all_free [] = refl
escape_all_free (b ∷ t) = all_append (other 10) (escape_byte b) (escape_all t) (escape_free b) (escape_all_free t)

arg_free : (t : List ℕ) → all (other 10) (arg t) ≡ true
unfolding arg escape
arg_free [] = refl
arg_free (b ∷ t) = escape_all_free (b ∷ t)

args_free : (ts : List (List ℕ)) → all (other 10) (args_text ts []) ≡ true
args_free [] = refl
args_free (t ∷ ts) = all_append (other 10) (arg t) (args_text ts []) (arg_free t) (args_free ts)

id_free : (n : ℕ) → all (other 10) (id_text n) ≡ true
unfolding id_text is_digit
id_free n = cond_either (λ l. all (other 10) l ≡ true) (eqb n 0) [] _ refl
    (all_append (other 10) (decimal n) (93 ∷ []) (every_all (other 10) (decimal n) (every_decimal (λ b. other 10 b ≡ true) (λ k. not_end is_digit refl (digit k) (digit_is k)) n)) refl)

pub written_free : (m : Message) → WellFormed m → all (other 10) (write m) ≡ true
unfolding write_to title_byte letter is_digit kind_byte
written_free m w = all_append (other 10) (m.kind ∷ m.name) (id_text m.id ++ args_text m.args [])
    (rw (not_end kind_byte refl m.kind w.kind) (all_in title_byte (other 10) (not_end title_byte refl) m.name w.letters))
    (all_append (other 10) (id_text m.id) (args_text m.args []) (id_free m.id) (args_free m.args))

-- a line without its end parses to its message
pub without_end_lem : (m : Message) → without_end (line m) ≡ write m
without_end_lem m = ap without_end (line_end m) ∙ (ap (λ n. take n (write m ++ (10 ∷ []))) shorter ∙ take-append_seam (write m) (10 ∷ []))
  where
    shorter : length (write m ++ (10 ∷ [])) - 1 ≡ length (write m)
    shorter = omega (arith, length-append (write m) (10 ∷ []))

pub line_parses : (m : Message) → WellFormed m → parse (without_end (line m)) ≡ message m
line_parses m w = ap parse (without_end_lem m) ∙ read_back m w

cut_file : (m : Message) (r : List ℕ) → line m ++ r ≡ write m ++ (10 ∷ r)
cut_file m r = ap (λ l. l ++ r) (line_end m) ∙ append_assoc (write m) (10 ∷ []) r

first_line : (m : Message) → WellFormed m → (r : List ℕ) → up_to 10 (line m ++ r) ≡ write m
first_line m w r = ap (up_to 10) (cut_file m r) ∙ up_to_at 10 (write m) r (written_free m w)

other_lines : (m : Message) → WellFormed m → (r : List ℕ) → past 10 (line m ++ r) ≡ r
other_lines m w r = ap (past 10) (cut_file m r) ∙ past_at 10 (write m) r (written_free m w)

some_line : (m : Message) (r : List ℕ) → 0 < length (line m ++ r)
some_line m r = ap_length (cut_file m r) (omega (arith, length-append (write m) (10 ∷ r)))
  where
    ap_length : line m ++ r ≡ write m ++ (10 ∷ r) → 0 < length (write m ++ (10 ∷ r)) → 0 < length (line m ++ r)
    ap_length e h = rw e h

empty : (m : Message) (r : List ℕ) → [] ≡ line m ++ r → ⊥
empty m r e = let q = ap length e in omega (arith, some_line m r)

-- a file gives its messages back
pub file_apart : (ms ns : List Message) → Each WellFormed ms → Each WellFormed ns → joined (map line ms) ≡ joined (map line ns) → ms ≡ ns
file_apart [] [] h k e = refl
file_apart [] (n ∷ ns) h k e = absurd (empty n (joined (map line ns)) e)
file_apart (m ∷ ms) [] h k e = absurd (empty m (joined (map line ms)) (sym e))
file_apart (m ∷ ms) (n ∷ ns) h k e = ap₂ ◌∷◌
    (written_apart m n h.0 k.0 (sym (first_line m h.0 _) ∙ (ap (up_to 10) e ∙ first_line n k.0 _)))
    (file_apart ms ns h.1 k.1 (sym (other_lines m h.0 _) ∙ (ap (past 10) e ∙ other_lines n k.0 _)))

-- Whole lines.

module _ (r : List ℕ) where
  whole_line : (l : List ℕ) → all (other 10) l ≡ true → whole_lines (l ++ (10 ∷ r)) ≡ (l ++ (10 ∷ [])) ∷ whole_lines r
  whole_line [] h = refl
  whole_line (b ∷ l) h = let q = and_true (other 10 b) (all (other 10) l) h in
      cond_false (eqb b 10) _ _ (not-true (eqb b 10) q.0) ∙ ap (start_with b) (whole_line l q.1)

  -- a line that is cut off, or whole
  cut_line : (l : List ℕ) → all (other 10) l ≡ true → (P : List (List ℕ) → Type 0) → P [] → ((k : ℕ) → P ((l ++ (10 ∷ [])) ∷ whole_lines (take k r)))
      → (n : ℕ) → P (whole_lines (take n (l ++ (10 ∷ r))))
  cut_line [] h P none whole zero = none
  cut_line [] h P none whole (suc n) = whole n
  cut_line (b ∷ l) h P none whole zero = none
  cut_line (b ∷ l) h P none whole (suc n) = let q = and_true (other 10 b) (all (other 10) l) h in
      subst P (sym (cond_false (eqb b 10) _ _ (not-true (eqb b 10) q.0))) (cut_line l q.1 (λ ls. P (start_with b ls)) none whole n)

pub whole_lines_lem : (ms : List Message) → Each WellFormed ms → whole_lines (joined (map line ms)) ≡ map line ms
whole_lines_lem [] w = refl
whole_lines_lem (m ∷ ms) w = ap whole_lines (cut_file m (joined (map line ms))) ∙ (whole_line (joined (map line ms)) (write m) (written_free m w.0) ∙ ap₂ ◌∷◌ (sym (line_end m)) (whole_lines_lem ms w.1))

pub cut_lines : (ms : List Message) → Each WellFormed ms → (n : ℕ) → (rest : List (List ℕ)) × (map line ms ≡ whole_lines (take n (joined (map line ms))) ++ rest)
cut_lines [] w zero = ([], refl)
cut_lines [] w (suc n) = ([], refl)
cut_lines (m ∷ ms) w n = subst (λ s. (rest : List (List ℕ)) × (line m ∷ map line ms ≡ whole_lines (take n s) ++ rest)) (sym (cut_file m (joined (map line ms))))
    (cut_line (joined (map line ms)) (write m) (written_free m w.0) (λ ls. (rest : List (List ℕ)) × (line m ∷ map line ms ≡ ls ++ rest)) (line m ∷ map line ms, refl)
    (λ k. let r = cut_lines ms w.1 k in (r.0, ap₂ ◌∷◌ (line_end m) r.1)) n)

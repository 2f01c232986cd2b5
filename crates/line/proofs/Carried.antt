-- What whoever reads a line learns of its message: the arguments by their places, and where the name stands.
use Rattle.std.specs.Prelude.{None, Some, Option}
use Prim.Native.Nat.{ℕ, suc, ◌+◌, ◌≤◌}
use mathlib.Core.Path.{◌≡◌, refl, sym, ap, ◌∙◌}
use mathlib.Core.Bool.{Bool, true, false, not, cond, ◌&&◌}
use mathlib.Core.List.{List, [], ◌∷◌, ◌++◌, map}
use native.Mathlib.Omega.{arith}
use lib.Seq.{take-nil, take-append-le}
use lib.ListN.{length, take, drop, get_or, get_or-map, take-append-drop}
use Rattle.output.proofs.RunLaws.{run_le, run_take}
use Rattle.message.specs.Message.{Message}
use Rattle.line.specs.declared.Header.{Header}
use Rattle.line.specs.Line.{Parse, message, malformed, parse, unescape, word_byte, word, behind, name_of, title_byte, kind_byte, blank, id_of, after_name, name_ok, with_id, read_head, line_size, all_valid}
use Rattle.line.specs.Argument.{argument}
use Rattle.line.specs.Answer.{answer, header}

-- m is the message of the line s
pub record Carries (s : List ℕ) (m : Message) : Type 0 where
  pub reads : parse s ≡ message m
  pub arg : (k : ℕ) → argument s k ≡ get_or m.args k []
  pub name : take (length m.name) (drop 1 s) ≡ m.name
  pub room : length m.name + 1 ≤ length s

-- what a head gives
record FromHead (w : List ℕ) (ws : List (List ℕ)) (m : Message) : Type 0 where
  args : m.args ≡ map unescape ws
  name : m.name ≡ name_of (drop 1 w)
  some : length w ≡ 0 → ⊥

no : {A : Type 0} {m : Message} → malformed ≡ message m → A
no e = absurd (let z : ◌≡◌ {A = ℕ} 0 1 = cc in omega arith)

of_id : (k : ℕ) (n : List ℕ) (i : Option ℕ) (ws : List (List ℕ)) (m : Message) → with_id k n i ws ≡ message m → (m.args ≡ map unescape ws) × (m.name ≡ n)
of_id k n None ws m e = no e
of_id k n (Some i) ws m e =
    let q : record { kind = k; name = n; id = i; args = map unescape ws } ≡ m = cc in
    (ap (λ (x : Message). x.args) (sym q), ap (λ (x : Message). x.name) (sym q))

of_head : (w : List ℕ) (ws : List (List ℕ)) (m : Message) → read_head w ws ≡ message m → FromHead w ws m
of_head [] ws m e = no e
of_head (k ∷ t) ws m e = go (kind_byte k) (name_ok (name_of t)) e
  where
    go : (a b : Bool) → cond a (cond b (with_id k (name_of t) (id_of (after_name t)) ws) malformed) malformed ≡ message m → FromHead (k ∷ t) ws m
    go true true e =
        let f = of_id k (name_of t) (id_of (after_name t)) ws m e in
        record { args = f.0; name = f.1; some = λ z. omega arith }
    go true false e = no e
    go false b e = no e

of_line : (s : List ℕ) (m : Message) → parse s ≡ message m → FromHead (word s) (behind s) m
unfolding parse
of_line s m e = go (line_size s && all_valid (behind s)) e
  where
    go : (t : Bool) → cond t (read_head (word s) (behind s)) malformed ≡ message m → FromHead (word s) (behind s) m
    go true e = of_head (word s) (behind s) m e
    go false e = no e

-- a name is the start of its word, and so of the line behind the kind byte
take-name : (t u : List ℕ) → take (length (name_of t)) (t ++ u) ≡ name_of t
take-name t u = take-append-le (length (name_of t)) t u (run_le title_byte t) ∙ run_take title_byte t

split_word : (s : List ℕ) → word s ++ drop (length (word s)) s ≡ s
split_word s = ap (λ (l : List ℕ). l ++ drop (length (word s)) s) (sym (run_take word_byte s)) ∙ take-append-drop (length (word s)) s

named : (s n : List ℕ) → n ≡ name_of (drop 1 (word s)) → (length (word s) ≡ 0 → ⊥) → (take (length n) (drop 1 s) ≡ n) × (length n + 1 ≤ length s)
named [] n e ne = absurd (ne refl)
named (b ∷ s) n e ne = go (blank b) e ne
  where
    go : (t : Bool) → n ≡ name_of (drop 1 (cond (not t) (b ∷ word s) [])) → (length (cond (not t) (b ∷ word s) []) ≡ 0 → ⊥) → (take (length n) s ≡ n) × (length n + 1 ≤ suc (length s))
    go true e ne = absurd (ne refl)
    go false e ne =
        let q : take (length (name_of (word s))) s ≡ name_of (word s) =
        ap (λ (l : List ℕ). take (length (name_of (word s))) l) (sym (split_word s)) ∙ take-name (word s) (drop (length (word s)) s) in
        (rw e q, omega (arith, ap length e, run_le title_byte (word s), run_le word_byte s))

pub carries : (s : List ℕ) (m : Message) → parse s ≡ message m → Carries s m
carries s m e =
    let f = of_line s m e in
    let n = named s m.name f.name f.some in
    record {
      reads = e;
      arg = λ k. sym (get_or-map unescape (behind s) k []) ∙ ap (λ (x : List (List ℕ)). get_or x k []) (sym f.args);
      name = n.0;
      room = n.1;
    }

-- the code's answer is a message's header
pub carried : (s : List ℕ) (h : Header) → answer (parse s) ≡ Some h → (m : Message) × Carries s m × (h ≡ header m)
carried s h e = go (parse s) refl e
  where
    go : (p : Parse) → parse s ≡ p → answer p ≡ Some h → (m : Message) × Carries s m × (h ≡ header m)
    go malformed q e = absurd (let z : ◌≡◌ {A = ℕ} 0 1 = cc in omega arith)
    go (message m) q e = (m, carries s m q, cc)

pub no_name : (s : List ℕ) (n : ℕ) → length s ≡ 0 → s ≡ take n (drop 1 s)
no_name [] n e = sym (take-nil n)
no_name (b ∷ s) n e = absurd (omega arith)

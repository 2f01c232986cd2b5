-- What is known of a message that a line was read as.
use Rattle.std.specs.Prelude.{None, Some, Option}
use Prim.Native.Nat.{ℕ, ◌+◌, ◌-◌, ◌*◌, ◌≤◌}
use Prim.Native.Char.{code}
use native.Mathlib.Omega.{arith}
use mathlib.Core.Path.{◌≡◌, refl, ap, subst}
use mathlib.Core.Bool.{Bool, true, false, cond, ◌&&◌, and-eq-true_iff}
use mathlib.Core.List.{List, [], ◌∷◌}
use lib.Dec.{eqb, leb}
use lib.ListN.{length}
use borrow.Author.Tests.{leb-true}
use Rattle.output.specs.Text.{is_digit, all}
use Rattle.message.specs.Message.{Message}
use Rattle.line.specs.Line.{Parse, malformed, message, blank, kind_byte, title_byte, name_ok, name_of, after_name, id_from, id_of, with_id, read_named, read_head, line_size, all_valid, behind, word, parse, blank_line}
use Rattle.output.proofs.RunLaws.{run_all}

-- kind, name and id of a message as a line can give them
pub record Head (m : Message) : Type 0 where
  pub kind : kind_byte m.kind ≡ true
  pub letters : all title_byte m.name ≡ true
  pub name : name_ok m.name ≡ true
  pub id : m.id ≤ 2147483647

abbrev HasHead : Parse → Type 0
HasHead malformed = Unit
HasHead (message m) = Head m

abbrev Small : Option ℕ → Type 0
Small None = Unit
Small (Some i) = i ≤ 2147483647

id_small : (n : ℕ) (s : List ℕ) → n ≤ 2147483647 → Small (id_from n s)
id_small n [] h = tt
id_small n (b ∷ s) h = go (is_digit b) (leb 1 (n * 10 + (b - code "0"))) (leb (n * 10 + (b - code "0")) 2147483647) (eqb b (code "]") && (leb 1 n && eqb (length s) 0)) refl (id_small (n * 10 + (b - code "0")) s)
  where
    go : (t u v w : Bool) → leb (n * 10 + (b - code "0")) 2147483647 ≡ v → (n * 10 + (b - code "0") ≤ 2147483647 → Small (id_from (n * 10 + (b - code "0")) s))
        → Small (cond t (cond (u && v) (id_from (n * 10 + (b - code "0")) s) None) (cond w (Some n) None))
    go true true true w e ih = ih (leb-true (n * 10 + (b - code "0")) 2147483647 e)
    go true true false w e ih = tt
    go true false v w e ih = tt
    go false u v true e ih = h
    go false u v false e ih = tt

id_most : (s : List ℕ) → Small (id_of s)
id_most [] = omega arith
id_most (b ∷ s) = go (eqb b (code "["))
  where
    go : (t : Bool) → Small (cond t (id_from 0 s) None)
    go true = id_small 0 s (omega arith)
    go false = tt

named_head : (k : ℕ) (t : List ℕ) (ws : List (List ℕ)) → kind_byte k ≡ true → HasHead (read_named k t ws)
named_head k t ws h = go (name_ok (name_of t)) refl (id_of (after_name t)) (id_most (after_name t))
  where
    go : (b : Bool) → name_ok (name_of t) ≡ b → (i : Option ℕ) → Small i → HasHead (cond b (with_id k (name_of t) i ws) malformed)
    go true e None small = tt
    go true e (Some i) small = record { kind = h; letters = run_all title_byte t; name = e; id = small }
    go false e i small = tt

head_head : (w : List ℕ) (ws : List (List ℕ)) → HasHead (read_head w ws)
head_head [] ws = tt
head_head (k ∷ t) ws = go (kind_byte k) refl
  where
    go : (b : Bool) → kind_byte k ≡ b → HasHead (cond b (read_named k t ws) malformed)
    go true e = named_head k t ws e
    go false e = tt

has_head : (s : List ℕ) → HasHead (parse s)
unfolding parse
has_head s = go (line_size s && all_valid (behind s))
  where
    go : (b : Bool) → HasHead (cond b (read_head (word s) (behind s)) malformed)
    go true = head_head (word s) (behind s)
    go false = tt

pub parsed_head : (s : List ℕ) (m : Message) → parse s ≡ message m → Head m
parsed_head s m e = subst HasHead e (has_head s)

-- a blank line is no message
pub blank_parse : (s : List ℕ) → blank_line s ≡ true → parse s ≡ malformed
unfolding blank_line parse
blank_parse [] h = go (line_size [] && all_valid (behind []))
  where
    go : (b : Bool) → cond b malformed malformed ≡ malformed
    go true = refl
    go false = refl
blank_parse (b ∷ s) h = go (line_size (b ∷ s) && all_valid (behind (b ∷ s)))
  where
    first : blank b ≡ true
    first = ((and-eq-true_iff (blank b) (all blank s)).0 ((and-eq-true_iff (line_size (b ∷ s)) (blank b && all blank s)).0 h).1).0

    none : word (b ∷ s) ≡ []
    none = rw first

    go : (c : Bool) → cond c (read_head (word (b ∷ s)) (behind (b ∷ s))) malformed ≡ malformed
    go true = ap (λ w. read_head w (behind (b ∷ s))) none
    go false = refl

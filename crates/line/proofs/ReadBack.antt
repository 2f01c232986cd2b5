-- A written message reads back as itself: its words are the head and the arguments as they are written, and each reads back.
use Rattle.std.specs.Prelude.{Some}
use Prim.Native.Nat.{ℕ, zero, suc, ◌+◌, ◌-◌, ◌*◌, ◌/◌, ◌%◌, ◌≤◌, ◌<◌}
use mathlib.Core.Path.{◌≡◌, refl, sym, ap, subst, ◌∙◌}
use mathlib.Core.List.{List, [], ◌∷◌, ◌++◌, map, append-nil, append_assoc}
use mathlib.Core.Bool.{Bool, true, false, not, cond, true≢false, and-eq-true_iff}
use native.Mathlib.Omega.{arith}
use borrow.Author.Tests.{eqb-true, eqb-false, ne_eqb, le-leb, ltb-true, ltb-false, not-true}
use lib.Dec.{eqb, leb, ltb}
use lib.ListN.{length}
use Rattle.output.specs.Number.{decimal}
use Rattle.output.proofs.NumberLaws.{decimal_small, decimal_step}
use Rattle.message.specs.Message.{Message, escape_byte, escape_all, escape, arg, args_text, id_text, write_to, write}
use Rattle.line.specs.declared.Meaning.TheVariants.{Byte}
use Rattle.output.specs.Text.{is_digit, all}
use Rattle.output.proofs.TextLaws.{digit_is}
use Rattle.output.proofs.RunLaws as run
use Rattle.output.proofs.RunLaws.{all_append, all_in, run-append}
use Rattle.line.specs.Line.{message, blank, letter, title_byte, kind_byte, plain, escape_of, word_byte, word, words, behind, valid, all_valid, unescape, name_of, after_name, name_ok, id_from, id_of, read_head, parse, WellFormed}

-- Words of lists one after another.

-- no byte is a space or a tab
abbrev clean : List ℕ → Bool
clean s = all word_byte s

-- bytes of a kind that has neither the space nor the tab
not_blank : (p : ℕ → Bool) → p 32 ≡ false → p 9 ≡ false → (b : ℕ) → p b ≡ true → blank b ≡ false
unfolding blank
not_blank p h k b e =
    let f : eqb b 32 ≡ false = ne_eqb b 32 (λ q. true≢false (sym e ∙ ap p q ∙ h)) in
    let g : eqb b 9 ≡ false = ne_eqb b 9 (λ q. true≢false (sym e ∙ ap p q ∙ k)) in
    rw (f, g)

module _ (b : ℕ) (h : List ℕ) (p : clean (b ∷ h) ≡ true) where
  front : blank b ≡ false
  front = not-true (blank b) ((and-eq-true_iff (not (blank b)) (clean h)).0 p).0

  back : clean h ≡ true
  back = ((and-eq-true_iff (not (blank b)) (clean h)).0 p).1

behind-append : (h t : List ℕ) → clean h ≡ true → behind (h ++ t) ≡ behind t
behind-append [] t p = refl
behind-append (b ∷ h) t p = rw (front b h p) (behind-append h t (back b h p))

words_append : (w t : List ℕ) → clean w ≡ true → (length w ≡ 0 → ⊥) → word t ≡ [] → words (w ++ t) ≡ w ∷ behind t
words_append [] t p ne e = absurd (ne refl)
words_append (b ∷ w) t p ne e =
    let x : word (w ++ t) ≡ w = run-append word_byte w t (back b w p) ∙ ap (λ (l : List ℕ). w ++ l) e ∙ append-nil w in
    rw (front b w p, x, behind-append w t (back b w p))

-- Arguments.

-- the bytes e stand for b, whatever follows
record Coded (b : ℕ) (e : List ℕ) : Type 0 where
  tidy : (s : List ℕ) → clean (e ++ s) ≡ clean s
  good : (s : List ℕ) → valid (e ++ s) ≡ valid s
  reads : (s : List ℕ) → unescape (e ++ s) ≡ b ∷ unescape s
  some : (s : List ℕ) → length (e ++ s) ≡ 0 → ⊥

-- a backslash and the letter c, where c stands for v
stands : (v c : ℕ) → blank c ≡ false → escape_of c ≡ Byte v → Coded v (92 ∷ c ∷ [])
unfolding blank
stands v c n e = record { tidy = λ s. simp n; good = λ s. rw e; reads = λ s. rw e; some = λ s z. omega arith }

case : (b v c : ℕ) (other : List ℕ) → Coded v (92 ∷ c ∷ []) → (eqb b v ≡ false → Coded b other) → Coded b (cond (eqb b v) (92 ∷ c ∷ []) other)
case b v c other k f = go (eqb b v) refl
  where
    go : (t : Bool) → eqb b v ≡ t → Coded b (cond t (92 ∷ c ∷ []) other)
    go true e = subst (λ (x : ℕ). Coded x (92 ∷ c ∷ [])) (sym (eqb-true b v e)) k
    go false e = f e

coded : (b : ℕ) → Coded b (escape_byte b)
unfolding escape_byte blank escape_of plain
coded b =
    case b 92 92 _ (stands 92 92 refl refl) (λ e1.
    case b 32 95 _ (stands 32 95 refl refl) (λ e2.
    case b 0 48 _ (stands 0 48 refl refl) (λ e3.
    case b 10 110 _ (stands 10 110 refl refl) (λ e4.
    case b 13 114 _ (stands 13 114 refl refl) (λ e5.
    case b 27 101 _ (stands 27 101 refl refl) (λ e6.
    case b 9 116 _ (stands 9 116 refl refl) (λ e7.
    record {
      tidy = λ s. simp (e2, e7);
      good = λ s. simp (e1, e2, e3, e4, e5, e6, e7);
      reads = λ s. simp e1;
      some = λ s z. omega arith;
    })))))))

-- the word w is an argument as it is written, and stands for the text a
record Argument (a w : List ℕ) : Type 0 where
  tidy : clean w ≡ true
  good : valid w ≡ true
  reads : unescape w ≡ a

all_coded : (s : List ℕ) → Argument s (escape_all s)
all_coded [] = record { tidy = refl; good = refl; reads = refl }
all_coded (b ∷ s) =
    let r = all_coded s in
    record {
      tidy = (coded b).tidy (escape_all s) ∙ r.tidy;
      good = (coded b).good (escape_all s) ∙ r.good;
      reads = (coded b).reads (escape_all s) ∙ ap (λ (l : List ℕ). b ∷ l) r.reads;
    }

written : (a : List ℕ) → Argument a (escape a)
unfolding escape blank escape_of
written [] = record { tidy = refl; good = refl; reads = refl }
written (b ∷ s) = all_coded (b ∷ s)

written_some : (a : List ℕ) → length (escape a) ≡ 0 → ⊥
unfolding escape
written_some [] z = omega arith
written_some (b ∷ s) z = (coded b).some (escape_all s) z

word_args : (xs : List (List ℕ)) → word (args_text xs []) ≡ []
unfolding blank arg
word_args [] = refl
word_args (a ∷ xs) = refl

behind_args : (xs : List (List ℕ)) → behind (args_text xs []) ≡ map escape xs
unfolding blank arg
behind_args [] = refl
behind_args (a ∷ xs) =
    words_append (escape a) (args_text xs []) (written a).tidy (written_some a) (word_args xs)
    ∙ ap (λ (l : List (List ℕ)). escape a ∷ l) (behind_args xs)

args_good : (xs : List (List ℕ)) → all_valid (map escape xs) ≡ true
args_good [] = refl
args_good (a ∷ xs) = rw (written a).good (args_good xs)

args_read : (xs : List (List ℕ)) → map unescape (map escape xs) ≡ xs
args_read [] = refl
args_read (a ∷ xs) = rw ((written a).reads, args_read xs)

-- The identifier.

-- a digit by its number
digit_as : (d : ℕ) → d ≤ 9 → is_digit (48 + d) ≡ true
digit_as d h = let e : d % 10 ≡ d = omega arith in rw e at (digit_is d)

clean_digit : (d : ℕ) (s : List ℕ) → d ≤ 9 → clean ((48 + d) ∷ s) ≡ clean s
unfolding is_digit
clean_digit d s h = rw (not_blank is_digit refl refl (48 + d) (digit_as d h))

id_step : (n d v : ℕ) (s : List ℕ) → d ≤ 9 → v ≡ n * 10 + d → 1 ≤ v → v ≤ 2147483647 → id_from n ((48 + d) ∷ s) ≡ id_from v s
id_step n d v s h e lo hi =
    let q : n * 10 + (48 + d - 48) ≡ v = omega arith in
    let f : leb 1 v ≡ true = le-leb 1 v lo in
    let g : leb v 2147483647 ≡ true = le-leb v 2147483647 hi in
    rw (digit_as d h, q, f, g)

-- the digits t are read as n, whatever follows
record Digits (n : ℕ) (t : List ℕ) : Type 0 where
  tidy : (s : List ℕ) → clean (t ++ s) ≡ clean s
  reads : (s : List ℕ) → id_from 0 (t ++ s) ≡ id_from n s

one_digit : (n : ℕ) → n < 10 → 1 ≤ n → Digits n (decimal n)
one_digit n h lo =
    rw (decimal_small n h)
    (record {
      tidy = λ s. clean_digit (n % 10) s (omega arith);
      reads = λ s. id_step 0 (n % 10) n s (omega arith) (omega arith) lo (omega arith);
    })

one_more : (n : ℕ) → 10 ≤ n → n ≤ 2147483647 → Digits (n / 10) (decimal (n / 10)) → Digits n (decimal n)
one_more n h hi r =
    rw (decimal_step n h (omega arith))
    (record {
      tidy = λ s. ap clean (append_assoc (decimal (n / 10)) ((48 + n % 10) ∷ []) s) ∙ r.tidy ((48 + n % 10) ∷ s) ∙ clean_digit (n % 10) s (omega arith);
      reads = λ s.
          ap (id_from 0) (append_assoc (decimal (n / 10)) ((48 + n % 10) ∷ []) s)
          ∙ r.reads ((48 + n % 10) ∷ s)
          ∙ id_step (n / 10) (n % 10) n s (omega arith) (omega arith) (omega arith) hi;
    })

digits : (k n : ℕ) → n ≤ k + 9 → 1 ≤ n → n ≤ 2147483647 → Digits n (decimal n)
digits zero n b lo hi = one_digit n (omega arith) lo
digits (suc k) n b lo hi = go (ltb n 10) refl (digits k (n / 10))
  where
    go : (t : Bool) → ltb n 10 ≡ t → (n / 10 ≤ k + 9 → 1 ≤ n / 10 → n / 10 ≤ 2147483647 → Digits (n / 10) (decimal (n / 10))) → Digits n (decimal n)
    go true e r = one_digit n (ltb-true n 10 e) lo
    go false e r =
        let h : 10 ≤ n = ltb-false n 10 e in
        one_more n h hi (r (omega arith) (omega arith) (omega arith))

-- The head.

clean_name : (n : List ℕ) → all title_byte n ≡ true → clean n ≡ true
unfolding title_byte letter is_digit
clean_name n p = all_in title_byte word_byte (λ b q. ap not (not_blank title_byte refl refl b q)) n p

-- `[id]`, or nothing: it is no name, has no blank, and is read as the identifier
record Bracketed (i : ℕ) (t : List ℕ) : Type 0 where
  unnamed : name_of t ≡ []
  stays : after_name t ≡ t
  tidy : clean t ≡ true
  reads : id_of t ≡ Some i

positive : (i : ℕ) → (i ≡ 0 → ⊥) → 1 ≤ i
positive i ne = omega arith

bracketed : (i : ℕ) → i ≤ 2147483647 → Bracketed i (id_text i)
unfolding id_text title_byte letter is_digit blank
bracketed i h = go (eqb i 0) refl
  where
    go : (t : Bool) → eqb i 0 ≡ t → Bracketed i (cond t [] (91 ∷ (decimal i ++ (93 ∷ []))))
    go true e =
        record { unnamed = refl; stays = refl; tidy = refl; reads = ap Some (sym (eqb-true i 0 e)) }
    go false e =
        let lo : 1 ≤ i = positive i (eqb-false i 0 e) in
        let f : leb 1 i ≡ true = le-leb 1 i lo in
        let d = digits i i (omega arith) lo h in
        let r : id_from i (93 ∷ []) ≡ Some i = rw f in
        record { unnamed = refl; stays = refl; tidy = d.tidy (93 ∷ []); reads = d.reads (93 ∷ []) ∙ r }

head_reads : (k i : ℕ) (n : List ℕ) (xs : List (List ℕ)) → kind_byte k ≡ true → all title_byte n ≡ true → name_ok n ≡ true → i ≤ 2147483647
    → read_head (k ∷ (n ++ id_text i)) (map escape xs) ≡ message (record { kind = k; name = n; id = i; args = xs })
head_reads k i n xs hk hl hn hi =
    let t = bracketed i hi in
    let a : name_of (n ++ id_text i) ≡ n = run-append title_byte n (id_text i) hl ∙ ap (λ (l : List ℕ). n ++ l) t.unnamed ∙ append-nil n in
    let b : after_name (n ++ id_text i) ≡ id_text i = run.behind-append title_byte n (id_text i) hl ∙ t.stays in
    rw (hk, a, b, t.reads, hn, args_read xs)

-- The line.

module _ (m : Message) (w : WellFormed m) where
  abbrev head : List ℕ
  head = m.kind ∷ (m.name ++ id_text m.id)

  head_tidy : clean head ≡ true
  unfolding kind_byte
  head_tidy =
      rw (not_blank kind_byte refl refl m.kind w.kind)
      (all_append word_byte m.name (id_text m.id) (clean_name m.name w.letters) (bracketed m.id w.id).tidy)

  parted : write m ≡ head ++ args_text m.args []
  unfolding write_to
  parted = ap (λ (l : List ℕ). m.kind ∷ l) (sym (append_assoc m.name (id_text m.id) (args_text m.args [])))

  word_write : word (write m) ≡ head
  word_write =
      ap word parted
      ∙ run-append word_byte head (args_text m.args []) head_tidy
      ∙ ap (λ (l : List ℕ). head ++ l) (word_args m.args)
      ∙ append-nil head

  behind_write : behind (write m) ≡ map escape m.args
  behind_write =
      ap behind parted ∙ behind-append head (args_text m.args []) head_tidy ∙ behind_args m.args

  pub read_back : parse (write m) ≡ message m
  unfolding parse
  read_back =
      let f : leb (length (write m)) 2048 ≡ true = le-leb (length (write m)) 2048 w.fits in
      rw (f, behind_write, args_good m.args, word_write)
      (head_reads m.kind m.id m.name m.args w.kind w.letters w.name w.id)

-- two messages that are written alike are one
pub written_apart : (m n : Message) → WellFormed m → WellFormed n → write m ≡ write n → m ≡ n
written_apart m n p q e =
    let z : message m ≡ message n = sym (read_back m p) ∙ ap parse e ∙ read_back n q in
    cc

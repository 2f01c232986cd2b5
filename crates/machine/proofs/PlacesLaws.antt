-- Lists by place.
use Prim.Native.Nat.{ℕ, zero, suc, ◌+◌, ◌*◌, ◌≤◌, ◌<◌}
use native.Mathlib.Omega.{arith}
use mathlib.Core.Path.{◌≡◌, refl, ap, sym, ◌∙◌}
use mathlib.Core.Bool.{Bool, true, false, cond, true≢false, ◌||◌}
use mathlib.Core.List.{List, [], ◌∷◌, ◌++◌, map, append-nil, reverse, reverse-cons}
use lib.Dec.{eqb, ltb}
use lib.ListN.{length, get_or, replicate, length-append, get_or-append}
use lib.Seq.{get_or-append_seam}
use borrow.Author.Tests.{ltb-true, ltb-false, eqb-true}
use Rattle.machine.specs.Places.{tabulate, gather, one_if, any, only, from_first, all_below, first_below, has, Each}
use Rattle.machine.proofs.TestLaws.{cond_either, and_true, and_in, or_false, or_true, or_in, test_same, eqb_refl}
use Rattle.output.specs.Text.{all}

module _ {A : Type 0} (f : ℕ → A) where
  pub length-tabulate : (n : ℕ) → length (tabulate f n) ≡ n
  unfolding tabulate
  length-tabulate zero = refl
  length-tabulate (suc n) = length-append (tabulate f n) (f n ∷ []) ∙ (ap (λ k. k + 1) (length-tabulate n) ∙ omega arith)

  pub get_or-tabulate : (n i : ℕ) (d : A) → i < n → get_or (tabulate f n) i d ≡ f i
  unfolding tabulate
  get_or-tabulate zero i d h = absurd (omega arith)
  get_or-tabulate (suc n) i d h = go (ltb i n) refl (get_or-tabulate n i d)
    where
      go : (b : Bool) → ltb i n ≡ b → (i < n → get_or (tabulate f n) i d ≡ f i) → get_or (tabulate f n ++ (f n ∷ [])) i d ≡ f i
      go true e ih = get_or-append (tabulate f n) (f n ∷ []) d i (rw (length-tabulate n) (ltb-true i n e)) ∙ ih (ltb-true i n e)
      go false e ih = let q : i ≡ n = omega (arith, ltb-false i n e) in
          ap (λ k. get_or (tabulate f n ++ (f n ∷ [])) k d) (q ∙ sym (length-tabulate n)) ∙ (get_or-append_seam (tabulate f n) (f n) [] d ∙ ap f (sym q))

module _ {A : Type 0} where
  pub get_or-replicate_same : (n i : ℕ) (d : A) → get_or (replicate n d) i d ≡ d
  get_or-replicate_same zero i d = refl
  get_or-replicate_same (suc n) zero d = refl
  get_or-replicate_same (suc n) (suc i) d = get_or-replicate_same n i d

  pub replicate-either : (P : A → Type 0) (n i : ℕ) (x d : A) → P x → P d → P (get_or (replicate n x) i d)
  replicate-either P zero i x d h k = k
  replicate-either P (suc n) zero x d h k = h
  replicate-either P (suc n) (suc i) x d h k = replicate-either P n i x d h k

  -- what is said of each, over one list after another
  pub each_append : (P : A → Type 0) (xs ys : List A) → Each P xs → Each P ys → Each P (xs ++ ys)
  each_append P [] ys h k = k
  each_append P (x ∷ xs) ys h k = (h.0, each_append P xs ys h.1 k)

  pub each_from : (P : A → Type 0) (f : A → Bool) (xs : List A) → Each P xs → Each P (from_first f xs)
  unfolding from_first
  each_from P f [] h = tt
  each_from P f (x ∷ xs) h = cond_either (Each P) (f x) (x ∷ xs) (from_first f xs) h (each_from P f xs h.1)

  pub each_front : (P : A → Type 0) (xs ys : List A) → Each P (xs ++ ys) → Each P xs
  each_front P [] ys h = tt
  each_front P (x ∷ xs) ys h = (h.0, each_front P xs ys h.1)

  pub each_behind : (P : A → Type 0) (xs ys : List A) → Each P (xs ++ ys) → Each P ys
  each_behind P [] ys h = h
  each_behind P (x ∷ xs) ys h = each_behind P xs ys h.1

  pub each_gather : (P : A → Type 0) (f : ℕ → List A) (n : ℕ) → ((i : ℕ) → i < n → Each P (f i)) → Each P (gather f n)
  unfolding gather
  each_gather P f zero h = tt
  each_gather P f (suc n) h = each_append P (gather f n) (f n) (each_gather P f n (λ i k. h i (omega arith))) (h n (omega arith))

  pub each_one : (P : A → Type 0) (b : Bool) (x : A) → (b ≡ true → P x) → Each P (one_if b x)
  each_one P true x h = (h refl, tt)
  each_one P false x h = tt

  pub each_weaker : (P Q : A → Type 0) → ((x : A) → P x → Q x) → (xs : List A) → Each P xs → Each Q xs
  each_weaker P Q f [] h = tt
  each_weaker P Q f (x ∷ xs) h = (f x h.0, each_weaker P Q f xs h.1)

  pub each_only : (P : A → Type 0) (f : A → Bool) (xs : List A) → Each P xs → Each P (only f xs)
  unfolding only
  each_only P f [] h = tt
  each_only P f (x ∷ xs) h = cond_either (Each P) (f x) (x ∷ only f xs) (only f xs) (h.0, each_only P f xs h.1) (each_only P f xs h.1)

  pub only-length : (f : A → Bool) (xs : List A) → length (only f xs) ≤ length xs
  unfolding only
  only-length f [] = omega arith
  only-length f (x ∷ xs) = let q = only-length f xs in
      cond_either (λ (l : List A). length l ≤ suc (length xs)) (f x) (x ∷ only f xs) (only f xs) (omega (arith, q)) (omega (arith, q))

  -- what stands before it, and the rest
  pub from_rest : (f : A → Bool) (xs : List A) → (front : List A) × (xs ≡ front ++ from_first f xs)
  unfolding from_first
  from_rest f [] = ([], refl)
  from_rest f (x ∷ xs) = cond_either (λ (l : List A). (front : List A) × ((x ∷ xs) ≡ front ++ l)) (f x) (x ∷ xs) (from_first f xs) ([], refl)
      (let q = from_rest f xs in (x ∷ q.0, ap (λ l. x ∷ l) q.1))

  pub only-append : (f : A → Bool) (xs ys : List A) → only f (xs ++ ys) ≡ only f xs ++ only f ys
  unfolding only
  only-append f [] ys = refl
  only-append f (x ∷ xs) ys = go (f x) (only-append f xs ys)
    where
      go : (b : Bool) → only f (xs ++ ys) ≡ only f xs ++ only f ys → cond b (x ∷ only f (xs ++ ys)) (only f (xs ++ ys)) ≡ cond b (x ∷ only f xs) (only f xs) ++ only f ys
      go true h = ap (λ l. x ∷ l) h
      go false h = h

  -- a narrower test after a wider one
  pub only_within : (f g : A → Bool) → ((x : A) → f x ≡ true → g x ≡ true) → (xs : List A) → only f (only g xs) ≡ only f xs
  unfolding only
  only_within f g w [] = refl
  only_within f g w (x ∷ xs) = go (g x) refl (f x) refl (only_within f g w xs)
    where
      go : (b : Bool) → g x ≡ b → (c : Bool) → f x ≡ c → only f (only g xs) ≡ only f xs → only f (cond b (x ∷ only g xs) (only g xs)) ≡ cond c (x ∷ only f xs) (only f xs)
      go true p c q h = rw q (ap (λ l. cond c (x ∷ l) l) h)
      go false p true q h = absurd (true≢false (sym (w x q) ∙ p))
      go false p false q h = h

  -- from the last to the first
  pub only_reverse : (f : A → Bool) (xs : List A) → only f (reverse xs) ≡ reverse (only f xs)
  unfolding only
  only_reverse f [] = refl
  only_reverse f (x ∷ xs) = ap (only f) (reverse-cons x xs) ∙ (only-append f (reverse xs) (x ∷ []) ∙ go (f x) (only_reverse f xs))
    where
      go : (b : Bool) → only f (reverse xs) ≡ reverse (only f xs) → only f (reverse xs) ++ cond b (x ∷ []) [] ≡ reverse (cond b (x ∷ only f xs) (only f xs))
      go true h = ap (λ l. l ++ (x ∷ [])) h ∙ sym (reverse-cons x (only f xs))
      go false h = append-nil (only f (reverse xs)) ∙ h

  pub each_any_false : (f : A → Bool) (xs : List A) → any f xs ≡ false → Each (λ x. f x ≡ false) xs
  unfolding any
  each_any_false f [] h = tt
  each_any_false f (x ∷ xs) h = let q = or_false (f x) (any f xs) h in (q.0, each_any_false f xs q.1)

module _ {A B : Type 0} where
  pub each_map : (P : B → Type 0) (f : A → B) (xs : List A) → Each (λ x. P (f x)) xs → Each P (map f xs)
  each_map P f [] h = tt
  each_map P f (x ∷ xs) h = (h.0, each_map P f xs h.1)

  -- where it is so whatever they are made of
  pub each_of : (P : B → Type 0) (f : A → B) (xs : List A) → ((x : A) → P (f x)) → Each P (map f xs)
  each_of P f [] h = tt
  each_of P f (x ∷ xs) h = (h x, each_of P f xs h)

pub below_at : (f : ℕ → Bool) (n p : ℕ) → all_below f n ≡ true → p < n → f p ≡ true
unfolding all_below
below_at f zero p h k = absurd (omega arith)
below_at f (suc n) p h k = go (ltb p n) refl (below_at f n p)
  where
    q : (all_below f n ≡ true) × (f n ≡ true)
    q = and_true (all_below f n) (f n) h

    go : (b : Bool) → ltb p n ≡ b → (all_below f n ≡ true → p < n → f p ≡ true) → f p ≡ true
    go true e ih = ih q.0 (ltb-true p n e)
    go false e ih = let r : p ≡ n = omega (arith, ltb-false p n e) in ap f r ∙ q.1

pub below_of : (f : ℕ → Bool) (n : ℕ) → ((p : ℕ) → p < n → f p ≡ true) → all_below f n ≡ true
unfolding all_below
below_of f zero h = refl
below_of f (suc n) h = and_in (all_below f n) (f n) (below_of f n (λ p k. h p (omega arith))) (h n (omega arith))

-- tests that are the same at each place
pub below_same : (f g : ℕ → Bool) (n : ℕ) → ((p : ℕ) → p < n → f p ≡ g p) → all_below f n ≡ all_below g n
below_same f g n h = test_same (all_below f n) (all_below g n)
    (λ k. below_of g n (λ p l. sym (h p l) ∙ below_at f n p k l))
    (λ k. below_of f n (λ p l. h p l ∙ below_at g n p k l))

-- the first place where a test holds: it holds there, and nowhere before
pub first_most : (f : ℕ → Bool) (n : ℕ) → first_below f n ≤ n
unfolding first_below
first_most f zero = omega arith
first_most f (suc n) = go (ltb (first_below f n) n) (f n) (first_most f n)
  where
    go : (b c : Bool) → first_below f n ≤ n → cond b (first_below f n) (cond c n (suc n)) ≤ suc n
    go true c h = omega arith
    go false true h = omega arith
    go false false h = omega arith

pub first_holds : (f : ℕ → Bool) (n : ℕ) → first_below f n < n → f (first_below f n) ≡ true
unfolding first_below
first_holds f zero h = absurd (omega arith)
first_holds f (suc n) h = go (ltb (first_below f n) n) (f n) refl refl (first_holds f n) h
  where
    go : (b c : Bool) → ltb (first_below f n) n ≡ b → f n ≡ c → (first_below f n < n → f (first_below f n) ≡ true)
        → cond b (first_below f n) (cond c n (suc n)) < suc n → f (cond b (first_below f n) (cond c n (suc n))) ≡ true
    go true c e g ih l = ih (ltb-true (first_below f n) n e)
    go false true e g ih l = g
    go false false e g ih l = absurd (omega arith)

pub first_none : (f : ℕ → Bool) (n j : ℕ) → first_below f n ≡ n → j < n → f j ≡ false
unfolding first_below
first_none f zero j e h = absurd (omega arith)
first_none f (suc n) j e h = go (ltb (first_below f n) n) (f n) refl refl e (first_none f n j)
  where
    go : (b c : Bool) → ltb (first_below f n) n ≡ b → f n ≡ c → cond b (first_below f n) (cond c n (suc n)) ≡ suc n
        → (first_below f n ≡ n → j < n → f j ≡ false) → f j ≡ false
    go true c l g q ih = absurd (omega (arith, ltb-true (first_below f n) n l))
    go false true l g q ih = absurd (omega arith)
    go false false l g q ih = last (ltb j n) refl
      where
        last : (b : Bool) → ltb j n ≡ b → f j ≡ false
        last true r = ih (omega (arith, ltb-false (first_below f n) n l, first_most f n)) (ltb-true j n r)
        last false r = let k : j ≡ n = omega (arith, ltb-false j n r) in ap f k ∙ g

-- where a test holds at one place alone, that is the first
pub first_is : (f : ℕ → Bool) (n j : ℕ) → j < n → f j ≡ true → ((i : ℕ) → i < n → f i ≡ true → i ≡ j) → first_below f n ≡ j
first_is f n j h t only = go (ltb (first_below f n) n) refl
  where
    go : (b : Bool) → ltb (first_below f n) n ≡ b → first_below f n ≡ j
    go true e = only (first_below f n) (ltb-true (first_below f n) n e) (first_holds f n (ltb-true (first_below f n) n e))
    go false e = absurd (true≢false (sym t ∙ first_none f n j (omega (arith, ltb-false (first_below f n) n e, first_most f n)) h))

-- lists by place are equal where each place is
pub tabulate_same : {A : Type 0} (f g : ℕ → A) (n : ℕ) → ((i : ℕ) → i < n → f i ≡ g i) → tabulate f n ≡ tabulate g n
unfolding tabulate
tabulate_same f g zero h = refl
tabulate_same f g (suc n) h = rw (tabulate_same f g n (λ i k. h i (omega arith)), h n (omega arith))

-- what is collected over places, where each place adds at most k
pub gather-length : {A : Type 0} (f : ℕ → List A) (k n : ℕ) → ((i : ℕ) → length (f i) ≤ k) → length (gather f n) ≤ n * k
unfolding gather
gather-length f k zero h = omega arith
gather-length f k (suc n) h = let ih = gather-length f k n h in omega (arith, length-append (gather f n) (f n), h n)

-- numbers in a list

pub each_has : (P : ℕ → Type 0) (j : ℕ) (js : List ℕ) → Each P js → has j js ≡ true → P j
unfolding has any
each_has P j [] h t = absurd (true≢false (sym t))
each_has P j (k ∷ ks) h t = or_true (P j) (eqb j k) (has j ks) t (λ e. rw (eqb-true j k e) h.0) (λ e. each_has P j ks h.1 e)

-- a test that fails at each number of a list
pub none_has : (f : ℕ → Bool) (js : List ℕ) (j : ℕ) → any f js ≡ false → has j js ≡ true → f j ≡ false
none_has f js j h k = each_has (λ j. f j ≡ false) j js (each_any_false f js h) k

pub all_of : (f : ℕ → Bool) (js : List ℕ) → ((j : ℕ) → has j js ≡ true → f j ≡ true) → all f js ≡ true
unfolding has any
all_of f [] h = refl
all_of f (j ∷ js) h = and_in (f j) (all f js) (h j (ap (λ b. b || has j js) (eqb_refl j))) (all_of f js (λ i k. h i (or_in (eqb i j) (has i js) k)))

pub each_tabulate : {A : Type 0} (P : A → Type 0) (f : ℕ → A) (n : ℕ) → ((i : ℕ) → i < n → P (f i)) → Each P (tabulate f n)
unfolding tabulate
each_tabulate P f zero h = tt
each_tabulate P f (suc n) h = each_append P (tabulate f n) (f n ∷ []) (each_tabulate P f n (λ i k. h i (omega arith))) (h n (omega arith), tt)

-- What a request sets, test after test.
use Rattle.std.specs.Prelude.{Option, Some, None}
use Prim.Native.Nat.{ℕ, ◌+◌, ◌<◌, ◌≤◌}
use native.Mathlib.Omega.{arith}
use mathlib.Core.Path.{◌≡◌, refl, ap, sym, ◌∙◌}
use mathlib.Core.Bool.{Bool, true, false, cond, not, ◌&&◌}
use mathlib.Core.List.{List, map}
use borrow.Author.Tests.{le-leb, lt-leb, eq-eqb, ne_eqb}
use Rattle.value.specs.Reading.{is_measured}
use Rattle.machine.specs.declared.Sheet.{Sheet}
use Rattle.machine.specs.declared.Strategy.{Strategy}
use Rattle.machine.specs.declared.Strategy.TheVariants.{None as NoStrategy}
use Rattle.machine.specs.Places.{any}
use Rattle.machine.specs.Sheet.{sensor_of}
use Rattle.machine.specs.Requests.{parameter_count, by_difference, is_bad, number_of, parameters_of, strategy_by, strategy_made, shortest_over_longest}
use Rattle.machine.specs.Declined.{setting_declined}
use Rattle.strategies.specs.Settings.{made}

-- the strategy of one that could be made
abbrev strategy_in : Option Strategy → Strategy
strategy_in (Some st) = st
strategy_in None = NoStrategy

made_bad : (k : ℕ) (ps : List (Option ℕ)) → made k ps ≡ None → any is_bad ps ≡ true
unfolding made
made_bad k ps h = go (any is_bad ps) h
  where
    go : (b : Bool) → cond b None (Some (strategy_by k (map number_of ps))) ≡ None → b ≡ true
    go true e = refl
    go false e = absurd (let z : ◌≡◌ {A = ℕ} 0 1 = cc in omega arith)

made_is : (k : ℕ) (ps : List (Option ℕ)) (st : Strategy) → made k ps ≡ Some st → (any is_bad ps ≡ false) × (strategy_by k (map number_of ps) ≡ st)
unfolding made
made_is k ps st h = go (any is_bad ps) h
  where
    go : (b : Bool) → cond b None (Some (strategy_by k (map number_of ps))) ≡ Some st → (b ≡ false) × (strategy_by k (map number_of ps) ≡ st)
    go true e = absurd (let z : ◌≡◌ {A = ℕ} 0 1 = cc in omega arith)
    go false e = (refl, ap strategy_in e)

-- one of the sensors at some places is not measured
abbrev unmeasured : Sheet → List ℕ → Bool
unmeasured sheet js = any (λ j. not (is_measured (sensor_of sheet j).kind)) js

-- a strategy with so many arguments as it takes, for sensors that it suits
pub record Suits (sheet : Sheet) (js : List ℕ) (k n : ℕ) : Type 0 where
  pub known : k < 7
  pub counted : n ≡ 2 + parameter_count k
  pub measured : by_difference k && unmeasured sheet js ≡ false

-- p, t, u, m and r: what the calls for the tests answered
module _ (sheet : Sheet) (js : List ℕ) (k n : ℕ) where
  pub suited : {p : ℕ} {t u : Bool} → k < 7 → p ≡ parameter_count k → n ≡ 2 + p → t ≡ by_difference k → u ≡ unmeasured sheet js → t && u ≡ false → Suits sheet js k n
  suited a e b g f d = record { known = a; counted = rw e at b; measured = rw (g, f) at d }

  module _ (ts : List (List ℕ)) where
    pub declined_17 : 7 ≤ k → 17 ≡ setting_declined sheet js k n ts
    unfolding setting_declined
    declined_17 a = rw (le-leb 7 k a)

    pub declined_15 : {p : ℕ} → k < 7 → p ≡ parameter_count k → (n ≡ 2 + p → ⊥) → 15 ≡ setting_declined sheet js k n ts
    unfolding setting_declined
    declined_15 a e b = rw (lt-leb 7 k a, ne_eqb n (2 + parameter_count k) (rw e at b))

    pub declined_18 : {p : ℕ} {t u : Bool} → k < 7 → p ≡ parameter_count k → n ≡ 2 + p → t ≡ by_difference k → u ≡ unmeasured sheet js → t && u ≡ true → 18 ≡ setting_declined sheet js k n ts
    unfolding setting_declined
    declined_18 a e b g f d = rw (lt-leb 7 k a, eq-eqb n (2 + parameter_count k) (rw e at b), rw (g, f) at d)

    module _ (s : Suits sheet js k n) {m : Option Strategy} (e : m ≡ made k (parameters_of sheet js k ts)) where
      by_parameters : setting_declined sheet js k n ts ≡ cond (any is_bad (parameters_of sheet js k ts)) 19 (cond (shortest_over_longest (strategy_made sheet js k ts)) 20 0)
      unfolding setting_declined
      by_parameters = rw (lt-leb 7 k s.known, eq-eqb n (2 + parameter_count k) s.counted, s.measured)

      pub declined_19 : m ≡ None → 19 ≡ setting_declined sheet js k n ts
      declined_19 h = rw (by_parameters, made_bad k (parameters_of sheet js k ts) (sym e ∙ h))

      module _ {st : Strategy} (h : m ≡ Some st) {r : Bool} (f : r ≡ shortest_over_longest st) where
        pub declined_20 : r ≡ true → 20 ≡ setting_declined sheet js k n ts
        unfolding strategy_made
        declined_20 t = let q = made_is k (parameters_of sheet js k ts) st (sym e ∙ h) in rw (by_parameters, q.0, q.1, sym f ∙ t)

        pub not_declined : r ≡ false → 0 ≡ setting_declined sheet js k n ts
        unfolding strategy_made
        not_declined t = let q = made_is k (parameters_of sheet js k ts) st (sym e ∙ h) in rw (by_parameters, q.0, q.1, sym f ∙ t)

-- what was made is the strategy of the parameters
pub strategy_is : (sheet : Sheet) (js : List ℕ) (k : ℕ) (ts : List (List ℕ)) {m : Option Strategy} {st : Strategy} → m ≡ made k (parameters_of sheet js k ts) → m ≡ Some st → st ≡ strategy_made sheet js k ts
unfolding strategy_made
strategy_is sheet js k ts {st = st} e h = sym (made_is k (parameters_of sheet js k ts) st (sym e ∙ h)).1

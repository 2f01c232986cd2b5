-- What a last report tells of the present reading, by strategy: after a report, after a visit that made none, after a strategy was set.
use Prim.Native.Nat.{ℕ, ◌-◌, ◌*◌, ◌≤◌}
use native.Mathlib.Omega.{arith}
use mathlib.Core.Path.{◌≡◌, refl, ap, sym, ◌∙◌, subst}
use mathlib.Core.Bool.{Bool, true, false, cond, ◌&&◌, true≢false}
use lib.Dec.{leb, ltb}
use borrow.Author.Tests.{ltb-false, eqb-true, not-false, le-leb}
use Rattle.value.specs.declared.Sample.{Sample}
use Rattle.machine.specs.declared.Sensor.{Sensor}
use Rattle.machine.specs.declared.Strategy.{Strategy}
use Rattle.machine.specs.declared.Strategy.TheVariants.{None, Auto, Period, Event, Differential, EventRate, DifferentialRate}
use Rattle.machine.specs.declared.Subscription.{Subscription}
use Rattle.machine.specs.State.{no_subscription}
use Rattle.machine.specs.Range.{is_none}
use Rattle.machine.specs.Messages.{status_for}
use Rattle.machine.specs.Report.{status_changed, changed, is_valid, apart, width, beyond, moved, due_by, due, reported}
use Rattle.machine.specs.Requests.{sampled}
use Rattle.machine.specs.Reader.{Told, told_of, valid_status}
use Rattle.machine.specs.Tells.{Same, Near, Known}
use Rattle.machine.proofs.SampleRange.{valid_is}
use Rattle.machine.proofs.TestLaws.{and_false, or_false, cond_cases}
use Rattle.machine.proofs.RangeLaws.{none_is}

module _ (n : Sensor) where
  same_status : (last now : Sample) → status_changed n last now ≡ false → status_for n now ≡ status_for n last
  unfolding status_changed
  same_status last now e = sym (eqb-true (status_for n last) (status_for n now) (not-false _ e))

  unchanged : (last now : Sample) (t : ℕ) → changed n last now ≡ false → Same n now (told_of n t last)
  unfolding changed
  unchanged last now t e = let b = or_false (status_changed n last now) _ e in
      (same_status last now b.0, sym (eqb-true last.number now.number (not-false _ b.1)))

  unmoved : (d : ℕ) (last now : Sample) (t : ℕ) → moved n d last now ≡ false → Near n d now (told_of n t last)
  unfolding moved beyond
  unmoved d last now t e = (
    q,
    λ v. swap (ltb-false (width n d) (apart last.number now.number * 1000000)
        (and_false (is_valid now) _ (and_false (is_valid last) _ b.1 (valid_is n last ∙ (ap valid_status (sym q) ∙ (sym (valid_is n now) ∙ v)))) v)),
  )
    where
      b : (status_changed n last now ≡ false) × (is_valid last && (is_valid now && ltb (width n d) (apart last.number now.number * 1000000)) ≡ false)
      b = or_false (status_changed n last now) _ e

      q : status_for n now ≡ status_for n last
      q = same_status last now b.0

      swap : apart last.number now.number * 1000000 ≤ width n d → apart now.number last.number * 1000000 ≤ width n d
      swap h = omega arith

  -- a report just made
  pub known_now : (clock : ℕ) (x : Sample) (st : Strategy) → Known n clock x st (told_of n clock x)
  known_now clock x None = tt
  known_now clock x Auto = (refl, refl)
  known_now clock x (Period p) = tt
  known_now clock x Event = (refl, refl)
  known_now clock x (Differential d) = (refl, λ v. omega arith)
  known_now clock x (EventRate a b) = λ h. (refl, refl)
  known_now clock x (DifferentialRate d a b) = λ h. (refl, λ v. omega arith)

  -- a visit that made none: at a reading, or at a tick (then the sample is as it was)
  known_visit : (reading : Bool) (old clock : ℕ) (now last : Sample) (t : ℕ) (st : Strategy)
      → (reading ≡ false → Known n old now st (told_of n t last)) → due_by st reading (clock - t) n last now ≡ false → Known n clock now st (told_of n t last)
  unfolding due_by
  known_visit reading old clock now last t None prior e = tt
  known_visit reading old clock now last t Auto prior e = prior e
  known_visit reading old clock now last t (Period p) prior e = tt
  known_visit true old clock now last t Event prior e = unchanged last now t e
  known_visit false old clock now last t Event prior e = prior refl
  known_visit true old clock now last t (Differential d) prior e = unmoved d last now t e
  known_visit false old clock now last t (Differential d) prior e = prior refl
  known_visit reading old clock now last t (EventRate a b) prior e =
      λ h. unchanged last now t (or_false (changed n last now) _ (and_false (leb a (clock - t)) _ e (le-leb a (clock - t) h))).0
  known_visit reading old clock now last t (DifferentialRate d a b) prior e =
      λ h. unmoved d last now t (or_false (moved n d last now) _ (and_false (leb a (clock - t)) _ e (le-leb a (clock - t) h))).0

-- a pair with a strategy has a report, and that tells what the strategy promises
pub record Good (n : Sensor) (clock : ℕ) (x : Sample) (p : Subscription) : Type 0 where
  pub was_reported : is_none p.strategy ≡ false → p.reported ≡ true
  pub known : Known n clock x p.strategy (told_of n p.time p.sample)

module _ (n : Sensor) (clock : ℕ) (x : Sample) where
  pub good_fresh : Good n clock x no_subscription
  unfolding is_none
  good_fresh = record { was_reported = λ e. absurd (true≢false e); known = tt }

  -- a strategy set
  pub good_sampled : (st : Strategy) (p : Subscription) → Good n clock x (sampled clock x st p)
  unfolding sampled
  good_sampled st p = cond_cases (Good n clock x) (is_none st) _ _
      (λ e. record { was_reported = λ q. absurd (true≢false (sym e ∙ q)); known = none st e (told_of n p.time p.sample) })
      (λ e. record { was_reported = λ _. refl; known = known_now n clock x st })
    where
      none : (st : Strategy) → is_none st ≡ true → (r : Told) → Known n clock x st r
      none st e r = subst (λ k. Known n clock x k r) (sym (none_is st e)) tt

  -- a visit: at a reading whatever was known before; at a tick what was known at an older clock
  pub good_visit : (reading : Bool) (old : ℕ) (p : Subscription) → (is_none p.strategy ≡ false → p.reported ≡ true)
      → (reading ≡ false → Known n old x p.strategy (told_of n p.time p.sample)) → Good n clock x (cond (due reading clock n x p) (reported clock x p) p)
  unfolding due
  good_visit reading old p had prior = cond_cases (Good n clock x) (due_by p.strategy reading (clock - p.time) n p.sample x) _ p
      (λ e. record { was_reported = λ _. refl; known = known_now n clock x p.strategy })
      (λ e. record { was_reported = had; known = known_visit n reading old clock x p.sample p.time p.strategy prior e })

-- The reading that is stored of a sensor, by the last that superseded the one before it.
use Rattle.value.specs.declared.Sample.{Sample}
use Prim.Native.Nat.{ℕ, ◌<◌}
use native.Mathlib.Omega.{arith}
use mathlib.Core.Path.{◌≡◌, refl, ap, ap₂, sym, ◌∙◌, subst}
use mathlib.Core.Bool.{Bool, true, false, cond, ◌&&◌, ◌||◌, or-false}
use mathlib.Core.List.{List}
use Rattle.std.specs.Prelude.{Option, None, Some}
use lib.Dec.{eqb, leb, ltb}
use lib.ListN.{get_or}
use borrow.Author.Tests.{eqb-true, le-leb}
use Rattle.value.specs.declared.Reading.{Reading as Given}
use Rattle.value.specs.declared.Reading.TheVariants.{Integer, Float, Boolean, Option as Choice, Timestamp, Failure, Unreachable, Inactive}
use Rattle.value.specs.Double.{exact1024}
use Rattle.value.specs.Integer.{is_signed32}
use Rattle.value.specs.Reading.{of_fit, sample_of}
use Rattle.value.specs.Answer.{sampled_number}
use Rattle.machine.specs.declared.Sensor.{Sensor}
use Rattle.machine.specs.declared.Stored.{Stored}
use Rattle.machine.specs.declared.State.{State}
use Rattle.machine.specs.Sheet.{sensor_of}
use Rattle.machine.specs.State.{stored_of, no_stored, is_unknown, supersedes, with_client}
use Rattle.machine.specs.Report.{Work}
use Rattle.machine.specs.Declined.{Arrival, Action, Connect, Disconnect, Tick, Reading, Log, Line, action_declined}
use Rattle.machine.specs.Machine.{perform, reading_stored, sample_in, sample_given, stored_given}
use Rattle.machine.specs.TwoDevices.{superseding, reading_by, sample_from, time_from}
use Rattle.machine.proofs.TestLaws.{cond_true, cond_either, eqb_sym, eqb_refl}
use Rattle.machine.proofs.StateLaws.{stored_after}
use Rattle.machine.proofs.StepLaws.{reading_fits, by_superseding}
use Rattle.machine.proofs.NextLaws.{line_keeps}

-- No reading is unknown.

-- a sample is not that of a fresh sensor
abbrev NotFresh : Option Sample → Type 0
NotFresh (Some x) = is_unknown x ≡ false
NotFresh None = Unit

never_fresh : (t options : ℕ) (r : Given) → NotFresh (sample_of t options r)
unfolding sample_of
never_fresh t options (Integer x) = cond_either NotFresh (eqb t 1) _ None (cond_either NotFresh (is_signed32 x) _ None refl tt) tt
never_fresh t options (Float x) = cond_either NotFresh (eqb t 2) (of_fit (exact1024 x)) None (fit (exact1024 x)) tt
  where
    fit : (f : Option ℕ) → NotFresh (of_fit f)
    fit (Some n) = refl
    fit None = tt
never_fresh t options (Boolean b) = cond_either NotFresh (eqb t 3) _ None (cond_either NotFresh (ltb b 2) _ None refl tt) tt
never_fresh t options (Choice i) = cond_either NotFresh (eqb t 4) _ None (cond_either NotFresh (ltb i options) _ None refl tt) tt
never_fresh t options (Timestamp m) = cond_either NotFresh (eqb t 5) _ None (cond_either NotFresh (ltb m 10000000000000) _ None refl tt) tt
never_fresh t options Failure = refl
never_fresh t options Unreachable = refl
never_fresh t options Inactive = refl

given_not_fresh : (n : Sensor) (r : Arrival) → sampled_number (sample_of n.kind n.option_count r.reading) ≡ 0 → is_unknown (sample_given n r) ≡ false
unfolding sample_given
given_not_fresh n r d = go (sample_of n.kind n.option_count r.reading) (never_fresh n.kind n.option_count r.reading) d
  where
    go : (a : Option Sample) → NotFresh a → sampled_number a ≡ 0 → is_unknown (sample_in n.kind a) ≡ false
    go (Some x) h e = h
    go None h e = absurd (omega arith)

-- What is stored.

abbrev is_fresh : Option Arrival → Bool
is_fresh None = true
is_fresh (Some r) = false

-- x is what is stored of a sensor whose present reading is o: its sample and its time, unknown exactly where there was no reading
pub record StoredBy (n : Sensor) (x : Stored) (o : Option Arrival) : Type 0 where
  pub sample_is : x.sample ≡ sample_from n o
  pub time_is : x.time ≡ time_from o
  pub fresh_is : is_unknown x.sample ≡ is_fresh o

-- the state's rule is the list's
pub supersedes_is : (n : Sensor) (x : Stored) (o : Option Arrival) (t : ℕ) → StoredBy n x o → supersedes t x ≡ superseding t o
unfolding supersedes
supersedes_is n x o t h = ap₂ (λ k b. leb k t || b) h.time_is h.fresh_is ∙ go o
  where
    go : (o : Option Arrival) → (leb (time_from o) t || is_fresh o) ≡ superseding t o
    go None = ap (λ b. b || true) (le-leb 0 t (omega arith))
    go (Some r) = or-false (leb r.time t)

-- a reading that supersedes is stored, and no other sensor's is touched
pub stored_next : (s : State) (k j : ℕ) → j < 32 → (r : Arrival) → stored_of (reading_stored s.sheet s k r).next j ≡ cond (eqb k j) (stored_given (sensor_of s.sheet k) r) (stored_of s j)
stored_next s k j hj r = stored_after s k j (stored_given (sensor_of s.sheet k) r) hj ∙ ap (λ b. cond b (stored_given (sensor_of s.sheet k) r) (stored_of s j)) (eqb_sym j k)

-- A call.

reading_stored_lem : (s : State) (j : ℕ) → j < 32 → (k : ℕ) (r : Arrival) → action_declined s.sheet s (Reading k r) ≡ 0 → (o : Option Arrival) → StoredBy (sensor_of s.sheet j) (stored_of s j) o
    → StoredBy (sensor_of s.sheet j) (stored_of (perform s.sheet s (Reading k r)).next j) (cond (eqb k j && superseding r.time o) (Some r) o)
reading_stored_lem s j hj k r d o h = go (eqb k j) refl
  where
    n : Sensor
    n = sensor_of s.sheet j

    go : (b : Bool) → eqb k j ≡ b → StoredBy n (stored_of (perform s.sheet s (Reading k r)).next j) (cond (b && superseding r.time o) (Some r) o)
    go false e = by_superseding (λ (w : Work). StoredBy n (stored_of w.next j) o) s.sheet s k r
        (λ _. subst (λ (x : Stored). StoredBy n x o) (sym (stored_next s k j hj r ∙ rw e)) h) (λ _. h)
    go true e = subst (λ i. action_declined s.sheet s (Reading i r) ≡ 0 → StoredBy n (stored_of (perform s.sheet s (Reading i r)).next j) (cond (superseding r.time o) (Some r) o)) (sym (eqb-true k j e)) own d
      where
        -- the reading is of this sensor
        own : action_declined s.sheet s (Reading j r) ≡ 0 → StoredBy n (stored_of (perform s.sheet s (Reading j r)).next j) (cond (superseding r.time o) (Some r) o)
        own d = by_superseding (λ (w : Work). StoredBy n (stored_of w.next j) (cond (superseding r.time o) (Some r) o)) s.sheet s j r
            (λ t. subst (λ b. StoredBy n (stored_of (reading_stored s.sheet s j r).next j) (cond b (Some r) o)) (sym t ∙ supersedes_is n (stored_of s j) o r.time h)
            (subst (λ (x : Stored). StoredBy n x (Some r)) (sym (stored_next s j j hj r ∙ cond_true (eqb j j) _ _ (eqb_refl j))) (record { sample_is = refl; time_is = refl; fresh_is = given_not_fresh n r (reading_fits s j r d).fit })))
            (λ t. subst (λ b. StoredBy n (stored_of s j) (cond b (Some r) o)) (sym t ∙ supersedes_is n (stored_of s j) o r.time h) h)

pub perform_stored : (s : State) (j : ℕ) → j < 32 → (action : Action) → action_declined s.sheet s action ≡ 0 → (o : Option Arrival) → StoredBy (sensor_of s.sheet j) (stored_of s j) o
    → StoredBy (sensor_of s.sheet j) (stored_of (perform s.sheet s action).next j) (reading_by j action o)
unfolding perform with_client
perform_stored s j hj (Connect c address) d o h = h
perform_stored s j hj (Disconnect c) d o h = h
perform_stored s j hj (Tick t) d o h = h
perform_stored s j hj (Reading k r) d o h = reading_stored_lem s j hj k r d o h
perform_stored s j hj (Log level logger said) d o h = h
perform_stored s j hj (Line c line) d o h = subst (λ (l : List Stored). StoredBy (sensor_of s.sheet j) (get_or l j no_stored) o) (sym (line_keeps s c line).0) h

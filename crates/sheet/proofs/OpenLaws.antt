-- What opening answers, by what was read of the bytes.
use Prim.Native.Nat.{ℕ, ◌≤◌, ◌<◌}
use native.Mathlib.Omega.{arith}
use mathlib.Core.Path.{◌≡◌, refl, sym, ◌∙◌}
use mathlib.Core.Bool.{Bool, true, false, cond, ◌&&◌}
use mathlib.Core.List.{List, [], ◌∷◌}
use lib.Dec.{eqb}
use lib.ListN.{length}
use borrow.Author.Tests.{le-leb, lt-leb, ne_eqb}
use Rattle.machine.proofs.TestLaws.{and_in, test_same, cond_true, cond_false}
use Rattle.machine.proofs.RangeLaws.{range_out, range_of}
use Rattle.machine.proofs.OpenedRange.{fresh_range}
use Rattle.machine.proofs.Keeps.{titled}
use Rattle.machine.specs.declared.Opened.{Opened}
use Rattle.machine.specs.declared.Sheet.{Sheet}
use Rattle.machine.specs.declared.State.{State}
use Rattle.machine.specs.Sheet.{titles_ok, sensors_ok, sheet_ok}
use Rattle.machine.specs.State.{fresh}
use Rattle.machine.specs.Range.{in_range}
use Rattle.machine.specs.Opening.{broken, taken, sheet_at, start_of, with_profile, not_opened, accepted, opened}

-- a fresh state of a profile is in range just where its sheet keeps its rules
fresh_in_range : (sheet : Sheet) → sheet.profile ≤ 1 → in_range (fresh sheet) ≡ sheet_ok sheet
unfolding sheet_ok
fresh_in_range sheet l = test_same _ _
    (λ h. let r = range_out (fresh sheet) h in and_in (titles_ok sheet) (sensors_ok sheet) (titled (fresh sheet) r refl) r.sensors_in)
    (λ h. range_of (fresh sheet) (fresh_range sheet h l))

module _ (profile : ℕ) (s : List ℕ) where
  -- a profile that there is not
  pub open_neither : 1 < profile → opened (start_of profile s) ≡ not_opened 31
  unfolding opened
  open_neither h = rw (lt-leb profile 1 h)

  module _ (l : profile ≤ 1) where
    -- bytes that are no sheet are refused
    pub open_broken : broken ≡ sheet_at s → opened (start_of profile s) ≡ not_opened 4
    unfolding opened
    open_broken e = rw (le-leb profile 1 l, sym e)

    module _ {sheet : Sheet} {rest : List ℕ} (e : taken sheet rest ≡ sheet_at s) {state : State} (new : state ≡ fresh (with_profile sheet profile)) {kept : Bool} (k : kept ≡ in_range state) where
      -- nothing follows, and the state is in range
      abbrev good : Bool
      good = eqb (length rest) 0 && kept

      -- what opening then answers
      abbrev first : Opened
      first = record { number = 0; state = state }

      -- else that test decides
      by_rest : opened (start_of profile s) ≡ cond good first (not_opened 4)
      unfolding opened sheet_ok titles_ok sensors_ok
      by_rest = rw (le-leb profile 1 l, sym e) (go rest)
        where
          go : (q : List ℕ) → accepted profile (taken sheet q) ≡ cond (eqb (length q) 0 && kept) first (not_opened 4)
          go [] = rw (k, new, fresh_in_range (with_profile sheet profile) l)
          go (b ∷ q) = let n : length (b ∷ q) ≡ 0 → ⊥ = λ z. absurd (omega (arith, z)) in rw (ne_eqb (length (b ∷ q)) 0 n)

      -- it holds
      pub open_good : good ≡ true → opened (start_of profile s) ≡ first
      open_good h = by_rest ∙ cond_true good first (not_opened 4) h

      -- it fails
      pub open_faulty : good ≡ false → opened (start_of profile s) ≡ not_opened 4
      open_faulty h = by_rest ∙ cond_false good first (not_opened 4) h

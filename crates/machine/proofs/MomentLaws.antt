-- Every moment of a connection: the archive is connected there, and its lines up to there are a start of its file.
use Prim.Native.Nat.{ℕ}
use mathlib.Core.Path.{◌≡◌, refl, ap, sym, ◌∙◌}
use mathlib.Core.Bool.{Bool, true, false, cond, ◌&&◌, ◌||◌, true≢false}
use mathlib.Core.List.{List, [], ◌∷◌, ◌++◌, append_assoc, append-nil}
use Rattle.machine.specs.Places.{Each}
use Rattle.machine.specs.Opening.{Start}
use Rattle.machine.specs.Declined.{Call}
use Rattle.machine.specs.TwoDevices.{returned_zero, packets_of, connects, is_connect, is_disconnect, ends_all, connected_at_end, lines_to, lines_of}
use Rattle.machine.specs.Tells.{connects_in, EveryMoment, moments}
use Rattle.machine.proofs.TestLaws.{or_false, cond_false}
use Rattle.machine.proofs.TellsLaws.{tells}

module _ (start : Start) (a : ℕ) where
  pub no_connect : (call : Call) (h : List Call) → is_connect a call.action ≡ false → connects start a h call ≡ false
  no_connect call h e = go (returned_zero start h call)
    where
      go : (b : Bool) → (b && is_connect a call.action) ≡ false
      go true = e
      go false = refl

  -- a call that is no connect of the archive leaves it connected only if it was
  pub still_on : (call : Call) (h : List Call) → connects start a h call ≡ false → connected_at_end start a (call ∷ h) ≡ true → connected_at_end start a h ≡ true
  unfolding connected_at_end
  still_on call h e on = go (connects start a h call) ((returned_zero start h call && is_disconnect a call.action) || ends_all call.action (packets_of start h call)) e on
    where
      go : (b d : Bool) → b ≡ false → cond b true (cond d false (connected_at_end start a h)) ≡ true → connected_at_end start a h ≡ true
      go true d p q = absurd (true≢false p)
      go false true p q = absurd (true≢false (sym q))
      go false false p q = q

  -- and adds its lines to the file
  pub more_lines : (call : Call) (h : List Call) → connects start a h call ≡ false → lines_of start a (call ∷ h) ≡ lines_of start a h ++ lines_to a (packets_of start h call)
  unfolding lines_of
  more_lines call h e = cond_false (connects start a h call) _ (lines_of start a h ++ lines_to a (packets_of start h call)) e

  module _ (h : List Call) where
    -- the calls that follow a moment, one by one
    first_not : (call : Call) (later : List Call) → connects_in start a (call ∷ later) h ≡ false → (connects start a (later ++ h) call ≡ false) × (connects_in start a later h ≡ false)
    unfolding connects_in
    first_not call later e = or_false (connects start a (later ++ h) call) (connects_in start a later h) e

    pub on_then : (later : List Call) → connects_in start a later h ≡ false → connected_at_end start a (later ++ h) ≡ true → connected_at_end start a h ≡ true
    on_then [] e on = on
    on_then (call ∷ later) e on = let q = first_not call later e in on_then later q.1 (still_on call (later ++ h) q.0 on)

    pub start_of : (later : List Call) → connects_in start a later h ≡ false → (rest : List (List ℕ)) × (lines_of start a (later ++ h) ≡ lines_of start a h ++ rest)
    start_of [] e = ([], sym (append-nil (lines_of start a h)))
    start_of (call ∷ later) e =
        let q = first_not call later e in
        let s = start_of later q.1 in
        let new = lines_to a (packets_of start (later ++ h) call) in
        (s.0 ++ new, more_lines call (later ++ h) q.0 ∙ (ap (λ l. l ++ new) s.1 ∙ append_assoc (lines_of start a h) s.0 new))

    -- what holds of every moment from h on: its lines are those of h and some more, and a start of the file
    pub each_moment : (P : List Call → Type 0) (file : List (List ℕ))
        → ((g : List Call) (more rest : List (List ℕ)) → connected_at_end start a g ≡ true → lines_of start a g ≡ lines_of start a h ++ more → file ≡ lines_of start a g ++ rest → P g)
        → (later : List Call) (rest : List (List ℕ)) → connects_in start a later h ≡ false → connected_at_end start a (later ++ h) ≡ true
        → file ≡ lines_of start a (later ++ h) ++ rest → Each P (moments later h)
    each_moment P file holds [] rest e on f = (holds h [] rest on (sym (append-nil (lines_of start a h))) f, tt)
    each_moment P file holds (call ∷ later) rest e on f =
        let q = first_not call later e in
        let s = start_of (call ∷ later) e in
        let new = lines_to a (packets_of start (later ++ h) call) in (
          holds (call ∷ (later ++ h)) s.0 rest on s.1 f,
          each_moment P file holds later (new ++ rest) q.1 (still_on call (later ++ h) q.0 on)
              (f ∙ (ap (λ l. l ++ rest) (more_lines call (later ++ h) q.0) ∙ append_assoc (lines_of start a (later ++ h)) new rest)),
        )

-- at every moment
pub every_moment : EveryMoment
every_moment start a later h e = record {
  connected_then = on;
  begins = start_of start a h later e.same_connection;
  tells_then = tells start a h on;
}
  where
    on : connected_at_end start a h ≡ true
    on = on_then start a h later e.same_connection e.at_end

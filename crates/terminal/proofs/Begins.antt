-- What the calls with which the console begins send client 0.
use Prim.Native.Nat.{ℕ, ◌≤◌}
use Prim.Native.Char.{code}
use native.Mathlib.Omega.{arith}
use mathlib.Core.Path.{◌≡◌, refl, subst, ◌∙◌}
use mathlib.Core.Bool.{true}
use mathlib.Core.List.{List, [], ◌∷◌}
use lib.ListN.{length}
use borrow.Author.Tests.{eqb-false}
use Rattle.output.specs.Text.{text, is_digit}
use Rattle.message.specs.Message.{Message, message, escape_byte, escape, arg, id_text, write_to}
use Rattle.message.specs.Delivery.{to}
use Rattle.line.specs.Line.{blank, letter, title_byte, kind_byte, plain, escape_of, parse, blank_line}
use Rattle.machine.specs.declared.Sheet.{Sheet}
use Rattle.machine.specs.declared.State.{State}
use Rattle.machine.specs.declared.Opened.{Opened}
use Rattle.machine.specs.Places.{tabulate, gather, first_below, from_first}
use Rattle.machine.specs.Sheet.{sheet_ok, titles_ok, sensors_ok, graphic, text_fits}
use Rattle.machine.specs.State.{fresh, with_level, with_client, client_at}
use Rattle.machine.specs.Range.{in_range}
use Rattle.machine.specs.Opening.{start_of, with_profile}
use Rattle.machine.specs.Messages.{version_connect, protocol_args, device_args, level_text, to_where}
use Rattle.machine.specs.Requests.{request_named, hidden, level_of, asked, answer}
use Rattle.machine.specs.Declined.{call_of, address_fits, count_fits, arguments_declined, line_declined, client_declined, action_declined}
use Rattle.machine.specs.Machine.{Effect, connect_sends, line_work, perform, done, step}
use Rattle.machine.specs.TwoDevices.{after, sent_to, messages_of}
use Rattle.machine.proofs.RangeLaws.{range_of}
use Rattle.machine.proofs.StepLaws.{carried_out}
use Rattle.machine.proofs.KeptInRange.{kept_in_range}
use Rattle.machine.proofs.OpenedRange.{fresh_range, opened_cases}
use Rattle.machine.proofs.ArchiveLaws.{lines_are}
use Rattle.terminal.specs.Start.{connecting, asking, first_calls, Begins}

-- the reply
abbrev answered : Message
answered = message (code "!") (text "log-level") 0 (text "ok" ∷ text "info" ∷ [])

module _ (lent next : List ℕ) where
  -- what the calls come to on a state
  record Facts (s : State) : Type 0 where
    pub connects : (step s (call_of connecting lent)).number ≡ 0
    pub versions : sent_to 0 (step s (call_of connecting lent)).sent ≡ version_connect (protocol_args 0) ∷ version_connect (device_args s.sheet) ∷ []
    pub asks : (step (step s (call_of connecting lent)).next (call_of asking next)).number ≡ 0
    pub reply : sent_to 0 (step (step s (call_of connecting lent)).next (call_of asking next)).sent ≡ answered ∷ []
    pub level : (step (step s (call_of connecting lent)).next (call_of asking next)).next.level ≡ 4

  module _ (room : 65536 ≤ length lent) (more : 65536 ≤ length next) (read : Sheet) (ok : sheet_ok read ≡ true) where
    -- the sheet that was read, under profile 0
    abbrev sheet : Sheet
    sheet = with_profile read 0

    -- the state with client 0 connected
    abbrev with_console : State
    with_console = with_client (fresh sheet) 0 (client_at (text "console"))

    fresh_in_range : in_range (fresh sheet) ≡ true
    unfolding sheet_ok titles_ok sensors_ok
    fresh_in_range = range_of (fresh sheet) (fresh_range sheet ok (omega arith))

    connect_done : step (fresh sheet) (call_of connecting lent) ≡ done (perform sheet (fresh sheet) connecting)
    unfolding action_declined client_declined address_fits text_fits graphic
    connect_done = carried_out (fresh sheet) (call_of connecting lent) (record { in_range_lem = fresh_in_range; room = room; running = refl; fits = refl })

    with_console_in_range : in_range with_console ≡ true
    unfolding perform
    with_console_in_range = subst (λ (e : Effect). in_range e.next ≡ true) connect_done (kept_in_range.step_in_range (fresh sheet) fresh_in_range (call_of connecting lent))

    asking_fits : action_declined sheet with_console asking ≡ 0
    unfolding with_client tabulate first_below action_declined client_declined hidden line_declined count_fits arguments_declined level_of level_text asked request_named is_digit blank letter title_byte kind_byte plain escape_of parse blank_line
    asking_fits = refl

    asking_done : step with_console (call_of asking next) ≡ done (perform sheet with_console asking)
    unfolding with_client
    asking_done = carried_out with_console (call_of asking next) (record { in_range_lem = with_console_in_range; room = more; running = refl; fits = asking_fits })

    heard : sent_to 0 (perform sheet (fresh sheet) connecting).sent ≡ version_connect (protocol_args 0) ∷ version_connect (device_args sheet) ∷ []
    unfolding perform connect_sends sent_to to_where gather
    heard = refl

    level_set : perform sheet with_console asking ≡ record { sent = to 0 answered ∷ []; next = with_level with_console 4 }
    unfolding first_below perform line_work answer level_of level_text asked request_named is_digit blank letter title_byte kind_byte plain escape_of parse blank_line
    level_set = refl

    facts : Facts (fresh sheet)
    unfolding perform sent_to
    facts = record {
      connects = rw connect_done;
      versions = rw connect_done heard;
      asks = rw (connect_done, asking_done);
      reply = rw (connect_done, asking_done, level_set);
      level = rw (connect_done, asking_done, level_set);
    }

pub begins : Begins
unfolding after messages_of from_first level_text arg escape escape_byte id_text write_to
begins bytes lent next e room more =
    let start = start_of 0 bytes in
    let f = opened_cases (λ (o : Opened). o.number ≡ 0 → Facts lent next o.state) start (λ sheet ok _ _. facts lent next room more sheet ok) (λ n z q. absurd (eqb-false n 0 z q)) e in
    record {
      three_lines = lines_are start 0 (first_calls lent next) ∙ rw (f.connects, f.versions, f.asks, f.reply);
      at_info = rw f.level;
    }

-- Unknown, declined, or carried out: each is what the line comes to.
use Prim.Native.Nat.{ℕ}
use mathlib.Core.Path.{◌≡◌, ap, sym, ◌∙◌}
use mathlib.Core.List.{List}
use Rattle.std.specs.Prelude.{Some}
use Rattle.machine.specs.Requests.{Asks, request_named, found}
use Rattle.machine.specs.Declined.{line_declined}
use Rattle.machine.proofs.LineNumbers.{request_number}
use Rattle.request.specs.Reading.{message_of}
use Rattle.request.proofs.ReadLaws.{name_is}
use Rattle.request.proofs.TellLaws.{few_sensors}
use Rattle.request.proofs.GivenLaws.{as_given}
use Rattle.request.proofs.EffectLaws.{unknown_effect, declined_effect, accepted_effect, shown_row, known_is, arguments_fit}
use Rattle.machine.specs.Refusals.{number_in}
use Rattle.machine.proofs.RefusalLaws.{declines}
use Rattle.request.proofs.RowLaws.{not_declined}
use Rattle.request.proofs.answer_request.Goals as goal

pub returns-in_default : goal.returns-in_default
returns-in_default c = let looked-up : c.request_named.result ≡ found c.args.state.sheet.profile (request_named (message_of c.args.asked.line.now).name) = c.request_named.ensures ∙ ap (λ (n : List ℕ). found c.args.state.sheet.profile (request_named n)) (c.name-name.ensures ∙ name_is c.args.asked.line.now c.args.asked.head c.requires.read) in
    as_given (unknown_effect c.args.state c.args.client (message_of c.args.asked.line.now) (sym looked-up ∙ c.in_default.is)) c.refuse.ensures

pub request_row-requires : goal.request_row-requires
request_row-requires c = few_sensors c.args.state c.requires.in_range_lem

pub refuse-requires-in-Err : goal.refuse-requires-in-Err
refuse-requires-in-Err c = let row = ap number_in (sym c.in-Err.is) ∙ c.request_row.ensures in
    rw row (request_number c.args.state.sheet _ (message_of c.args.asked.line.now) (λ z. declines c.in-Err.refusal (row ∙ z)))

pub returns-in-Err : goal.returns-in-Err
returns-in-Err c = let looked-up : c.request_named.result ≡ found c.args.state.sheet.profile (request_named (message_of c.args.asked.line.now).name) = c.request_named.ensures ∙ ap (λ (n : List ℕ). found c.args.state.sheet.profile (request_named n)) (c.name-name.ensures ∙ name_is c.args.asked.line.now c.args.asked.head c.requires.read) in
    let known : let r = c.in-Some.request in let m = message_of c.args.asked.line.now in (request_named m.name ≡ Some r) × (number_in c.request_row.result ≡ line_declined c.args.state.sheet (Asks r m)) = let m = message_of c.args.asked.line.now in
    let k = known_is c.args.state.sheet.profile (request_named m.name) _ (sym looked-up ∙ c.in-Some.is) in
    (k.0, c.request_row.ensures ∙ shown_row c.args.state.sheet _ m k.1) in
    as_given (declined_effect c.args.state c.args.client (message_of c.args.asked.line.now) _ known.0 (ap number_in (sym c.in-Err.is) ∙ known.1) (declines c.in-Err.refusal)) c.refuse-in-Err.ensures

pub carry_out-requires : goal.carry_out-requires
carry_out-requires c = record { heard = c.requires; fits = arguments_fit c.args.state.sheet _ (message_of c.args.asked.line.now) (sym c.request_row.ensures ∙ not_declined c.request_row.result c.in_default-request_row.not-Err) }

pub returns : goal.returns
returns c = let looked-up : c.request_named.result ≡ found c.args.state.sheet.profile (request_named (message_of c.args.asked.line.now).name) = c.request_named.ensures ∙ ap (λ (n : List ℕ). found c.args.state.sheet.profile (request_named n)) (c.name-name.ensures ∙ name_is c.args.asked.line.now c.args.asked.head c.requires.read) in
    let known : let r = c.in-Some.request in let m = message_of c.args.asked.line.now in (request_named m.name ≡ Some r) × (number_in c.request_row.result ≡ line_declined c.args.state.sheet (Asks r m)) = let m = message_of c.args.asked.line.now in
    let k = known_is c.args.state.sheet.profile (request_named m.name) _ (sym looked-up ∙ c.in-Some.is) in
    (k.0, c.request_row.ensures ∙ shown_row c.args.state.sheet _ m k.1) in
    as_given (accepted_effect c.args.state c.args.client (message_of c.args.asked.line.now) _ known.0 (sym known.1 ∙ not_declined c.request_row.result c.in_default-request_row.not-Err)) c.carry_out.ensures

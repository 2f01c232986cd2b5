-- By what the line is: no message, an inform, a reply, a request.
use mathlib.Core.Path.{ap, sym, ◌∙◌}
use Rattle.line.specs.Line.{Parse, parse}
use Rattle.machine.specs.Requests.{asked_by}
use Rattle.request.specs.Reading.{message_of}
use Rattle.request.specs.Effects.{line_effect}
use Rattle.request.proofs.ReadLaws.{kind_is}
use Rattle.request.proofs.GivenLaws.{as_given, nothing_given}
use Rattle.request.proofs.EffectLaws.{read_effect, malformed_effect, inform_effect, reply_effect, request_effect_lem, malformed_is}
use Rattle.request.proofs.answer_line.Goals as goal

pub returns-in_default : goal.returns-in_default
returns-in_default c = let none = malformed_is (parse c.args.line.now) (sym c.read.ensures ∙ c.in_default.is) in
    as_given (ap (λ (p : Parse). line_effect c.args.state c.args.client (asked_by p)) none ∙ malformed_effect c.args.state c.args.client) c.complain.ensures

pub returns-then-head-eq35 : goal.returns-then-head-eq35
returns-then-head-eq35 c = let read = sym c.read.ensures ∙ c.in-Some.is in
    let kind = sym (kind_is c.args.line.now _ read) in
    as_given (read_effect c.args.state c.args.client c.args.line.now read ∙ inform_effect c.args.state c.args.client (message_of c.args.line.now) (kind ∙ c.if-head-eq35.true)) (nothing_given c.args.state c.args.out.now c.answered.ensures)

pub returns-then-head-eq33 : goal.returns-then-head-eq33
returns-then-head-eq33 c = let read = sym c.read.ensures ∙ c.in-Some.is in
    let kind = sym (kind_is c.args.line.now _ read) in
    as_given (read_effect c.args.state c.args.client c.args.line.now read ∙ reply_effect c.args.state c.args.client (message_of c.args.line.now) (kind ∙ c.if-head-eq33.true)) c.complain-then-head-eq33.ensures

pub answer_request-requires : goal.answer_request-requires
answer_request-requires c = let read = sym c.read.ensures ∙ c.in-Some.is in
    record { in_range_lem = c.requires.0; client = c.requires.1; read = read }

pub returns : goal.returns
returns c = let read = sym c.read.ensures ∙ c.in-Some.is in
    let kind = kind_is c.args.line.now _ read in
    as_given (read_effect c.args.state c.args.client c.args.line.now read ∙ request_effect_lem c.args.state c.args.client (message_of c.args.line.now) (λ e. c.if-head-eq35.false (kind ∙ e)) (λ e. c.if-head-eq33.false (kind ∙ e))) c.answer_request.ensures

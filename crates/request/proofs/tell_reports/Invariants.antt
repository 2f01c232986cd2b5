-- The invariant: the reports of the first k places were sent.
use Rattle.output.specs.Output.{output}
use Rattle.message.specs.Delivery.{to}
use Rattle.machine.specs.Messages.{report_of}
use Rattle.request.proofs.PassLaws.{Passed}
use Rattle.request.proofs.tell_reports.Given as goal

abbrev pub invariant-loop-place : goal.invariant-loop-place
invariant-loop-place l = Passed (λ j. to l.client (report_of l.state.sheet l.state j)) l.places (output l.initial.out l.at) l.place-index (output l.out l.p)

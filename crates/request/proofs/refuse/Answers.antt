-- The reply's writer looks at name and id alone, and those are the message's.
use mathlib.Core.Path.{refl, ◌∙◌}
use Rattle.request.specs.Reading.{message_of}
use Rattle.request.proofs.ReadLaws.{name_is, id_is}
use Rattle.request.proofs.RefusalLaws.{refused_for}
use Rattle.machine.specs.Refusals.{refusal_number}
use Rattle.request.proofs.refuse.Goals as goal

pub returns : goal.returns
returns c = let read = c.args.asked.read in
    record {
      number = c.number.ensures;
      state = refl;
      sent = refused_for (message_of c.args.asked.line.now) (refusal_number c.args.refusal) (c.name-name.ensures ∙ name_is _ _ read) (id_is _ _ read) c.deliver_refusal-written.ensures;
    }

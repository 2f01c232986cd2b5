-- The word's bytes fit into the buffer.
use Prim.Native.Nat.{ℕ}
use mathlib.Core.Path.{ap, ◌∙◌}
use mathlib.Core.List.{List}
use Rattle.machine.specs.declared.Opened.{Opened}
use Rattle.machine.specs.Opening.{start_of, opened}
use Rattle.script.specs.Replay.{quiet}
use Rattle.script.proofs.BytesLaws.{Held, held}
use Rattle.script.proofs.open_sheet.Goals as goal

pub slice_bounds-sheet-end : goal.slice_bounds-sheet-end
slice_bounds-sheet-end c = let held-sheet : Held 1 c.args.line.now c.put_bytes_of-n.new.into c.put_bytes_of-n.result = held 1 c.word.ensures c.put_bytes_of-n.ensures c.requires in
    held-sheet.inside

pub slice_bounds-open-end : goal.slice_bounds-open-end
slice_bounds-open-end c = let held-sheet : Held 1 c.args.line.now c.put_bytes_of-n.new.into c.put_bytes_of-n.result = held 1 c.word.ensures c.put_bytes_of-n.ensures c.requires in
    held-sheet.count

pub returns : goal.returns
returns c = let held-sheet : Held 1 c.args.line.now c.put_bytes_of-n.new.into c.put_bytes_of-n.result = held 1 c.word.ensures c.put_bytes_of-n.ensures c.requires in
    c.silent.ensures ∙ ap (λ (o : Opened). quiet o.number o.state) (c.open-opened.ensures ∙ ap (λ (bs : List ℕ). opened (start_of c.args.profile bs)) held-sheet.bytes)

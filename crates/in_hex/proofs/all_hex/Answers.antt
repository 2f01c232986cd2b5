-- What is found so far, and the test of the rest, is the test of the whole.
use native.Mathlib.Omega.{arith}
use Prim.Native.Nat.{◌+◌, ◌≤◌}
use lib.ListN.{length, drop, drop_of_length-le}
use Rattle.output.specs.Text.{all}
use Rattle.texts.proofs.At.{at}
use Rattle.texts.proofs.PassLaws.{found_on, found_end}
use Rattle.in_hex.specs.Hex.{is_hex}
use Rattle.in_hex.proofs.all_hex.Goals as goal

pub loop-b-preserved : goal.loop-b-preserved
loop-b-preserved c = let t = c.args.t.now in
    (omega arith, rw c.is_hex-ok.ensures (found_on c.loop-b.ok _ (all is_hex (drop (c.loop-b.b-index + 1) t)) (all is_hex (drop c.loop-b.b-index t)) _ c.loop-b.invariant.1 (rw (at t c.loop-b.b-index (omega arith)))))

pub returns : goal.returns
returns c = let t = c.args.t.now in
    let h : length t ≤ c.loop-b.b-index = omega arith in
    found_end c.loop-b.ok (all is_hex (drop c.loop-b.b-index t)) _ c.loop-b.invariant.1 (rw (drop_of_length-le t h))

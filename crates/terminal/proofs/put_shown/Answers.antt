-- What is still to be written is what the deliveries that are left show; each turn writes the line of one.
use native.Mathlib.Omega.{arith}
use Prim.Native.Nat.{◌+◌, ◌*◌, min}
use mathlib.Core.Path.{◌≡◌, ap, ◌∙◌}
use lib.ListN.{length, get_or, take, drop, length-drop}
use Rattle.std.proofs.lemmas.List.{take_rest}
use Rattle.output.proofs.RestLaws as R
use Rattle.terminal.specs.Shown.{shown_to}
use Rattle.terminal.proofs.ShownLaws.{shown_none, shown_more}
use Rattle.terminal.proofs.put_shown.Goals as goal

pub loop-left-init : goal.loop-left-init
loop-left-init c = R.none_yet _ _

pub loop-left-smaller : goal.loop-left-smaller
loop-left-smaller c =
    let s = c.loop-left.left.now in let n = c.min-n.result in
    let behind : c.split_at.result.1.now ≡ drop n (drop 3 s) = c.split_at.ensures.back ∙ ap (drop n) (take_rest s 3) in
    rw behind (omega (arith, length-drop n (drop 3 s), length-drop 3 s, c.in-len3-up.len_at_least))

pub loop-left-preserved : goal.loop-left-preserved
loop-left-preserved c =
    let s = c.loop-left.left.now in let n = c.min-n.result in let client = c.args.client in
    let line : c.split_at.result.0.now ≡ take n (drop 3 s) = c.split_at.ensures.front ∙ ap (take n) (take_rest s 3) in
    let behind : c.split_at.result.1.now ≡ drop n (drop 3 s) = c.split_at.ensures.back ∙ ap (drop n) (take_rest s 3) in
    let many : n ≡ min (get_or s 1 0 * 256 + get_or s 2 0) (length (drop 3 s)) = rw (c.from.ensures, c.from-in-len3-up.ensures, take_rest s 3) at c.min-n.ensures in
    rw behind (R.one_more c.loop-left.invariant (shown_to client (drop n (drop 3 s))) (rw line at c.put_if-p.ensures) (shown_more client s c.in-len3-up.len_at_least many))

pub returns : goal.returns
returns c = R.all_written c.loop-left.invariant (shown_none c.args.client c.loop-left.left.now c.in_default.len_below)

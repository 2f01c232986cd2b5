-- Each arm chains what its calls ensure, and the reading is the arm's variant.
use Rattle.std.specs.Prelude.{None}
use lib.IntN.{ℤ}
use mir.Syntax.{w32}
use mir.ValLaws.{to_z-of_z}
use Rattle.value.specs.Integer.{biased_integer}
use borrow.Author.Rules.{rules}
use mathlib.Core.Path.{sym, ap, ◌∙◌}
use mathlib.Core.Bool.{Bool, cond}
use Rattle.value.specs.Reading.{valid, only_for, sample_of}
use Rattle.value.proofs.SignedLaws.{fits_signed32}
use Rattle.value.proofs.sample_of.Goals as goal

pub returns-in-Integer : goal.returns-in-Integer
unfolding sample_of
returns-in-Integer c = let z = c.in-Integer.x in
    c.only_for.ensures
    ∙ ap (only_for c.args.kind 1) (c.valid_sample.ensures ∙ ap valid c.biased_integer.ensures)
    ∙ ap (λ (k : ℤ). only_for c.args.kind 1 (valid (biased_integer k))) (to_z-of_z w32 z (search rules))
    ∙ ap (λ (k : Bool). only_for c.args.kind 1 (cond k (valid (biased_integer z)) None)) (sym (fits_signed32 z (search rules)))
    ∙ sym (ap (sample_of c.args.kind c.args.options) c.in-Integer.is)

pub returns-in-Float : goal.returns-in-Float
unfolding sample_of
returns-in-Float c = c.only_for-in-Float.ensures
    ∙ ap (only_for c.args.kind 2) c.float_sample.ensures
    ∙ sym (ap (sample_of c.args.kind c.args.options) c.in-Float.is)

pub returns-in-Boolean : goal.returns-in-Boolean
unfolding sample_of
returns-in-Boolean c = c.only_for-in-Boolean.ensures
    ∙ ap (only_for c.args.kind 3) c.sample_below.ensures
    ∙ sym (ap (sample_of c.args.kind c.args.options) c.in-Boolean.is)

pub returns-in-Option : goal.returns-in-Option
unfolding sample_of
returns-in-Option c = c.only_for-in-Option.ensures
    ∙ ap (only_for c.args.kind 4) c.sample_below-in-Option.ensures
    ∙ sym (ap (sample_of c.args.kind c.args.options) c.in-Option.is)

pub returns-in-Timestamp : goal.returns-in-Timestamp
unfolding sample_of
returns-in-Timestamp c = c.only_for-in-Timestamp.ensures
    ∙ ap (only_for c.args.kind 5) c.sample_below-in-Timestamp.ensures
    ∙ sym (ap (sample_of c.args.kind c.args.options) c.in-Timestamp.is)

pub returns-in-Failure : goal.returns-in-Failure
unfolding sample_of
returns-in-Failure c = cc

pub returns-in-Unreachable : goal.returns-in-Unreachable
unfolding sample_of
returns-in-Unreachable c = cc

pub returns-in-Inactive : goal.returns-in-Inactive
unfolding sample_of
returns-in-Inactive c = cc

-- `formed::bounds_right` meets its contract. The loop's invariant: the first i bound records are right. Assumes nothing.
use native.Mathlib.Omega.{arith}
use mathlib.Core.Path.{refl, sym, ◌∙◌}
use borrow.Author.Rules.{rules}
use Rattle.model.specs.Lists.{all}
use Rattle.model.specs.Formed.{bound_right}
use Rattle.image.specs.Shown.{entries_of, bounds_all}
use Rattle.image.specs.Reading.{bounds_count}
use Rattle.formed.proofs.Walked.{all_step, all_end, all_fails}
use Rattle.formed.proofs.bounds_right.Goals as goal

pub loop-i-init : goal.loop-i-init
unfolding all
loop-i-init c = (search rules, refl)

pub bound_right-requires-clause-i_in_bounds : goal.bound_right-requires-clause-i_in_bounds
bound_right-requires-clause-i_in_bounds c =
    let n = bounds_count c.args.image.now in
    omega arith

pub returns-then-not-bound_right : goal.returns-then-not-bound_right
returns-then-not-bound_right c =
    let w = c.args.image.now in
    let n = bounds_count w in
    let l = c.loop-i in
    sym (all_fails (bound_right (entries_of w)) (record { variable = 0; side = 0; bound = 0 }) (bounds_all w) l.i (omega arith) (sym c.bound_right.ensures ∙ c.if-not-bound_right.true))

pub loop-i-preserved : goal.loop-i-preserved
loop-i-preserved c =
    let w = c.args.image.now in
    let n = bounds_count w in
    let l = c.loop-i in
    (search rules, all_step (bound_right (entries_of w)) (record { variable = 0; side = 0; bound = 0 }) (bounds_all w) l.i (omega arith) ∙ rw l.invariant.1 (sym c.bound_right.ensures ∙ c.if-not-bound_right.false))

pub returns : goal.returns
returns c =
    let w = c.args.image.now in
    let n = bounds_count w in
    let l = c.loop-i in
    sym l.invariant.1 ∙ all_end (bound_right (entries_of w)) (record { variable = 0; side = 0; bound = 0 }) (bounds_all w) l.i (omega arith)

-- `formed::zeros` meets its contract. The loop's invariant: `ok` is the test of the first i words. Assumes nothing.
use native.Mathlib.Omega.{arith}
use mathlib.Core.Path.{refl, sym}
use borrow.Author.Rules.{rules}
use Rattle.model.specs.Lists.{is_zero, all}
use Rattle.formed.proofs.Walked.{all_step}
use Rattle.formed.proofs.zeros.Goals as goal

pub loop-w-init : goal.loop-w-init
unfolding all
loop-w-init c = (search rules, refl)

pub loop-w-preserved : goal.loop-w-preserved
loop-w-preserved c =
    let l = c.loop-w in
    (omega arith, rw l.invariant.1 (sym (all_step is_zero 0 c.args.part.now l.w-index c.loop-w-test.true)))

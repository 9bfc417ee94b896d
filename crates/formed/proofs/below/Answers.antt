-- `formed::below` meets its contract. The loop's invariant: `ok` is the test of the first i words. Assumes nothing.
use native.Mathlib.Omega.{arith}
use mathlib.Core.Path.{refl, sym}
use lib.Dec.{ltb}
use borrow.Author.Rules.{rules}
use Rattle.model.specs.Lists.{all}
use Rattle.formed.proofs.Walked.{all_step}
use Rattle.formed.proofs.below.Goals as goal

pub loop-w-init : goal.loop-w-init
unfolding all
loop-w-init c = (search rules, refl)

pub loop-w-preserved : goal.loop-w-preserved
loop-w-preserved c =
    let l = c.loop-w in
    (omega arith, rw l.invariant.1 (sym (all_step (λ w. ltb w c.args.limit) 0 c.args.part.now l.w-index c.loop-w-test.true)))

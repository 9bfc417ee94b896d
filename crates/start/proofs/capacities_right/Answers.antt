-- `capacities_right`: whether an image can be started so.
use Rattle.start.proofs.Starting.{test_fails, tests_are}
use mathlib.Core.Path.{sym, ◌∙◌}
use Rattle.start.proofs.capacities_right.Goals as goal

pub returns-then-not-all_small : goal.returns-then-not-all_small
returns-then-not-all_small c = test_fails _ _ (sym c.all_small.ensures ∙ c.if-not-all_small.true)

pub returns : goal.returns
returns c = rw c.size_of.ensures (tests_are _ _ _ _ (sym c.all_small.ensures ∙ c.if-not-all_small.false))

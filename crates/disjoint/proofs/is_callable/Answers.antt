-- `is_callable`: whether the attrset has a field `__functor`, which makes it callable.
use Rattle.std.specs.Prelude.{is_some}
use mathlib.Core.Path.{ap, ◌∙◌}
use Rattle.disjoint.specs.Shapes.{callable}
use Rattle.disjoint.proofs.is_callable.Goals as goal

pub returns : goal.returns
unfolding callable
returns c = c.is_some.ensures ∙ ap is_some c.functor_among.ensures

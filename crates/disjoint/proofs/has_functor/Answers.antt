-- `has_functor`: whether entry n is an attrset with a field `__functor`.
use Rattle.std.specs.Prelude.{is_some}
use mathlib.Core.Path.{ap, ◌∙◌}
use Rattle.disjoint.proofs.Fields.{functor_has}
use Rattle.disjoint.proofs.Views.{inside}
use Rattle.disjoint.proofs.has_functor.Goals as goal

pub returns : goal.returns
returns c = c.is_some.ensures ∙ ap is_some c.functor_of.ensures ∙ functor_has _ _ (inside _ c.requires.good _ c.requires.n_in_bounds)

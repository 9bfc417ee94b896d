-- `functor_of`: the record of the field `__functor` of entry n, if it is an attrset that has one.
use borrow.Author.Rules.{rules}
use mathlib.Core.Path.{sym, ◌∙◌}
use Rattle.disjoint.proofs.Shapes.{shape_inside, functor_at, functor_none}
use Rattle.disjoint.proofs.functor_of.Goals as goal

pub returns-in_default : goal.returns-in_default
returns-in_default c = functor_none _ c.requires.good _ c.requires.n_in_bounds _ c.entry-e.ensures (search rules)

pub functor_among-requires-clause-count_in_bounds : goal.functor_among-requires-clause-count_in_bounds
functor_among-requires-clause-count_in_bounds c = shape_inside _ c.requires.good _ c.requires.n_in_bounds _ (sym c.in-AttrSet.is ∙ c.entry-e.ensures)

pub returns : goal.returns
returns c = c.functor_among.ensures ∙ sym (functor_at _ c.requires.good _ c.requires.n_in_bounds _ (sym c.in-AttrSet.is ∙ c.entry-e.ensures))

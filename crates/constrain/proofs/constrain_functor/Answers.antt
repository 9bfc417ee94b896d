-- `constrain_functor`: an attrset under lambda(param, body): by its field `__functor`.
use mathlib.Core.Path.{sym, ◌∙◌}
use Rattle.disjoint.proofs.Finding.{functor_found, functor_there, functor_nothing}
use Rattle.model.specs.Rules.{functor_rule}
use Rattle.constrain.proofs.constrain_functor.Goals as goal

pub word-requires-clause-i_in_bounds : goal.word-requires-clause-i_in_bounds
word-requires-clause-i_in_bounds c = functor_there _ c.requires.good _ c.requires.sub_in_bounds (sym c.functor_of-found.ensures ∙ c.in-Some.is)

pub returns-in-Some : goal.returns-in-Some
unfolding functor_rule
returns-in-Some c sup = record { means = rw (c.word.ensures, functor_found _ c.requires.good _ c.requires.sub_in_bounds (sym c.functor_of-found.ensures ∙ c.in-Some.is)); applies = tt }

pub returns-in-None : goal.returns-in-None
unfolding functor_rule
returns-in-None c sup = record { means = rw (functor_nothing _ c.requires.good _ c.requires.sub_in_bounds (sym c.functor_of-found.ensures ∙ c.in-None.is)); applies = tt }

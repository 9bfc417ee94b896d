-- `functor_among`: the field that the functor word names, if it names one.
use mathlib.Core.Path.{◌∙◌}
use Rattle.disjoint.proofs.Fields.{unset, set}
use Rattle.disjoint.proofs.functor_among.Goals as goal

pub returns-then-word-eq0 : goal.returns-then-word-eq0
returns-then-word-eq0 c = unset _ _ _ _ _ c.functor-word.ensures c.if-word-eq0.true

pub returns : goal.returns
returns c = c.field_named.ensures ∙ set _ _ _ _ _ c.functor-word.ensures c.if-word-eq0.false

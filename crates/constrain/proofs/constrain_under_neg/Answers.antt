-- `constrain_under_neg`: sub, neither inter nor union, under neg n.
use mathlib.Core.Path.{sym, ◌∙◌}
use Rattle.model.specs.Rules.{under_negation}
use Rattle.constrain.proofs.constrain_under_neg.Goals as goal

pub returns-then-are_types_disjoint : goal.returns-then-are_types_disjoint
unfolding under_negation
returns-then-are_types_disjoint c sup = record { means = rw (sym c.are_types_disjoint.ensures ∙ c.if-are_types_disjoint.true); applies = tt }

pub returns : goal.returns
unfolding under_negation
returns c sup = record { means = rw (sym c.are_types_disjoint.ensures ∙ c.if-are_types_disjoint.false); applies = tt }

-- `rhs_concrete`: a union of two concrete sides on the right.
use mathlib.Core.Path.{sym, ◌∙◌}
use Rattle.model.specs.Rules.{right_one, right_closed}
use Rattle.constrain.proofs.rhs_concrete.Goals as goal

pub returns-then-are_types_disjoint-2 : goal.returns-then-are_types_disjoint-2
unfolding right_one right_closed
returns-then-are_types_disjoint-2 c sup = record { means = rw (sym c.are_types_disjoint.ensures ∙ c.if-are_types_disjoint.true, sym c.are_types_disjoint-then-are_types_disjoint.ensures ∙ c.if-are_types_disjoint-2.true); applies = tt }

pub returns-then-are_types_disjoint : goal.returns-then-are_types_disjoint
unfolding right_one right_closed
returns-then-are_types_disjoint c sup = record { means = rw (sym c.are_types_disjoint.ensures ∙ c.if-are_types_disjoint.true, sym c.are_types_disjoint-then-are_types_disjoint.ensures ∙ c.if-are_types_disjoint-2.false); applies = tt }

pub returns-then-are_types_disjoint-3 : goal.returns-then-are_types_disjoint-3
unfolding right_one right_closed
returns-then-are_types_disjoint-3 c sup = record { means = rw (sym c.are_types_disjoint.ensures ∙ c.if-are_types_disjoint.false, sym c.are_types_disjoint-2.ensures ∙ c.if-are_types_disjoint-3.true); applies = tt }

pub returns : goal.returns
unfolding right_closed
returns c sup = rw (sym c.are_types_disjoint.ensures ∙ c.if-are_types_disjoint.false, sym c.are_types_disjoint-2.ensures ∙ c.if-are_types_disjoint-3.false) (c.rhs_same_kind.ensures sup)

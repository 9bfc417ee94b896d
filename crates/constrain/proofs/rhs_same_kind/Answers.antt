-- `rhs_same_kind`: a union of which neither side is disjoint from sub: the one of the same kind if only one is, else both.
use mathlib.Core.Path.{sym, ◌∙◌}
use Rattle.model.specs.Rules.{right_both, right_one, right_kind}
use Rattle.constrain.proofs.rhs_same_kind.Goals as goal

pub returns-then-discriminant_matches-2 : goal.returns-then-discriminant_matches-2
unfolding right_both right_one right_kind
returns-then-discriminant_matches-2 c sup = record { means = rw (sym c.discriminant_matches.ensures ∙ c.if-discriminant_matches.true, sym c.discriminant_matches-then-discriminant_matches.ensures ∙ c.if-discriminant_matches-2.true); applies = tt }

pub returns-then-discriminant_matches : goal.returns-then-discriminant_matches
unfolding right_both right_one right_kind
returns-then-discriminant_matches c sup = record { means = rw (sym c.discriminant_matches.ensures ∙ c.if-discriminant_matches.true, sym c.discriminant_matches-then-discriminant_matches.ensures ∙ c.if-discriminant_matches-2.false); applies = tt }

pub returns-then-discriminant_matches-3 : goal.returns-then-discriminant_matches-3
unfolding right_both right_one right_kind
returns-then-discriminant_matches-3 c sup = record { means = rw (sym c.discriminant_matches.ensures ∙ c.if-discriminant_matches.false, sym c.discriminant_matches-2.ensures ∙ c.if-discriminant_matches-3.true); applies = tt }

pub returns : goal.returns
unfolding right_both right_one right_kind
returns c sup = record { means = rw (sym c.discriminant_matches.ensures ∙ c.if-discriminant_matches.false, sym c.discriminant_matches-2.ensures ∙ c.if-discriminant_matches-3.false); applies = tt }

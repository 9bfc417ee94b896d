-- `constrain_lhs_inter`: Inter(a, b) on the left.
use mathlib.Core.Path.{sym, ◌∙◌}
use Rattle.model.specs.Rules.{left_inter}
use Rattle.constrain.proofs.constrain_lhs_inter.Goals as goal

pub returns-then-is_chosen-2 : goal.returns-then-is_chosen-2
unfolding left_inter
returns-then-is_chosen-2 c sub = record { means = rw (sym c.is_chosen.ensures ∙ c.if-is_chosen.true, sym c.is_chosen-then-is_chosen.ensures ∙ c.if-is_chosen-2.true); applies = tt }

pub returns-then-is_chosen : goal.returns-then-is_chosen
unfolding left_inter
returns-then-is_chosen c sub = rw (sym c.is_chosen.ensures ∙ c.if-is_chosen.true, sym c.is_chosen-then-is_chosen.ensures ∙ c.if-is_chosen-2.false) (c.isolate.ensures sub)

pub returns-then-is_chosen-3 : goal.returns-then-is_chosen-3
unfolding left_inter
returns-then-is_chosen-3 c sub = rw (sym c.is_chosen.ensures ∙ c.if-is_chosen.false, sym c.is_chosen-2.ensures ∙ c.if-is_chosen-3.true) (c.isolate-then-is_chosen-3.ensures sub)

pub returns : goal.returns
unfolding left_inter
returns c sub = record { means = rw (sym c.is_chosen.ensures ∙ c.if-is_chosen.false, sym c.is_chosen-2.ensures ∙ c.if-is_chosen-3.false); applies = tt }

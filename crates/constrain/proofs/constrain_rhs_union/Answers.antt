-- `constrain_rhs_union`: Union(a, b) on the right.
use mathlib.Core.Path.{sym, ◌∙◌}
use Rattle.model.specs.Rules.{right_both, right_union}
use Rattle.constrain.proofs.constrain_rhs_union.Goals as goal

pub returns-then-is_var-2 : goal.returns-then-is_var-2
unfolding right_both right_union
returns-then-is_var-2 c sup = record { means = rw (sym c.is_var.ensures ∙ c.if-is_var.true, sym c.is_var-then-is_var.ensures ∙ c.if-is_var-2.true); applies = tt }

pub returns-then-is_var : goal.returns-then-is_var
unfolding right_union
returns-then-is_var c sup = rw (sym c.is_var.ensures ∙ c.if-is_var.true, sym c.is_var-then-is_var.ensures ∙ c.if-is_var-2.false) (c.rhs_one_variable.ensures sup)

pub returns-then-is_var-3 : goal.returns-then-is_var-3
unfolding right_union
returns-then-is_var-3 c sup = rw (sym c.is_var.ensures ∙ c.if-is_var.false, sym c.is_var-2.ensures ∙ c.if-is_var-3.true) (c.rhs_one_variable-then-is_var-3.ensures sup)

pub returns : goal.returns
unfolding right_union
returns c sup = rw (sym c.is_var.ensures ∙ c.if-is_var.false, sym c.is_var-2.ensures ∙ c.if-is_var-3.false) (c.rhs_concrete.ensures sup)

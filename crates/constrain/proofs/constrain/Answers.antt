-- `constrain`: a pair that is neither of equal numbers nor visited.
use mathlib.Core.Path.{sym, ◌∙◌}
use Rattle.model.specs.Rules.{pair_rule}
use Rattle.constrain.proofs.constrain.Goals as goal

pub returns-then-is_var : goal.returns-then-is_var
unfolding pair_rule
returns-then-is_var c = record { means = rw (sym c.is_var.ensures ∙ c.if-is_var.true); applies = tt }

pub returns-then-is_var-2 : goal.returns-then-is_var-2
unfolding pair_rule
returns-then-is_var-2 c = record { means = rw (sym c.is_var.ensures ∙ c.if-is_var.false, sym c.is_var-2.ensures ∙ c.if-is_var-2.true); applies = tt }

pub returns : goal.returns
unfolding pair_rule
returns c = rw (sym c.is_var.ensures ∙ c.if-is_var.false, sym c.is_var-2.ensures ∙ c.if-is_var-2.false) c.constrain_concrete.ensures

-- `rhs_one_variable`: a union with one variable on the right: c is the concrete side, v the variable.
use mathlib.Core.Path.{sym, ◌∙◌}
use Rattle.model.specs.Rules.{right_one, right_open}
use Rattle.constrain.proofs.rhs_one_variable.Goals as goal

pub returns-then-is_concrete_compatible : goal.returns-then-is_concrete_compatible
unfolding right_one right_open
returns-then-is_concrete_compatible c sup = record { means = rw (sym c.is_concrete_compatible.ensures ∙ c.if-is_concrete_compatible.true); applies = tt }

pub returns : goal.returns
unfolding right_one right_open
returns c sup = record { means = rw (sym c.is_concrete_compatible.ensures ∙ c.if-is_concrete_compatible.false); applies = tt }

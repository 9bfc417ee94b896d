-- `is_chosen`: whether side a of an inter is chosen before side b.
use mathlib.Core.Path.{sym, ◌∙◌}
use Rattle.model.specs.Rules.{chosen}
use Rattle.constrain.proofs.is_chosen.Goals as goal

pub returns-then-is_var : goal.returns-then-is_var
unfolding chosen
returns-then-is_var c = rw (sym c.is_var.ensures ∙ c.if-is_var.true)

pub returns-then-inter_contains_var : goal.returns-then-inter_contains_var
unfolding chosen
returns-then-inter_contains_var c = rw (c.inter_contains_var-then-inter_contains_var.ensures, sym c.is_var.ensures ∙ c.if-is_var.false, sym c.inter_contains_var.ensures ∙ c.if-inter_contains_var.true)

pub returns : goal.returns
unfolding chosen
returns c = rw (sym c.is_var.ensures ∙ c.if-is_var.false, sym c.inter_contains_var.ensures ∙ c.if-inter_contains_var.false)

-- `isolate`: side c of an inter chosen, d the other.
use mathlib.Core.Path.{sym, ◌∙◌}
use Rattle.model.specs.Rules.{isolate}
use Rattle.constrain.proofs.isolate.Goals as goal

pub returns-then-is_disjoint_from_sup : goal.returns-then-is_disjoint_from_sup
unfolding isolate
returns-then-is_disjoint_from_sup c sub = record { means = rw (sym c.is_disjoint_from_sup.ensures ∙ c.if-is_disjoint_from_sup.true); applies = tt }

pub returns : goal.returns
unfolding isolate
returns c sub = record { means = rw (sym c.is_disjoint_from_sup.ensures ∙ c.if-is_disjoint_from_sup.false); applies = c.requires.d_in_bounds }

-- `attrsets_disjoint`: whether one is closed, and lacks a field that the other requires.
use mathlib.Core.Path.{sym, ◌∙◌}
use Rattle.disjoint.specs.Shapes.{attrsets_disjoint_in}
use Rattle.disjoint.proofs.attrsets_disjoint.Goals as goal

pub returns-then-closed_lacks : goal.returns-then-closed_lacks
unfolding attrsets_disjoint_in
returns-then-closed_lacks c = rw (sym c.closed_lacks.ensures ∙ c.if-closed_lacks.true)

pub returns : goal.returns
unfolding attrsets_disjoint_in
returns c = rw (sym c.closed_lacks.ensures ∙ c.if-closed_lacks.false) c.closed_lacks-2.ensures

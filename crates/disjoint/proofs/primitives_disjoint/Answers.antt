-- `primitives_disjoint`: whether two primitives are unequal, and neither is a subtype of the other.
use mathlib.Core.Path.{◌≡◌, sym, ap, ◌∙◌}
use mathlib.Core.Bool.{true, false, not}
use borrow.Author.Tests.{eq-eqb, ne_eqb}
use Rattle.model.specs.Shapes.{under_number, primitives_disjoint}
use Rattle.disjoint.proofs.primitives_disjoint.Goals as goal

pub returns-then-p-q : goal.returns-then-p-q
unfolding primitives_disjoint
returns-then-p-q c = rw (eq-eqb _ _ c.if-p-q.true)

pub returns-then-is_subtype_of : goal.returns-then-is_subtype_of
unfolding primitives_disjoint
returns-then-is_subtype_of c =
    let z : under_number c.args.p c.args.q ≡ true = sym c.is_subtype_of.ensures ∙ c.if-is_subtype_of.true in
    rw (ne_eqb _ _ c.if-p-q.false, z)

pub returns : goal.returns
unfolding primitives_disjoint
returns c =
    let z : under_number c.args.p c.args.q ≡ false = sym c.is_subtype_of.ensures ∙ c.if-is_subtype_of.false in
    rw (ne_eqb _ _ c.if-p-q.false, z) (ap not c.is_subtype_of-2.ensures)

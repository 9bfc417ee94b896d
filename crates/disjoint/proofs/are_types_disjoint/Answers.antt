-- `are_types_disjoint`: whether entries a and b share no value.
use mathlib.Core.Path.{◌∙◌}
use Rattle.disjoint.proofs.Shapes.{shape_inside, disjoint_by}
use Rattle.disjoint.proofs.are_types_disjoint.Goals as goal

pub are_shapes_disjoint-requires-clause-shape_inside : goal.are_shapes_disjoint-requires-clause-shape_inside
are_shapes_disjoint-requires-clause-shape_inside c = rw c.shape_of-sub.ensures (shape_inside _ c.requires.good _ c.requires.a_in_bounds _ c.entry.ensures)

pub are_shapes_disjoint-requires-clause-shape_inside_2 : goal.are_shapes_disjoint-requires-clause-shape_inside_2
are_shapes_disjoint-requires-clause-shape_inside_2 c = rw c.shape_of-sup.ensures (shape_inside _ c.requires.good _ c.requires.b_in_bounds _ c.entry-2.ensures)

pub returns : goal.returns
returns c = c.are_shapes_disjoint.ensures ∙ rw (c.shape_of-sub.ensures, c.shape_of-sup.ensures) (disjoint_by _ c.requires.good _ _ c.requires.a_in_bounds c.requires.b_in_bounds _ _ c.entry.ensures c.entry-2.ensures)

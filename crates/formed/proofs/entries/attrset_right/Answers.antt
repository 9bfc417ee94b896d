-- `formed::entries::attrset_right` meets its contract. Assumes nothing.
use Prim.Native.Nat.{◌+◌}
use native.Mathlib.Omega.{arith}
use mathlib.Core.Path.{sym, ap}
use mathlib.Core.Bool.{Bool, ◌&&◌, and-true}
use lib.ListN.{length}
use lib.Dec.{ltb}
use borrow.Author.Tests.{eq-eqb, ne_eqb, le-leb, lt-leb}
use Rattle.model.specs.Lists.{all_of, all}
use Rattle.model.specs.Table.{is}
use Rattle.model.specs.Shapes.{fields_of}
use Rattle.model.specs.Formed.{names_ascend, fields_right}
use Rattle.image.specs.Shown.{store_of, fields_in}
use Rattle.image.specs.Reading.{fields_count}
use Rattle.formed.specs.Grouped.{entry_told, own_right}
use Rattle.formed.proofs.entries.attrset_right.Goals as goal

pub returns-then-e-ne-ATTRSET : goal.returns-then-e-ne-ATTRSET
unfolding fields_right is
returns-then-e-ne-ATTRSET c = rw (ne_eqb _ _ c.if-e-ne-ATTRSET.true)

pub returns-then-wide : goal.returns-then-wide
unfolding fields_right is all_of
returns-then-wide c =
    let a = c.args in
    let w = a.image.now in
    let n = fields_count w in
    rw (eq-eqb _ _ c.if-e-ne-ATTRSET.false, lt-leb (a.e.x + a.e.y) (length (fields_in w)) (omega arith))

pub own_right-requires-clause-fields_in_bounds : goal.own_right-requires-clause-fields_in_bounds
own_right-requires-clause-fields_in_bounds c =
    let n = fields_count c.args.image.now in
    omega arith

pub returns : goal.returns
unfolding fields_right is all_of fields_of own_right
returns c =
    let a = c.args in
    let w = a.image.now in
    let n = fields_count w in
    let own = fields_of (fields_in w) (entry_told a.e) in
    rw (eq-eqb _ _ c.if-e-ne-ATTRSET.false, le-leb (a.e.x + a.e.y) (length (fields_in w)) (omega arith), c.own_right.ensures)
    (ap (λ (t : Bool). names_ascend (store_of w).names own && t) (sym (and-true (all (λ f. ltb f.entry a.i) own))))

-- `formed::entries::components_below` meets its contract. Assumes nothing.
use mathlib.Core.Path.{◌∙◌}
use mathlib.Core.Bool.{◌||◌, ◌&&◌}
use lib.Dec.{ltb}
use Rattle.model.specs.Formed.{one_component, two_components, has_dynamic_type, components_below}
use Rattle.formed.specs.Grouped.{entry_told}
use Rattle.formed.proofs.Tested.{joined_is, when_is}
use Rattle.formed.proofs.entries.components_below.Goals as goal

pub returns : goal.returns
unfolding components_below
returns c =
    let i = c.args.i in
    let w = c.args.e in
    let e = entry_told w in
    rw (c.one_component.ensures, c.two_components-two.ensures, c.has_dynamic_type.ensures)
    ((λ j. when_is (one_component e || two_components e) (ltb w.x i) j && when_is (two_components e) (ltb w.y i) j && when_is (has_dynamic_type e) (ltb w.z i) j)
    ∙ joined_is _ _)

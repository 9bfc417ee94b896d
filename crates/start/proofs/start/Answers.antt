-- `start`: starts an image, or refuses and leaves every word as found.
use Rattle.start.proofs.Starting.{room_for_header, sizes_small, start_refused, start_done}
use Rattle.image.specs.Stores.{capacities_of, headed}
use Rattle.model.specs.Calls.{capacities_right}
use mathlib.Core.Bool.{not}
use mathlib.Core.Path.{ap}
use native.Mathlib.Omega.{arith}
use Rattle.start.proofs.start.Goals as goal

pub returns-then-not-capacities_right : goal.returns-then-not-capacities_right
unfolding capacities_right
returns-then-not-capacities_right c =
    let a = c.args in
    let r = start_refused a.names a.functor (capacities_of a.capacities) a.image.now _ c.capacities_right.ensures (ap not c.if-not-capacities_right.true) in
    record { result_value = r.0; image_after = r.1 }

pub put_header-requires-clause-header_words_in_bounds : goal.put_header-requires-clause-header_words_in_bounds
unfolding capacities_right
put_header-requires-clause-header_words_in_bounds c =
    let a = c.args in
    let room = room_for_header a.names a.functor (capacities_of a.capacities) a.image.now _ c.capacities_right.ensures (ap not c.if-not-capacities_right.false) in
    omega (arith, room)

pub put_header-requires-clause-t : goal.put_header-requires-clause-t
unfolding capacities_right
put_header-requires-clause-t c =
    let a = c.args in
    sizes_small a.names a.functor (capacities_of a.capacities) a.image.now _ c.capacities_right.ensures (ap not c.if-not-capacities_right.false)

pub returns : goal.returns
unfolding capacities_right headed
returns c =
    let a = c.args in
    let r = start_done a.names a.functor (capacities_of a.capacities) a.image.now _ c.capacities_right.ensures (ap not c.if-not-capacities_right.false) _ _ c.clear.ensures c.put_header.ensures in
    record { result_value = r.0; image_after = r.1 }

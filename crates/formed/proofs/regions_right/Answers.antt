-- `regions_right`: the tests passed so far leave those of the regions that are left.
use Prim.Native.Nat.{ℕ, ◌≤◌, ◌<◌, ◌+◌}
use native.Mathlib.Omega.{arith}
use mathlib.Core.Path.{◌≡◌, sym, ap, ◌∙◌}
use lib.ListN.{get_or}
use Rattle.model.specs.Parts.{capacity, count}
use Rattle.image.proofs.Listed.{mosts, regions_many}
use Rattle.formed.proofs.Lying.{tests_from, off_place, over_most, over_room, goes_on, at_end, little}
use Rattle.formed.proofs.regions_right.Goals as goal

pub returns-then-offset-at : goal.returns-then-offset-at
returns-then-offset-at c =
    let l = c.loop-k in
    let w = c.args.image.now in
    sym (off_place w l.k l.at (omega arith) (λ e. c.if-offset-at.true (c.offset.ensures.0 ∙ e))) ∙ l.invariant.2

pub returns-then-wide-room : goal.returns-then-wide-room
returns-then-wide-room c =
    let l = c.loop-k in
    let w = c.args.image.now in
    let over : get_or mosts l.k 0 < capacity w (l.k + 1) = rw (c.wide.ensures.0, c.capacity-room.ensures.0) at c.if-wide-room.true in
    sym (over_most w l.k l.at (omega arith) (sym c.offset.ensures.0 ∙ c.if-offset-at.false) over) ∙ l.invariant.2

pub returns-then-room-count : goal.returns-then-room-count
returns-then-room-count c =
    let l = c.loop-k in
    let w = c.args.image.now in
    let within : capacity w (l.k + 1) ≤ get_or mosts l.k 0 = rw (c.wide.ensures.0, c.capacity-room.ensures.0) at c.if-wide-room.false in
    let over : capacity w (l.k + 1) < count w (l.k + 1) = rw (c.capacity-room.ensures.0, c.count.ensures.0) at c.if-room-count.true in
    sym (over_room w l.k l.at (omega arith) (sym c.offset.ensures.0 ∙ c.if-offset-at.false) within over) ∙ l.invariant.2

pub loop-k-preserved : goal.loop-k-preserved
loop-k-preserved c =
    let l = c.loop-k in
    let w = c.args.image.now in
    let m = little c.loop-k.k c.capacity-room.result (omega arith) c.capacity-room.ensures.1 in
    let within : capacity w (l.k + 1) ≤ get_or mosts l.k 0 = rw (c.wide.ensures.0, c.capacity-room.ensures.0) at c.if-wide-room.false in
    let held : count w (l.k + 1) ≤ capacity w (l.k + 1) = rw (c.capacity-room.ensures.0, c.count.ensures.0) at c.if-room-count.false in
    let on = goes_on w l.k l.at (omega arith) (sym c.offset.ensures.0 ∙ c.if-offset-at.false) within held in
    (omega arith, omega arith, rw c.capacity-room.ensures.0 (sym on ∙ l.invariant.2))

pub returns : goal.returns
returns c =
    let l = c.loop-k in
    let w = c.args.image.now in
    let e : regions_many ≡ l.k = omega arith in
    sym (at_end w l.at) ∙ ap (λ (k : ℕ). tests_from w k l.at) e ∙ l.invariant.2

-- `pop`: takes the last record of a region off, and its words with it.
use native.Mathlib.Omega.{arith}
use Rattle.writes.proofs.Growing.{last_inside, last_end, removed_is}
use Rattle.writes.proofs.Places.{become}
use Rattle.writes.proofs.pop.Goals as goal

pub overflow_mul-at : goal.overflow_mul-at
overflow_mul-at g c =
    let r = g.met.R.Region in
    omega (arith, last_inside (r.lies _ c.requires.laid) (r.counted _) c.start.ensures c.WIDTH.ensures c.records-n.ensures c.wide.ensures c.requires.nonzero)

pub overflow_add-at : goal.overflow_add-at
overflow_add-at g c =
    let r = g.met.R.Region in
    omega (arith, last_inside (r.lies _ c.requires.laid) (r.counted _) c.start.ensures c.WIDTH.ensures c.records-n.ensures c.wide.ensures c.requires.nonzero)

pub overflow_add-at-2 : goal.overflow_add-at-2
overflow_add-at-2 g c =
    let r = g.met.R.Region in
    omega (arith, c.WIDTH.ensures, c.WIDTH-2.ensures, last_inside (r.lies _ c.requires.laid) (r.counted _) c.start.ensures c.WIDTH.ensures c.records-n.ensures c.wide.ensures c.requires.nonzero)

pub offset_bounds-image-at : goal.offset_bounds-image-at
offset_bounds-image-at g c =
    let r = g.met.R.Region in
    omega (arith, c.WIDTH.ensures, c.WIDTH-2.ensures, last_inside (r.lies _ c.requires.laid) (r.counted _) c.start.ensures c.WIDTH.ensures c.records-n.ensures c.wide.ensures c.requires.nonzero)

pub slice_bounds-fill-end : goal.slice_bounds-fill-end
slice_bounds-fill-end g c =
    let r = g.met.R.Region in
    last_end (r.lies _ c.requires.laid) (r.counted _) c.start.ensures c.WIDTH.ensures c.records-n.ensures c.wide.ensures c.requires.nonzero c.WIDTH-2.ensures

pub returns : goal.returns
returns g c = λ state s.
    let r = g.met.R.Region in
    become (removed_is (r.lies _ c.requires.laid) (r.counted _) c.start.ensures c.WIDTH.ensures c.records-n.ensures _ _ _ c.wide.ensures c.requires.nonzero c.WIDTH-2.ensures c.NUMBER.ensures (c.fill.ensures.after (λ y e. e)))
    (g.met.R.Grows.shrunk state _ s c.requires.nonzero)

-- `word`: word j of record i of a region.
use native.Mathlib.Omega.{arith}
use Rattle.image.proofs.Reach.{word_inside}
use Rattle.image.proofs.regions.word.Goals as goal

pub overflow_mul-result : goal.overflow_mul-result
overflow_mul-result g c =
    let r = g.met.R.Region in
    omega (arith, word_inside (r.lies _ c.requires.laid) _ _ (rw (r.counted c.args.image.now) at c.requires.i_in_bounds) c.requires.j_in_width c.start.ensures c.WIDTH.ensures c.wide.ensures)

pub overflow_add-result : goal.overflow_add-result
overflow_add-result g c =
    let r = g.met.R.Region in
    omega (arith, word_inside (r.lies _ c.requires.laid) _ _ (rw (r.counted c.args.image.now) at c.requires.i_in_bounds) c.requires.j_in_width c.start.ensures c.WIDTH.ensures c.wide.ensures)

pub overflow_add-result-2 : goal.overflow_add-result-2
overflow_add-result-2 g c =
    let r = g.met.R.Region in
    omega (arith, word_inside (r.lies _ c.requires.laid) _ _ (rw (r.counted c.args.image.now) at c.requires.i_in_bounds) c.requires.j_in_width c.start.ensures c.WIDTH.ensures c.wide.ensures)

pub offset_bounds-image-start : goal.offset_bounds-image-start
offset_bounds-image-start g c =
    let r = g.met.R.Region in
    omega (arith, word_inside (r.lies _ c.requires.laid) _ _ (rw (r.counted c.args.image.now) at c.requires.i_in_bounds) c.requires.j_in_width c.start.ensures c.WIDTH.ensures c.wide.ensures)

pub bounds-image-start : goal.bounds-image-start
bounds-image-start g c =
    let r = g.met.R.Region in
    omega (arith, word_inside (r.lies _ c.requires.laid) _ _ (rw (r.counted c.args.image.now) at c.requires.i_in_bounds) c.requires.j_in_width c.start.ensures c.WIDTH.ensures c.wide.ensures)

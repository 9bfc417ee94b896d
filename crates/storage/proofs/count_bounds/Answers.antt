-- `count_bounds`: how many bounds v has on a side, among the first n records.
use native.Mathlib.Omega.{arith}
use Rattle.image.specs.Shown.{bounds_all}
use Rattle.storage.proofs.Scan.{count_step, count_done}
use Rattle.storage.proofs.count_bounds.Goals as goal

pub loop-i-preserved : goal.loop-i-preserved
loop-i-preserved c =
    let l = c.loop-i in
    let bs = bounds_all c.args.image.now in
    (omega arith, omega arith, rw (c.bit-found.ensures.0, c.belongs.ensures) (count_step c.args.v c.args.side bs l.i (omega (arith, c.requires.n_value)) l.found l.invariant.2))

pub returns : goal.returns
returns c =
    let l = c.loop-i in
    count_done c.args.v c.args.side (bounds_all c.args.image.now) l.i l.found (omega (arith, c.requires.n_value)) l.invariant.2

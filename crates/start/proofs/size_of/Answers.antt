-- `size_of`: the words counted so far leave those of the regions that are left.
use native.Mathlib.Omega.{arith}
use Rattle.start.proofs.Sizes.{size_on}
use Rattle.start.proofs.size_of.Goals as goal

pub overflow_add-at : goal.overflow_add-at
overflow_add-at c =
    let on = size_on c.args.sizes.now c.requires.sizes_len c.loop-k.k (omega arith) c.loop-k.at c.wide.result c.wide.ensures c.requires.t c.loop-k.invariant.1 in
    omega (arith, on.within)

pub loop-k-preserved : goal.loop-k-preserved
loop-k-preserved c =
    let on = size_on c.args.sizes.now c.requires.sizes_len c.loop-k.k (omega arith) c.loop-k.at c.wide.result c.wide.ensures c.requires.t c.loop-k.invariant.1 in
    (omega arith, on.next)

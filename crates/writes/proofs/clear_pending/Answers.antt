-- `clear_pending`: takes every pending pair off.
use Rattle.writes.proofs.Pending.{emptying_more, emptying_less, emptying_end}
use Rattle.writes.proofs.Places.{facts}
use Rattle.image.proofs.Laying.{shown_as, shown_laid}
use native.Mathlib.Omega.{arith}
use Rattle.writes.proofs.clear_pending.Goals as goal

pub bounds-image-23 : goal.bounds-image-23
bounds-image-23 c =
    let f = facts c.loop-image.invariant.shows in
    omega arith

pub pop-requires-clause-laid : goal.pop-requires-clause-laid
pop-requires-clause-laid c = shown_laid c.loop-image.invariant.shows

pub pop-requires-clause-nonzero : goal.pop-requires-clause-nonzero
pop-requires-clause-nonzero c =
    let s = shown_as c.loop-image.invariant.shows in
    let f = facts s in
    omega (arith, c.loop-image-test.true)

pub loop-image-smaller : goal.loop-image-smaller
loop-image-smaller c = emptying_less c.loop-image.invariant (c.pop.ensures _ (shown_as c.loop-image.invariant.shows)) c.loop-image-test.true

pub loop-image-preserved : goal.loop-image-preserved
loop-image-preserved c = emptying_more c.loop-image.invariant (c.pop.ensures _ (shown_as c.loop-image.invariant.shows))

pub returns : goal.returns
returns c = emptying_end c.loop-image.invariant c.loop-image-test.false

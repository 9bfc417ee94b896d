-- What the loops of `put_bound_pairs` keep.
use Rattle.step.proofs.BoundPairs.{Paired}
use Rattle.step.proofs.consequences.put_bound_pairs.Given as goal

abbrev pub invariant-loop-i : goal.invariant-loop-i
invariant-loop-i l = Paired l.initial.image l.v l.side l.b l.i l.image

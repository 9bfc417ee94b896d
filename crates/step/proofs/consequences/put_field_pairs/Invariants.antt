-- What the loops of `put_field_pairs` keep.
use Rattle.step.proofs.FieldPairs.{Putting}
use Rattle.step.proofs.consequences.put_field_pairs.Given as goal

abbrev pub invariant-loop-j : goal.invariant-loop-j
invariant-loop-j l = Putting l.initial.image l.a l.fn.b l.j l.image

-- What the loops of `gather` keep.
use Rattle.image.specs.Shown.{fields_in}
use Rattle.constrain.proofs.Gathering.{Going}
use Rattle.constrain.proofs.gather.Given as goal

abbrev pub invariant-loop-j : goal.invariant-loop-j
invariant-loop-j l = Going (fields_in l.image) l.a l.b l.end l.j l.n

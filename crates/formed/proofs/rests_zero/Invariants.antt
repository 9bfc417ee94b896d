-- What the loops of `rests_zero` keep.
use Prim.Native.Nat.{◌≤◌}
use mathlib.Core.Path.{◌≡◌}
use mathlib.Core.Bool.{◌&&◌}
use Rattle.model.specs.Format.{rows, newest}
use Rattle.model.specs.Parts.{rests_zero}
use Rattle.image.proofs.Listed.{rows_many}
use Rattle.formed.proofs.Lying.{zeros_from}
use Rattle.formed.proofs.rests_zero.Given as goal

abbrev pub invariant-loop-k : goal.invariant-loop-k
invariant-loop-k l = (l.k ≤ rows_many) × ((l.ok && zeros_from l.image l.k) ≡ rests_zero (rows newest) 1 l.image)

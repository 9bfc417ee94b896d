-- What the loops of `size_of` keep.
use Prim.Native.Nat.{◌+◌, ◌-◌, ◌≤◌}
use mathlib.Core.Path.{◌≡◌}
use Rattle.image.proofs.Listed.{regions_many}
use Rattle.start.proofs.Sizes.{size_from, size_all}
use Rattle.start.proofs.size_of.Given as goal

abbrev pub invariant-loop-k : goal.invariant-loop-k
invariant-loop-k l = (l.k ≤ regions_many) × (l.at + size_from l.k l.sizes ≡ size_all l.sizes)

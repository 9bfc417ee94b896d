-- What the loops of `below` keep, and why they end.
use Prim.Native.Nat.{◌≤◌}
use mathlib.Core.Path.{◌≡◌}
use lib.ListN.{length, take}
use lib.Dec.{ltb}
use Rattle.model.specs.Lists.{all}
use Rattle.formed.proofs.below.Given as goal

abbrev pub invariant-loop-w : goal.invariant-loop-w
invariant-loop-w l = (l.w-index ≤ length l.part) × (l.ok ≡ all (λ w. ltb w l.limit) (take l.w-index l.part))

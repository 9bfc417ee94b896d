-- What the loops of `zeros` keep, and why they end.
use Prim.Native.Nat.{◌≤◌}
use mathlib.Core.Path.{◌≡◌}
use lib.ListN.{length, take}
use Rattle.model.specs.Lists.{is_zero, all}
use Rattle.formed.proofs.zeros.Given as goal

abbrev pub invariant-loop-w : goal.invariant-loop-w
invariant-loop-w l = (l.w-index ≤ length l.part) × (l.ok ≡ all is_zero (take l.w-index l.part))

-- What the loops of `all_small` keep.
use Prim.Native.Nat.{◌-◌, ◌≤◌}
use mathlib.Core.Path.{◌≡◌}
use mathlib.Core.Bool.{◌&&◌}
use Rattle.model.specs.Format.{regions, newest}
use Rattle.model.specs.Calls.{all_small}
use Rattle.image.proofs.Listed.{regions_many}
use Rattle.start.proofs.Sizes.{small_from}
use Rattle.start.proofs.all_small.Given as goal

abbrev pub invariant-loop-k : goal.invariant-loop-k
invariant-loop-k l = (l.k ≤ regions_many) × ((l.ok && small_from l.k l.sizes) ≡ all_small (regions newest) l.sizes)

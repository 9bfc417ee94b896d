-- What the loops of `entries_right` keep.
use Prim.Native.Nat.{◌≤◌}
use mathlib.Core.Path.{◌≡◌}
use lib.ListN.{take}
use Rattle.model.specs.Lists.{all_from}
use Rattle.image.specs.Shown.{entries_of}
use Rattle.formed.specs.Grouped.{entry_right_in}
use Rattle.formed.proofs.entries.entries_right.Given as goal

abbrev pub invariant-loop-i : goal.invariant-loop-i
invariant-loop-i l = (l.i ≤ l.n) × (l.ok ≡ all_from (entry_right_in l.image) 0 (take l.i (entries_of l.image)))

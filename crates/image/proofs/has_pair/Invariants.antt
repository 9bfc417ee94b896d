-- What the loops of `has_pair` keep.
use Rattle.model.specs.Rules.{same_pair}
use Rattle.model.specs.Image.{visited_of}
use Rattle.model.specs.Table.{◌⊑◌}
use Rattle.model.specs.Lists.{any, read_many}
use mathlib.Core.Bool.{false}
use lib.ListN.{drop}
use Prim.Native.Nat.{◌≤◌}
use mathlib.Core.Path.{◌≡◌}
use Rattle.image.proofs.has_pair.Given as goal

abbrev pub invariant-loop-i : goal.invariant-loop-i
invariant-loop-i l = (l.i ≤ l.n) × (any (same_pair (l.a ⊑ l.b)) (read_many visited_of (drop 2) l.i l.region) ≡ false)

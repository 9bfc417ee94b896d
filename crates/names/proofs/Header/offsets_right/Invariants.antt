-- What the loop of `Header::offsets_right` keeps.
use mathlib.Core.Path.{◌≡◌}
use mathlib.Core.Bool.{true}
use Rattle.names.specs.Names.{all_below, rises_at, short_at}
use Rattle.names.proofs.Header.offsets_right.Given as goal

abbrev pub invariant-loop-i : goal.invariant-loop-i
invariant-loop-i l = (all_below (rises_at l.self.list.now) l.i ≡ true) × (all_below (short_at l.self.list.now) l.i ≡ true)

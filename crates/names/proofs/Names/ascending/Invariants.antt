-- What the loop of `Names::ascending` keeps.
use Prim.Native.Nat.{◌≤◌, ◌-◌}
use mathlib.Core.Path.{◌≡◌}
use mathlib.Core.Bool.{true}
use Rattle.names.specs.Names.{name_count, all_below, ascends_at}
use Rattle.names.proofs.Names.ascending.Given as goal

abbrev pub invariant-loop-i : goal.invariant-loop-i
invariant-loop-i l = (l.i - 1 ≤ name_count l.self.header.list.now - 1) × (all_below (ascends_at l.self.header.list.now) (l.i - 1) ≡ true)

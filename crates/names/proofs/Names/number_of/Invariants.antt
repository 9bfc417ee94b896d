-- What the loop of `Names::number_of` keeps.
use mathlib.Core.Path.{◌≡◌}
use mathlib.Core.List.{[]}
use Rattle.names.specs.Names.{first_below, has_bytes}
use Rattle.names.proofs.Names.number_of.Given as goal

abbrev pub invariant-loop-i : goal.invariant-loop-i
invariant-loop-i l = first_below (has_bytes l.self.header.list.now l.bytes) l.i ≡ []

-- What the loop of `compare_parts` keeps.
use mathlib.Core.Path.{◌≡◌}
use lib.ListN.{drop}
use Rattle.names.specs.Names.{compare_names}
use Rattle.names.proofs.compare_parts.Given as goal

abbrev pub invariant-loop-i : goal.invariant-loop-i
invariant-loop-i l = compare_names l.a l.b ≡ compare_names (drop l.i l.a) (drop l.i l.b)

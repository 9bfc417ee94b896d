-- What the loop of `put_row` keeps.
use mathlib.Core.Path.{◌≡◌}
use lib.ListN.{length, take}
use lib.Seq.{sets}
use Rattle.writes.proofs.put_row.Given as goal

abbrev pub invariant-loop-i : goal.invariant-loop-i
invariant-loop-i l = (l.region ≡ sets l.initial.region l.start (take l.i l.row)) × (length l.region ≡ length l.initial.region)

-- `put_row`: a record's words, one after the other.
use native.Mathlib.Omega.{arith}
use lib.ListN.{length-set}
use Rattle.writes.proofs.Runs.{sets_next}
use Rattle.writes.proofs.put_row.Goals as goal

pub loop-i-preserved : goal.loop-i-preserved
loop-i-preserved c =
    let a = c.args in
    let l = c.loop-i in
    (rw l.invariant.0 (sets_next a.region.now a.row.now a.start l.i (omega arith)), simp length-set l.invariant.1)

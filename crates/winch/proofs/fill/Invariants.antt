-- What was read is within the bytes, and the bytes left grow fewer.
use Rattle.std.proofs.Common.{◌-◌, ◌≤◌, length}
use Rattle.winch.proofs.fill.Given as goal

abbrev pub invariant-loop-size : goal.invariant-loop-size
invariant-loop-size g l = l.size ≤ length l.initial.bytes

abbrev pub decreases-loop-size : goal.decreases-loop-size
decreases-loop-size g l = length l.initial.bytes - l.size

-- What the loops of `instalment` keep, and why they end.
use Prim.Native.Nat.{◌-◌}
use mathlib.Core.Path.{◌≡◌}
use lib.ListN.{length}
use Rattle.questions.proofs.Working.{Running}
use Rattle.questions.proofs.instalment.Given as goal

abbrev pub invariant-loop-budget : goal.invariant-loop-budget
invariant-loop-budget l = Running l.initial.image l.budget l.steps l.image × (length l.image ≡ length l.initial.image)

abbrev pub decreases-loop-budget : goal.decreases-loop-budget
decreases-loop-budget l = l.budget - l.steps

-- No more are refused than were tried.
use Rattle.std.proofs.Common.{◌≤◌}
use Rattle.calls_test.proofs.changed_words.Trials.count_random.Given as goal

abbrev pub invariant-loop : goal.invariant-loop
invariant-loop g l = l.refused ≤ l.counter

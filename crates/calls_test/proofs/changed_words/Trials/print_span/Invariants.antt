-- No more are refused than were tried.
use Rattle.std.proofs.Common.{◌-◌, ◌≤◌}
use Rattle.calls_test.proofs.changed_words.Trials.print_span.Given as goal

abbrev pub invariant-loop-at : goal.invariant-loop-at
invariant-loop-at g l = l.refused ≤ l.at-counter - l.span.from

-- The loop's invariant: no entry before i is too deep.
use native.Mathlib.Omega.{arith}
use mathlib.Core.Path.{sym}
use Rattle.step.proofs.Settling.{shallow_old, deep_none, deep_hit}
use Rattle.step.proofs.is_deep.Goals as goal

pub loop-i-init : goal.loop-i-init
loop-i-init c = (c.requires.in_bounds, shallow_old _ _ c.requires.in_bounds c.requires.shallow)

pub returns-then-word-gt-SPREAD_MOST : goal.returns-then-word-gt-SPREAD_MOST
returns-then-word-gt-SPREAD_MOST c = sym (deep_hit _ _ _ _ c.records-i-end.ensures c.loop-i-test.true c.word.ensures c.if-word-gt-SPREAD_MOST.true)

pub returns : goal.returns
returns c = sym (deep_none _ _ c.loop-i.invariant.1 (omega (arith, c.records-i-end.ensures, c.loop-i-test.false)))

-- `has_bound`: whether b is among the bounds of v on a side, of the first n records.
use native.Mathlib.Omega.{arith}
use mathlib.Core.Path.{sym, ◌∙◌}
use Rattle.image.specs.Shown.{bounds_all}
use Rattle.storage.proofs.Scan.{seek_hit, seek_miss, seek_done}
use Rattle.storage.proofs.has_bound.Goals as goal

pub returns-then-is_bound : goal.returns-then-is_bound
returns-then-is_bound c =
    let l = c.loop-i in
    seek_hit c.args.v c.args.side (bounds_all c.args.image.now) l.i (omega (arith, c.requires.n_value)) c.args.b (sym c.is_bound.ensures ∙ c.if-is_bound.true) l.invariant.1

pub loop-i-preserved : goal.loop-i-preserved
loop-i-preserved c =
    let l = c.loop-i in
    (omega arith, seek_miss c.args.v c.args.side (bounds_all c.args.image.now) l.i (omega (arith, c.requires.n_value)) c.args.b (sym c.is_bound.ensures ∙ c.if-is_bound.false) l.invariant.1)

pub returns : goal.returns
returns c =
    let l = c.loop-i in
    seek_done c.args.v c.args.side c.args.b (bounds_all c.args.image.now) l.i (omega (arith, c.requires.n_value)) l.invariant.1

-- `compare_parts` meets its contract: the first bytes that differ decide, and else what follows them. Assumes nothing.
use mathlib.Core.Path.{◌≡◌, sym, ◌∙◌}
use borrow.Author.Rules.{rules}
use Rattle.std.proofs.lemmas.List.{take_rest}
use Rattle.names.proofs.Comparing.{differ, agree}
use Rattle.names.proofs.compare_parts.Goals as goal

pub returns-then-a-i : goal.returns-then-a-i
returns-then-a-i c = rw c.cmp.ensures (differ c.args.a.now c.args.b.now c.loop-i.i c.loop-i.invariant (search rules) (search rules) c.if-a-i.true)

pub loop-i-preserved : goal.loop-i-preserved
loop-i-preserved c = agree c.args.a.now c.args.b.now c.loop-i.i c.loop-i.invariant (search rules) (search rules) c.if-a-i.false

pub returns : goal.returns
returns c =
    let s = c.args in
    let e : c.loop-i.i ≡ c.min-near.result = search rules in
    c.compare_groups.ensures ∙ rw (take_rest s.a.now c.min-near.result, take_rest s.b.now c.min-near.result, ← e) (sym c.loop-i.invariant)

-- `names::Names::ascending` meets its contract. The loop's invariant: each of the first i names but the last comes before the next.
-- Assumes nothing.
use Prim.Native.Nat.{◌+◌, ◌-◌, ◌≤◌}
use native.Mathlib.Omega.{arith}
use mathlib.Core.Path.{◌≡◌, sym}
use mathlib.Core.Bool.{true, false}
use Rattle.names.specs.Names.{name_count, ascends_at}
use Rattle.names.proofs.All.{all_none, all_more, all_miss}
use Rattle.names.proofs.Comparing.{order_tells}
use borrow.Author.Rules.{rules}
use Rattle.names.proofs.Names.ascending.Goals as goal

pub loop-i-init : goal.loop-i-init
loop-i-init c = (omega arith, all_none _)

pub returns-then-is_ge : goal.returns-then-is_ge
returns-then-is_ge c =
    let bs = c.args.self.now.header.list.now in
    let i = c.loop-i.i in
    let falls : ascends_at bs (i - 1) ≡ false =
    order_tells bs _ _ i c.compare_parts.result true (search rules) c.name.ensures.bytes c.name-in-loop-i.ensures.bytes c.compare_parts.ensures (search rules) in
    sym (all_miss (ascends_at bs) (i - 1) (name_count bs - 1) (search rules) falls)

pub loop-i-preserved : goal.loop-i-preserved
loop-i-preserved c =
    let bs = c.args.self.now.header.list.now in
    let i = c.loop-i.i in
    let rises : ascends_at bs (i - 1) ≡ true =
    order_tells bs _ _ i c.compare_parts.result false (search rules) c.name.ensures.bytes c.name-in-loop-i.ensures.bytes c.compare_parts.ensures (search rules) in
    let low : 1 ≤ i = search rules in
    let next : i - 1 + 1 ≡ i + 1 - 1 = omega arith in
    (search rules, rw (← next) (all_more (ascends_at bs) (i - 1) c.loop-i.invariant.1 rises))

-- `has_pair`: whether the pair (a, b) is among the first n of a region that is lent from its offset on.
use Rattle.image.proofs.Searching.{miss, hit, is_same, is_other}
use Rattle.model.specs.Rules.{same_pair}
use Rattle.model.specs.Image.{visited_of}
use Rattle.model.specs.Table.{◌⊑◌}
use Rattle.model.specs.Lists.{any, read_many}
use borrow.Author.Rules.{rules}
use Prim.Native.Nat.{◌*◌}
use mathlib.Core.Path.{refl, sym}
use native.Mathlib.Omega.{arith}
use Rattle.image.proofs.has_pair.Goals as goal

pub loop-i-init : goal.loop-i-init
unfolding any read_many
loop-i-init c = (search rules, refl)

pub returns-then-join-key : goal.returns-then-join-key
returns-then-join-key c =
    let a = c.args in
    let l = a.region.now in
    let i = c.loop-i.i in
    let x = c.type_inv.region (2 * i) in
    let e = is_same l i a.a a.b (omega (arith, x)) (omega arith) _ _ c.join.ensures c.join-key.ensures c.if-join-key.true in
    sym (hit visited_of 2 (same_pair (a.a ⊑ a.b)) l i a.n (search rules) e)

pub loop-i-preserved : goal.loop-i-preserved
loop-i-preserved c =
    let a = c.args in
    let l = a.region.now in
    let i = c.loop-i.i in
    let x = c.type_inv.region (2 * i) in
    let e = is_other l i a.a a.b (omega (arith, x)) (omega arith) _ _ c.join.ensures c.join-key.ensures c.if-join-key.false in
    (search rules, miss visited_of 2 (same_pair (a.a ⊑ a.b)) l i c.loop-i.invariant.1 e)

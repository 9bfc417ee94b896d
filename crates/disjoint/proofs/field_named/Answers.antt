-- The loop's invariant: the answer among all the records is that among those from i on.
use native.Mathlib.Omega.{arith}
use mathlib.Core.Path.{sym, ◌∙◌}
use Rattle.disjoint.proofs.Fields.{fields_few, from_first, hit, skip, gone}
use Rattle.disjoint.proofs.field_named.Goals as goal

pub overflow_add-end : goal.overflow_add-end
overflow_add-end c = omega (arith, fields_few c.args.image.now c.requires.laid)

pub loop-i-init : goal.loop-i-init
loop-i-init c = (omega arith, c.requires.count_in_bounds, from_first _ _ _ _)

pub returns-then-word-name : goal.returns-then-word-name
returns-then-word-name c =
    let l = c.loop-i in
    sym (l.invariant.2 ∙ hit _ _ _ _ c.loop-i-test.true l.invariant.1 (sym c.word.ensures ∙ c.if-word-name.true))

pub loop-i-preserved : goal.loop-i-preserved
loop-i-preserved c =
    let l = c.loop-i in
    (omega arith, l.invariant.1, l.invariant.2 ∙ skip _ _ _ _ c.loop-i-test.true l.invariant.1 (λ q. c.if-word-name.false (c.word.ensures ∙ q)))

pub returns : goal.returns
returns c = sym (c.loop-i.invariant.2 ∙ gone _ _ _ _ c.loop-i-test.false)

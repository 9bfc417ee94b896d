-- The loop's invariant: some field from the first on is lacking just if some field from j on is.
use native.Mathlib.Omega.{arith}
use mathlib.Core.Path.{sym, ◌∙◌}
use Rattle.disjoint.proofs.Fields.{fields_few, stop, go_on, nothing}
use Rattle.disjoint.proofs.Shapes.{lacks_from}
use Rattle.disjoint.proofs.lacks_some.Goals as goal

pub overflow_add-end : goal.overflow_add-end
overflow_add-end c = omega (arith, fields_few c.args.image.now c.requires.laid)

pub returns-then-lacks_field : goal.returns-then-lacks_field
returns-then-lacks_field c =
    let l = c.loop-j in
    sym (lacks_from _ _ _ ∙ (l.invariant.2 ∙ stop _ _ _ _ c.loop-j-test.true l.invariant.1 (sym c.lacks_field.ensures ∙ c.if-lacks_field.true)))

pub loop-j-preserved : goal.loop-j-preserved
loop-j-preserved c =
    let l = c.loop-j in
    (omega arith, l.invariant.1, l.invariant.2 ∙ go_on _ _ _ _ c.loop-j-test.true l.invariant.1 (sym c.lacks_field.ensures ∙ c.if-lacks_field.false))

pub returns : goal.returns
returns c = sym (lacks_from _ _ _ ∙ (c.loop-j.invariant.2 ∙ nothing _ _ _ _ c.loop-j-test.false))

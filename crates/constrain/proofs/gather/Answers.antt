-- The loop's invariant is `Going`: nothing is missing before field j, and n pairs were seen.
use Prim.Native.Nat.{ℕ, ◌+◌}
use native.Mathlib.Omega.{arith}
use mathlib.Core.Path.{sym, ap, ◌∙◌}
use Rattle.disjoint.proofs.Fields.{fields_few}
use Rattle.constrain.specs.declared.Next.TheVariants.{Missing}
use Rattle.constrain.proofs.Gathering.{going_start, going_under, going_nothing, going_missing, going_end}
use Rattle.constrain.proofs.gather.Goals.{in-Under, in-Nothing}
use Rattle.constrain.proofs.gather.Goals as goal

pub overflow_add-end : goal.overflow_add-end
overflow_add-end c = omega (arith, fields_few c.args.image.now c.requires.laid)

pub loop-j-init : goal.loop-j-init
loop-j-init c = going_start _ _ _ c.requires.inside_2

pub overflow_add-count : goal.overflow_add-count
overflow_add-count c = omega (arith, c.loop-j.invariant.few, c.loop-j.invariant.inside, c.loop-j.invariant.there, c.both_dynamic.ensures.1, fields_few c.args.image.now c.requires.laid)

pub returns : goal.returns
returns c = going_end c.loop-j.invariant c.loop-j-test.false (ap (λ (k : ℕ). c.loop-j.n + k) c.both_dynamic.ensures.0)

pub returns-in-Missing : goal.returns-in-Missing
returns-in-Missing c =
    ap Missing c.word.ensures
    ∙ going_missing c.loop-j.invariant c.loop-j-test.true (sym c.asks-ask.ensures ∙ c.in-Missing.is)

pub loop-j-preserved : goal.loop-j-preserved
loop-j-preserved c =
    let g = c.loop-j.invariant in
    let t = c.loop-j-test.true in
    elim c.match-ask.branch [
      | in-Under w ↦ rw w.n-is (going_under g t (sym c.asks-ask.ensures ∙ w.in-Under.is))
      | in-Nothing w ↦ rw w.n-is (going_nothing g t (sym c.asks-ask.ensures ∙ w.in-Nothing.is))
    ]

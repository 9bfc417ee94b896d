-- `is_concrete_compatible`: whether entry sub could be under entry target.
use mathlib.Core.Path.{sym, ◌∙◌}
use Rattle.disjoint.proofs.Shapes.{same_kind, to_named, to_lambda, to_other}
use Rattle.disjoint.proofs.is_concrete_compatible.Goals as goal

pub returns-then-word-kind : goal.returns-then-word-kind
returns-then-word-kind c = same_kind _ _ _ (sym c.word.ensures ∙ c.if-word-kind.true ∙ c.word-kind.ensures)

pub returns-then-kind-eq-NAMED : goal.returns-then-kind-eq-NAMED
returns-then-kind-eq-NAMED c = to_named _ _ _ (λ q. c.if-word-kind.false (c.word.ensures ∙ q ∙ sym c.word-kind.ensures)) (sym c.word-kind.ensures ∙ c.if-kind-eq-NAMED.true)

pub returns-then-kind-eq-LAMBDA : goal.returns-then-kind-eq-LAMBDA
returns-then-kind-eq-LAMBDA c =
    c.has_functor.ensures
    ∙ to_lambda _ _ _ (λ q. c.if-word-kind.false (c.word.ensures ∙ q ∙ sym c.word-kind.ensures)) (sym c.word-kind.ensures ∙ c.if-kind-eq-LAMBDA.true)

pub returns : goal.returns
returns c =
    let e = c.word-kind.ensures in
    to_other _ _ _ (λ q. c.if-word-kind.false (c.word.ensures ∙ q ∙ sym e)) (λ q. c.if-kind-eq-NAMED.false (e ∙ q)) (λ q. c.if-kind-eq-LAMBDA.false (e ∙ q))

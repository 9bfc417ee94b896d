-- `negate`: makes Neg(n), entry by entry, as far as there is room.
use native.Mathlib.Omega.{arith}
use Rattle.image.proofs.Laying.{shown_laid}
use Rattle.type_table.proofs.Negating.{parts, cached_back, twice_back, fresh_back, pre_one, fail_one, done_one, fail_two, done_two, done_both, kind_low}
use Rattle.type_table.proofs.+negate.Goals as goal

pub word-cached-requires-clause-laid : goal.word-cached-requires-clause-laid
word-cached-requires-clause-laid t c = shown_laid c.requires.shows

pub word-kind-requires-clause-laid : goal.word-kind-requires-clause-laid
word-kind-requires-clause-laid t c = shown_laid c.requires.shows

pub word-spread-requires-clause-laid : goal.word-spread-requires-clause-laid
word-spread-requires-clause-laid t c = shown_laid c.requires.shows

pub word-x-requires-clause-laid : goal.word-x-requires-clause-laid
word-x-requires-clause-laid t c = shown_laid c.requires.shows

pub word-y-requires-clause-laid : goal.word-y-requires-clause-laid
word-y-requires-clause-laid t c = shown_laid c.requires.shows

pub returns-then-cached-gt0 : goal.returns-then-cached-gt0
returns-then-cached-gt0 t c = cached_back _ _ c.requires _ c.word-cached.ensures c.if-cached-gt0.true

pub returns-then-kind-lt-NEG : goal.returns-then-kind-lt-NEG
returns-then-kind-lt-NEG t c = fresh_back _ _ c.requires _ _ _ _ _ c.word-cached.ensures c.if-cached-gt0.false c.word-kind.ensures c.if-kind-lt-NEG.true c.word-spread.ensures c.add.ensures

pub returns-then-kind-lt-INTER : goal.returns-then-kind-lt-INTER
returns-then-kind-lt-INTER t c = twice_back _ _ c.requires _ _ _ c.word-cached.ensures c.if-cached-gt0.false c.word-kind.ensures c.if-kind-lt-NEG.false c.if-kind-lt-INTER.true c.word-x.ensures

pub negate-requires : goal.negate-requires
negate-requires t c =
    let s = parts _ _ _ _ _ _ c.requires c.word-cached.ensures c.if-cached-gt0.false c.word-kind.ensures c.if-kind-lt-INTER.false c.word-x.ensures c.word-y.ensures in
    let q = pre_one _ _ _ _ _ s in
    (omega (arith, q.0, c.decreases), q.1)

pub returns-in_err-p : goal.returns-in_err-p
returns-in_err-p t c =
    let s = parts _ _ _ _ _ _ c.requires c.word-cached.ensures c.if-cached-gt0.false c.word-kind.ensures c.if-kind-lt-INTER.false c.word-x.ensures c.word-y.ensures in
    rw c.from_residual.ensures (fail_one _ _ _ _ _ s _ _ c.negate.ensures c.in_err-p.was)

pub negate-requires-2 : goal.negate-requires-2
negate-requires-2 t c =
    let s = parts _ _ _ _ _ _ c.requires c.word-cached.ensures c.if-cached-gt0.false c.word-kind.ensures c.if-kind-lt-INTER.false c.word-x.ensures c.word-y.ensures in
    let f = done_one _ _ _ _ _ s _ _ _ c.negate.ensures c.in_ok-p.was in
    (omega (arith, f.falls, c.decreases), f.pre)

pub returns-in_err-q : goal.returns-in_err-q
returns-in_err-q t c =
    let s = parts _ _ _ _ _ _ c.requires c.word-cached.ensures c.if-cached-gt0.false c.word-kind.ensures c.if-kind-lt-INTER.false c.word-x.ensures c.word-y.ensures in
    let f = done_one _ _ _ _ _ s _ _ _ c.negate.ensures c.in_ok-p.was in
    rw c.from_residual-in_err-q.ensures (fail_two _ _ _ _ _ s _ _ f _ _ c.negate-2.ensures c.in_err-q.was)

pub word-requires-clause-laid : goal.word-requires-clause-laid
word-requires-clause-laid t c =
    let s = parts _ _ _ _ _ _ c.requires c.word-cached.ensures c.if-cached-gt0.false c.word-kind.ensures c.if-kind-lt-INTER.false c.word-x.ensures c.word-y.ensures in
    let f = done_one _ _ _ _ _ s _ _ _ c.negate.ensures c.in_ok-p.was in
    let g = done_two _ _ _ _ _ s _ _ f _ _ _ c.negate-2.ensures c.in_ok-q.was in
    shown_laid g.self

pub word-requires-clause-i_in_bounds : goal.word-requires-clause-i_in_bounds
word-requires-clause-i_in_bounds t c =
    let s = parts _ _ _ _ _ _ c.requires c.word-cached.ensures c.if-cached-gt0.false c.word-kind.ensures c.if-kind-lt-INTER.false c.word-x.ensures c.word-y.ensures in
    let f = done_one _ _ _ _ _ s _ _ _ c.negate.ensures c.in_ok-p.was in
    let g = done_two _ _ _ _ _ s _ _ f _ _ _ c.negate-2.ensures c.in_ok-q.was in
    g.in_p

pub overflow_add-spread-2 : goal.overflow_add-spread-2
overflow_add-spread-2 t c =
    let s = parts _ _ _ _ _ _ c.requires c.word-cached.ensures c.if-cached-gt0.false c.word-kind.ensures c.if-kind-lt-INTER.false c.word-x.ensures c.word-y.ensures in
    let f = done_one _ _ _ _ _ s _ _ _ c.negate.ensures c.in_ok-p.was in
    let g = done_two _ _ _ _ _ s _ _ f _ _ _ c.negate-2.ensures c.in_ok-q.was in
    omega (arith, c.word.ensures, g.low_p)

pub word-requires-2-clause-laid : goal.word-requires-2-clause-laid
word-requires-2-clause-laid t c =
    let s = parts _ _ _ _ _ _ c.requires c.word-cached.ensures c.if-cached-gt0.false c.word-kind.ensures c.if-kind-lt-INTER.false c.word-x.ensures c.word-y.ensures in
    let f = done_one _ _ _ _ _ s _ _ _ c.negate.ensures c.in_ok-p.was in
    let g = done_two _ _ _ _ _ s _ _ f _ _ _ c.negate-2.ensures c.in_ok-q.was in
    shown_laid g.self

pub word-requires-2-clause-i_in_bounds : goal.word-requires-2-clause-i_in_bounds
word-requires-2-clause-i_in_bounds t c =
    let s = parts _ _ _ _ _ _ c.requires c.word-cached.ensures c.if-cached-gt0.false c.word-kind.ensures c.if-kind-lt-INTER.false c.word-x.ensures c.word-y.ensures in
    let f = done_one _ _ _ _ _ s _ _ _ c.negate.ensures c.in_ok-p.was in
    let g = done_two _ _ _ _ _ s _ _ f _ _ _ c.negate-2.ensures c.in_ok-q.was in
    g.in_q

pub overflow_add-spread-3 : goal.overflow_add-spread-3
overflow_add-spread-3 t c =
    let s = parts _ _ _ _ _ _ c.requires c.word-cached.ensures c.if-cached-gt0.false c.word-kind.ensures c.if-kind-lt-INTER.false c.word-x.ensures c.word-y.ensures in
    let f = done_one _ _ _ _ _ s _ _ _ c.negate.ensures c.in_ok-p.was in
    let g = done_two _ _ _ _ _ s _ _ f _ _ _ c.negate-2.ensures c.in_ok-q.was in
    omega (arith, c.word.ensures, c.word-2.ensures, g.low_p, g.low_q)

pub overflow_sub-kind : goal.overflow_sub-kind
overflow_sub-kind t c =
    let s = parts _ _ _ _ _ _ c.requires c.word-cached.ensures c.if-cached-gt0.false c.word-kind.ensures c.if-kind-lt-INTER.false c.word-x.ensures c.word-y.ensures in
    omega (arith, kind_low _ _ _ _ _ s)

pub add-requires-2-clause-shown : goal.add-requires-2-clause-shown
add-requires-2-clause-shown t c =
    let s = parts _ _ _ _ _ _ c.requires c.word-cached.ensures c.if-cached-gt0.false c.word-kind.ensures c.if-kind-lt-INTER.false c.word-x.ensures c.word-y.ensures in
    let f = done_one _ _ _ _ _ s _ _ _ c.negate.ensures c.in_ok-p.was in
    let g = done_two _ _ _ _ _ s _ _ f _ _ _ c.negate-2.ensures c.in_ok-q.was in
    g.self

pub add-requires-2-clause-n_in_bounds : goal.add-requires-2-clause-n_in_bounds
add-requires-2-clause-n_in_bounds t c =
    let s = parts _ _ _ _ _ _ c.requires c.word-cached.ensures c.if-cached-gt0.false c.word-kind.ensures c.if-kind-lt-INTER.false c.word-x.ensures c.word-y.ensures in
    let f = done_one _ _ _ _ _ s _ _ _ c.negate.ensures c.in_ok-p.was in
    let g = done_two _ _ _ _ _ s _ _ f _ _ _ c.negate-2.ensures c.in_ok-q.was in
    g.in_n

pub returns : goal.returns
returns t c =
    let s = parts _ _ _ _ _ _ c.requires c.word-cached.ensures c.if-cached-gt0.false c.word-kind.ensures c.if-kind-lt-INTER.false c.word-x.ensures c.word-y.ensures in
    let f = done_one _ _ _ _ _ s _ _ _ c.negate.ensures c.in_ok-p.was in
    let g = done_two _ _ _ _ _ s _ _ f _ _ _ c.negate-2.ensures c.in_ok-q.was in
    done_both _ _ _ _ _ s _ _ _ g _ _ _ _ c.word.ensures c.word-2.ensures c.add-2.ensures

-- `make_neg`: makes Neg(n), or leaves every word as found.
use native.Mathlib.Omega.{arith}
use Rattle.image.proofs.Laying.{formed_laid, shown_laid}
use Rattle.type_table.proofs.Answers.{negatable, full_undo, full_told, made_part, made_undo, deep_told, made_told}
use Rattle.type_table.proofs.make_neg.Goals as goal

pub records-old-requires : goal.records-old-requires
records-old-requires c = formed_laid _ c.requires.t

pub negate-requires : goal.negate-requires
negate-requires c = negatable _ _ c.requires.t c.requires.n_in_bounds

pub undo-requires : goal.undo-requires
undo-requires c =
    let r = full_undo _ _ c.requires.t c.requires.n_in_bounds _ c.records-old.ensures _ _ c.negate.ensures c.in_default.is in
    record { shown = r.0; in_bounds = r.1 }

pub returns-in_default : goal.returns-in_default
returns-in_default c =
    let r = full_told _ _ c.requires.t c.requires.n_in_bounds _ c.records-old.ensures _ _ c.negate.ensures c.in_default.is _ c.undo.ensures in
    record { result_value = r.0; image_after = r.1 }

pub word-requires-clause-laid : goal.word-requires-clause-laid
word-requires-clause-laid c =
    let r = made_part _ _ c.requires.t c.requires.n_in_bounds _ c.records-old.ensures _ _ c.negate.ensures _ c.in-Some.is in
    shown_laid r.0

pub word-requires-clause-i_in_bounds : goal.word-requires-clause-i_in_bounds
word-requires-clause-i_in_bounds c =
    let r = made_part _ _ c.requires.t c.requires.n_in_bounds _ c.records-old.ensures _ _ c.negate.ensures _ c.in-Some.is in
    r.1

pub undo-requires-then-word-gt-SPREAD_MOST : goal.undo-requires-then-word-gt-SPREAD_MOST
undo-requires-then-word-gt-SPREAD_MOST c =
    let r = made_undo _ _ c.requires.t c.requires.n_in_bounds _ c.records-old.ensures _ _ c.negate.ensures _ c.in-Some.is in
    record { shown = r.0; in_bounds = r.1 }

pub returns-then-word-gt-SPREAD_MOST : goal.returns-then-word-gt-SPREAD_MOST
returns-then-word-gt-SPREAD_MOST c =
    let r = deep_told _ _ c.requires.t c.requires.n_in_bounds _ c.records-old.ensures _ _ c.negate.ensures _ c.in-Some.is (omega (arith, c.word.ensures, c.if-word-gt-SPREAD_MOST.true)) _ c.undo-then-word-gt-SPREAD_MOST.ensures in
    record { result_value = r.0; image_after = r.1 }

pub returns : goal.returns
returns c =
    let r = made_told _ _ c.requires.t c.requires.n_in_bounds _ c.records-old.ensures _ _ c.negate.ensures _ c.in-Some.is (omega (arith, c.word.ensures, c.if-word-gt-SPREAD_MOST.false)) in
    record { result_value = r.0; image_after = r.1 }

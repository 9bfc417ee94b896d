-- `entry`: entry i, read out by value.
use native.Mathlib.Omega.{arith}
use Rattle.image.proofs.ReadOut.{read_variable, read_primitive, read_list, read_lambda, read_attrset, read_named, read_neg, read_inter, read_union}
use Rattle.image.proofs.entry.Goals as goal

pub returns-in-0 : goal.returns-in-0
returns-in-0 c = read_variable _ _ c.word-kind.ensures _ c.word-x.ensures c.in-0.is

pub returns-in-1 : goal.returns-in-1
returns-in-1 c = read_primitive _ _ c.word-kind.ensures _ c.word-x.ensures c.in-1.is

pub returns-in-2 : goal.returns-in-2
returns-in-2 c = read_list _ _ c.word-kind.ensures _ c.word-x.ensures c.in-2.is

pub returns-in-3 : goal.returns-in-3
returns-in-3 c = read_lambda _ _ c.word-kind.ensures _ _ c.word-x.ensures c.word-y.ensures c.in-3.is

pub returns-in-4 : goal.returns-in-4
returns-in-4 c = read_attrset _ _ c.word-kind.ensures _ _ c.word-x.ensures c.word-y.ensures _ _ c.word-z.ensures c.word-flags.ensures c.in-4.is _ c.attrset.ensures

pub returns-in-5 : goal.returns-in-5
returns-in-5 c = read_named _ _ c.word-kind.ensures _ _ c.word-x.ensures c.word-y.ensures c.in-5.is

pub returns-in-6 : goal.returns-in-6
returns-in-6 c = read_neg _ _ c.word-kind.ensures _ c.word-x.ensures c.in-6.is

pub returns-in-7 : goal.returns-in-7
returns-in-7 c = read_inter _ _ c.word-kind.ensures _ _ c.word-x.ensures c.word-y.ensures c.in-7.is

pub returns-in_default : goal.returns-in_default
returns-in_default c =
    read_union _ _ c.word-kind.ensures _ _ c.word-x.ensures c.word-y.ensures (λ e. omega arith) (λ e. omega arith) (λ e. omega arith) (λ e. omega arith) (λ e. omega arith) (λ e. omega arith) (λ e. omega arith) (λ e. omega arith)

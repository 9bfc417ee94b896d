-- `formed::entries::own_right` meets its contract. The loop's invariant: the test of all is `ok` and the test of the rest, from `least` on. Assumes nothing.
use native.Mathlib.Omega.{arith}
use borrow.Author.Rules.{rules}
use Rattle.model.specs.Image.{table}
use Rattle.image.specs.Shown.{fields_in}
use Rattle.image.specs.Reading.{fields_count}
use Rattle.formed.proofs.Owned.{own_start, own_step, own_end}
use Rattle.formed.proofs.entries.own_right.Goals as goal

pub loop-k-init : goal.loop-k-init
loop-k-init c =
    let a = c.args in
    (search rules, own_start _ _ (fields_in a.image.now) a.first a.fields)

pub overflow_add-first : goal.overflow_add-first
overflow_add-first c = let n = fields_count c.args.image.now in omega arith

pub overflow_add-first-in-loop-k : goal.overflow_add-first-in-loop-k
overflow_add-first-in-loop-k c = let n = fields_count c.args.image.now in omega arith

pub loop-k-preserved : goal.loop-k-preserved
loop-k-preserved c =
    let a = c.args in
    let l = c.loop-k in
    let h = own_step _ _ (fields_in a.image.now) a.first a.fields c.requires.fields_in_bounds l.ok l.least l.k c.word-name.result c.word-entry.result l.invariant.1 (omega arith) c.word-name.ensures c.word-entry.ensures in
    (search rules, rw (c.wide.ensures.0, c.wide-least.ensures.0) h)

pub returns : goal.returns
unfolding table
returns c =
    let a = c.args in
    let l = c.loop-k in
    own_end _ _ (fields_in a.image.now) a.first a.fields c.requires.fields_in_bounds l.ok l.least l.k l.invariant.1 (omega arith)

-- `formed::entries::entries_right` meets its contract. The loop's invariant: `ok` is the test of the first i entries. Assumes nothing.
use native.Mathlib.Omega.{arith}
use mathlib.Core.Path.{refl, sym, ◌∙◌}
use mathlib.Core.Bool.{◌&&◌}
use borrow.Author.Rules.{rules}
use Rattle.model.specs.Lists.{all_from}
use Rattle.model.specs.Table.{no_entry}
use Rattle.image.specs.Shown.{entries_of}
use Rattle.image.specs.Reading.{entries_count}
use Rattle.formed.specs.Grouped.{entry_right_in}
use Rattle.formed.proofs.Walked.{from_step, from_end}
use Rattle.formed.proofs.entries.entries_right.Goals as goal

pub loop-i-init : goal.loop-i-init
unfolding all_from
loop-i-init c = (search rules, refl)

pub entry_right-ok-requires-clause-i_in_bounds : goal.entry_right-ok-requires-clause-i_in_bounds
entry_right-ok-requires-clause-i_in_bounds c =
    let n = entries_count c.args.image.now in
    omega arith

pub loop-i-preserved : goal.loop-i-preserved
loop-i-preserved c =
    let w = c.args.image.now in
    let n = entries_count w in
    let l = c.loop-i in
    (search rules, (λ j. l.invariant.1 j && c.entry_right-ok.ensures j) ∙ sym (from_step (entry_right_in w) no_entry (entries_of w) l.i (omega arith)))

pub returns : goal.returns
returns c =
    let w = c.args.image.now in
    let n = entries_count w in
    let l = c.loop-i in
    l.invariant.1 ∙ from_end (entry_right_in w) no_entry (entries_of w) l.i (omega arith)

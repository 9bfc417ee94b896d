-- `formed::fields_right` meets its contract. The loop's invariant: `ok` is the test of the first i field records. Assumes nothing.
use native.Mathlib.Omega.{arith}
use mathlib.Core.Path.{refl, sym, ◌∙◌}
use mathlib.Core.Bool.{◌&&◌}
use borrow.Author.Rules.{rules}
use Rattle.model.specs.Lists.{all}
use Rattle.model.specs.Formed.{field_right}
use Rattle.image.specs.Shown.{entries_of, fields_in}
use Rattle.image.specs.Reading.{fields_count}
use Rattle.formed.proofs.Walked.{all_step, all_end}
use Rattle.formed.proofs.fields_right.Goals as goal

pub loop-i-init : goal.loop-i-init
unfolding all
loop-i-init c = (search rules, refl)

pub field_right-ok-requires-clause-i_in_bounds : goal.field_right-ok-requires-clause-i_in_bounds
field_right-ok-requires-clause-i_in_bounds c =
    let n = fields_count c.args.image.now in
    omega arith

pub loop-i-preserved : goal.loop-i-preserved
loop-i-preserved c =
    let w = c.args.image.now in
    let n = fields_count w in
    let l = c.loop-i in
    (search rules, (λ j. l.invariant.1 j && c.field_right-ok.ensures j) ∙ sym (all_step (field_right (entries_of w)) (record { name = 0; entry = 0; optional = 0 }) (fields_in w) l.i (omega arith)))

pub returns : goal.returns
returns c =
    let w = c.args.image.now in
    let n = fields_count w in
    let l = c.loop-i in
    l.invariant.1 ∙ all_end (field_right (entries_of w)) (record { name = 0; entry = 0; optional = 0 }) (fields_in w) l.i (omega arith)

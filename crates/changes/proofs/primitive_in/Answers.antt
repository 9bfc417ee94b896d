-- `primitive_in`: makes a primitive, in a well formed image.
use native.Mathlib.Omega.{arith}
use mathlib.Core.Path.{sym, ◌∙◌}
use lib.Dec.{leb}
use borrow.Author.Tests.{le-leb, lt-leb}
use Rattle.model.specs.Format.{number}
use Rattle.model.specs.Calls.{primitive_turn, new_turn}
use Rattle.image.proofs.Laying.{formed_shown}
use Rattle.model.specs.declared.Refusal.TheVariants.{BadNumber}
use Rattle.turns.proofs.Turning.{busy, idle, stopped, gone_on}
use Rattle.changes.proofs.primitive_in.Goals as goal

pub is_asked-requires : goal.is_asked-requires
is_asked-requires c = formed_shown _ c.requires

pub returns-then-is_asked : goal.returns-then-is_asked
unfolding primitive_turn
returns-then-is_asked c =
    let k = busy c.args.image.now _ (sym c.is_asked.ensures ∙ c.if-is_asked.true) in
    record { result_value = k.says; image_after = k.leaves }

pub returns-then-which-gt-NUMBER : goal.returns-then-which-gt-NUMBER
unfolding primitive_turn
returns-then-which-gt-NUMBER c =
    let w = c.args.image.now in
    let k = idle w _ (sym c.is_asked.ensures ∙ c.if-is_asked.false) (stopped w BadNumber _ (leb c.args.which number) (lt-leb c.args.which number (omega arith))) in
    record { result_value = k.says; image_after = k.leaves }

pub returns : goal.returns
unfolding primitive_turn new_turn
returns c =
    let w = c.args.image.now in
    let k = idle w _ (sym c.is_asked.ensures ∙ c.if-is_asked.false) (gone_on w BadNumber _ (leb c.args.which number) (le-leb c.args.which number (omega arith))
    (record { says = c.make.ensures.result_value; leaves = c.make.ensures.image_after })) in
    record { result_value = k.says; image_after = k.leaves }

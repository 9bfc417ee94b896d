-- `disjoint_in`: tells whether two entries share no value, in a well formed image.
use native.Mathlib.Omega.{arith}
use mathlib.Core.Path.{◌≡◌, sym, ◌∙◌}
use mathlib.Core.Bool.{true, false, ◌&&◌}
use Rattle.model.specs.Table.{entry_at}
use Rattle.model.specs.Formed.{is_entry}
use Rattle.model.specs.Shapes as shapes
use Rattle.model.specs.Calls.{read_disjoint_turn, response_of}
use Rattle.image.specs.Shown.{graph_in, entries_of}
use Rattle.image.proofs.Laying.{formed_laid}
use Rattle.laws.proofs.Formed.{sound_table}
use Rattle.model.specs.declared.Refusal.TheVariants.{BadNumber}
use Rattle.turns.proofs.Turning.{stopped, read_on, two_entries, first_no_entry, second_no_entry}
use Rattle.reads.proofs.disjoint_in.Goals as goal

pub records-requires : goal.records-requires
records-requires c = formed_laid _ c.requires

pub returns-then-records-a : goal.returns-then-records-a
unfolding read_disjoint_turn
returns-then-records-a c =
    let w = c.args.image.now in
    (stopped w BadNumber _ (is_entry (entries_of w) c.args.a && is_entry (entries_of w) c.args.b) (first_no_entry (entries_of w) c.args.a c.args.b (omega (arith, c.records.ensures)))).says

pub records-requires-2 : goal.records-requires-2
records-requires-2 c = formed_laid _ c.requires

pub returns-then-records-b : goal.returns-then-records-b
unfolding read_disjoint_turn
returns-then-records-b c =
    let w = c.args.image.now in
    (stopped w BadNumber _ (is_entry (entries_of w) c.args.a && is_entry (entries_of w) c.args.b) (second_no_entry (entries_of w) c.args.a c.args.b (omega (arith, c.records-2.ensures)))).says

pub are_types_disjoint-requires-clause-laid : goal.are_types_disjoint-requires-clause-laid
are_types_disjoint-requires-clause-laid c = formed_laid _ c.requires

pub are_types_disjoint-requires-clause-good : goal.are_types_disjoint-requires-clause-good
are_types_disjoint-requires-clause-good c = (sound_table _ c.requires).store.good

pub returns-then-are_types_disjoint : goal.returns-then-are_types_disjoint
unfolding read_disjoint_turn response_of
returns-then-are_types_disjoint c =
    let w = c.args.image.now in
    let e : shapes.disjoint (graph_in w) (entry_at (entries_of w) c.args.a) (entry_at (entries_of w) c.args.b) ≡ true = sym c.are_types_disjoint.ensures ∙ c.if-are_types_disjoint.true in
    read_on w BadNumber _ (is_entry (entries_of w) c.args.a && is_entry (entries_of w) c.args.b)
    (two_entries (entries_of w) c.args.a c.args.b (omega (arith, c.records.ensures)) (omega (arith, c.records-2.ensures)))
    (rw e)

pub returns-else-are_types_disjoint : goal.returns-else-are_types_disjoint
unfolding read_disjoint_turn response_of
returns-else-are_types_disjoint c =
    let w = c.args.image.now in
    let e : shapes.disjoint (graph_in w) (entry_at (entries_of w) c.args.a) (entry_at (entries_of w) c.args.b) ≡ false = sym c.are_types_disjoint.ensures ∙ c.if-are_types_disjoint.false in
    read_on w BadNumber _ (is_entry (entries_of w) c.args.a && is_entry (entries_of w) c.args.b)
    (two_entries (entries_of w) c.args.a c.args.b (omega (arith, c.records.ensures)) (omega (arith, c.records-2.ensures)))
    (rw e)

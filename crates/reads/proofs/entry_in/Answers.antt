-- `entry_in`: reads an entry out, in a well formed image.
use native.Mathlib.Omega.{arith}
use mathlib.Core.Path.{ap}
use Rattle.model.specs.Formed.{is_entry}
use Rattle.model.specs.Calls.{read_entry_turn, response_of}
use Rattle.model.specs.Told.{done, told_entry}
use Rattle.model.specs.declared.Entry.{Entry as EntryOut}
use Rattle.image.specs.Shown.{entries_of}
use Rattle.image.proofs.Laying.{formed_laid}
use Rattle.model.specs.declared.Refusal.TheVariants.{BadNumber}
use Rattle.turns.proofs.Turning.{stopped, read_on, no_entry, an_entry}
use Rattle.reads.proofs.entry_in.Goals as goal

pub records-requires : goal.records-requires
records-requires c = formed_laid _ c.requires

pub returns-then-records-n : goal.returns-then-records-n
unfolding read_entry_turn
returns-then-records-n c =
    let w = c.args.image.now in
    (stopped w BadNumber _ (is_entry (entries_of w) c.args.n) (no_entry (entries_of w) c.args.n (omega (arith, c.records.ensures)))).says

pub entry-requires-clause-laid : goal.entry-requires-clause-laid
entry-requires-clause-laid c = formed_laid _ c.requires

pub returns : goal.returns
unfolding read_entry_turn response_of
returns c =
    let w = c.args.image.now in
    read_on w BadNumber _ (is_entry (entries_of w) c.args.n) (an_entry (entries_of w) c.args.n (omega (arith, c.records.ensures)))
    (ap (λ (e : EntryOut). done (told_entry e)) c.entry.ensures)

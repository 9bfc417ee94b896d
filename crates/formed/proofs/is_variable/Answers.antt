-- `formed::is_variable` meets its contract. Assumes nothing.
use native.Mathlib.Omega.{arith}
use lib.ListN.{length}
use borrow.Author.Tests.{lt-ltb, le-ltb}
use Rattle.model.specs.Table.{is, is_at}
use Rattle.model.specs.Formed.{is_entry}
use Rattle.image.specs.Shown.{entries_of}
use Rattle.image.specs.Reading.{entries_count}
use Rattle.formed.proofs.is_variable.Goals as goal

pub word-requires-clause-i_in_bounds : goal.word-requires-clause-i_in_bounds
word-requires-clause-i_in_bounds c =
    let n = entries_count c.args.image.now in
    omega arith

pub returns-then-v-image : goal.returns-then-v-image
unfolding is_entry is_at is
returns-then-v-image c =
    let w = c.args.image.now in
    let n = entries_count w in
    rw (lt-ltb c.args.v (length (entries_of w)) (omega arith), c.word.ensures)

pub returns-else-v-image : goal.returns-else-v-image
unfolding is_entry
returns-else-v-image c =
    let w = c.args.image.now in
    let n = entries_count w in
    rw (le-ltb c.args.v (length (entries_of w)) (omega arith))

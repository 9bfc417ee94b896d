-- `formed::entries::spread_at` meets its contract. Assumes nothing.
use native.Mathlib.Omega.{arith}
use mathlib.Core.Path.{sym, ap}
use lib.ListN.{get_or-eq_default}
use Rattle.model.specs.Table.{Entry, no_entry}
use Rattle.image.specs.Shown.{entries_of}
use Rattle.image.specs.Reading.{entries_count}
use Rattle.formed.proofs.entries.spread_at.Goals as goal

pub word-requires-clause-i_in_bounds : goal.word-requires-clause-i_in_bounds
word-requires-clause-i_in_bounds c =
    let n = entries_count c.args.image.now in
    omega arith

pub returns-else-n-image : goal.returns-else-n-image
returns-else-n-image c =
    let w = c.args.image.now in
    let n = entries_count w in
    (sym (ap (λ (e : Entry). e.spread) (get_or-eq_default (entries_of w) no_entry (omega arith))), omega arith)

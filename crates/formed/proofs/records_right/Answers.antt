-- `formed::records_right` meets its contract. Assumes nothing.
use Rattle.model.specs.Image.{visited_of, pending_of, equal_of, table}
use Rattle.model.specs.Formed.{records_right}
use Rattle.formed.proofs.Tested.{joined_is}
use Rattle.formed.proofs.records_right.Goals as goal

pub returns : goal.returns
unfolding records_right table visited_of pending_of equal_of
returns c =
    rw (
      c.break_right.ensures,
      c.entries_right.ensures,
      c.fields_right.ensures,
      c.bounds_right.ensures,
      c.pairs_right.ensures,
      c.pairs_right-2.ensures,
      c.pairs_right-3.ensures,
    )
    (joined_is _ _)

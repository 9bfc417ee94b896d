-- `formed::field_right` meets its contract. Assumes nothing.
use Rattle.model.specs.Formed.{is_entry, field_right}
use Rattle.image.specs.Reading.{entries_count}
use Rattle.formed.proofs.field_right.Goals as goal

pub returns : goal.returns
unfolding field_right is_entry
returns c = rw (c.word.ensures, c.word-2.ensures, entries_count c.args.image.now)

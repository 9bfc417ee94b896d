-- `mark`: marks entry n.
use Rattle.model.specs.Making.{mark_entry}
use Rattle.storage.proofs.mark.Goals as goal

pub returns : goal.returns
unfolding mark_entry
returns c = c.put_mark.ensures.is

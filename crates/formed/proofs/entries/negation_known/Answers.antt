-- `formed::entries::negation_known` meets its contract. Assumes nothing.
use Rattle.model.specs.Formed.{negation_known}
use Rattle.image.specs.Reading.{entries_count}
use Rattle.formed.proofs.entries.negation_known.Goals as goal

pub returns : goal.returns
unfolding negation_known
returns c = rw (entries_count c.args.image.now)

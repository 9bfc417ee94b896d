-- `formed::entries::spread_right` meets its contract. Assumes nothing.
use Rattle.model.specs.Formed.{spread_right}
use Rattle.formed.proofs.entries.spread_right.Goals as goal

pub returns : goal.returns
unfolding spread_right
returns c = rw (c.wide.ensures.0, c.spread_of.ensures)

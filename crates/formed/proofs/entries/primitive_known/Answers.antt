-- `formed::entries::primitive_known` meets its contract. Assumes nothing.
use lib.Dec.{eqb, leb}
use Rattle.model.specs.Table.{is}
use Rattle.model.specs.Formed.{primitive_known}
use Rattle.formed.proofs.Tested.{when_is}
use Rattle.formed.proofs.entries.primitive_known.Goals as goal

pub returns : goal.returns
unfolding primitive_known is
returns c = let e = c.args.e in when_is (eqb e.kind 1) (leb e.x 7)

-- `names::u16_at` meets its contract. Assumes nothing.
use native.Mathlib.Omega.{arith}
use Rattle.names.specs.Names.{u16_at}
use Rattle.names.proofs.u16_at.Goals as goal

pub returns : goal.returns
unfolding u16_at
returns c = (omega (arith, c.from_le_bytes.ensures), omega (arith, c.from_le_bytes.type_inv))

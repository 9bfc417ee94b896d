-- `formed::entries::entry_right` meets its contract. Assumes nothing.
use Rattle.model.specs.Formed.{entry_right}
use Rattle.formed.proofs.Tested.{joined_is}
use Rattle.formed.proofs.entries.entry_right.Goals as goal

pub returns : goal.returns
unfolding entry_right
returns c =
    rw (
      ← c.entry_words-e.ensures,
      c.kind_known.ensures,
      c.primitive_known.ensures,
      c.components_below.ensures,
      c.unused_zero.ensures,
      c.flags_known.ensures,
      c.spread_right.ensures,
      c.negation_known.ensures,
      c.attrset_right.ensures,
    )
    (joined_is _ _)

-- `put_entry_word`: writes word j of entry i.
use Rattle.image.specs.Reading.{entries_count}
use native.Mathlib.Omega.{arith}
use Rattle.writes.proofs.put_entry_word.Goals as goal

pub bounds-image-wide : goal.bounds-image-wide
bounds-image-wide c =
    let p = c.requires in
    omega (arith, entries_count c.args.image.now, c.wide.ensures)

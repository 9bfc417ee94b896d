-- `append`: a record put into a region, and counted.
use Prim.Native.Nat.{ℕ, ◌+◌}
use mathlib.Core.Path.{ap}
use mathlib.Core.List.{List}
use lib.ListN.{set}
use Rattle.model.specs.Format.{count_at}
use Rattle.model.specs.Image.{offset, count}
use Rattle.image.proofs.Lent.{back_record}
use Rattle.writes.proofs.append.Goals as goal

pub returns : goal.returns
returns c =
    let a = c.args in
    let w = a.image.now in
    ap (λ (l : List ℕ). set l (count_at a.region) (count w a.region + 1))
    (back_record a.width w _ _ _ (offset w a.region) (count w a.region) a.row.now c.wide-at.ensures c.wide.ensures c.put_row.ensures)

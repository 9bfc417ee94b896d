-- A record of a region stands inside the words, by where the region lies. Assumes nothing.
use Prim.Native.Nat.{ℕ, ◌+◌, ◌*◌, ◌≤◌, ◌<◌}
use native.Mathlib.Omega.{arith}
use mathlib.Core.Path.{◌≡◌}
use mathlib.Core.List.{List}
use lib.ListN.{length}
use Rattle.model.specs.Image.{offset, capacity, count}
use Rattle.image.specs.Laid.{At}
use Rattle.image.specs.Reading.{before_end}

-- x and y are other names of the region's offset and the record's number
pub reach : {w : List ℕ} {k width : ℕ} → At w k width → (i x y : ℕ) → i < capacity w k → x ≡ offset w k → y ≡ i → x + width * y + width ≤ length w
reach {w} {k} {width} at i x y h p q = rw (p, q) (let m = before_end width i (capacity w k) h in omega (arith, at.inside))

-- the same of word j of a record, where its width too has another name
pub word_inside : {w : List ℕ} {k width : ℕ} → At w k width → (i j : ℕ) → i < count w k → j < width → {x v y : ℕ} → x ≡ offset w k → v ≡ width → y ≡ i
    → x + v * y + j < length w
word_inside {w} {k} {width} at i j h lt p s q = rw s (let m = reach at i _ _ (omega (arith, at.held)) p q in omega (arith, m))

-- The last record of a region taken off, in the names that the code has for the region's place, the record's width and its number.
-- Assumes nothing.
use Prim.Native.Nat.{ℕ, ◌+◌, ◌-◌, ◌*◌, ◌≤◌, ◌<◌}
use native.Mathlib.Omega.{arith}
use mathlib.Core.Path.{◌≡◌, ap, ◌∙◌}
use mathlib.Core.List.{List, ◌++◌, append_assoc}
use lib.ListN.{length, set, take, drop, replicate, length-replicate, length-drop}
use lib.Seq.{sets, sets-eq, drop-drop, length-take-le}
use borrow.Rule.Slice.PartMut.{put_mid}
use Rattle.model.specs.Image.{offset, count}
use Rattle.image.specs.Laid.{At}
use Rattle.image.specs.Stores.{removed}
use Rattle.image.proofs.Reach.{reach}

-- a part of so many words, back with others in their place
part_sets : (w v : List ℕ) (a n : ℕ) → length v ≡ n → a + n ≤ length w → put_mid a n w v ≡ sets w a v
part_sets w v a n e h =
    rw (← e) (rw (sets-eq v w a (rw e h), append_assoc (take a w) v (drop (a + length v) w))
    (ap (λ (rest : List ℕ). take a w ++ (v ++ rest)) (drop-drop (length v) a w)))

module _ {w : List ℕ} {k width many : ℕ} (at : At w k width) (counted : many ≡ count w k) where
  module _ {x v y n : ℕ} (p : x ≡ offset w k) (s : v ≡ width) (e : n ≡ many) where
    pub last_inside : y ≡ n - 1 → 0 < many → x + v * y + v ≤ length w
    last_inside q h = rw s (reach at (count w k - 1) x y (omega (arith, counted, h, at.held)) p (q ∙ ap (λ (i : ℕ). i - 1) (e ∙ counted)))

    pub last_end : {z : ℕ} → y ≡ n - 1 → 0 < many → z ≡ width → x + v * y + z ≤ length w
    last_end {z} q h t = let l = last_inside q h in omega (arith, l, s, t)

    -- what stands in the words then
    pub removed_is : (m z : ℕ) (u : List ℕ) → y ≡ n - 1 → 0 < many → z ≡ width → m ≡ k → u ≡ replicate (length (take (x + v * y + z - (x + v * y)) (drop (x + v * y) w))) 0
        → set (put_mid (x + v * y) (x + v * y + z - (x + v * y)) w u) (8 + 3 * m) (n - 1) ≡ removed w k width
    removed_is m z u q h t d f =
        let i : x + v * y + z ≤ length w = last_end q h t in
        let b : x + v * y + z - (x + v * y) ≡ z = omega arith in
        let g : length (take z (drop (x + v * y) w)) ≡ z = length-take-le z (drop (x + v * y) w) (rw (length-drop (x + v * y) w) (omega arith)) in
        let all : u ≡ replicate z 0 = f ∙ rw (b, g) in
        rw (b, part_sets w u (x + v * y) z (rw all (length-replicate {A = ℕ} z 0)) i, all, q, e, counted, p, s, t, d)

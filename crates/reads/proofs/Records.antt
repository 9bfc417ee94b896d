-- Whether a region has a record, and a record's words as they stand. Assumes nothing.
use Prim.Native.Nat.{ℕ, ◌+◌, ◌*◌, ◌≤◌, ◌<◌}
use native.Mathlib.Omega.{arith}
use native.Mathlib.Decide.{dec_lt}
use mathlib.Core.Path.{◌≡◌, ap, ◌∙◌}
use mathlib.Core.List.{List}
use mathlib.Core.Bool.{true, false, ◌&&◌, and-false}
use lib.ListN.{length, get_or, take, drop, length-drop}
use lib.Seq.{drop-drop}
use lib.Dec.{leb, ltb}
use borrow.Author.Tests.{lt-ltb, le-ltb, lt-leb}
use Rattle.model.specs.Format.{is_region}
use Rattle.model.specs.Image.{offset, count, records_of}
use Rattle.laws.proofs.Regions.{Coded}
use Rattle.image.specs.Reading.{read_at}

-- region k has no record n, or has it
pub no_record : (w : List ℕ) (k n : ℕ) → count w k ≤ n → (is_region k && ltb n (count w k)) ≡ false
no_record w k n h = rw (le-ltb n (count w k) h) (and-false (is_region k))

pub a_record : (w : List ℕ) (k n : ℕ) → is_region k ≡ true → n < count w k → (is_region k && ltb n (count w k)) ≡ true
a_record w k n e h = rw (e, lt-ltb n (count w k) h)

-- a record's words as they stand
pub record_words : {A : Type 0} {f : A → List ℕ} {of : List ℕ → A} {width : ℕ} → Coded f of width → (w : List ℕ) (k i : ℕ) (d : A)
    → i < count w k → offset w k + width * i + width ≤ length w → f (get_or (records_of of width w k) i d) ≡ take width (drop (offset w k + width * i) w)
unfolding records_of
record_words {A} {f} {of} {width} c w k i d lt inside =
    let l : List ℕ = drop (width * i) (drop (offset w k) w) in
    let e : l ≡ drop (offset w k + width * i) w = drop-drop (width * i) (offset w k) w in
    let n : width ≤ length l = rw e (simp length-drop (omega arith)) in
    ap f (read_at of width (count w k) (drop (offset w k) w) i d lt) ∙ c.forth l n ∙ ap (take width) e

pub no_region : (k : ℕ) → (k ≡ 1 → ⊥) → (k ≡ 2 → ⊥) → (k ≡ 3 → ⊥) → (k ≡ 4 → ⊥) → (k ≡ 5 → ⊥) → (k ≡ 6 → ⊥) → is_region k ≡ false
no_region k a b c d e f = by (dec_lt k 1)
  where
    by : Dec (k < 1) → is_region k ≡ false
    by (yes h) = rw (lt-leb 1 k h)
    by (no h) = rw (lt-leb k 6 (omega arith)) (and-false (leb 1 k))

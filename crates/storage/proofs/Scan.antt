-- The bounds of a variable on a side, record by record. Assumes nothing.
use Prim.Native.Nat.{ℕ, ◌+◌, ◌<◌}
use native.Mathlib.Omega.{arith}
use native.Mathlib.Numerals.{add-one}
use mathlib.Core.Path.{◌≡◌, refl, sym, ap, ◌∙◌}
use mathlib.Core.List.{List, [], ◌∷◌}
use mathlib.Core.Bool.{Bool, true, false, cond, ◌&&◌, ◌||◌}
use lib.ListN.{length, drop}
use lib.Seq.{drop-cons, drop-length}
use lib.Dec.{eqb}
use Rattle.model.specs.Lists.{any}
use Rattle.model.specs.Table.{Bound}
use Rattle.model.specs.Making.{bounds_in}
use Rattle.model.specs.Told.{bit}
use Rattle.image.specs.Records.{bound_at}
use Rattle.storage.specs.Bounds.{belongs_to, is_bound}

module _ (v side : ℕ) where
  -- of the records from i on: the one with number i, then the others
  step : (bs : List Bound) (i : ℕ) → i < length bs
      → bounds_in (drop i bs) v side ≡ cond (belongs_to v side (bound_at bs i)) ((bound_at bs i).bound ∷ bounds_in (drop (i + 1) bs) v side) (bounds_in (drop (i + 1) bs) v side)
  unfolding bounds_in
  step bs i h = rw (add-one, drop-cons bs i (record { variable = 0; side = 0; bound = 0 }))

  module _ (bs : List Bound) (i : ℕ) (h : i < length bs) where
    pub taken : belongs_to v side (bound_at bs i) ≡ true → bounds_in (drop i bs) v side ≡ (bound_at bs i).bound ∷ bounds_in (drop (i + 1) bs) v side
    taken e = step bs i h ∙ rw e

    pub left : belongs_to v side (bound_at bs i) ≡ false → bounds_in (drop i bs) v side ≡ bounds_in (drop (i + 1) bs) v side
    left e = step bs i h ∙ rw e

  pub none_left : (bs : List Bound) → bounds_in (drop (length bs) bs) v side ≡ []
  unfolding bounds_in
  none_left bs = rw (drop-length bs)

  -- a count, and a search for b, of which i records are behind
  abbrev pub Counted : List Bound → ℕ → ℕ → Type 0
  Counted bs i found = found + length (bounds_in (drop i bs) v side) ≡ length (bounds_in bs v side)

  abbrev pub Sought : ℕ → List Bound → ℕ → Type 0
  Sought b bs i = any (eqb b) (bounds_in bs v side) ≡ any (eqb b) (bounds_in (drop i bs) v side)

  module _ (bs : List Bound) (i : ℕ) (h : i < length bs) where
    count_by : (found : ℕ) (t : Bool) → belongs_to v side (bound_at bs i) ≡ t → Counted bs i found → Counted bs (i + 1) (found + bit t)
    count_by found true e c = omega (arith, ap length (taken bs i h e), c)
    count_by found false e c = omega (arith, ap length (left bs i h e), c)

    pub count_step : (found : ℕ) → Counted bs i found → Counted bs (i + 1) (found + bit (belongs_to v side (bound_at bs i)))
    count_step found c = count_by found (belongs_to v side (bound_at bs i)) refl c

    seek_by : (b : ℕ) (t : Bool) → belongs_to v side (bound_at bs i) ≡ t → any (eqb b) (bounds_in (drop i bs) v side) ≡ ((t && eqb b (bound_at bs i).bound) || any (eqb b) (bounds_in (drop (i + 1) bs) v side))
    unfolding any
    seek_by b true e = ap (λ (l : List ℕ). any (eqb b) l) (taken bs i h e)
    seek_by b false e = ap (λ (l : List ℕ). any (eqb b) l) (left bs i h e)

    seek_one : (b : ℕ) (t : Bool) → is_bound v side b (bound_at bs i) ≡ t → any (eqb b) (bounds_in (drop i bs) v side) ≡ (t || any (eqb b) (bounds_in (drop (i + 1) bs) v side))
    seek_one b t e = seek_by b (belongs_to v side (bound_at bs i)) refl ∙ ap (λ (x : Bool). x || any (eqb b) (bounds_in (drop (i + 1) bs) v side)) e

    pub seek_hit : (b : ℕ) → is_bound v side b (bound_at bs i) ≡ true → Sought b bs i → true ≡ any (eqb b) (bounds_in bs v side)
    seek_hit b e c = sym (c ∙ seek_one b true e)

    pub seek_miss : (b : ℕ) → is_bound v side b (bound_at bs i) ≡ false → Sought b bs i → Sought b bs (i + 1)
    seek_miss b e c = c ∙ seek_one b false e

  pub count_done : (bs : List Bound) (i found : ℕ) → i ≡ length bs → Counted bs i found → found ≡ length (bounds_in bs v side)
  count_done bs i found e c = omega (arith, rw e at c, ap length (none_left bs))

  pub seek_done : (b : ℕ) (bs : List Bound) (i : ℕ) → i ≡ length bs → Sought b bs i → false ≡ any (eqb b) (bounds_in bs v side)
  unfolding any
  seek_done b bs i e c = sym (rw e at c ∙ ap (λ (l : List ℕ). any (eqb b) l) (none_left bs))

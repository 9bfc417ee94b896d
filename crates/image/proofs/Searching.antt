-- A search through records that stand one after the other, and two words compared as one number. Assumes nothing.
use Prim.Native.Nat.{ℕ, zero, suc, ◌+◌, ◌-◌, ◌*◌, ◌<◌}
use native.Mathlib.Omega.{arith}
use native.Mathlib.Nat.{mul-zero, mul-suc, add-zero}
use native.Mathlib.Numerals.{add-one}
use mathlib.Core.Path.{◌≡◌, refl, sym, ap, ◌∙◌}
use mathlib.Core.List.{List, [], ◌∷◌, ◌++◌}
use mathlib.Core.Bool.{Bool, true, false, ◌&&◌, ◌||◌, or-true}
use lib.ListN.{length, get_or, take, drop}
use lib.Seq.{drop-drop, get_or-drop}
use lib.Dec.{eqb}
use borrow.Author.Tests.{eq-eqb, ne_eqb, eqb-true, eqb-false}
use Rattle.model.specs.Format.{word_end, visited_region}
use Rattle.model.specs.Lists.{any, read_many}
use Rattle.model.specs.Table.{Pair, ◌⊑◌}
use Rattle.model.specs.Image.{offset, count, visited_of, records_of, table}
use Rattle.model.specs.Rules.{same_pair, is_visited}
use Rattle.laws.proofs.Regions.{read_length}
use Rattle.image.specs.Shown.{store_of}
use Rattle.image.specs.Reading.{read_at}
use Rattle.image.proofs.Lent.{tail_part}

left_false : (x y : Bool) → (x || y) ≡ false → x ≡ false
left_false true y e = e
left_false false y e = refl

right_false : (x y : Bool) → (x || y) ≡ false → y ≡ false
right_false true y e = let z : true ≡ false = e in cc
right_false false y e = e

module _ {A : Type 0} (p : A → Bool) where
  any_one : (l : List A) (a : A) → any p l ≡ false → p a ≡ false → any p (l ++ (a ∷ [])) ≡ false
  unfolding any
  any_one [] a e h = rw h
  any_one (x ∷ l) a e h = rw (left_false (p x) (any p l) e, any_one l a (right_false (p x) (any p l) e) h)

  any_at : (l : List A) (i : ℕ) (d : A) → i < length l → p (get_or l i d) ≡ true → any p l ≡ true
  unfolding any
  any_at [] i d h e = absurd (omega arith)
  any_at (x ∷ l) zero d h e = rw e
  any_at (x ∷ l) (suc i) d h e = rw (any_at l i d (omega arith) e) (or-true (p x))

module _ {A : Type 0} (of : List ℕ → A) (width : ℕ) where
  read_more : (n : ℕ) (l : List ℕ) → read_many of (drop width) (suc n) l ≡ read_many of (drop width) n l ++ (of (drop (width * n) l) ∷ [])
  unfolding read_many
  read_more zero l = rw mul-zero
  read_more (suc n) l =
      let e : width + width * n ≡ width * suc n = sym (mul-suc width n ∙ omega arith) in
      ap (λ (r : List A). of l ∷ r) (read_more n (drop width l) ∙ rw (drop-drop (width * n) width l, e))

  module _ (p : A → Bool) (l : List ℕ) where
    -- one record more that fails the test, and one that passes it
    pub miss : (i : ℕ) → any p (read_many of (drop width) i l) ≡ false → p (of (drop (width * i) l)) ≡ false → any p (read_many of (drop width) (i + 1) l) ≡ false
    miss i e h = rw (add-one i, read_more i l) (any_one p _ _ e h)

    pub hit : (i n : ℕ) → i < n → p (of (drop (width * i) l)) ≡ true → any p (read_many of (drop width) n l) ≡ true
    hit i n h e =
        any_at p _ i (of (drop (width * i) l)) (rw (read_length of (drop width) n l) h)
        (ap p (read_at of width n l i (of (drop (width * i) l)) h) ∙ e)

-- two numbers, each of two words, are equal exactly where the words are
joined : (x y a b : ℕ) → x < word_end → a < word_end → eqb (x + y * word_end) (a + b * word_end) ≡ (eqb a x && eqb b y)
joined x y a b hx ha = on (eqb a x) refl (eqb b y) refl
  where
    on : (s : Bool) → eqb a x ≡ s → (t : Bool) → eqb b y ≡ t → eqb (x + y * word_end) (a + b * word_end) ≡ (eqb a x && eqb b y)
    on true e true f = rw (e, f) (eq-eqb (x + y * word_end) (a + b * word_end) (omega (arith, eqb-true a x e, eqb-true b y f)))
    on true e false f = rw (e, f) (ne_eqb (x + y * word_end) (a + b * word_end) (λ h. eqb-false b y f (omega (arith, h, eqb-true a x e))))
    on false e t f = rw e (ne_eqb (x + y * word_end) (a + b * word_end) (λ h. eqb-false a x e (omega (arith, h, hx, ha))))

-- visited pair i, compared so
module _ (l : List ℕ) (i a b : ℕ) (hx : get_or l (2 * i) 0 < word_end) (ha : a < word_end) where
  same_by : eqb (get_or l (2 * i) 0 + get_or l (2 * i + 1) 0 * word_end) (a + b * word_end) ≡ same_pair (a ⊑ b) (visited_of (drop (2 * i) l))
  unfolding same_pair visited_of
  same_by = joined (get_or l (2 * i) 0) (get_or l (2 * i + 1) 0) a b hx ha ∙ rw (get_or-drop (2 * i) l 0 0, get_or-drop (2 * i) l 1 0, add-zero (2 * i))

  pub is_same : (j k : ℕ) → j ≡ get_or l (2 * i) 0 + get_or l (2 * i + 1) 0 * word_end → k ≡ a + b * word_end → j ≡ k → same_pair (a ⊑ b) (visited_of (drop (2 * i) l)) ≡ true
  is_same j k p q e = sym same_by ∙ eq-eqb _ _ (sym p ∙ e ∙ q)

  pub is_other : (j k : ℕ) → j ≡ get_or l (2 * i) 0 + get_or l (2 * i + 1) 0 * word_end → k ≡ a + b * word_end → (j ≡ k → ⊥) → same_pair (a ⊑ b) (visited_of (drop (2 * i) l)) ≡ false
  is_other j k p q e = sym same_by ∙ ne_eqb _ _ (λ h. e (p ∙ h ∙ sym q))

-- the search through the lent part from a word on, which is the visited pairs' offset
pub visited_by : (w : List ℕ) (p : Pair) (at n : ℕ) → at ≡ offset w visited_region → n ≡ count w visited_region
    → any (same_pair p) (read_many visited_of (drop 2) n (take (length w - at) (drop at w))) ≡ is_visited (store_of w) p
unfolding is_visited table records_of
visited_by w p at n e f = rw (tail_part w at, e, f)

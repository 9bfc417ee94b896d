-- What the order of two slices, and their equality, tell is how the names compare; and how a comparison goes on byte by byte.
-- Assumes nothing.
use Prim.Native.Nat.{ℕ, ◌+◌, ◌-◌, ◌≤◌, ◌<◌}
use native.Mathlib.Numerals.{add-one}
use native.Mathlib.Omega.{arith}
use mathlib.Core.Path.{◌≡◌, refl, sym, ◌∙◌}
use mathlib.Core.List.{List, [], ◌∷◌}
use mathlib.Core.Bool.{Bool, true, false, cond}
use lib.Dec.{ltb, eqb}
use lib.ListN.{length, get_or, drop}
use lib.Seq.{drop-cons}
use borrow.Author.Tests.{ltb-true, ltb-false, eq-eqb, ne_eqb, le-ltb}
use Rattle.std.specs.Ordering.{nat_cmp, is_eq, is_ge}
use Rattle.std.specs.Str.{bytes_eq}
use Rattle.std.specs.Cmp.Lexicographic.{slice_cmp}
use Rattle.std.specs.declared.cmp.Ordering.{Ordering}
use Rattle.std.specs.declared.cmp.Ordering.TheVariants.{Less, Equal, Greater}
use Rattle.std.proofs.lemmas.Map.Text.{is_eq-slice_cmp}
use Rattle.names.specs.Names.{compare_names, before, same, after, name_of, ascends_at, has_bytes}
use Rattle.names.specs.Answers.{told_order}

by_byte : (x y : ℕ) (xs ys : List ℕ) → told_order (slice_cmp nat_cmp xs ys) ≡ compare_names xs ys
    → (t : Bool) → ltb x y ≡ t → (u : Bool) → ltb y x ≡ u
    → told_order (slice_cmp nat_cmp (x ∷ xs) (y ∷ ys)) ≡ cond t before (cond u after (compare_names xs ys))
by_byte x y xs ys e true p u q = rw p
by_byte x y xs ys e false p true q = let h : y < x = ltb-true y x q in rw (p, ne_eqb x y (λ e. omega arith))
by_byte x y xs ys e false p false q =
    let le : y ≤ x = ltb-false x y p in
    let ge : x ≤ y = ltb-false y x q in
    rw (p, eq-eqb x y (omega arith)) e

pub told_cmp : (a b : List ℕ) → told_order (slice_cmp nat_cmp a b) ≡ compare_names a b
unfolding compare_names
told_cmp [] [] = refl
told_cmp [] (y ∷ ys) = refl
told_cmp (x ∷ xs) [] = refl
told_cmp (x ∷ xs) (y ∷ ys) = by_byte x y xs ys (told_cmp xs ys) (ltb x y) refl (ltb y x) refl

by_first : (x y r : ℕ) → (x ≡ y → ⊥) → (t : Bool) → ltb x y ≡ t → (u : Bool) → ltb y x ≡ u → told_order (nat_cmp x y) ≡ cond t before (cond u after r)
by_first x y r d true p u q = rw p
by_first x y r d false p true q = rw (p, ne_eqb x y d)
by_first x y r d false p false q =
    let le : y ≤ x = ltb-false x y p in
    let ge : x ≤ y = ltb-false y x q in
    absurd (d (omega arith))

-- what is known once the first i bytes of both agree
module _ (a b : List ℕ) (i : ℕ) (so : compare_names a b ≡ compare_names (drop i a) (drop i b)) where
  pub differ : i < length a → i < length b → (get_or a i 0 ≡ get_or b i 0 → ⊥)
      → told_order (nat_cmp (get_or a i 0) (get_or b i 0)) ≡ compare_names a b
  unfolding compare_names
  differ h k d = rw (so, drop-cons a i 0, drop-cons b i 0) (by_first (get_or a i 0) (get_or b i 0) _ d _ refl _ refl)

  pub agree : i < length a → i < length b → get_or a i 0 ≡ get_or b i 0 → compare_names a b ≡ compare_names (drop (i + 1) a) (drop (i + 1) b)
  unfolding compare_names
  agree h k e =
      let l : get_or b i 0 ≤ get_or a i 0 = omega arith in
      let m : get_or a i 0 ≤ get_or b i 0 = omega arith in
      rw (so, drop-cons a i 0, drop-cons b i 0, le-ltb _ _ l, le-ltb _ _ m, add-one)

is_same : (o : Ordering) → is_eq o ≡ eqb (told_order o) same
is_same Less = refl
is_same Equal = refl
is_same Greater = refl

-- a name has bytes that are equal to its own
pub bytes_tell : (bs a b : List ℕ) (i : ℕ) → a ≡ name_of bs i → bytes_eq a b ≡ has_bytes bs b i
bytes_tell bs a b i e = rw (← e, ← told_cmp a b) (sym (is_eq-slice_cmp a b) ∙ is_same (slice_cmp nat_cmp a b))

later : (o : Ordering) (t : Bool) → is_ge o ≡ t → eqb (told_order o) before ≡ cond t false true
later Less t e = rw (← e)
later Equal t e = rw (← e)
later Greater t e = rw (← e)

-- a name comes before the next where it is not at or after it
pub order_tells : (bs a b : List ℕ) (i : ℕ) (o : Ordering) (t : Bool) → 1 ≤ i → a ≡ name_of bs (i - 1) → b ≡ name_of bs i
    → told_order o ≡ compare_names a b → is_ge o ≡ t → ascends_at bs (i - 1) ≡ cond t false true
order_tells bs a b i o t h p q e g =
    let k : i - 1 + 1 ≡ i = omega arith in
    rw (k, ← p, ← q, ← e) (later o t g)

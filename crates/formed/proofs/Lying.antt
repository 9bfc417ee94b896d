-- The loop over the regions: one region's tests, and the rest. Assumes nothing.
use Prim.Native.Nat.{ℕ, zero, suc, ◌+◌, ◌*◌, ◌≤◌, ◌<◌}
use native.Mathlib.Omega.{arith}
use native.Mathlib.Nat.{mul-le-mul_right}
use native.Mathlib.Numerals.{add-one}
use mathlib.Core.Path.{◌≡◌, refl, sym, ap, ◌∙◌}
use mathlib.Core.List.{List, [], ◌∷◌}
use mathlib.Core.Bool.{Bool, true, false, ◌&&◌}
use lib.ListN.{length, get_or, drop, get_or-append}
use lib.Seq.{drop-cons}
use lib.Dec.{eqb, leb}
use borrow.Author.Tests.{eq-eqb, ne_eqb, le-leb, lt-leb}
use Rattle.model.specs.Lists.{all_of}
use Rattle.model.specs.Format.{Region, no_region, rows, regions, newest, entry_width, word_end}
use Rattle.model.specs.Parts.{offset, capacity, count, region_right, regions_right, rest_zero, rests_zero}
use Rattle.image.specs.Laid.{Laid}
use Rattle.image.proofs.Listed.{widths, mosts, regions_many, rows_many, width_at, most_at, narrow}
use Rattle.formed.specs.Grouped.{RegionInside}

-- the tests from region j + 1 on
abbrev pub tests_from : List ℕ → ℕ → ℕ → Bool
tests_from w j at = regions_right (drop j (regions newest)) (j + 1) at w

module _ (w : List ℕ) (j at : ℕ) (h : j < regions_many) where
  rest : Bool
  rest = tests_from w (j + 1) (at + get_or widths j 0 * capacity w (j + 1))

  tests : tests_from w j at ≡ all_of (eqb (offset w (j + 1)) at ∷ leb (capacity w (j + 1)) (get_or mosts j 0) ∷ leb (count w (j + 1)) (capacity w (j + 1)) ∷ []) && rest
  unfolding regions_right region_right rest
  tests = rw (add-one j, add-one (suc j), drop-cons (regions newest) j no_region h, width_at j, most_at j)

  pub off_place : (offset w (j + 1) ≡ at → ⊥) → tests_from w j at ≡ false
  unfolding all_of
  off_place n = tests ∙ rw (ne_eqb (offset w (j + 1)) at n)

  module _ (o : offset w (j + 1) ≡ at) where
    pub over_most : get_or mosts j 0 < capacity w (j + 1) → tests_from w j at ≡ false
    unfolding all_of
    over_most l = tests ∙ rw (eq-eqb (offset w (j + 1)) at o, lt-leb (capacity w (j + 1)) (get_or mosts j 0) l)

    pub over_room : capacity w (j + 1) ≤ get_or mosts j 0 → capacity w (j + 1) < count w (j + 1) → tests_from w j at ≡ false
    unfolding all_of
    over_room m l = tests ∙ rw (eq-eqb (offset w (j + 1)) at o, le-leb (capacity w (j + 1)) (get_or mosts j 0) m, lt-leb (count w (j + 1)) (capacity w (j + 1)) l)

    pub goes_on : capacity w (j + 1) ≤ get_or mosts j 0 → count w (j + 1) ≤ capacity w (j + 1)
        → tests_from w j at ≡ tests_from w (j + 1) (at + get_or widths j 0 * capacity w (j + 1))
    unfolding all_of rest
    goes_on m l = tests ∙ rw (eq-eqb (offset w (j + 1)) at o, le-leb (capacity w (j + 1)) (get_or mosts j 0) m, le-leb (count w (j + 1)) (capacity w (j + 1)) l)

pub at_end : (w : List ℕ) (at : ℕ) → tests_from w regions_many at ≡ eqb at (length w)
unfolding regions_right
at_end w at = refl

-- a region's words stay far below what a usize takes
pub little : (j c : ℕ) → j < regions_many → c < word_end → get_or widths j 0 * c ≤ entry_width * word_end
little j c h k = let m : get_or widths j 0 * c ≤ entry_width * c = mul-le-mul_right c (narrow j h) in omega arith

-- each region inside the words
pub laid_inside : {w : List ℕ} → Laid w → (j : ℕ) → j < rows_many → RegionInside w (j + 1) (get_or widths j 0)
laid_inside l zero h = record { head = l.head; number = omega arith; narrow = omega arith; held = l.entries.held; inside = omega arith }
laid_inside l (suc zero) h = record { head = l.head; number = omega arith; narrow = omega arith; held = l.fields.held; inside = omega arith }
laid_inside l (suc (suc zero)) h = record { head = l.head; number = omega arith; narrow = omega arith; held = l.bounds.held; inside = omega arith }
laid_inside l (suc (suc (suc zero))) h = record { head = l.head; number = omega arith; narrow = omega arith; held = l.visited.held; inside = omega arith }
laid_inside l (suc (suc (suc (suc zero)))) h = record { head = l.head; number = omega arith; narrow = omega arith; held = l.pending.held; inside = omega arith }
laid_inside l (suc (suc (suc (suc (suc zero))))) h = record { head = l.head; number = omega arith; narrow = omega arith; held = l.equals.held; inside = omega arith }
laid_inside l (suc (suc (suc (suc (suc (suc j)))))) h = absurd (omega arith)

-- the regions in a row come first
row_width : (j : ℕ) → j < rows_many → (get_or (rows newest) j no_region).width ≡ get_or widths j 0
row_width j h = sym (width_at j ∙ ap (λ (r : Region). r.width) (get_or-append (rows newest) newest.more no_region j h))

-- zeros past the counts from region j + 1 on
abbrev pub zeros_from : List ℕ → ℕ → Bool
zeros_from w j = rests_zero (drop j (rows newest)) (1 + j) w

pub zeros_on : (w : List ℕ) (j : ℕ) → j < rows_many → zeros_from w j ≡ rest_zero w (j + 1) (get_or widths j 0) && zeros_from w (j + 1)
unfolding rests_zero
zeros_on w j h =
    let e₁ : j + 1 ≡ 1 + j = omega arith in
    let e₂ : 1 + (j + 1) ≡ suc (1 + j) = omega arith in
    let here : zeros_from w j ≡ rest_zero w (1 + j) (get_or (rows newest) j no_region).width && rests_zero (drop (suc j) (rows newest)) (suc (1 + j)) w =
    ap (λ (rs : List Region). rests_zero rs (1 + j) w) (drop-cons (rows newest) j no_region h) in
    let there : rests_zero (drop (suc j) (rows newest)) (suc (1 + j)) w ≡ zeros_from w (j + 1) = rw (e₂, add-one j) in
    here
    ∙ ap (λ (n : ℕ). rest_zero w n (get_or (rows newest) j no_region).width && rests_zero (drop (suc j) (rows newest)) (suc (1 + j)) w) (sym e₁)
    ∙ ap (λ (n : ℕ). rest_zero w (j + 1) n && rests_zero (drop (suc j) (rows newest)) (suc (1 + j)) w) (row_width j h)
    ∙ ap (λ (b : Bool). rest_zero w (j + 1) (get_or widths j 0) && b) there

pub zeros_end : (w : List ℕ) → zeros_from w rows_many ≡ true
unfolding rests_zero
zeros_end w = refl

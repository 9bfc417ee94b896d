-- Tests taken together: as code joins them, and a test that is two. Assumes nothing.
use mathlib.Core.Path.{◌≡◌, refl, sym, ◌∙◌}
use mathlib.Core.List.{List, [], ◌∷◌, ◌++◌}
use mathlib.Core.Bool.{Bool, true, false, not, ◌&&◌, ◌||◌, and-true, and-false, and_assoc}
use Rattle.model.specs.Lists.{◌⇒◌, all_of}

-- tests joined from the left, as code joins them
abbrev pub joined : Bool → List Bool → Bool
joined a [] = a
joined a (b ∷ bs) = joined (a && b) bs

pub joined_is : (a : Bool) (bs : List Bool) → joined a bs ≡ all_of (a ∷ bs)
unfolding all_of
joined_is a [] = sym (and-true a)
joined_is a (b ∷ bs) = joined_is (a && b) bs ∙ and_assoc a b (all_of bs)

-- four tests, the first two made as one: what decides them
pub two_fail : (a b : Bool) (bs : List Bool) → (a && b) ≡ false → all_of (a ∷ b ∷ bs) ≡ false
unfolding all_of
two_fail true b bs h = rw h refl
two_fail false b bs h = refl

pub third_fails : (a b c : Bool) (bs : List Bool) → c ≡ false → all_of (a ∷ b ∷ c ∷ bs) ≡ false
unfolding all_of
third_fails a b c bs h = rw (h, and-false b) (and-false a)

pub fourth_decides : (a b c d : Bool) → (a && b) ≡ true → c ≡ true → all_of (a ∷ b ∷ c ∷ d ∷ []) ≡ d
unfolding all_of
fourth_decides a b c d h k = rw (k, and-true d) (sym (and_assoc a b d) ∙ rw h refl)

-- `!a | b` in code
pub when_is : (a b : Bool) → (not a || b) ≡ (a ⇒ b)
when_is true b = refl
when_is false b = refl

pub all_append : (l m : List Bool) → all_of (l ++ m) ≡ (all_of l && all_of m)
unfolding all_of
all_append [] m = refl
all_append (b ∷ l) m = rw (all_append l m) (sym (and_assoc b (all_of l) (all_of m)))

pub crossed : (a b p q : Bool) → ((a && b) && (p && q)) ≡ ((a && p) && (b && q))
crossed true true p q = refl
crossed true false p q = sym (and-false p)
crossed false b p q = refl

-- a test that is two
pub record Split (r a b : Bool) : Type 0 where
  pub is : r ≡ (a && b)

pub beside : {r a b s p q : Bool} → Split r a b → Split s p q → Split (r && s) (a && p) (b && q)
beside {r} {a} {b} {s} {p} {q} h k = record { is = (λ i. h.is i && k.is i) ∙ crossed a b p q }

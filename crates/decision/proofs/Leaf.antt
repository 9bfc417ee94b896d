-- Facts that fix the arm, and that the arm is then the one of `armOf`: one law for every leaf of the decision. Assumes nothing.
use Prim.Native.Nat.{ℕ, ◌≤◌}
use native.Mathlib.Omega.{arith}
use mathlib.Core.Path.{◌≡◌, refl}
use mathlib.Core.Bool.{Bool, true, false, ◌&&◌, ◌||◌}
use lib.Dec.{eqb}
use borrow.Author.Tests.{eqb-true, eqb-false, eq-eqb, ne_eqb}
use Rattle.decision.specs.Decide.{Not, ArmFits, arm_in}
use Rattle.model.specs.Shapes.{under_number}
use Rattle.model.specs.Rules.{arm_of}
use Rattle.decision.specs.declared.Arm.{Arm}
use Rattle.decision.specs.declared.Arm.TheVariants.{SubNamed, SupNamed, Lambdas, Lists, Attrsets, Nothing, Negs, UnderNeg, SupInter, SubUnion, SubInter, SupUnion, Functor, Mismatch}

and_false : (t : Bool) → (t && false) ≡ false
and_false true = refl
and_false false = refl

-- two tests that do not both hold
not_both : (a i b j : ℕ) (r : Bool) → (a ≡ i → b ≡ j → r ≡ false) → (eqb a i && eqb b j && r) ≡ false
not_both a i b j r h = cases (eqb a i) (eqb b j) refl refl
  where
    cases : (s t : Bool) → eqb a i ≡ s → eqb b j ≡ t → (s && t && r) ≡ false
    cases false t es et = refl
    cases true false es et = refl
    cases true true es et = h (eqb-true a i es) (eqb-true b j et)

not_two : (a i b j : ℕ) → (a ≡ i → b ≡ j → ⊥) → (eqb a i && eqb b j) ≡ false
not_two a i b j h = cases (eqb a i) (eqb b j) refl refl
  where
    cases : (s t : Bool) → eqb a i ≡ s → eqb b j ≡ t → (s && t) ≡ false
    cases false t es et = refl
    cases true false es et = refl
    cases true true es et = absurd (h (eqb-true a i es) (eqb-true b j et))

-- the test of two primitives
fit : (p q : ℕ) → (Not p q → (2 ≤ p) × (p ≤ 3) × (q ≡ 7)) → (eqb p q || under_number p q) ≡ true
unfolding under_number
fit p q h = cases (eqb p q) (eqb p 2) refl refl
  where
    cases : (s t : Bool) → eqb p q ≡ s → eqb p 2 ≡ t → (s || (t || eqb p 3) && eqb q 7) ≡ true
    cases true t es et = refl
    cases false true es et = eq-eqb q 7 (h (eqb-false p q es)).2
    cases false false es et =
        let k = h (eqb-false p q es) in
        let n = eqb-false p 2 et in
        rw (eq-eqb p 3 (omega arith)) (eq-eqb q 7 k.2)

unfit : (p q : ℕ) → Not p q → (2 ≤ p → p ≤ 3 → Not q 7) → (eqb p q || under_number p q) ≡ false
unfolding under_number
unfit p q n h = rw (ne_eqb p q n) (cases (eqb p 2) (eqb p 3) (eqb q 7) refl refl refl)
  where
    cases : (s t u : Bool) → eqb p 2 ≡ s → eqb p 3 ≡ t → eqb q 7 ≡ u → ((s || t) && u) ≡ false
    cases s t false es et eu = and_false (s || t)
    cases true t true es et eu = let e = eqb-true p 2 es in absurd (h (omega arith) (omega arith) (eqb-true q 7 eu))
    cases false true true es et eu = let e = eqb-true p 3 et in absurd (h (omega arith) (omega arith) (eqb-true q 7 eu))
    cases false false true es et eu = refl

pub leaf : (x : Arm) (a b p q : ℕ) → ArmFits x a b p q → arm_in x ≡ arm_of a b p q
unfolding arm_of
leaf SubNamed a b p q h = rw h
leaf SupNamed a b p q h = rw (h.0, ne_eqb a 5 h.1)
leaf Lambdas a b p q h = rw (h.0, h.1)
leaf Lists a b p q h = rw (h.0, h.1)
leaf Attrsets a b p q h = rw (h.0, h.1)
leaf Nothing a b p q h = rw (h.0, h.1, fit p q h.2)
leaf Negs a b p q h = rw (h.0, h.1)
leaf UnderNeg a b p q h = rw h.0 (simp (and_false, ne_eqb a 5 h.1, ne_eqb a 6 h.2, ne_eqb a 7 h.3, ne_eqb a 8 h.4))
leaf SupInter a b p q h = rw h.0 (simp (and_false, ne_eqb a 5 h.1))
leaf SubUnion a b p q h = rw h.0 (simp (and_false, ne_eqb b 5 h.1, ne_eqb b 7 h.2))
leaf SubInter a b p q h = rw h.0 (simp (and_false, ne_eqb b 5 h.1, ne_eqb b 7 h.2))
leaf SupUnion a b p q h = rw h.0 (simp (and_false, ne_eqb a 5 h.1, ne_eqb a 7 h.2, ne_eqb a 8 h.3))
leaf Functor a b p q h = rw (h.0, h.1)
leaf Mismatch a b p q h =
    simp (
      ne_eqb a 5 h.sub.0,
      ne_eqb a 7 h.sub.1,
      ne_eqb a 8 h.sub.2,
      ne_eqb b 5 h.sup.0,
      ne_eqb b 6 h.sup.1,
      ne_eqb b 7 h.sup.2,
      ne_eqb b 8 h.sup.3,
      not_two a 3 b 3 h.both.0,
      not_two a 2 b 2 h.both.1,
      not_two a 4 b 4 h.both.2,
      not_two a 4 b 3 h.both.3,
      not_both a 1 b 1 (eqb p q || under_number p q) (λ e f. unfit p q (h.same e f) (h.under e f)),
      and_false,
    )

-- The decision's arms: each is the model's, with the facts that fix it, in the rules' order: none before it fits, and it does.
-- Assumes nothing.
use Rattle.std.specs.Prelude.{ℕ, ◌≤◌, ◌≡◌}
use Rattle.model.specs.Format.{primitive, list, lambda, attrset, named, neg, inter, union, int, float, number}
use Rattle.model.specs.Rules.{Arm as ModelArm, subNamed, supNamed, lambdas, lists, bothAttrsets, nothing, negs, underNeg, supInter, subUnion, subInter, supUnion, functor, no_arm}
use Rattle.decision.specs.declared.Arm.{Arm}
use Rattle.decision.specs.declared.Arm.TheVariants.{SubNamed, SupNamed, Lambdas, Lists, Attrsets, Nothing, Negs, UnderNeg, SupInter, SubUnion, SubInter, SupUnion, Functor, Mismatch}

abbrev pub arm_in : Arm → ModelArm
arm_in SubNamed = subNamed
arm_in SupNamed = supNamed
arm_in Lambdas = lambdas
arm_in Lists = lists
arm_in Attrsets = bothAttrsets
arm_in Nothing = nothing
arm_in Negs = negs
arm_in UnderNeg = underNeg
arm_in SupInter = supInter
arm_in SubUnion = subUnion
arm_in SubInter = subInter
arm_in SupUnion = supUnion
arm_in Functor = functor
arm_in Mismatch = no_arm

abbrev pub Not : ℕ → ℕ → Type 0
Not a k = a ≡ k → ⊥

pub record Nowhere (a b p q : ℕ) : Type 0 where
  pub sub : Not a named × Not a inter × Not a union
  pub sup : Not b named × Not b neg × Not b inter × Not b union
  pub both : (a ≡ lambda → Not b lambda) × (a ≡ list → Not b list) × (a ≡ attrset → Not b attrset) × (a ≡ attrset → Not b lambda)
  pub same : a ≡ primitive → b ≡ primitive → Not p q
  pub under : a ≡ primitive → b ≡ primitive → int ≤ p → p ≤ float → Not q number

-- a and b are the kinds of sub and sup, p and q their primitive numbers
abbrev pub ArmFits : Arm → ℕ → ℕ → ℕ → ℕ → Type 0
ArmFits SubNamed a b p q = a ≡ named
ArmFits SupNamed a b p q = (b ≡ named) × Not a named
ArmFits Lambdas a b p q = (a ≡ lambda) × (b ≡ lambda)
ArmFits Lists a b p q = (a ≡ list) × (b ≡ list)
ArmFits Attrsets a b p q = (a ≡ attrset) × (b ≡ attrset)
ArmFits Nothing a b p q = (a ≡ primitive) × (b ≡ primitive) × (Not p q → (int ≤ p) × (p ≤ float) × (q ≡ number))
ArmFits Negs a b p q = (a ≡ neg) × (b ≡ neg)
ArmFits UnderNeg a b p q = (b ≡ neg) × Not a named × Not a neg × Not a inter × Not a union
ArmFits SupInter a b p q = (b ≡ inter) × Not a named
ArmFits SubUnion a b p q = (a ≡ union) × Not b named × Not b inter
ArmFits SubInter a b p q = (a ≡ inter) × Not b named × Not b inter
ArmFits SupUnion a b p q = (b ≡ union) × Not a named × Not a inter × Not a union
ArmFits Functor a b p q = (a ≡ attrset) × (b ≡ lambda)
ArmFits Mismatch a b p q = Nowhere a b p q

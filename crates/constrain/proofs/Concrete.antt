-- Two concrete entries, once the arm is decided: the components are entries, and the rule is the arm's. Assumes nothing.
use Rattle.std.specs.Prelude.{None, Option, Some}
use Prim.Native.Nat.{ℕ, ◌≤◌, ◌<◌}
use native.Mathlib.Omega.{arith}
use mathlib.Core.Path.{◌≡◌, refl, sym}
use mathlib.Core.Bool.{false, cond, ◌&&◌}
use lib.ListN.{length}
use borrow.Author.Tests.{eqb-false}
use Rattle.model.specs.Format.{variable, attrset, neg, inter, union}
use Rattle.model.specs.Table.{Entry, Field, Store, Graph, graph_of, ◌⊑◌, entry_at, is, is_at}
use Rattle.model.specs.Shapes.{functor_of}
use Rattle.model.specs.Formed.{kind_known, one_component, two_components}
use Rattle.model.specs.Rules.{mismatch, attrsets, functor_rule, arm_of, by_arm, concrete}
use Rattle.laws.specs.Good.{entry_good, Good}
use Rattle.laws.proofs.Tests.{nth, le_of}
use Rattle.laws.proofs.Components.{x_of, y_of}
use Rattle.decision.specs.declared.Arm.{Arm}
use Rattle.decision.specs.declared.Arm.TheVariants as A
use Rattle.constrain.specs.declared.Words.{Words}
use Rattle.constrain.specs.declared.Next.{Next}
use Rattle.decision.specs.Decide.{ArmFits, arm_in}
use Rattle.constrain.specs.Next.{Comes, words_at, lambda_of}

-- the words of entry n, which is concrete
pub kinds : (s : Store) (good : Good s) (n : ℕ) → n < length s.entries → is_at s.entries variable n ≡ false
    → (v : Words) → v ≡ words_at (entry_at s.entries n) → (1 ≤ v.kind) × (v.kind ≤ 8)
unfolding is_at is entry_good kind_known
kinds s good n lt f v q =
    let e : Entry = entry_at s.entries n in
    let k : e.kind ≤ 8 = le_of e.kind 8 (nth _ 0 (good.entries n lt)) in
    let z : e.kind ≡ 0 → ⊥ = eqb-false e.kind 0 f in
    rw q (omega arith, k)

module _ (s : Store) (good : Good s) (n : ℕ) (lt : n < length s.entries) (v : Words) (q : v ≡ words_at (entry_at s.entries n)) where
  neg_below : v.kind ≡ neg → v.x < length s.entries
  unfolding one_component two_components is
  neg_below k = let h : (entry_at s.entries n).kind ≡ neg = rw q at k in rw q (x_of s good n lt (rw h tt))

  inter_below : v.kind ≡ inter → (v.x < length s.entries) × (v.y < length s.entries)
  unfolding one_component two_components is
  inter_below k = let h : (entry_at s.entries n).kind ≡ inter = rw q at k in rw q (x_of s good n lt (rw h tt), y_of s good n lt (rw h tt))

  union_below : v.kind ≡ union → (v.x < length s.entries) × (v.y < length s.entries)
  unfolding one_component two_components is
  union_below k = let h : (entry_at s.entries n).kind ≡ union = rw q at k in rw q (x_of s good n lt (rw h tt), y_of s good n lt (rw h tt))

-- of the lambda, the functor's rule reads only its components
lambda_same : (g : Graph) (sub : ℕ) (b : Entry) (o : Option Field) → functor_rule g sub (lambda_of b.x b.y) o ≡ functor_rule g sub b o
unfolding functor_rule
lambda_same g sub b None = refl
lambda_same g sub b (Some f) = refl

-- what is known of sub and sup, their words v and w, and the arm
pub record Decided (s : Store) (sub sup : ℕ) (v w : Words) (arm : Arm) : Type 0 where
  pub good : Good s
  pub sub_there : sub < length s.entries
  pub sup_there : sup < length s.entries
  pub sub_words : v ≡ words_at (entry_at s.entries sub)
  pub sup_words : w ≡ words_at (entry_at s.entries sup)
  pub same : arm_in arm ≡ arm_of v.kind w.kind v.x w.x
  pub fits : ArmFits arm v.kind w.kind v.x w.x

module _ {s : Store} {sub sup : ℕ} {v w : Words} {arm : Arm} (d : Decided s sub sup v w arm) where
  pub neg_there : arm ≡ A.UnderNeg → w.x < length s.entries
  neg_there q = let f : ArmFits A.UnderNeg v.kind w.kind v.x w.x = rw q at d.fits in neg_below s d.good sup d.sup_there w d.sup_words f.0

  pub inter_there : arm ≡ A.SubInter → (v.x < length s.entries) × (v.y < length s.entries)
  inter_there q = let f : ArmFits A.SubInter v.kind w.kind v.x w.x = rw q at d.fits in inter_below s d.good sub d.sub_there v d.sub_words f.0

  pub union_there : arm ≡ A.SupUnion → (w.x < length s.entries) × (w.y < length s.entries)
  union_there q = let f : ArmFits A.SupUnion v.kind w.kind v.x w.x = rw q at d.fits in union_below s d.good sup d.sup_there w d.sup_words f.0

  pub by_arm_lem : {x : Arm} {r : Next} → arm ≡ x
      → Comes (graph_of s) (sub ⊑ sup) r (by_arm (graph_of s) sub sup (entry_at s.entries sub) (entry_at s.entries sup) (arm_in x))
      → Comes (graph_of s) (sub ⊑ sup) r (concrete (graph_of s) sub sup (entry_at s.entries sub) (entry_at s.entries sup))
  unfolding concrete
  by_arm_lem {x} q h =
      let a : Entry = entry_at s.entries sub in
      let b : Entry = entry_at s.entries sup in
      let e : arm_in x ≡ arm_of a.kind b.kind a.x b.x = rw (q, d.sub_words, d.sup_words) at d.same in
      rw (sym e) h

  -- both are attrsets
  pub attrsets_same : arm ≡ A.Attrsets
      → cond (is_at s.entries attrset sub && is_at s.entries attrset sup) (attrsets (graph_of s) (entry_at s.entries sub) (entry_at s.entries sup)) mismatch
      ≡ attrsets (graph_of s) (entry_at s.entries sub) (entry_at s.entries sup)
  unfolding is_at is
  attrsets_same q =
      let f : ArmFits A.Attrsets v.kind w.kind v.x w.x = rw q at d.fits in
      let h : (entry_at s.entries sub).kind ≡ attrset = rw d.sub_words at f.0 in
      let k : (entry_at s.entries sup).kind ≡ attrset = rw d.sup_words at f.1 in
      rw (h, k)

  pub functor_same : {r : Next}
      → Comes (graph_of s) (sub ⊑ sup) r (functor_rule (graph_of s) sub (lambda_of w.x w.y) (functor_of (graph_of s) (entry_at s.entries sub)))
      → Comes (graph_of s) (sub ⊑ sup) r (functor_rule (graph_of s) sub (entry_at s.entries sup) (functor_of (graph_of s) (entry_at s.entries sub)))
  functor_same {r} h =
      let b : Entry = entry_at s.entries sup in
      let o : Option Field = functor_of (graph_of s) (entry_at s.entries sub) in
      let k : Comes (graph_of s) (sub ⊑ sup) r (functor_rule (graph_of s) sub (lambda_of b.x b.y) o) = rw d.sup_words at h in
      rw (sym (lambda_same (graph_of s) sub b o)) k

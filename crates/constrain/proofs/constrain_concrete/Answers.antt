-- `constrain_concrete`: two concrete entries come to what the rule that fits them says.
use Prim.Native.Nat.{ℕ, ◌<◌}
use mathlib.Core.Path.{◌≡◌, refl}
use lib.ListN.{length}
use Rattle.model.specs.Table.{Store, entry_at}
use Rattle.model.specs.Rules.{by_arm, arm_of}
use Rattle.laws.specs.Good.{Good}
use Rattle.decision.specs.Decide.{ArmFits, arm_in}
use Rattle.decision.specs.declared.Arm.{Arm}
use Rattle.constrain.specs.declared.Words.{Words}
use Rattle.constrain.specs.Next.{words_at}
use Rattle.constrain.proofs.Concrete.{kinds, Decided, neg_there, inter_there, union_there, by_arm_lem, attrsets_same, functor_same}
use Rattle.constrain.proofs.constrain_concrete.Goals as goal

decided : {s : Store} {sub sup : ℕ} {v w : Words} {arm : Arm} → Good s → sub < length s.entries → sup < length s.entries
    → v ≡ words_at (entry_at s.entries sub) → w ≡ words_at (entry_at s.entries sup)
    → arm_in arm ≡ arm_of v.kind w.kind v.x w.x → ArmFits arm v.kind w.kind v.x w.x → Decided s sub sup v w arm
decided good left right v w same fits = record { good = good; sub_there = left; sup_there = right; sub_words = v; sup_words = w; same = same; fits = fits }

pub decide-arm-requires : goal.decide-arm-requires
decide-arm-requires c =
    let i = kinds _ c.requires.good _ c.requires.sub_in_bounds c.requires.sub_value _ c.words_of-a.ensures in
    let j = kinds _ c.requires.good _ c.requires.sup_in_bounds c.requires.sup_value _ c.words_of-b.ensures in
    (i.0, i.1, j.0, j.1)

pub constrain_under_neg-requires-clause-n_in_bounds : goal.constrain_under_neg-requires-clause-n_in_bounds
constrain_under_neg-requires-clause-n_in_bounds c =
    let d = decided c.requires.good c.requires.sub_in_bounds c.requires.sup_in_bounds c.words_of-a.ensures c.words_of-b.ensures c.decide-arm.ensures.result_value c.decide-arm.ensures.arm_fits in
    neg_there d c.in-UnderNeg.is

pub constrain_lhs_inter-requires-clause-a_in_bounds : goal.constrain_lhs_inter-requires-clause-a_in_bounds
constrain_lhs_inter-requires-clause-a_in_bounds c =
    let d = decided c.requires.good c.requires.sub_in_bounds c.requires.sup_in_bounds c.words_of-a.ensures c.words_of-b.ensures c.decide-arm.ensures.result_value c.decide-arm.ensures.arm_fits in
    let h = inter_there d c.in-SubInter.is in
    h.0

pub constrain_lhs_inter-requires-clause-b_in_bounds : goal.constrain_lhs_inter-requires-clause-b_in_bounds
constrain_lhs_inter-requires-clause-b_in_bounds c =
    let d = decided c.requires.good c.requires.sub_in_bounds c.requires.sup_in_bounds c.words_of-a.ensures c.words_of-b.ensures c.decide-arm.ensures.result_value c.decide-arm.ensures.arm_fits in
    let h = inter_there d c.in-SubInter.is in
    h.1

pub constrain_rhs_union-requires-clause-a_in_bounds : goal.constrain_rhs_union-requires-clause-a_in_bounds
constrain_rhs_union-requires-clause-a_in_bounds c =
    let d = decided c.requires.good c.requires.sub_in_bounds c.requires.sup_in_bounds c.words_of-a.ensures c.words_of-b.ensures c.decide-arm.ensures.result_value c.decide-arm.ensures.arm_fits in
    let h = union_there d c.in-SupUnion.is in
    h.0

pub constrain_rhs_union-requires-clause-b_in_bounds : goal.constrain_rhs_union-requires-clause-b_in_bounds
constrain_rhs_union-requires-clause-b_in_bounds c =
    let d = decided c.requires.good c.requires.sub_in_bounds c.requires.sup_in_bounds c.words_of-a.ensures c.words_of-b.ensures c.decide-arm.ensures.result_value c.decide-arm.ensures.arm_fits in
    let h = union_there d c.in-SupUnion.is in
    h.1

pub returns-in-SubNamed : goal.returns-in-SubNamed
unfolding by_arm
returns-in-SubNamed c =
    let d = decided c.requires.good c.requires.sub_in_bounds c.requires.sup_in_bounds c.words_of-a.ensures c.words_of-b.ensures c.decide-arm.ensures.result_value c.decide-arm.ensures.arm_fits in
    by_arm_lem d c.in-SubNamed.is (record { means = rw d.sub_words; applies = tt })

pub returns-in-SupNamed : goal.returns-in-SupNamed
unfolding by_arm
returns-in-SupNamed c =
    let d = decided c.requires.good c.requires.sub_in_bounds c.requires.sup_in_bounds c.words_of-a.ensures c.words_of-b.ensures c.decide-arm.ensures.result_value c.decide-arm.ensures.arm_fits in
    by_arm_lem d c.in-SupNamed.is (record { means = rw d.sup_words; applies = tt })

pub returns-in-Lambdas : goal.returns-in-Lambdas
unfolding by_arm
returns-in-Lambdas c =
    let d = decided c.requires.good c.requires.sub_in_bounds c.requires.sup_in_bounds c.words_of-a.ensures c.words_of-b.ensures c.decide-arm.ensures.result_value c.decide-arm.ensures.arm_fits in
    by_arm_lem d c.in-Lambdas.is (record { means = rw (d.sub_words, d.sup_words); applies = tt })

pub returns-in-Lists : goal.returns-in-Lists
unfolding by_arm
returns-in-Lists c =
    let d = decided c.requires.good c.requires.sub_in_bounds c.requires.sup_in_bounds c.words_of-a.ensures c.words_of-b.ensures c.decide-arm.ensures.result_value c.decide-arm.ensures.arm_fits in
    by_arm_lem d c.in-Lists.is (record { means = rw (d.sub_words, d.sup_words); applies = tt })

pub returns-in-Attrsets : goal.returns-in-Attrsets
unfolding by_arm
returns-in-Attrsets c =
    let d = decided c.requires.good c.requires.sub_in_bounds c.requires.sup_in_bounds c.words_of-a.ensures c.words_of-b.ensures c.decide-arm.ensures.result_value c.decide-arm.ensures.arm_fits in
    by_arm_lem d c.in-Attrsets.is (rw (attrsets_same d c.in-Attrsets.is) at c.constrain_attrsets.ensures)

pub returns-in-Nothing : goal.returns-in-Nothing
unfolding by_arm
returns-in-Nothing c =
    let d = decided c.requires.good c.requires.sub_in_bounds c.requires.sup_in_bounds c.words_of-a.ensures c.words_of-b.ensures c.decide-arm.ensures.result_value c.decide-arm.ensures.arm_fits in
    by_arm_lem d c.in-Nothing.is (record { means = refl; applies = tt })

pub returns-in-Negs : goal.returns-in-Negs
unfolding by_arm
returns-in-Negs c =
    let d = decided c.requires.good c.requires.sub_in_bounds c.requires.sup_in_bounds c.words_of-a.ensures c.words_of-b.ensures c.decide-arm.ensures.result_value c.decide-arm.ensures.arm_fits in
    by_arm_lem d c.in-Negs.is (record { means = rw (d.sub_words, d.sup_words); applies = tt })

pub returns-in-UnderNeg : goal.returns-in-UnderNeg
unfolding by_arm
returns-in-UnderNeg c =
    let d = decided c.requires.good c.requires.sub_in_bounds c.requires.sup_in_bounds c.words_of-a.ensures c.words_of-b.ensures c.decide-arm.ensures.result_value c.decide-arm.ensures.arm_fits in
    by_arm_lem d c.in-UnderNeg.is (rw d.sup_words at (c.constrain_under_neg.ensures c.args.sup))

pub returns-in-SupInter : goal.returns-in-SupInter
unfolding by_arm
returns-in-SupInter c =
    let d = decided c.requires.good c.requires.sub_in_bounds c.requires.sup_in_bounds c.words_of-a.ensures c.words_of-b.ensures c.decide-arm.ensures.result_value c.decide-arm.ensures.arm_fits in
    by_arm_lem d c.in-SupInter.is (record { means = rw d.sup_words; applies = tt })

pub returns-in-SubUnion : goal.returns-in-SubUnion
unfolding by_arm
returns-in-SubUnion c =
    let d = decided c.requires.good c.requires.sub_in_bounds c.requires.sup_in_bounds c.words_of-a.ensures c.words_of-b.ensures c.decide-arm.ensures.result_value c.decide-arm.ensures.arm_fits in
    by_arm_lem d c.in-SubUnion.is (record { means = rw d.sub_words; applies = tt })

pub returns-in-SubInter : goal.returns-in-SubInter
unfolding by_arm
returns-in-SubInter c =
    let d = decided c.requires.good c.requires.sub_in_bounds c.requires.sup_in_bounds c.words_of-a.ensures c.words_of-b.ensures c.decide-arm.ensures.result_value c.decide-arm.ensures.arm_fits in
    by_arm_lem d c.in-SubInter.is (rw d.sub_words at (c.constrain_lhs_inter.ensures c.args.sub))

pub returns-in-SupUnion : goal.returns-in-SupUnion
unfolding by_arm
returns-in-SupUnion c =
    let d = decided c.requires.good c.requires.sub_in_bounds c.requires.sup_in_bounds c.words_of-a.ensures c.words_of-b.ensures c.decide-arm.ensures.result_value c.decide-arm.ensures.arm_fits in
    by_arm_lem d c.in-SupUnion.is (rw d.sup_words at (c.constrain_rhs_union.ensures c.args.sup))

pub returns-in-Functor : goal.returns-in-Functor
unfolding by_arm
returns-in-Functor c =
    let d = decided c.requires.good c.requires.sub_in_bounds c.requires.sup_in_bounds c.words_of-a.ensures c.words_of-b.ensures c.decide-arm.ensures.result_value c.decide-arm.ensures.arm_fits in
    by_arm_lem d c.in-Functor.is (functor_same d (c.constrain_functor.ensures c.args.sup))

pub returns-in-Mismatch : goal.returns-in-Mismatch
unfolding by_arm
returns-in-Mismatch c =
    let d = decided c.requires.good c.requires.sub_in_bounds c.requires.sup_in_bounds c.words_of-a.ensures c.words_of-b.ensures c.decide-arm.ensures.result_value c.decide-arm.ensures.arm_fits in
    by_arm_lem d c.in-Mismatch.is (record { means = refl; applies = tt })

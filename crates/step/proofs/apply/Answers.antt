-- What the pair comes to, case by case: proofs/Applying.antt.
use Rattle.model.specs.Table.{◌⊑◌}
use Rattle.step.proofs.Applying.{applied_mismatch, applied_missing, applied_follow, applied_upper, applied_lower}
use Rattle.step.proofs.apply.Goals as goal

pub returns-in-Mismatch : goal.returns-in-Mismatch
returns-in-Mismatch c =
    let k = applied_mismatch c.args.image.now (c.args.sub ⊑ c.args.sup) _ _ _ c.in-Mismatch.is (c.fail.ensures.value, c.fail.ensures.image_after) in
    record { value = k.0; image_after = k.1 }

pub returns-in-Missing : goal.returns-in-Missing
returns-in-Missing c =
    let k = applied_missing c.args.image.now (c.args.sub ⊑ c.args.sup) _ _ _ _ c.in-Missing.is (c.fail-in-Missing.ensures.value, c.fail-in-Missing.ensures.image_after) in
    record { value = k.0; image_after = k.1 }

pub returns-in-Follow : goal.returns-in-Follow
returns-in-Follow c =
    let k = applied_follow c.args.image.now (c.args.sub ⊑ c.args.sup) _ _ _ _ c.in-Follow.is (c.follow.ensures.value, c.follow.ensures.image_after) in
    record { value = k.0; image_after = k.1 }

pub returns-in-Upper : goal.returns-in-Upper
returns-in-Upper c =
    let k = applied_upper c.args.image.now (c.args.sub ⊑ c.args.sup) _ _ _ c.in-Upper.is (c.join_bounds.ensures.value, c.join_bounds.ensures.image_after) in
    record { value = k.0; image_after = k.1 }

pub returns-in-Lower : goal.returns-in-Lower
returns-in-Lower c =
    let k = applied_lower c.args.image.now (c.args.sub ⊑ c.args.sup) _ _ _ c.in-Lower.is (c.join_bounds-in-Lower.ensures.value, c.join_bounds-in-Lower.ensures.image_after) in
    record { value = k.0; image_after = k.1 }

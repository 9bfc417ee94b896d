-- The last pending pair: equal numbers, visited, or what it comes to: proofs/Applying.antt.
use mathlib.Core.Path.{sym, ◌∙◌}
use Rattle.image.specs.Shown.{pending_in}
use Rattle.laws.proofs.Formed.{sound_table}
use Rattle.image.proofs.Laying.{formed_laid, formed_shown}
use Rattle.step.proofs.Applying.{last_sub, last_sup, last_known, step_equal, step_visited, step_applied}
use Rattle.step.proofs.take_step.Goals as goal

pub records-last-requires : goal.records-last-requires
records-last-requires c = formed_laid _ c.requires.t

pub word-sub-requires-clause-laid : goal.word-sub-requires-clause-laid
word-sub-requires-clause-laid c = formed_laid _ c.requires.t

pub word-sup-requires-clause-laid : goal.word-sup-requires-clause-laid
word-sup-requires-clause-laid c = formed_laid _ c.requires.t

pub skip-requires-clause-shown : goal.skip-requires-clause-shown
skip-requires-clause-shown c = formed_shown _ c.requires.t

pub returns-then-sub-sup-clause-value : goal.returns-then-sub-sup-clause-value
returns-then-sub-sup-clause-value c = (step_equal _ c.requires.t c.requires.nonzero _ _ (last_sub (pending_in c.args.image.now) _ _ c.records-last.ensures c.word-sub.ensures) (last_sup (pending_in c.args.image.now) _ _ c.records-last.ensures c.word-sup.ensures) _ c.skip.ensures c.if-sub-sup.true).0

pub returns-then-sub-sup-clause-image_after : goal.returns-then-sub-sup-clause-image_after
returns-then-sub-sup-clause-image_after c = (step_equal _ c.requires.t c.requires.nonzero _ _ (last_sub (pending_in c.args.image.now) _ _ c.records-last.ensures c.word-sub.ensures) (last_sup (pending_in c.args.image.now) _ _ c.records-last.ensures c.word-sup.ensures) _ c.skip.ensures c.if-sub-sup.true).1

pub visited_has-requires : goal.visited_has-requires
visited_has-requires c = formed_laid _ c.requires.t

pub skip-requires-then-visited_has-clause-shown : goal.skip-requires-then-visited_has-clause-shown
skip-requires-then-visited_has-clause-shown c = formed_shown _ c.requires.t

pub returns-then-visited_has-clause-value : goal.returns-then-visited_has-clause-value
returns-then-visited_has-clause-value c = (step_visited _ c.requires.t c.requires.nonzero _ _ (last_sub (pending_in c.args.image.now) _ _ c.records-last.ensures c.word-sub.ensures) (last_sup (pending_in c.args.image.now) _ _ c.records-last.ensures c.word-sup.ensures) _ c.skip-then-visited_has.ensures (sym c.visited_has.ensures ∙ c.if-visited_has.true)).0

pub returns-then-visited_has-clause-image_after : goal.returns-then-visited_has-clause-image_after
returns-then-visited_has-clause-image_after c = (step_visited _ c.requires.t c.requires.nonzero _ _ (last_sub (pending_in c.args.image.now) _ _ c.records-last.ensures c.word-sub.ensures) (last_sup (pending_in c.args.image.now) _ _ c.records-last.ensures c.word-sup.ensures) _ c.skip-then-visited_has.ensures (sym c.visited_has.ensures ∙ c.if-visited_has.true)).1

pub constrain-next-requires-clause-laid : goal.constrain-next-requires-clause-laid
constrain-next-requires-clause-laid c =
    let k = last_known _ c.requires.t c.requires.nonzero _ _ (last_sub (pending_in c.args.image.now) _ _ c.records-last.ensures c.word-sub.ensures) (last_sup (pending_in c.args.image.now) _ _ c.records-last.ensures c.word-sup.ensures) in
    formed_laid _ c.requires.t

pub constrain-next-requires-clause-good : goal.constrain-next-requires-clause-good
constrain-next-requires-clause-good c =
    let k = last_known _ c.requires.t c.requires.nonzero _ _ (last_sub (pending_in c.args.image.now) _ _ c.records-last.ensures c.word-sub.ensures) (last_sup (pending_in c.args.image.now) _ _ c.records-last.ensures c.word-sup.ensures) in
    (sound_table _ c.requires.t).store.good

pub constrain-next-requires-clause-sub_in_bounds : goal.constrain-next-requires-clause-sub_in_bounds
constrain-next-requires-clause-sub_in_bounds c =
    let k = last_known _ c.requires.t c.requires.nonzero _ _ (last_sub (pending_in c.args.image.now) _ _ c.records-last.ensures c.word-sub.ensures) (last_sup (pending_in c.args.image.now) _ _ c.records-last.ensures c.word-sup.ensures) in
    k.0

pub constrain-next-requires-clause-sup_in_bounds : goal.constrain-next-requires-clause-sup_in_bounds
constrain-next-requires-clause-sup_in_bounds c =
    let k = last_known _ c.requires.t c.requires.nonzero _ _ (last_sub (pending_in c.args.image.now) _ _ c.records-last.ensures c.word-sub.ensures) (last_sup (pending_in c.args.image.now) _ _ c.records-last.ensures c.word-sup.ensures) in
    k.1

pub apply-requires-clause-sub_in_bounds : goal.apply-requires-clause-sub_in_bounds
apply-requires-clause-sub_in_bounds c =
    let k = last_known _ c.requires.t c.requires.nonzero _ _ (last_sub (pending_in c.args.image.now) _ _ c.records-last.ensures c.word-sub.ensures) (last_sup (pending_in c.args.image.now) _ _ c.records-last.ensures c.word-sup.ensures) in
    k.0

pub apply-requires-clause-sup_in_bounds : goal.apply-requires-clause-sup_in_bounds
apply-requires-clause-sup_in_bounds c =
    let k = last_known _ c.requires.t c.requires.nonzero _ _ (last_sub (pending_in c.args.image.now) _ _ c.records-last.ensures c.word-sub.ensures) (last_sup (pending_in c.args.image.now) _ _ c.records-last.ensures c.word-sup.ensures) in
    k.1

pub returns : goal.returns
returns c =
    let k = step_applied _ c.requires.t c.requires.nonzero _ _ (last_sub (pending_in c.args.image.now) _ _ c.records-last.ensures c.word-sub.ensures) (last_sup (pending_in c.args.image.now) _ _ c.records-last.ensures c.word-sup.ensures) _ _ _ c.if-sub-sup.false (sym c.visited_has.ensures ∙ c.if-visited_has.false) c.constrain-next.ensures (c.apply.ensures.value, c.apply.ensures.image_after) in
    record { value = k.0; image_after = k.1 }

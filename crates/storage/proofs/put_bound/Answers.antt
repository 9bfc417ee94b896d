-- `put_bound`: puts b as a bound of v on a side, unless it would repeat one.
use mathlib.Core.Path.{sym, ◌∙◌}
use Rattle.image.proofs.Laying.{formed_shown, formed_laid}
use Rattle.storage.proofs.Replying.{bound_same, bound_full, bound_done}
use Rattle.storage.proofs.put_bound.Goals as goal

pub records-n-requires : goal.records-n-requires
records-n-requires c = formed_laid _ c.requires

pub repeats_bound-requires-clause-laid : goal.repeats_bound-requires-clause-laid
repeats_bound-requires-clause-laid c = formed_laid _ c.requires

pub returns-then-repeats_bound : goal.returns-then-repeats_bound
returns-then-repeats_bound c =
    let r = bound_same _ _ _ _ c.requires (sym c.repeats_bound.ensures ∙ c.if-repeats_bound.true) in
    record { result_value = r.0; image_after = r.1 }

pub room-requires : goal.room-requires
room-requires c = formed_laid _ c.requires

pub returns-then-room-n : goal.returns-then-room-n
returns-then-room-n c =
    let r = bound_full _ _ _ _ c.requires (sym c.repeats_bound.ensures ∙ c.if-repeats_bound.false) _ _ c.records-n.ensures c.room.ensures c.if-room-n.true in
    record { result_value = r.0; image_after = r.1 }

pub push-requires-clause-laid : goal.push-requires-clause-laid
push-requires-clause-laid c = formed_laid _ c.requires

pub returns : goal.returns
returns c =
    let r = bound_done _ _ _ _ c.requires (sym c.repeats_bound.ensures ∙ c.if-repeats_bound.false) _ _ c.records-n.ensures c.room.ensures c.if-room-n.false _ (c.push.ensures _ (formed_shown _ c.requires)) in
    record { result_value = r.0; image_after = r.1 }

-- A question's refusals one by one, then the room for it: proofs/Asking.antt.
use native.Mathlib.Omega.{arith}
use mathlib.Core.Path.{sym, ◌∙◌}
use Rattle.image.specs.Shown.{store_of}
use Rattle.image.proofs.Laying.{formed_laid, formed_shown}
use Rattle.questions.proofs.Asking.{is_broken_lem, asked_already, held_broken, no_first, no_second, fit}
use Rattle.questions.proofs.fitness.Goals as goal

pub is_asked-requires : goal.is_asked-requires
is_asked-requires c = formed_shown _ c.requires

pub returns-then-is_asked : goal.returns-then-is_asked
returns-then-is_asked c = asked_already _ c.args.q (sym c.is_asked.ensures ∙ c.if-is_asked.true)

pub break_kind-kind-requires : goal.break_kind-kind-requires
break_kind-kind-requires c = formed_laid _ c.requires

pub break_sub-sub-requires : goal.break_sub-sub-requires
break_sub-sub-requires c = formed_laid _ c.requires

pub break_sup-sup-requires : goal.break_sup-sup-requires
break_sup-sup-requires c = formed_laid _ c.requires

pub break_name-name-requires : goal.break_name-name-requires
break_name-name-requires c = formed_laid _ c.requires

pub returns-then-q-kind : goal.returns-then-q-kind
returns-then-q-kind c = held_broken _ c.args.q (sym c.is_asked.ensures ∙ c.if-is_asked.false) (is_broken_lem c.args.q.held _ _ (store_of c.args.image.now) c.break_kind-kind.ensures c.if-q-kind.true) _ _ _ _ c.break_kind-kind.ensures c.break_sub-sub.ensures c.break_sup-sup.ensures c.break_name-name.ensures

pub records-requires : goal.records-requires
records-requires c = formed_laid _ c.requires

pub returns-then-records-q : goal.returns-then-records-q
returns-then-records-q c = no_first _ c.args.q (sym c.is_asked.ensures ∙ c.if-is_asked.false) (is_broken_lem c.args.q.held _ _ (store_of c.args.image.now) c.break_kind-kind.ensures c.if-q-kind.false) (omega (arith, c.if-records-q.true, c.records.ensures))

pub records-requires-2 : goal.records-requires-2
records-requires-2 c = formed_laid _ c.requires

pub returns-then-records-q-2 : goal.returns-then-records-q-2
returns-then-records-q-2 c = no_second _ c.args.q (sym c.is_asked.ensures ∙ c.if-is_asked.false) (is_broken_lem c.args.q.held _ _ (store_of c.args.image.now) c.break_kind-kind.ensures c.if-q-kind.false) (omega (arith, c.if-records-q-2.true, c.records-2.ensures))

pub returns : goal.returns
returns c = fit _ c.args.q (sym c.is_asked.ensures ∙ c.if-is_asked.false) (is_broken_lem c.args.q.held _ _ (store_of c.args.image.now) c.break_kind-kind.ensures c.if-q-kind.false) (omega (arith, c.if-records-q.false, c.records.ensures)) (omega (arith, c.if-records-q-2.false, c.records-2.ensures)) c.room_for.result c.room_for.ensures

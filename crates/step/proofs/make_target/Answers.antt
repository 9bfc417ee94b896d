-- Each place hands what it knows to the laws of Targets.
use native.Mathlib.Omega.{arith}
use Rattle.step.proofs.Targets.{full_negation, target_asks, target_old, target_laid, target_below, target_number, sup_low, negation_low, target_none, target_room, target_new}
use Rattle.step.proofs.make_target.Goals as goal

pub returns-in_err-n : goal.returns-in_err-n
returns-in_err-n c = rw c.from_residual.ensures (full_negation _ _ _ c.requires.negatable c.requires.good c.requires.shallow c.requires.sup_in_bounds _ _ c.negate.ensures c.in_err-n.was)

pub union_contains_member-requires-clause-laid : goal.union_contains_member-requires-clause-laid
union_contains_member-requires-clause-laid c = (target_asks _ _ _ c.requires.negatable c.requires.good c.requires.shallow c.requires.sup_in_bounds _ _ c.negate.ensures _ c.in_ok-n.was).0

pub union_contains_member-requires-clause-good : goal.union_contains_member-requires-clause-good
union_contains_member-requires-clause-good c = (target_asks _ _ _ c.requires.negatable c.requires.good c.requires.shallow c.requires.sup_in_bounds _ _ c.negate.ensures _ c.in_ok-n.was).1.0

pub union_contains_member-requires-clause-n_in_bounds : goal.union_contains_member-requires-clause-n_in_bounds
union_contains_member-requires-clause-n_in_bounds c = (target_asks _ _ _ c.requires.negatable c.requires.good c.requires.shallow c.requires.sup_in_bounds _ _ c.negate.ensures _ c.in_ok-n.was).1.1

pub returns-then-union_contains_member : goal.returns-then-union_contains_member
returns-then-union_contains_member c = target_old _ _ _ c.requires.negatable c.requires.good c.requires.shallow c.requires.sup_in_bounds _ _ c.negate.ensures _ c.in_ok-n.was _ c.union_contains_member.ensures c.if-union_contains_member.true

pub records-number-requires : goal.records-number-requires
records-number-requires c = target_laid _ _ _ c.requires.negatable c.requires.good c.requires.shallow c.requires.sup_in_bounds _ _ c.negate.ensures _ c.in_ok-n.was

pub room-requires : goal.room-requires
room-requires c = target_laid _ _ _ c.requires.negatable c.requires.good c.requires.shallow c.requires.sup_in_bounds _ _ c.negate.ensures _ c.in_ok-n.was

pub returns-then-room-number : goal.returns-then-room-number
returns-then-room-number c = target_none _ _ _ c.requires.negatable c.requires.good c.requires.shallow c.requires.sup_in_bounds _ _ c.negate.ensures _ c.in_ok-n.was _ c.union_contains_member.ensures c.if-union_contains_member.false _ _ c.records-number.ensures c.room.ensures c.if-room-number.true

pub word-requires-clause-laid : goal.word-requires-clause-laid
word-requires-clause-laid c = target_laid _ _ _ c.requires.negatable c.requires.good c.requires.shallow c.requires.sup_in_bounds _ _ c.negate.ensures _ c.in_ok-n.was

pub word-requires-clause-i_in_bounds : goal.word-requires-clause-i_in_bounds
word-requires-clause-i_in_bounds c = target_below _ _ _ c.requires.negatable c.requires.good c.requires.shallow c.requires.sup_in_bounds _ _ c.negate.ensures _ c.in_ok-n.was

pub overflow_add-spread : goal.overflow_add-spread
overflow_add-spread c = omega (arith, sup_low _ _ _ c.requires.negatable c.requires.good c.requires.shallow c.requires.sup_in_bounds _ _ c.negate.ensures _ c.in_ok-n.was _ c.word.ensures)

pub word-requires-2-clause-laid : goal.word-requires-2-clause-laid
word-requires-2-clause-laid c = target_laid _ _ _ c.requires.negatable c.requires.good c.requires.shallow c.requires.sup_in_bounds _ _ c.negate.ensures _ c.in_ok-n.was

pub word-requires-2-clause-i_in_bounds : goal.word-requires-2-clause-i_in_bounds
word-requires-2-clause-i_in_bounds c = target_number _ _ _ c.requires.negatable c.requires.good c.requires.shallow c.requires.sup_in_bounds _ _ c.negate.ensures _ c.in_ok-n.was

pub overflow_add-spread-2 : goal.overflow_add-spread-2
overflow_add-spread-2 c = omega (arith, sup_low _ _ _ c.requires.negatable c.requires.good c.requires.shallow c.requires.sup_in_bounds _ _ c.negate.ensures _ c.in_ok-n.was _ c.word.ensures, negation_low _ _ _ c.requires.negatable c.requires.good c.requires.shallow c.requires.sup_in_bounds _ _ c.negate.ensures _ c.in_ok-n.was _ c.word-2.ensures)

pub push_entry-requires-clause-shown : goal.push_entry-requires-clause-shown
push_entry-requires-clause-shown c = (target_room _ _ _ c.requires.negatable c.requires.good c.requires.shallow c.requires.sup_in_bounds _ _ c.negate.ensures _ c.in_ok-n.was _ c.union_contains_member.ensures c.if-union_contains_member.false _ _ c.records-number.ensures c.room.ensures c.if-room-number.false).0

pub returns : goal.returns
returns c = target_new _ _ _ c.requires.negatable c.requires.good c.requires.shallow c.requires.sup_in_bounds _ _ c.negate.ensures _ c.in_ok-n.was _ c.union_contains_member.ensures c.if-union_contains_member.false _ _ c.records-number.ensures c.room.ensures c.if-room-number.false _ _ c.word.ensures c.word-2.ensures _ c.push_entry.ensures

-- Each place hands what it knows to the laws of Functors.
use Rattle.image.proofs.Laying.{formed_laid}
use Rattle.step.proofs.Functors.{functor_held, functor_full, functor_first, functor_second, functor_settle, functor_told}
use Rattle.step.proofs.follow_functor.Goals as goal

pub records-old-requires : goal.records-old-requires
records-old-requires c = formed_laid _ c.requires.t

pub room-requires : goal.room-requires
room-requires c = formed_laid _ c.requires.t

pub overflow_sub-room : goal.overflow_sub-room
overflow_sub-room c = functor_held _ c.args.sub c.args.sup c.args.f c.args.param c.args.body c.requires.t _ _ c.records-old.ensures c.room.ensures

pub returns-then-room-old-clause-value : goal.returns-then-room-old-clause-value
returns-then-room-old-clause-value c = (functor_full _ c.args.sub c.args.sup c.args.f c.args.param c.args.body c.requires.t _ _ c.records-old.ensures c.room.ensures c.if-room-old.true).0

pub returns-then-room-old-clause-image_after : goal.returns-then-room-old-clause-image_after
returns-then-room-old-clause-image_after c = (functor_full _ c.args.sub c.args.sup c.args.f c.args.param c.args.body c.requires.t _ _ c.records-old.ensures c.room.ensures c.if-room-old.true).1

pub push_entry-requires-clause-shown : goal.push_entry-requires-clause-shown
push_entry-requires-clause-shown c = (functor_first _ c.args.sub c.args.sup c.args.f c.args.param c.args.body c.requires.t _ _ c.records-old.ensures c.room.ensures c.if-room-old.false).0

pub push_entry-requires-2-clause-shown : goal.push_entry-requires-2-clause-shown
push_entry-requires-2-clause-shown c = (functor_second _ c.args.sub c.args.sup c.args.f c.args.param c.args.body c.requires.t _ _ c.records-old.ensures c.room.ensures c.if-room-old.false _ c.push_entry.ensures).0

pub push_entry-requires-2-clause-image_len_bound : goal.push_entry-requires-2-clause-image_len_bound
push_entry-requires-2-clause-image_len_bound c = (functor_second _ c.args.sub c.args.sup c.args.f c.args.param c.args.body c.requires.t _ _ c.records-old.ensures c.room.ensures c.if-room-old.false _ c.push_entry.ensures).1

pub settle-requires-clause-shown : goal.settle-requires-clause-shown
settle-requires-clause-shown c = (functor_settle _ c.args.sub c.args.sup c.args.f c.args.param c.args.body c.requires.t _ _ c.records-old.ensures c.room.ensures c.if-room-old.false _ c.push_entry.ensures _ c.push_entry-2.ensures c.requires.nonzero).0

pub settle-requires-clause-nonzero : goal.settle-requires-clause-nonzero
settle-requires-clause-nonzero c = (functor_settle _ c.args.sub c.args.sup c.args.f c.args.param c.args.body c.requires.t _ _ c.records-old.ensures c.room.ensures c.if-room-old.false _ c.push_entry.ensures _ c.push_entry-2.ensures c.requires.nonzero).1.0

pub settle-requires-clause-in_bounds : goal.settle-requires-clause-in_bounds
settle-requires-clause-in_bounds c = (functor_settle _ c.args.sub c.args.sup c.args.f c.args.param c.args.body c.requires.t _ _ c.records-old.ensures c.room.ensures c.if-room-old.false _ c.push_entry.ensures _ c.push_entry-2.ensures c.requires.nonzero).1.1.0

pub settle-requires-clause-shallow : goal.settle-requires-clause-shallow
settle-requires-clause-shallow c = (functor_settle _ c.args.sub c.args.sup c.args.f c.args.param c.args.body c.requires.t _ _ c.records-old.ensures c.room.ensures c.if-room-old.false _ c.push_entry.ensures _ c.push_entry-2.ensures c.requires.nonzero).1.1.1

pub returns : goal.returns
returns c =
    let k = functor_told _ c.args.sub c.args.sup c.args.f c.args.param c.args.body c.requires.t _ _ c.records-old.ensures c.room.ensures c.if-room-old.false _ c.push_entry.ensures _ c.push_entry-2.ensures _ _ (c.settle.ensures.value, c.settle.ensures.image_after) in
    record { value = k.0; image_after = k.1 }

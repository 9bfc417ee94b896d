-- Each place hands what it knows to the laws of Isolating.
use Rattle.image.proofs.Laying.{formed_laid}
use Rattle.step.proofs.Isolating.{isolate_asks, isolate_undo, isolate_full, isolate_settle, isolate_told}
use Rattle.step.proofs.follow_isolated.Goals as goal

pub records-old-requires : goal.records-old-requires
records-old-requires c = formed_laid _ c.requires.t

pub make_target-requires-clause-negatable : goal.make_target-requires-clause-negatable
make_target-requires-clause-negatable c = (isolate_asks _ c.args.sub _ c.args.c _ c.requires.t c.requires.sup_in_bounds c.requires.d_in_bounds).0

pub make_target-requires-clause-good : goal.make_target-requires-clause-good
make_target-requires-clause-good c = (isolate_asks _ c.args.sub _ c.args.c _ c.requires.t c.requires.sup_in_bounds c.requires.d_in_bounds).1.0

pub make_target-requires-clause-shallow : goal.make_target-requires-clause-shallow
make_target-requires-clause-shallow c = (isolate_asks _ c.args.sub _ c.args.c _ c.requires.t c.requires.sup_in_bounds c.requires.d_in_bounds).1.1.0

pub undo-requires-clause-shown : goal.undo-requires-clause-shown
undo-requires-clause-shown c = (isolate_undo _ c.args.sub _ c.args.c _ c.requires.t c.requires.sup_in_bounds c.requires.d_in_bounds _ c.records-old.ensures _ _ c.make_target.ensures c.in_default.is).0

pub undo-requires-clause-in_bounds : goal.undo-requires-clause-in_bounds
undo-requires-clause-in_bounds c = (isolate_undo _ c.args.sub _ c.args.c _ c.requires.t c.requires.sup_in_bounds c.requires.d_in_bounds _ c.records-old.ensures _ _ c.make_target.ensures c.in_default.is).1

pub returns-in_default-clause-value : goal.returns-in_default-clause-value
returns-in_default-clause-value c = (isolate_full _ c.args.sub _ c.args.c _ c.requires.t c.requires.sup_in_bounds c.requires.d_in_bounds _ c.records-old.ensures _ _ c.make_target.ensures c.in_default.is _ c.undo.ensures).0

pub returns-in_default-clause-image_after : goal.returns-in_default-clause-image_after
returns-in_default-clause-image_after c = (isolate_full _ c.args.sub _ c.args.c _ c.requires.t c.requires.sup_in_bounds c.requires.d_in_bounds _ c.records-old.ensures _ _ c.make_target.ensures c.in_default.is _ c.undo.ensures).1

pub settle-requires-clause-shown : goal.settle-requires-clause-shown
settle-requires-clause-shown c = (isolate_settle _ c.args.sub _ c.args.c _ c.requires.t c.requires.sup_in_bounds c.requires.d_in_bounds _ c.records-old.ensures _ _ c.make_target.ensures _ c.in-Some.is c.requires.nonzero).0

pub settle-requires-clause-nonzero : goal.settle-requires-clause-nonzero
settle-requires-clause-nonzero c = (isolate_settle _ c.args.sub _ c.args.c _ c.requires.t c.requires.sup_in_bounds c.requires.d_in_bounds _ c.records-old.ensures _ _ c.make_target.ensures _ c.in-Some.is c.requires.nonzero).1.0

pub settle-requires-clause-in_bounds : goal.settle-requires-clause-in_bounds
settle-requires-clause-in_bounds c = (isolate_settle _ c.args.sub _ c.args.c _ c.requires.t c.requires.sup_in_bounds c.requires.d_in_bounds _ c.records-old.ensures _ _ c.make_target.ensures _ c.in-Some.is c.requires.nonzero).1.1.0

pub settle-requires-clause-shallow : goal.settle-requires-clause-shallow
settle-requires-clause-shallow c = (isolate_settle _ c.args.sub _ c.args.c _ c.requires.t c.requires.sup_in_bounds c.requires.d_in_bounds _ c.records-old.ensures _ _ c.make_target.ensures _ c.in-Some.is c.requires.nonzero).1.1.1

pub returns : goal.returns
returns c =
    let k = isolate_told _ c.args.sub _ c.args.c _ c.requires.t c.requires.sup_in_bounds c.requires.d_in_bounds _ c.records-old.ensures _ _ c.make_target.ensures _ c.in-Some.is _ _ (c.settle.ensures.value, c.settle.ensures.image_after) in
    record { value = k.0; image_after = k.1 }

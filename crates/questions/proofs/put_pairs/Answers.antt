-- One pair, or two: proofs/Asking.antt.
use borrow.Author.Tests.{not-true, not-false}
use Rattle.image.proofs.Laying.{shown_as, shown_laid}
use Rattle.questions.proofs.Asking.{one_pair_fits, one_put, first_fits, second_fits, two_put}
use Rattle.questions.proofs.put_pairs.Goals as goal

pub push-requires-clause-laid : goal.push-requires-clause-laid
push-requires-clause-laid c = shown_laid c.requires.shown_as

pub push-requires-clause-room : goal.push-requires-clause-room
push-requires-clause-room c = one_pair_fits c.args.q _ c.requires.q_len_bound (not-true _ c.if-not-q.true)

pub returns-then-not-q : goal.returns-then-not-q
returns-then-not-q c = one_put c.args.q _ _ (not-true _ c.if-not-q.true) (c.push.ensures _ c.requires.shown_as)

pub push-requires-2-clause-laid : goal.push-requires-2-clause-laid
push-requires-2-clause-laid c = shown_laid c.requires.shown_as

pub push-requires-2-clause-room : goal.push-requires-2-clause-room
push-requires-2-clause-room c = first_fits c.args.q _ c.requires.q_len_bound (not-false _ c.if-not-q.false)

pub push-requires-3-clause-laid : goal.push-requires-3-clause-laid
push-requires-3-clause-laid c = shown_laid (c.push-2.ensures _ c.requires.shown_as)

pub push-requires-3-clause-room : goal.push-requires-3-clause-room
push-requires-3-clause-room c = second_fits c.args.q _ c.requires.q_len_bound _ (c.push-2.ensures _ c.requires.shown_as) (not-false _ c.if-not-q.false)

pub returns : goal.returns
returns c = two_put c.args.q _ c.requires.q_len_bound _ (c.push-2.ensures _ c.requires.shown_as) _ (not-false _ c.if-not-q.false) (c.push-3.ensures _ (shown_as (c.push-2.ensures _ c.requires.shown_as)))

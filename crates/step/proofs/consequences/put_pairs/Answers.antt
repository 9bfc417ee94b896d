-- Consequences on pending, case by case: proofs/Following.antt.
use Rattle.image.proofs.Laying.{shown_laid}
use Rattle.step.proofs.Following.{second_fits, put_two}
use Rattle.step.proofs.consequences.put_pairs.Goals as goal

pub push-requires-clause-laid : goal.push-requires-clause-laid
push-requires-clause-laid c = shown_laid c.requires.midway

pub push-requires-in-Two-clause-laid : goal.push-requires-in-Two-clause-laid
push-requires-in-Two-clause-laid c = shown_laid c.requires.midway

pub push-requires-in-Two-2-clause-laid : goal.push-requires-in-Two-2-clause-laid
push-requires-in-Two-2-clause-laid c = shown_laid (c.push-in-Two.ensures _ c.requires.midway)

pub push-requires-in-Two-2-clause-room : goal.push-requires-in-Two-2-clause-room
push-requires-in-Two-2-clause-room c = (second_fits _ _ _ _ _ _ c.in-Two.is _ (c.push-in-Two.ensures _ c.requires.midway) c.requires.pairs_len_bound).1

pub returns-in-Two : goal.returns-in-Two
returns-in-Two c = put_two _ _ _ _ _ _ c.in-Two.is _ (c.push-in-Two.ensures _ c.requires.midway) _ (c.push-in-Two-2.ensures _ (second_fits _ _ _ _ _ _ c.in-Two.is _ (c.push-in-Two.ensures _ c.requires.midway) c.requires.pairs_len_bound).0)

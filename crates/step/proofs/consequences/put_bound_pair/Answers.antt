-- The pair, whichever way round: the words are laid out.
use Rattle.image.proofs.Laying.{shown_laid}
use Rattle.step.proofs.consequences.put_bound_pair.Goals as goal

pub push-requires-clause-laid : goal.push-requires-clause-laid
push-requires-clause-laid c = shown_laid c.requires.midway

pub push-requires-else-side-eq-LOWER-clause-laid : goal.push-requires-else-side-eq-LOWER-clause-laid
push-requires-else-side-eq-LOWER-clause-laid c = shown_laid c.requires.midway

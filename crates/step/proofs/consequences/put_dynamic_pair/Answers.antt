-- The pair of the dynamic types: the words are laid out.
use Rattle.image.proofs.Laying.{shown_laid}
use Rattle.step.proofs.consequences.put_dynamic_pair.Goals as goal

pub push-requires-clause-laid : goal.push-requires-clause-laid
push-requires-clause-laid c = shown_laid c.requires.midway

-- The field asks for a pair, which is put, or for none.
use Rattle.image.proofs.Laying.{shown_laid}
use Rattle.step.proofs.consequences.put_field_pair.Goals as goal

pub asks-ask-requires-clause-laid : goal.asks-ask-requires-clause-laid
asks-ask-requires-clause-laid c = shown_laid c.requires.midway

pub word-entry-requires-clause-laid : goal.word-entry-requires-clause-laid
word-entry-requires-clause-laid c = shown_laid c.requires.midway

pub push-requires-clause-laid : goal.push-requires-clause-laid
push-requires-clause-laid c = shown_laid c.requires.midway

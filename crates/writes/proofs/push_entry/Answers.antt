-- `push_entry`: puts an entry behind the last, by its words.
use Rattle.image.proofs.Laying.{shown_laid}
use Rattle.writes.proofs.push_entry.Goals as goal

pub push-requires-clause-laid : goal.push-requires-clause-laid
push-requires-clause-laid c = shown_laid c.requires.shown

pub returns : goal.returns
returns c = c.push.ensures _ c.requires.shown

-- `formed::header_right` meets its contract. Assumes nothing.
use borrow.Author.Tests.{le-leb, lt-leb}
use Rattle.model.specs.Lists.{all_of}
use Rattle.model.specs.Formed.{header_whole, format_known, state_known, pending_when_asked, names_few, functor_known}
use Rattle.formed.specs.Grouped.{header_right}
use Rattle.formed.proofs.Tested.{joined_is}
use Rattle.formed.proofs.header_right.Goals as goal

pub returns-then-image-lt-HEADER_WORDS : goal.returns-then-image-lt-HEADER_WORDS
unfolding header_right header_whole all_of
returns-then-image-lt-HEADER_WORDS c = rw (lt-leb _ _ c.if-image-lt-HEADER_WORDS.true)

pub returns : goal.returns
unfolding header_right header_whole format_known state_known pending_when_asked names_few functor_known
returns c = rw (le-leb _ _ c.if-image-lt-HEADER_WORDS.false, c.pending_when_asked.ensures) (joined_is _ _)

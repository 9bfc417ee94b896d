-- B marked, if it joins the upper bounds of v, is a variable and v is marked.
use native.Mathlib.Omega.{arith}
use Rattle.image.proofs.Laying.{shown_laid}
use Rattle.step.proofs.Chains.{not_upper, no_variable, mark_none, mark_passed}
use Rattle.step.proofs.pass_mark.Goals as goal

pub returns-then-side-ne-UPPER : goal.returns-then-side-ne-UPPER
returns-then-side-ne-UPPER c = not_upper _ _ _ _ c.if-side-ne-UPPER.true c.requires.shown

pub word-requires-clause-laid : goal.word-requires-clause-laid
word-requires-clause-laid c = shown_laid c.requires.shown

pub returns-then-word-ne-VARIABLE : goal.returns-then-word-ne-VARIABLE
returns-then-word-ne-VARIABLE c = no_variable _ _ _ _ c.if-side-ne-UPPER.false _ c.word.ensures (omega (arith, c.if-word-ne-VARIABLE.true)) c.requires.shown

pub word-requires-2-clause-laid : goal.word-requires-2-clause-laid
word-requires-2-clause-laid c = shown_laid c.requires.shown

pub returns-then-says_mark : goal.returns-then-says_mark
returns-then-says_mark c = mark_passed _ _ _ _ c.if-side-ne-UPPER.false _ c.word.ensures (omega (arith, c.if-word-ne-VARIABLE.false)) _ c.word-2.ensures _ c.says_mark.ensures c.if-says_mark.true _ c.put_mark.ensures

pub returns-else-says_mark : goal.returns-else-says_mark
returns-else-says_mark c = mark_none _ _ _ _ c.if-side-ne-UPPER.false _ c.word.ensures (omega (arith, c.if-word-ne-VARIABLE.false)) _ c.word-2.ensures _ c.says_mark.ensures c.if-says_mark.false c.requires.shown

-- An earlier failure stands, or this one is written.
use native.Mathlib.Omega.{arith}
use Rattle.model.specs.Rules.{break_of}
use Rattle.image.proofs.Laying.{shown_laid}
use Rattle.step.proofs.Chains.{break_stands, break_filled}
use Rattle.step.proofs.fill_break.Goals as goal

pub break_kind-requires : goal.break_kind-requires
break_kind-requires c = shown_laid c.requires

pub returns-then-break_kind-ne-UNBROKEN : goal.returns-then-break_kind-ne-UNBROKEN
returns-then-break_kind-ne-UNBROKEN c = break_stands _ _ _ c.break_kind.ensures (omega (arith, c.if-break_kind-ne-UNBROKEN.true)) c.requires

pub returns-in-Mismatch : goal.returns-in-Mismatch
unfolding break_of
returns-in-Mismatch c = break_filled _ _ _ c.break_kind.ensures (omega (arith, c.if-break_kind-ne-UNBROKEN.false)) _ c.in-Mismatch.is _ c.put_break.ensures

pub returns-in-MissingField : goal.returns-in-MissingField
unfolding break_of
returns-in-MissingField c = break_filled _ _ _ c.break_kind.ensures (omega (arith, c.if-break_kind-ne-UNBROKEN.false)) _ c.in-MissingField.is _ c.put_break-in-MissingField.ensures

-- `enter_level`: enters a level, unless it is the last.
use native.Mathlib.Omega.{arith}
use Rattle.image.proofs.Laying.{shown_laid}
use Rattle.storage.proofs.Replying.{enter_refused, entered}
use Rattle.storage.proofs.enter_level.Goals as goal

pub level-l-requires : goal.level-l-requires
level-l-requires c = shown_laid c.requires

pub returns-then-l : goal.returns-then-l
returns-then-l c =
    let r = enter_refused _ _ c.level-l.ensures c.if-l.true in
    record { result_value = r.0; image_after = r.1 }

pub returns : goal.returns
returns c =
    let r = entered _ _ c.level-l.ensures (omega (arith, c.if-l.false)) _ c.put_current_level.ensures in
    record { result_value = r.0; image_after = r.1 }

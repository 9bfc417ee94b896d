-- `exit_level`: leaves a level, unless it is 0.
use native.Mathlib.Omega.{arith}
use Rattle.image.proofs.Laying.{shown_laid}
use Rattle.storage.proofs.Replying.{exit_refused, exited}
use Rattle.storage.proofs.exit_level.Goals as goal

pub level-l-requires : goal.level-l-requires
level-l-requires c = shown_laid c.requires

pub returns-then-l-eq0 : goal.returns-then-l-eq0
returns-then-l-eq0 c =
    let r = exit_refused _ _ c.level-l.ensures c.if-l-eq0.true in
    record { result_value = r.0; image_after = r.1 }

pub returns : goal.returns
returns c =
    let r = exited _ _ c.level-l.ensures (omega (arith, c.if-l-eq0.false)) _ c.put_current_level.ensures in
    record { result_value = r.0; image_after = r.1 }

-- `formed::admit`: good where the check passes, else refused. Assumes nothing.
use mathlib.Core.Path.{◌≡◌, sym, ◌∙◌}
use mathlib.Core.Bool.{true, false}
use Rattle.model.specs.Formed.{well_formed}
use Rattle.model.specs.Calls.{admission}
use Rattle.formed.proofs.admit.Goals as goal

pub returns-then-check : goal.returns-then-check
unfolding admission
returns-then-check c =
    let e : well_formed c.args.image.now ≡ true = sym c.check.ensures ∙ c.if-check.true in
    rw e

pub returns-else-check : goal.returns-else-check
unfolding admission
returns-else-check c =
    let e : well_formed c.args.image.now ≡ false = sym c.check.ensures ∙ c.if-check.false in
    rw e

-- `record_in`: reads a record of a region, in a well formed image.
use native.Mathlib.Omega.{arith}
use mathlib.Core.Bool.{◌&&◌}
use lib.Dec.{ltb}
use Rattle.model.specs.Format.{is_region}
use Rattle.model.specs.Image.{count}
use Rattle.model.specs.Calls.{read_record_turn}
use Rattle.model.specs.declared.Refusal.TheVariants.{BadNumber}
use Rattle.turns.proofs.Turning.{stopped}
use Rattle.reads.proofs.Records.{no_region}
use Rattle.reads.proofs.record_in.Goals as goal

pub returns-in_default : goal.returns-in_default
unfolding read_record_turn
returns-in_default c =
    let w = c.args.image.now in
    (stopped w BadNumber _ (is_region c.args.region && ltb c.args.n (count w c.args.region))
    (rw (no_region c.args.region (λ e. omega arith) (λ e. omega arith) (λ e. omega arith) (λ e. omega arith) (λ e. omega arith) (λ e. omega arith)))).says

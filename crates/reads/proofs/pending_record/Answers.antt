-- `pending_record`: reads the record of a pending pair, or refuses its number.
use native.Mathlib.Omega.{arith}
use mathlib.Core.Path.{refl, ap}
use mathlib.Core.Bool.{◌&&◌}
use Prim.Native.Nat.{◌<◌}
use mathlib.Core.List.{List, ◌∷◌}
use Prim.Native.Nat.{ℕ}
use lib.Dec.{ltb}
use Rattle.model.specs.Format.{is_region, width_of}
use Rattle.model.specs.Image.{count, table}
use Rattle.model.specs.Calls.{read_record_turn, response_of}
use Rattle.model.specs.Told.{done}
use Rattle.laws.proofs.Regions.{pending_coded}
use Rattle.image.proofs.Laying.{formed_laid}
use Rattle.image.specs.Reading.{pending_count as pending-are}
use Rattle.model.specs.declared.Refusal.TheVariants.{BadNumber}
use Rattle.turns.proofs.Turning.{stopped, read_on}
use Rattle.reads.proofs.Records.{no_record, a_record, record_words}
use Rattle.reads.proofs.pending_record.Goals as goal

pub records-requires : goal.records-requires
records-requires c = formed_laid _ c.requires

pub returns-then-records-n : goal.returns-then-records-n
unfolding read_record_turn
returns-then-records-n c =
    let w = c.args.image.now in
    (stopped w BadNumber _ (is_region 5 && ltb c.args.n (count w 5)) (no_record w 5 c.args.n (omega (arith, c.records.ensures, pending-are w)))).says

pub word-sub-requires-clause-laid : goal.word-sub-requires-clause-laid
word-sub-requires-clause-laid c = formed_laid _ c.requires

pub word-sup-requires-clause-laid : goal.word-sup-requires-clause-laid
word-sup-requires-clause-laid c = formed_laid _ c.requires

pub returns : goal.returns
unfolding read_record_turn response_of width_of table
returns c =
    let w = c.args.image.now in
    let n = c.args.n in
    let l = formed_laid w c.requires in
    let lt : n < count w 5 = omega (arith, c.records.ensures, pending-are w) in
    read_on w BadNumber _ (is_region 5 && ltb n (count w 5)) (a_record w 5 n refl lt)
    (rw (c.word-sub.ensures, c.word-sup.ensures) (ap (λ (x : List ℕ). done (5 ∷ x)) (record_words pending_coded w 5 n _ lt (omega arith))))

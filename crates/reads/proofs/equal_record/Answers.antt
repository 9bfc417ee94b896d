-- `equal_record`: reads the record of an equal pair, or refuses its number.
use native.Mathlib.Omega.{arith}
use mathlib.Core.Path.{refl, ap}
use mathlib.Core.Bool.{◌&&◌}
use Prim.Native.Nat.{◌<◌}
use mathlib.Core.List.{List, ◌∷◌}
use Prim.Native.Nat.{ℕ}
use lib.Dec.{ltb}
use Rattle.model.specs.Format.{is_region, width_of}
use Rattle.model.specs.Image.{count, table}
use Rattle.model.specs.Calls.{read_record_turn, response_of}
use Rattle.model.specs.Told.{done}
use Rattle.laws.proofs.Regions.{equal_coded}
use Rattle.image.proofs.Laying.{formed_laid}
use Rattle.image.specs.Reading.{equals_count as equals-are}
use Rattle.model.specs.declared.Refusal.TheVariants.{BadNumber}
use Rattle.turns.proofs.Turning.{stopped, read_on}
use Rattle.reads.proofs.Records.{no_record, a_record, record_words}
use Rattle.reads.proofs.equal_record.Goals as goal

pub records-requires : goal.records-requires
records-requires c = formed_laid _ c.requires

pub returns-then-records-n : goal.returns-then-records-n
unfolding read_record_turn
returns-then-records-n c =
    let w = c.args.image.now in
    (stopped w BadNumber _ (is_region 6 && ltb c.args.n (count w 6)) (no_record w 6 c.args.n (omega (arith, c.records.ensures, equals-are w)))).says

pub word-left-requires-clause-laid : goal.word-left-requires-clause-laid
word-left-requires-clause-laid c = formed_laid _ c.requires

pub word-right-requires-clause-laid : goal.word-right-requires-clause-laid
word-right-requires-clause-laid c = formed_laid _ c.requires

pub returns : goal.returns
unfolding read_record_turn response_of width_of table
returns c =
    let w = c.args.image.now in
    let n = c.args.n in
    let l = formed_laid w c.requires in
    let lt : n < count w 6 = omega (arith, c.records.ensures, equals-are w) in
    read_on w BadNumber _ (is_region 6 && ltb n (count w 6)) (a_record w 6 n refl lt)
    (rw (c.word-left.ensures, c.word-right.ensures) (ap (λ (x : List ℕ). done (6 ∷ x)) (record_words equal_coded w 6 n _ lt (omega arith))))

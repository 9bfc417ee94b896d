-- `entry_record`: reads the record of an entry, or refuses its number.
use native.Mathlib.Omega.{arith}
use mathlib.Core.Path.{refl, ap}
use mathlib.Core.Bool.{◌&&◌}
use Prim.Native.Nat.{◌<◌}
use mathlib.Core.List.{List, ◌∷◌}
use Prim.Native.Nat.{ℕ}
use lib.Dec.{ltb}
use Rattle.model.specs.Format.{is_region, width_of}
use Rattle.model.specs.Image.{count, table}
use Rattle.model.specs.Calls.{read_record_turn, response_of}
use Rattle.model.specs.Told.{done}
use Rattle.laws.proofs.Regions.{entry_coded}
use Rattle.image.proofs.Laying.{formed_laid}
use Rattle.image.specs.Reading.{entries_count as entries-are}
use Rattle.model.specs.declared.Refusal.TheVariants.{BadNumber}
use Rattle.turns.proofs.Turning.{stopped, read_on}
use Rattle.reads.proofs.Records.{no_record, a_record, record_words}
use Rattle.reads.proofs.entry_record.Goals as goal

pub records-requires : goal.records-requires
records-requires c = formed_laid _ c.requires

pub returns-then-records-n : goal.returns-then-records-n
unfolding read_record_turn
returns-then-records-n c =
    let w = c.args.image.now in
    (stopped w BadNumber _ (is_region 1 && ltb c.args.n (count w 1)) (no_record w 1 c.args.n (omega (arith, c.records.ensures, entries-are w)))).says

pub word-kind-requires-clause-laid : goal.word-kind-requires-clause-laid
word-kind-requires-clause-laid c = formed_laid _ c.requires

pub word-x-requires-clause-laid : goal.word-x-requires-clause-laid
word-x-requires-clause-laid c = formed_laid _ c.requires

pub word-y-requires-clause-laid : goal.word-y-requires-clause-laid
word-y-requires-clause-laid c = formed_laid _ c.requires

pub word-z-requires-clause-laid : goal.word-z-requires-clause-laid
word-z-requires-clause-laid c = formed_laid _ c.requires

pub word-flags-requires-clause-laid : goal.word-flags-requires-clause-laid
word-flags-requires-clause-laid c = formed_laid _ c.requires

pub word-spread-requires-clause-laid : goal.word-spread-requires-clause-laid
word-spread-requires-clause-laid c = formed_laid _ c.requires

pub word-negation-requires-clause-laid : goal.word-negation-requires-clause-laid
word-negation-requires-clause-laid c = formed_laid _ c.requires

pub returns : goal.returns
unfolding read_record_turn response_of width_of table
returns c =
    let w = c.args.image.now in
    let n = c.args.n in
    let l = formed_laid w c.requires in
    let lt : n < count w 1 = omega (arith, c.records.ensures, entries-are w) in
    read_on w BadNumber _ (is_region 1 && ltb n (count w 1)) (a_record w 1 n refl lt)
    (rw (c.word-kind.ensures, c.word-x.ensures, c.word-y.ensures, c.word-z.ensures, c.word-flags.ensures, c.word-spread.ensures, c.word-negation.ensures) (ap (λ (x : List ℕ). done (1 ∷ x)) (record_words entry_coded w 1 n _ lt (omega arith))))

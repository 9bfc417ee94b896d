-- `is_asked`: whether a question is asked.
use Rattle.image.proofs.Laying.{shown_laid}
use Rattle.model.specs.Parts.{word, image}
use Rattle.model.specs.Image.{front_as, words_as}
use Rattle.model.specs.Table.{is_asked}
use lib.Dec.{eqb}
use Prim.Native.Nat.{ℕ}
use mathlib.Core.Bool.{not}
use mathlib.Core.List.{List}
use mathlib.Core.Path.{ap}
use native.Mathlib.Omega.{arith}
use Rattle.image.proofs.is_asked.Goals as goal

pub bounds-image-1 : goal.bounds-image-1
bounds-image-1 c =
    let l = shown_laid c.requires in
    omega arith

pub returns : goal.returns
unfolding is_asked words_as image front_as
returns c = ap (λ (l : List ℕ). not (eqb (word l 1) 0)) c.requires.is

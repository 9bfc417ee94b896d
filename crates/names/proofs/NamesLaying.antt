-- Where names lie: a list whose offsets are right has each name inside it. Assumes nothing.
use Prim.Native.Nat.{ℕ, zero, suc, ◌+◌, ◌-◌, ◌≤◌, ◌<◌}
use native.Mathlib.Omega.{arith}
use mathlib.Core.Path.{◌≡◌}
use mathlib.Core.List.{List}
use mathlib.Core.Bool.{true}
use lib.ListN.{length, get_or}
use borrow.Author.Tests.{leb-true, eqb-true}
use Rattle.names.specs.Names.{name_count, name_offset, bytes_at, header_whole, rises_at, none_falls, last_right, tests, names_right}
use Rattle.names.specs.NamesLaid.{NamesLaid}
use Rattle.names.proofs.All.{all_at, all_of_at}

module _ (bs : List ℕ) (w : header_whole bs ≡ true) (f : none_falls bs ≡ true) (l : last_right bs ≡ true) where
  rises : (i : ℕ) → i < name_count bs → name_offset bs i ≤ name_offset bs (i + 1)
  rises i h = leb-true _ _ (all_at (rises_at bs) (name_count bs) f i h)

  -- offsets k before the last are not above it
  below_last : (k i : ℕ) → i + k ≡ name_count bs → name_offset bs i ≤ name_offset bs (name_count bs)
  below_last zero i e = let q : i ≡ name_count bs = omega arith in rw q (omega arith)
  below_last (suc k) i e =
      let up : name_offset bs i ≤ name_offset bs (i + 1) = rises i (omega arith) in
      let on : name_offset bs (i + 1) ≤ name_offset bs (name_count bs) = below_last k (i + 1) (omega arith) in
      omega arith

  pub laid : NamesLaid bs
  laid = record {
    whole = leb-true _ _ w;
    inside = λ i h.
        let up : name_offset bs i ≤ name_offset bs (i + 1) = rises i h in
        let on : name_offset bs (i + 1) ≤ name_offset bs (name_count bs) = below_last (name_count bs - (i + 1)) (i + 1) (omega arith) in
        let fits : bytes_at bs ≤ length bs = leb-true _ _ w in
        let last : name_offset bs (name_count bs) ≡ length bs - bytes_at bs = eqb-true _ _ l in
        (omega arith, omega arith);
  }

-- a list that is right has its names inside it
pub right_laid : (bs : List ℕ) → names_right bs ≡ true → NamesLaid bs
unfolding names_right
right_laid bs e =
    let test : (k : ℕ) → get_or (tests bs) k true ≡ true = all_of_at (tests bs) e in
    laid bs (test 0) (test 2) (test 3)

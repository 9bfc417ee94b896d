-- An example, computed: two questions fail in a table of ours; the first failure is the one that is kept, and a held question is refused
-- with it. Assumes nothing.
use Rattle.std.specs.Prelude.{Some}
use Prim.Native.Nat.{ℕ}
use native.Mathlib.Omega.{arith}
use mathlib.Core.Path.{◌≡◌, refl}
use mathlib.Core.List.{List, [], ◌∷◌}
use mathlib.Core.Bool.{true, false}
use lib.ListN.{replicate}
use Rattle.histories.specs.Histories.{first_of}
use Rattle.model.specs.Table.{Capacities}
use Rattle.model.specs.Told.{unopened}
use Rattle.model.specs.Calls.{Call, makes_primitive, under, opens, start, perform}
use Rattle.model.specs.declared.Failure.TheVariants.{Mismatch}
use Rattle.model.proofs.Bench.{computed}
use Rattle.laws.specs.Refusals.{perform_all}
use Rattle.demands.specs.Started.{Ours, started, failure_in, first_told}
use Rattle.demands.proofs.Started.{ours_after}

abbrev small : Capacities
small = record { entries = 3; fields = 0; bounds = 0; visited = 4; pending = 2; equals = 0 }

abbrev begun : List ℕ
begun = (start 0 0 small (replicate 60 7)).words

-- 0 Int, 1 Number, 2 String; Number under Int fails, then String under Int
abbrev calls : List Call
calls = makes_primitive 2 ∷ makes_primitive 7 ∷ makes_primitive 4 ∷ opens (under false 1 0) 9 ∷ opens (under false 2 0) 9 ∷ []

example : Ours (perform_all calls begun)
unfolding computed
example =
    ours_after (started 0 0 small (replicate 60 7) tt) calls
    (omega arith, (omega arith, (omega arith, (omega arith, (omega arith, tt)))))

first_kept : first_told example ≡ Some (Mismatch 1 0)
unfolding computed perform_all example ours_after first_told first_of failure_in
first_kept = refl

held_told : (perform (opens (under true 0 0) 9) (perform_all calls begun)).says ≡ unopened 8 (1 ∷ 1 ∷ 0 ∷ 0 ∷ [])
unfolding computed perform_all
held_told = refl

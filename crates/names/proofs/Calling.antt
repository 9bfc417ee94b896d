-- What the check of a name number tells: where it is done the list has the name. Assumes nothing.
use Prim.Native.Nat.{ℕ, ◌<◌}
use native.Mathlib.Omega.{arith}
use mathlib.Core.Path.{◌≡◌, refl}
use mathlib.Core.List.{List, []}
use mathlib.Core.Bool.{Bool, true, false, cond, ◌&&◌}
use lib.Dec.{ltb}
use borrow.Author.Tests.{ltb-true}
use Rattle.model.specs.Lists.{all_of}
use Rattle.model.specs.Told.{Told, done, told_refusal}
use Rattle.model.specs.declared.Refusal.TheVariants.{BadNumber, BadNames}
use Rattle.names.specs.Names.{name_count, names_right, name_call, check_name}

-- a name number that is accepted: the list is right, and has the name
pub record Named (bs : List ℕ) (n : ℕ) : Type 0 where
  pub right : names_right bs ≡ true
  pub below : n < name_count bs

-- the check by its two tests
abbrev pub by_tests : Bool → Bool → Told
by_tests t u = cond t (cond (u && true) (done []) (told_refusal BadNumber)) (told_refusal BadNames)

pub both_true : (t u : Bool) → by_tests t u ≡ done [] → (t ≡ true) × (u ≡ true)
both_true true true e = (refl, refl)
both_true true false e = let z : ◌≡◌ {A = ℕ} 0 1 = cc in absurd (omega arith)
both_true false u e = let z : ◌≡◌ {A = ℕ} 0 1 = cc in absurd (omega arith)

pub named : (bs : List ℕ) (n : ℕ) → check_name bs n ≡ done [] → Named bs n
unfolding check_name name_call all_of
named bs n e =
    let q = both_true (names_right bs) (ltb n (name_count bs)) e in
    record { right = q.0; below = ltb-true n (name_count bs) q.1 }

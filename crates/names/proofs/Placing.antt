-- A name's place: how many bytes a name has, and `place_name` by what the check of the number tells. Where the check accepts, it is where
-- the part that `names::show` shows starts, and that part's length. Assumes nothing.
use Prim.Native.Nat.{ℕ, ◌+◌, ◌-◌, ◌<◌}
use native.Mathlib.Omega.{arith}
use mathlib.Core.Path.{◌≡◌}
use mathlib.Core.List.{List, [], ◌∷◌}
use mathlib.Core.Bool.{Bool, true, cond, ◌&&◌}
use lib.ListN.{length, drop, length-drop}
use lib.Seq.{length-take-le}
use lib.Dec.{ltb}
use Rattle.model.specs.Lists.{all_of}
use Rattle.model.specs.Told.{Told, done, told_refusal}
use Rattle.model.specs.declared.Refusal.TheVariants.{BadNumber, BadNames}
use Rattle.names.specs.Names.{name_count, name_at, name_of, names_right, name_call, check_name, show_name, shown_at, place_name}
use Rattle.names.specs.NamesLaid.{NamesLaid}
use Rattle.names.proofs.Calling.{by_tests, both_true}

pub name_length : (bs : List ℕ) (n : ℕ) → NamesLaid bs → n < name_count bs → length (name_of bs n) ≡ name_at bs (n + 1) - name_at bs n
unfolding name_of
name_length bs n laid below =
    let h = laid.inside n below in
    let l : length (drop (name_at bs n) bs) ≡ length bs - name_at bs n = length-drop (name_at bs n) bs in
    length-take-le (name_at bs (n + 1) - name_at bs n) (drop (name_at bs n) bs) (omega (arith, l, h.0, h.1))

accepted_by : (t u : Bool) (a : Told) → by_tests t u ≡ done [] → cond t (cond (u && true) a (told_refusal BadNumber)) (told_refusal BadNames) ≡ a
accepted_by t u a e = let q = both_true t u e in rw (q.0, q.1)

pub placed : (bs : List ℕ) (n : ℕ) → check_name bs n ≡ done [] → place_name bs n ≡ done (name_at bs n ∷ length (name_of bs n) ∷ [])
unfolding place_name check_name name_call all_of
placed bs n e = accepted_by (names_right bs) (ltb n (name_count bs)) (done (name_at bs n ∷ length (name_of bs n) ∷ [])) e

-- the place is that of the part shown
pub shown_there : (bs : List ℕ) (n : ℕ) → check_name bs n ≡ done [] → place_name bs n ≡ done (shown_at bs n ∷ length (show_name bs n) ∷ [])
unfolding show_name shown_at
shown_there bs n e = let p = placed bs n e in rw (e, p)

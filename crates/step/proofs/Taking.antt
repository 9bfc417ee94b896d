-- What a step answers and leaves: refused, failed, or gone on. Assumes nothing.
use Rattle.std.specs.Prelude.{Err, Ok, Result}
use Prim.Native.Nat.{ℕ, ◌+◌}
use native.Mathlib.Omega.{arith}
use mathlib.Core.Path.{◌≡◌, sym, ap, subst, ◌∙◌}
use mathlib.Core.List.{List, [], ◌∷◌, ◌++◌, reverse}
use lib.ListN.{length}
use Rattle.instalments.specs.Machine.{Outcome, fails, goes, enough, lacks}
use Rattle.model.specs.Table.{Pair, Store, Table, table_of}
use Rattle.model.specs.Rules.{visit, fill_break, failing}
use Rattle.model.specs.Room.{fitting, room_for}
use Rattle.model.specs.declared.Failure.{Failure}
use Rattle.model.specs.declared.Refusal.{Refusal}
use Rattle.image.specs.Shown.{Shows, store_of, visited_in, pending_in, visited_to, pending_to}
use Rattle.image.proofs.Laying.{seen}
use Rattle.step.specs.Taken.{before_last, room_in, RoomFor, taken_by, taken}
use Rattle.step.specs.declared.Step.{Step}
use Rattle.step.specs.declared.Step.TheVariants.{Went, Failed}
use Rattle.step.proofs.Rooms.{break_room}

abbrev pub Takes : List ℕ → Outcome Store Pair Failure → Result Step Refusal → List ℕ → Type 0
Takes w o says v = (says ≡ (taken w o).says) × (v ≡ (taken w o).words)

pub refused : (w : List ℕ) (o : Outcome Store Pair Failure) (r : Refusal) → room_for (length (before_last w)) o ≡ lacks r → Takes w o (Err r) w
unfolding taken_by
refused w o r e = (rw e, rw e)

module _ (w : List ℕ) (u : Store) (v : List ℕ) where
  pub went : (qs : List Pair) → room_for (length (before_last w)) (goes u qs) ≡ enough → Shows v (table_of u (before_last w ++ reverse qs)) → Takes w (goes u qs) (Ok Went) v
  unfolding taken_by
  went qs e s = (rw e, rw e s.is)

  pub failed : (f : Failure) → room_for (length (before_last w)) (fails f u) ≡ enough → Shows v (table_of u []) → Takes w (fails f u) (Ok (Failed f)) v
  unfolding taken_by
  failed f e s = (rw e, rw e s.is)

-- a failure: the visited pair is kept
module _ (w : List ℕ) (p : Pair) (f : Failure) (r : Result (Unit {0}) Refusal) where
  fail_room : RoomFor w (store_of w) 0 r → room_for (length (before_last w)) (failing (visit p (store_of w)) f) ≡ room_in r
  unfolding room_for failing
  fail_room q =
      let z : length (before_last w) + 0 ≡ length (before_last w) = omega arith in
      break_room f (visit p (store_of w)) (length (before_last w)) ∙ ap (λ (n : ℕ). fitting (visit p (store_of w)) n) (sym z) ∙ sym (q p)

  pub fail_refused : (x : Refusal) → r ≡ Err x → RoomFor w (store_of w) 0 r → Takes w (failing (visit p (store_of w)) f) (Err x) w
  fail_refused x e q = refused w (failing (visit p (store_of w)) f) x (fail_room q ∙ ap room_in e)

  pub fail_told : r ≡ (Ok tt) → RoomFor w (store_of w) 0 r → (v u x : List ℕ) → Shows v (visited_to w (visited_in w ++ (p ∷ []))) → Shows u (pending_to v [])
      → Shows x (table_of (fill_break f (store_of u)) (pending_in u)) → Takes w (failing (visit p (store_of w)) f) (Ok (Failed f)) x
  unfolding failing visit
  fail_told e q v u x sv su sx =
      let a : Shows u (table_of (visit p (store_of w)) []) = subst (λ (t : Table). Shows u (table_of t.store [])) (seen sv) su in
      let b : Shows x (table_of (fill_break f (visit p (store_of w))) []) = subst (λ (t : Table). Shows x (table_of (fill_break f t.store) t.pending)) (seen a) sx in
      failed w (fill_break f (visit p (store_of w))) x f (fail_room q ∙ ap room_in e) b

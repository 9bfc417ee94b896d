-- A step that makes entries before its needs are tested: what is made, and what is left where it is refused. Assumes nothing.
use Rattle.std.specs.Prelude.{ℕ, ◌≤◌, ◌<◌, ◌≡◌, List, [], ◌∷◌, length, None, Option, Some}
use Rattle.instalments.specs.Machine.{goes}
use Rattle.model.specs.Table.{Entry, Pair, Table}
use Rattle.model.specs.Image.{words}
use Rattle.model.specs.Making.{make_neg, undone}
use Rattle.model.specs.Rules.{target, visit}
use Rattle.model.specs.Room.{room_for}
use Rattle.image.specs.Shown.{Shows, store_of, entries_of, entries_to}
use Rattle.type_table.specs.Made.{entries_in, UndoesTo}
use Rattle.step.specs.Taken.{Taken, taken_by, before_last}

-- sup or the negation of d made if it fits; else the words show some entries that undo to those found
pub record TargetIn (t : Table) (sup d : ℕ) (r : Option ℕ) (v : List ℕ) : Type 0 where
  pub done : length (target sup (make_neg t.store.entries d)).after ≤ t.store.capacities.entries
      → (r ≡ Some (target sup (make_neg t.store.entries d)).number) × Shows v (entries_in t (target sup (make_neg t.store.entries d)).after)
  pub full : t.store.capacities.entries < length (target sup (make_neg t.store.entries d)).after
      → (r ≡ None) × ((us : List Entry) × (Shows v (entries_in t us) × UndoesTo t.store.entries us))

-- the step at p with the one consequence q, where the entries from number old on were made for it
abbrev pub settled : List ℕ → ℕ → Pair → Pair → Taken
settled w old p q =
    let o = goes (visit p (store_of w)) (q ∷ []) in
    taken_by (room_for (length (before_last w)) o) (words (entries_to w (undone old (entries_of w)))) (before_last w) o

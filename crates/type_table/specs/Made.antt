-- What a making replies where the numbers are right and the table is idle, and what negation comes to before the depth is tested.
-- Assumes nothing.
use Rattle.std.specs.Prelude.{ℕ, suc, ◌≤◌, ◌<◌, ◌≡◌, List, [], ◌∷◌, ◌++◌, Bool, cond, length, None, Option, Some}
use Rattle.model.specs.Lists.{is_zero}
use Rattle.model.specs.Format.{spread_most, attrset, neg}
use Rattle.model.specs.Table.{Entry, Table, table_of, with_entries}
use Rattle.model.specs.Image.{table}
use Rattle.model.specs.Making.{Making, spread_at, changed, with_negation, make_neg, undone}
use Rattle.model.specs.Calls.{Response, response_of, made_turn, field_list, new_attrset}
use Rattle.laws.specs.Good.{EntriesGood, CachedLow}
use Rattle.image.specs.Shown.{Shows, Shown, store_of, entries_of, fields_in, fields_to}
use Rattle.image.specs.Records.{entry_made}

-- the number, or NO ROOM, then TOO DEEP, with every word as found
abbrev pub made_response : List ℕ → Making → Response
made_response w m = response_of w (made_turn (table w) m)

-- the same for an attrset with these fields: NO ROOM for its entry, then for its fields
abbrev pub attrset_response : List ℕ → List ℕ → Bool → Option ℕ → Response
attrset_response w l wide d = response_of w (made_turn (fields_to w (fields_in w ++ field_list l)) (new_attrset (entries_of w) (fields_in w) (field_list l) wide d))

-- x of an attrset with so many fields, put behind so many
abbrev pub first_field : ℕ → ℕ → ℕ
first_field old count = cond (is_zero count) 0 old

-- the words of a kind that are components are entries
abbrev pub Components : List Entry → ℕ → ℕ → ℕ → Type 0
Components es kind x y = (attrset < kind → x < length es) × (neg < kind → y < length es)

-- the table with other entries
abbrev pub entries_in : Table → List Entry → Table
entries_in t es = table_of (with_entries es t.store) t.pending

-- an entry put behind the last and cached as the negation of n, if there is room; else the table is as it was
pub record Added (t : Table) (kind x y spread n : ℕ) (r : Option ℕ) (v : List ℕ) : Type 0 where
  pub done : length t.store.entries < t.store.capacities.entries
      → (r ≡ Some (length t.store.entries))
      × Shows v (entries_in t (changed (with_negation (suc (length t.store.entries))) (t.store.entries ++ (entry_made kind x y 0 0 spread ∷ [])) n))
  pub full : t.store.capacities.entries ≤ length t.store.entries → (r ≡ None) × Shows v t

-- Neg(n) can be made here, room or not
pub record Negatable (w : List ℕ) (n : ℕ) : Type 0 where
  pub shows : Shown w
  pub good : EntriesGood (entries_of w) (fields_in w) (store_of w).names
  pub low : CachedLow (entries_of w)
  pub below : n < length (entries_of w)
  pub shallow : spread_at (entries_of w) n ≤ spread_most

-- entries that undo to those found
pub record UndoesTo (es us : List Entry) : Type 0 where
  pub longer : length es ≤ length us
  pub undo : (k : ℕ) → k ≤ length es → undone k us ≡ undone k es

-- Neg(n) made if it fits; else the words show some entries that undo to those found
pub record NegatedIn (t : Table) (n : ℕ) (r : Option ℕ) (v : List ℕ) : Type 0 where
  pub done : length (make_neg t.store.entries n).after ≤ t.store.capacities.entries
      → (r ≡ Some (make_neg t.store.entries n).number) × Shows v (entries_in t (make_neg t.store.entries n).after)
  pub full : t.store.capacities.entries < length (make_neg t.store.entries n).after
      → (r ≡ None) × ((us : List Entry) × (Shows v (entries_in t us) × UndoesTo t.store.entries us))

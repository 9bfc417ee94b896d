-- Words that show a table: the contracts of all that changes an image speak through this. Assumes nothing.
use Rattle.std.specs.Prelude.{ℕ, ◌≡◌, List}
use Rattle.model.specs.Table.{Entry, Field, Bound, Pair, Break, Store, Graph, Table, table_of, state_of, graph_of, with_level, with_broken, with_entries, with_fields, with_bounds, with_visited, with_equals}
use Rattle.model.specs.Image.{words_as, table}
pub use Rattle.laws.specs.Good.{Within}

-- words that show a table, with a state word: it is not the table's own while a question's pairs are put on pending (idle) and in the
-- midst of a step (asked)
pub record ShowsAs (state : ℕ) (w : List ℕ) (t : Table) : Type 0 where
  pub within : Within t
  pub is : w ≡ words_as state t

abbrev pub Shows : List ℕ → Table → Type 0
Shows w t = ShowsAs (state_of t.pending) w t

-- the words show the table that is read off them
abbrev pub Shown : List ℕ → Type 0
Shown w = Shows w (table w)

abbrev pub ShownAs : ℕ → List ℕ → Type 0
ShownAs state w = ShowsAs state w (table w)

-- what is read off words
abbrev pub store_of : List ℕ → Store
store_of w = (table w).store

abbrev pub graph_in : List ℕ → Graph
graph_in w = graph_of (table w).store

abbrev pub entries_of : List ℕ → List Entry
entries_of w = (table w).store.entries

abbrev pub fields_in : List ℕ → List Field
fields_in w = (table w).store.fields

abbrev pub bounds_all : List ℕ → List Bound
bounds_all w = (table w).store.bounds

abbrev pub visited_in : List ℕ → List Pair
visited_in w = (table w).store.visited

abbrev pub pending_in : List ℕ → List Pair
pending_in w = (table w).pending

abbrev pub equals_in : List ℕ → List Pair
equals_in w = (table w).store.equals

-- the table with one part changed
abbrev pub entries_to : List ℕ → List Entry → Table
entries_to w es = table_of (with_entries es (store_of w)) (pending_in w)

abbrev pub fields_to : List ℕ → List Field → Table
fields_to w fs = table_of (with_fields fs (store_of w)) (pending_in w)

abbrev pub bounds_to : List ℕ → List Bound → Table
bounds_to w bs = table_of (with_bounds bs (store_of w)) (pending_in w)

abbrev pub visited_to : List ℕ → List Pair → Table
visited_to w ps = table_of (with_visited ps (store_of w)) (pending_in w)

abbrev pub equals_to : List ℕ → List Pair → Table
equals_to w ps = table_of (with_equals ps (store_of w)) (pending_in w)

abbrev pub pending_to : List ℕ → List Pair → Table
pending_to w ps = table_of (store_of w) ps

abbrev pub broken_to : List ℕ → Break → Table
broken_to w b = table_of (with_broken b (store_of w)) (pending_in w)

abbrev pub level_to : List ℕ → ℕ → Table
level_to w l = table_of (with_level l (store_of w)) (pending_in w)

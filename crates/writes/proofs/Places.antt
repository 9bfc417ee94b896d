-- What words that show a table say of their header; where each region lies by itself; and the entries, which start right behind the
-- header. Assumes nothing.
use Prim.Native.Nat.{ℕ, ◌+◌, ◌*◌, ◌<◌}
use mathlib.Core.Path.{◌≡◌, refl, sym, subst}
use mathlib.Core.List.{List}
use lib.ListN.{length, set}
use Rattle.model.specs.Format.{header_words, entry_width, entries_region, fields_region, bounds_region, visited_region, pending_region, equals_region}
use Rattle.model.specs.Making.{changed}
use Rattle.model.specs.Table.{Entry, Table, no_entry, entry_at}
use Rattle.model.specs.Image.{entry_words, table, capacity, count}
use Rattle.laws.proofs.Regions.{entry_coded}
use Rattle.image.specs.Laid.{Laid}
use Rattle.image.specs.Shown.{ShowsAs, Shows, Shown, store_of, entries_of, fields_in, bounds_all, visited_in, pending_in, equals_in, entries_to}
use Rattle.image.proofs.Laying.{shown_laid}
use Rattle.image.specs.Reading.{entries_count, fields_count, bounds_count, visited_count, pending_count, equals_count}
use Rattle.writes.specs.Slots.{entries_slot, slot_put}

-- what omega needs of words that show a table: the layout, and the table's counts and capacities as header words
pub record Facts (w : List ℕ) : Type 0 where
  pub laid : Laid w
  pub entries : length (entries_of w) ≡ count w entries_region
  pub fields : length (fields_in w) ≡ count w fields_region
  pub bounds : length (bounds_all w) ≡ count w bounds_region
  pub visited : length (visited_in w) ≡ count w visited_region
  pub pending : length (pending_in w) ≡ count w pending_region
  pub equals : length (equals_in w) ≡ count w equals_region
  pub entries_room : (store_of w).capacities.entries ≡ capacity w entries_region
  pub fields_room : (store_of w).capacities.fields ≡ capacity w fields_region
  pub bounds_room : (store_of w).capacities.bounds ≡ capacity w bounds_region
  pub visited_room : (store_of w).capacities.visited ≡ capacity w visited_region
  pub pending_room : (store_of w).capacities.pending ≡ capacity w pending_region
  pub equals_room : (store_of w).capacities.equals ≡ capacity w equals_region

pub laid_facts : {w : List ℕ} → Laid w → Facts w
unfolding table
laid_facts {w} l = record {
  laid = l;
  entries = entries_count w;
  fields = fields_count w;
  bounds = bounds_count w;
  visited = visited_count w;
  pending = pending_count w;
  equals = equals_count w;
  entries_room = refl;
  fields_room = refl;
  bounds_room = refl;
  visited_room = refl;
  pending_room = refl;
  equals_room = refl;
}

pub facts : {state : ℕ} {w : List ℕ} {t : Table} → ShowsAs state w t → Facts w
facts s = laid_facts (shown_laid s)

-- equal words show the same table
pub become : {state : ℕ} {v w : List ℕ} {t : Table} → v ≡ w → ShowsAs state w t → ShowsAs state v t
become {state} {v} {w} {t} e s = subst (λ (u : List ℕ). ShowsAs state u t) (sym e) s

-- an entry's word, behind the header
pub entry_put : (w : List ℕ) → Shown w → (g : Entry → Entry) (i j v : ℕ) → i < length (entries_of w) → j < entry_width → entry_words (g (entry_at (entries_of w) i)) ≡ set (entry_words (entry_at (entries_of w) i)) j v
    → Shows (set w (header_words + entry_width * i + j) v) (entries_to w (changed g (entries_of w) i))
unfolding changed
entry_put w s g i j v h k e =
    let es = entries_of w in
    let b = g (entry_at es i) in
    subst (λ (n : ℕ). Shows (set w (n + entry_width * i + j) v) (entries_to w (set es i b))) (shown_laid s).entries.starts (slot_put entry_coded entries_slot s i j v b no_entry h k e)

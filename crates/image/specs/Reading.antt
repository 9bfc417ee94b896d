-- A word of a record is a word of the image: the laws of the regions. Assumes nothing.
use Prim.Native.Nat.{ℕ, zero, suc, ◌+◌, ◌*◌, ◌≤◌, ◌<◌}
use native.Mathlib.Omega.{arith}
use native.Mathlib.Nat.{mul-zero, mul-suc, mul-le-mul_left}
use mathlib.Core.Path.{◌≡◌, refl, sym, ap, ◌∙◌}
use mathlib.Core.List.{List}
use lib.ListN.{length, get_or, drop, length-drop}
use lib.Seq.{get_or-take, get_or-drop, drop-drop}
use Rattle.model.specs.Lists.{read_many}
use Rattle.model.specs.Format.{entry_width, field_width, bound_width, visited_width, pending_width, equals_width, entries_region, fields_region, bounds_region, visited_region, pending_region, equals_region}
use Rattle.model.specs.Table.{entry_at}
use Rattle.model.specs.Image.{word, offset, capacity, count, records_of, table, entry_words, field_words, bound_words, visited_words, pending_words, equal_words, entry_of, field_of, bound_of, visited_of, pending_of, equal_of}
use Rattle.laws.proofs.Regions.{Coded, entry_coded, field_coded, bound_coded, visited_coded, pending_coded, equal_coded}
use Rattle.laws.proofs.Round.{records_length}
use Rattle.image.specs.Laid.{Laid, At}
use Rattle.image.specs.Shown.{store_of, entries_of, fields_in, bounds_all, visited_in, pending_in, equals_in}
use Rattle.image.specs.Records.{field_at, bound_at, visited_at, pending_at, equal_at}

module _ {A : Type 0} (of : List ℕ → A) (width : ℕ) where
  pub read_at : (n : ℕ) (l : List ℕ) (i : ℕ) (d : A) → i < n → get_or (read_many of (drop width) n l) i d ≡ of (drop (width * i) l)
  unfolding read_many
  read_at zero l i d lt = absurd (omega arith)
  read_at (suc n) l zero d lt = rw mul-zero
  read_at (suc n) l (suc i) d lt =
      let e : width + width * i ≡ width * suc i = sym (mul-suc width i ∙ omega arith) in
      read_at n (drop width l) i d (omega arith) ∙ ap of (drop-drop (width * i) width l ∙ ap (λ (m : ℕ). drop m l) e)

-- the words of the records up to one fit before the region's end
pub before_end : (width n capacity : ℕ) → n < capacity → width * n + width ≤ width * capacity
before_end width n capacity h = rw mul-suc at (mul-le-mul_left width h)

-- word j of record i of region k
pub record_word : {A : Type 0} {f : A → List ℕ} {of : List ℕ → A} {width : ℕ} → Coded f of width → {w : List ℕ} {k : ℕ} → At w k width → (i j : ℕ) (d : A)
    → i < count w k → j < width → word (f (get_or (records_of of width w k) i d)) j ≡ word w (offset w k + width * i + j)
unfolding records_of
record_word {A} {f} {of} {width} c {w} {k} at i j d lt jt =
    let m = before_end width i (capacity w k) (omega (arith, at.held)) in
    let inside : offset w k + width * i + width ≤ length w = omega (arith, at.inside) in
    let off : ℕ = offset w k in
    let l : List ℕ = drop (width * i) (drop off w) in
    let e : l ≡ drop (off + width * i) w = drop-drop (width * i) off w in
    let n : width ≤ length l = rw e (simp length-drop (omega arith)) in
    ap (λ (a : A). word (f a) j) (read_at of width (count w k) (drop off w) i d lt)
    ∙ ap (λ (m : List ℕ). word m j) (c.forth l n)
    ∙ get_or-take width l j 0 jt
    ∙ ap (λ (m : List ℕ). word m j) e
    ∙ get_or-drop (off + width * i) w j 0

-- how many records there are
pub entries_count : (w : List ℕ) → length (entries_of w) ≡ count w entries_region
unfolding table
entries_count w = records_length entry_of entry_width w entries_region

pub fields_count : (w : List ℕ) → length (fields_in w) ≡ count w fields_region
unfolding table
fields_count w = records_length field_of field_width w fields_region

pub bounds_count : (w : List ℕ) → length (bounds_all w) ≡ count w bounds_region
unfolding table
bounds_count w = records_length bound_of bound_width w bounds_region

pub visited_count : (w : List ℕ) → length (visited_in w) ≡ count w visited_region
unfolding table
visited_count w = records_length visited_of visited_width w visited_region

pub pending_count : (w : List ℕ) → length (pending_in w) ≡ count w pending_region
unfolding table
pending_count w = records_length pending_of pending_width w pending_region

pub equals_count : (w : List ℕ) → length (equals_in w) ≡ count w equals_region
unfolding table
equals_count w = records_length equal_of equals_width w equals_region

-- how many it takes
pub entries_taken : (w : List ℕ) → (store_of w).capacities.entries ≡ capacity w entries_region
unfolding table
entries_taken w = refl

pub fields_taken : (w : List ℕ) → (store_of w).capacities.fields ≡ capacity w fields_region
unfolding table
fields_taken w = refl

pub bounds_taken : (w : List ℕ) → (store_of w).capacities.bounds ≡ capacity w bounds_region
unfolding table
bounds_taken w = refl

pub visited_taken : (w : List ℕ) → (store_of w).capacities.visited ≡ capacity w visited_region
unfolding table
visited_taken w = refl

pub pending_taken : (w : List ℕ) → (store_of w).capacities.pending ≡ capacity w pending_region
unfolding table
pending_taken w = refl

pub equals_taken : (w : List ℕ) → (store_of w).capacities.equals ≡ capacity w equals_region
unfolding table
equals_taken w = refl

-- each region by itself
module _ (w : List ℕ) (l : Laid w) where
  pub entries_lies : At w entries_region entry_width
  entries_lies = record { head = omega arith; behind = omega arith; held = l.entries.held; inside = omega arith }

  pub fields_lies : At w fields_region field_width
  fields_lies = record { head = omega arith; behind = omega arith; held = l.fields.held; inside = omega arith }

  pub bounds_lies : At w bounds_region bound_width
  bounds_lies = record { head = omega arith; behind = omega arith; held = l.bounds.held; inside = omega arith }

  pub visited_lies : At w visited_region visited_width
  visited_lies = record { head = omega arith; behind = omega arith; held = l.visited.held; inside = omega arith }

  pub pending_lies : At w pending_region pending_width
  pending_lies = record { head = omega arith; behind = omega arith; held = l.pending.held; inside = omega arith }

  pub equals_lies : At w equals_region equals_width
  equals_lies = record { head = omega arith; behind = omega arith; held = l.equals.held; inside = omega arith }

  -- word j of record i of each
  pub entries_read : (i j : ℕ) → i < length (entries_of w) → j < entry_width → word (entry_words (entry_at (entries_of w) i)) j ≡ word w (offset w entries_region + entry_width * i + j)
  unfolding table
  entries_read i j h jt = let n = entries_count w in record_word entry_coded entries_lies i j _ (omega arith) jt

  pub fields_read : (i j : ℕ) → i < length (fields_in w) → j < field_width → word (field_words (field_at (fields_in w) i)) j ≡ word w (offset w fields_region + field_width * i + j)
  unfolding table
  fields_read i j h jt = let n = fields_count w in record_word field_coded fields_lies i j _ (omega arith) jt

  pub bounds_read : (i j : ℕ) → i < length (bounds_all w) → j < bound_width → word (bound_words (bound_at (bounds_all w) i)) j ≡ word w (offset w bounds_region + bound_width * i + j)
  unfolding table
  bounds_read i j h jt = let n = bounds_count w in record_word bound_coded bounds_lies i j _ (omega arith) jt

  pub visited_read : (i j : ℕ) → i < length (visited_in w) → j < visited_width → word (visited_words (visited_at (visited_in w) i)) j ≡ word w (offset w visited_region + visited_width * i + j)
  unfolding table
  visited_read i j h jt = let n = visited_count w in record_word visited_coded visited_lies i j _ (omega arith) jt

  pub pending_read : (i j : ℕ) → i < length (pending_in w) → j < pending_width → word (pending_words (pending_at (pending_in w) i)) j ≡ word w (offset w pending_region + pending_width * i + j)
  unfolding table
  pending_read i j h jt = let n = pending_count w in record_word pending_coded pending_lies i j _ (omega arith) jt

  pub equals_read : (i j : ℕ) → i < length (equals_in w) → j < equals_width → word (equal_words (equal_at (equals_in w) i)) j ≡ word w (offset w equals_region + equals_width * i + j)
  unfolding table
  equals_read i j h jt = let n = equals_count w in record_word equal_coded equals_lies i j _ (omega arith) jt

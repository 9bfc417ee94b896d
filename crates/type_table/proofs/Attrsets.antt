-- Making an attrset: its fields put one by one, then its entry. Assumes nothing.
use Rattle.std.specs.Prelude.{Option}
use Prim.Native.Nat.{ℕ, zero, suc, ◌+◌, ◌*◌, ◌≤◌, ◌<◌, ◌/◌}
use native.Mathlib.Omega.{arith}
use native.Mathlib.Numerals.{add-one}
use mathlib.Core.Path.{◌≡◌, refl, sym, ap, subst, ◌∙◌}
use mathlib.Core.List.{List, [], ◌∷◌, ◌++◌, append_assoc, append-nil}
use mathlib.Core.Bool.{Bool, false}
use lib.ListN.{length, get_or, take, drop, length-append}
use lib.Seq.{take-suc, take-length, length-take-le, get_or-drop, drop-drop}
use lib.Dec.{T}
use borrow.Author.Tests.{lt-ltb, le-ltb}
use Rattle.model.specs.Lists.{read_many}
use Rattle.model.specs.Format.{field_width, entries_region, fields_region, spread_most, attrset, open_flag}
use Rattle.model.specs.Table.{Entry, Field, Table, with_entries, with_fields}
use Rattle.model.specs.Image.{word, words, table, field_of}
use Rattle.model.specs.Formed.{well_formed}
use Rattle.model.specs.Making.{Making, spread_of, put_entry, too_deep}
use Rattle.model.specs.Room.{first_lacking, deep_enough, fitting}
use Rattle.model.specs.Calls.{Response, response_of, leave_by, leave_if_room, made_turn, field_list, new_attrset, dynamic_type, dynamic_bit}
use Rattle.model.specs.Told.{Told, done, refused, bit}
use Rattle.laws.proofs.Entries.{more_length}
use Rattle.laws.proofs.Formed.{sound_table}
use Rattle.laws.proofs.Regions.{read_length}
use Rattle.image.specs.Shown.{Within, Shows, Shown, store_of, entries_of, fields_in, entries_to, fields_to}
use Rattle.image.specs.Records.{entry_made}
use Rattle.image.proofs.Laying.{formed_shown, seen, shown}
use Rattle.writes.proofs.Pending.{same_size}
use Rattle.type_table.specs.Made.{attrset_response, first_field, entries_in}
use Rattle.type_table.proofs.Replies.{put_too_deep}
use Rattle.type_table.proofs.WaysOut.{spread_none}

-- the fields of a list, one by one
pub fields_count : (l : List ℕ) → length (field_list l) ≡ length l / field_width
unfolding field_list
fields_count l = read_length field_of (drop field_width) (length l / field_width) l

pub fields_inside : (l : List ℕ) (n i : ℕ) → n ≡ length (field_list l) → i < n → field_width * i + field_width ≤ length l
fields_inside l n i e h = omega (arith, fields_count l)

-- the field at word n
abbrev pub field_from : List ℕ → ℕ → Field
field_from l n = record { name = word l n; entry = word l (n + 1); optional = word l (n + 2) }

field_from_lem : (l : List ℕ) (n : ℕ) → field_of (drop n l) ≡ field_from l n
unfolding field_of
field_from_lem l n = let z : n + 0 ≡ n = omega arith in rw (get_or-drop n l 0 0, get_or-drop n l 1 0, get_or-drop n l 2 0, z)

read_at : (n : ℕ) (l : List ℕ) (i : ℕ) (d : Field) → i < n → get_or (read_many field_of (drop field_width) n l) i d ≡ field_of (drop (field_width * i) l)
unfolding read_many
read_at zero l i d lt = absurd (omega arith)
read_at (suc n) l zero d lt = refl
read_at (suc n) l (suc i) d lt =
    let e : field_width + field_width * i ≡ field_width * suc i = omega arith in
    read_at n (drop field_width l) i d (omega arith) ∙ ap field_of (drop-drop (field_width * i) field_width l ∙ ap (λ (m : ℕ). drop m l) e)

field_at : (l : List ℕ) (i : ℕ) (d : Field) → i < length (field_list l) → get_or (field_list l) i d ≡ field_from l (field_width * i)
unfolding field_list
field_at l i d h = read_at (length l / field_width) l i d (omega (arith, fields_count l)) ∙ field_from_lem l (field_width * i)

-- the loop that puts them
pub record Fielded (w₀ l : List ℕ) (i : ℕ) (w : List ℕ) : Type 0 where
  pub shows : Shows w (fields_to w₀ (fields_in w₀ ++ take i (field_list l)))
  pub upto : i ≤ length (field_list l)

pub fielded_start : (w l : List ℕ) → Shown w → Fielded w l 0 w
unfolding with_fields
fielded_start w l s = record { shows = rw append-nil s; upto = omega arith }

module _ (w₀ l : List ℕ) (i : ℕ) (w : List ℕ) (p : Fielded w₀ l i w) where
  pub fielded_shows : Shown w
  fielded_shows = shown p.shows

  pub fielded_room : (n : ℕ) → n ≡ length (field_list l) → i < n → length (fields_in w₀) + n ≤ (store_of w₀).capacities.fields → length (fields_in w) < (store_of w).capacities.fields
  unfolding with_fields
  fielded_room n e h r =
      subst (λ (t : Table). length t.store.fields < t.store.capacities.fields) (sym (seen p.shows))
      (omega (arith, length-append (fields_in w₀) (take i (field_list l)), length-take-le i (field_list l) p.upto))

  pub fielded_more : (v : List ℕ) → i < length (field_list l) → Shows v (fields_to w (fields_in w ++ (field_from l (field_width * i) ∷ []))) → Fielded w₀ l (i + 1) v
  unfolding with_fields
  fielded_more v h sv =
      let fs : List Field = field_list l in
      let f : Field = field_from l (field_width * i) in
      let a : Shows v (fields_to w₀ ((fields_in w₀ ++ take i fs) ++ (f ∷ []))) =
      subst (λ (t : Table). Shows v (record { store = with_fields (t.store.fields ++ (f ∷ [])) t.store; pending = t.pending })) (seen p.shows) sv in
      let q : (fields_in w₀ ++ take i fs) ++ (f ∷ []) ≡ fields_in w₀ ++ take (i + 1) fs =
      append_assoc (fields_in w₀) (take i fs) (f ∷ [])
      ∙ ap (λ (x : List Field). fields_in w₀ ++ x)
      (ap (λ (x : Field). take i fs ++ (x ∷ [])) (sym (field_at l i f h)) ∙ sym (take-suc fs i f h) ∙ ap (λ (k : ℕ). take k fs) (sym (add-one i))) in
      record { shows = subst (λ (x : List Field). Shows v (fields_to w₀ x)) q a; upto = omega arith }

  pub fielded_end : length (field_list l) ≤ i → Shows w (fields_to w₀ (fields_in w₀ ++ field_list l))
  fielded_end h =
      let e : i ≡ length (field_list l) = omega (arith, p.upto) in
      let q : take i (field_list l) ≡ field_list l = ap (λ (k : ℕ). take k (field_list l)) e ∙ take-length (field_list l) in
      subst (λ (x : List Field). Shows w (fields_to w₀ (fields_in w₀ ++ x))) q p.shows

pub same_length : (w v : List ℕ) (fs : List Field) → Shown w → Shows v (fields_to w fs) → length v ≡ length w
unfolding with_fields
same_length w v fs s r = same_size r s refl

-- the entry has the room that it had
pub entry_room : (w v : List ℕ) (fs : List Field) → Shows v (fields_to w fs) → length (entries_of w) < (store_of w).capacities.entries → length (entries_of v) < (store_of v).capacities.entries
unfolding with_fields
entry_room w v fs sv h = subst (λ (t : Table). length t.store.entries < t.store.capacities.entries) (sym (seen sv)) h

-- what is told
module _ (w l : List ℕ) (wide : Bool) (d : Option ℕ) where
  abbrev pub Replied : Told → List ℕ → Type 0
  Replied says v = (says ≡ (attrset_response w l wide d).says) × (v ≡ (attrset_response w l wide d).words)

  replied : (r : Response) → attrset_response w l wide d ≡ r → Replied r.says r.words
  replied r e = (ap (λ (q : Response). q.says) (sym e), ap (λ (q : Response). q.words) (sym e))

  abbrev made : Making
  made = new_attrset (entries_of w) (fields_in w) (field_list l) wide d

  made_length : length (new_attrset (entries_of w) (fields_in w) (field_list l) wide d).after ≡ length (entries_of w) + 1
  unfolding new_attrset put_entry
  made_length = more_length (entries_of w) _

  reply_full : (store_of w).capacities.entries < length (new_attrset (entries_of w) (fields_in w) (field_list l) wide d).after
      → attrset_response w l wide d ≡ record { says = refused 5 (entries_region ∷ []); steps = 0; words = w }
  unfolding response_of made_turn leave_if_room leave_by fitting first_lacking deep_enough with_entries with_fields
  reply_full h = rw (lt-ltb (store_of w).capacities.entries (length made.after) h)

  reply_lacks : length (new_attrset (entries_of w) (fields_in w) (field_list l) wide d).after ≤ (store_of w).capacities.entries
      → (store_of w).capacities.fields < length (fields_in w ++ field_list l)
      → attrset_response w l wide d ≡ record { says = refused 5 (fields_region ∷ []); steps = 0; words = w }
  unfolding response_of made_turn leave_if_room leave_by fitting first_lacking deep_enough with_entries with_fields
  reply_lacks k h =
      rw (le-ltb (store_of w).capacities.entries (length made.after) k, lt-ltb (store_of w).capacities.fields (length (fields_in w ++ field_list l)) h)

  reply_done : Within (table w) → length (new_attrset (entries_of w) (fields_in w) (field_list l) wide d).after ≤ (store_of w).capacities.entries
      → length (fields_in w ++ field_list l) ≤ (store_of w).capacities.fields → too_deep (new_attrset (entries_of w) (fields_in w) (field_list l) wide d).after ≡ false
      → attrset_response w l wide d
      ≡ record {
        says = done ((new_attrset (entries_of w) (fields_in w) (field_list l) wide d).number ∷ []);
        steps = 0;
        words = words (entries_in (fields_to w (fields_in w ++ field_list l)) (new_attrset (entries_of w) (fields_in w) (field_list l) wide d).after);
      }
  unfolding response_of made_turn leave_if_room leave_by fitting first_lacking deep_enough with_entries with_fields
  reply_done k h f e =
      rw (le-ltb (store_of w).capacities.entries (length made.after) h, le-ltb (store_of w).capacities.fields (length (fields_in w ++ field_list l)) f, le-ltb _ _ k.held.bounds, le-ltb _ _ k.held.visited, le-ltb _ _ k.pending, le-ltb _ _ k.held.equals, e)

  module _ (good : T (well_formed w)) (number room : ℕ) (n : number ≡ length (entries_of w)) (r : room ≡ (store_of w).capacities.entries) where
    pub attrset_full : room ≤ number → Replied (refused 5 (entries_region ∷ [])) w
    attrset_full h = replied _ (reply_full (omega (arith, made_length)))

    module _ (old most many : ℕ) (h : number < room) (o : old ≡ length (fields_in w)) (m : most ≡ (store_of w).capacities.fields) (q : many ≡ length (field_list l)) where
      pub attrset_lacks : most < old + many → Replied (refused 5 (fields_region ∷ [])) w
      attrset_lacks k = replied _ (reply_lacks (omega (arith, made_length)) (simp length-append (omega arith)))

      pub attrset_done : old + many ≤ most → (first type flags : ℕ) → first ≡ first_field old many → type ≡ dynamic_type d → flags ≡ open_flag * bit wide + dynamic_bit d
          → (v u : List ℕ) → Shows v (fields_to w (fields_in w ++ field_list l)) → Shows u (entries_to v (entries_of v ++ (entry_made attrset first many type flags 1 ∷ [])))
          → Replied (done (number ∷ [])) u
      unfolding new_attrset put_entry with_fields with_entries
      attrset_done k first type flags ef et eg v u sv su =
          let es : List Entry = entries_of w in
          let t : Table = fields_to w (fields_in w ++ field_list l) in
          let x : ℕ = first_field (length (fields_in w)) (length (field_list l)) in
          let z : spread_of es attrset x (length (field_list l)) ≡ 1 = spread_none es attrset x (length (field_list l)) (omega arith) in
          let shallow : too_deep made.after ≡ false =
          put_too_deep es attrset x (length (field_list l)) (dynamic_type d) (open_flag * bit wide + dynamic_bit d) (sound_table w good).store.shallow
          ∙ le-ltb spread_most (spread_of es attrset x (length (field_list l))) (omega arith) in
          let a = replied _ (reply_done (formed_shown w good).within (omega (arith, made_length)) (simp length-append (omega arith)) shallow) in
          let b : Shows u (entries_in t (es ++ (entry_made attrset first many type flags 1 ∷ []))) =
          subst (λ (s : Table). Shows u (entries_in s (s.store.entries ++ (entry_made attrset first many type flags 1 ∷ [])))) (seen sv) su in
          let ef' : first ≡ x = ef ∙ rw (o, q) in
          let e : entry_made attrset first many type flags 1 ≡ entry_made attrset x (length (field_list l)) (dynamic_type d) (open_flag * bit wide + dynamic_bit d) (spread_of es attrset x (length (field_list l))) =
          rw (ef', q, et, eg, z) in
          (ap (λ (i : ℕ). done (i ∷ [])) n ∙ a.0, b.is ∙ ap (λ (i : Entry). words (entries_in t (es ++ (i ∷ [])))) e ∙ a.1)

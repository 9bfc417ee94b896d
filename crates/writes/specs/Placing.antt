-- Stores into an image, said of its parts, whatever its regions: words of one region, and its count. Assumes nothing.
use Prim.Native.Nat.{ℕ, zero, suc, ◌+◌, ◌-◌, ◌*◌, ◌≤◌, ◌<◌}
use native.Mathlib.Omega.{arith}
use native.Mathlib.Nat.{zero-add, suc-add}
use mathlib.Core.Path.{◌≡◌, refl, sym, ap, ◌∙◌}
use mathlib.Core.List.{List, [], ◌∷◌, ◌++◌, append_assoc}
use lib.ListN.{length, get_or, set, take, drop, length-append, length-set}
use lib.Seq.{sets, length-sets, set-append_left, split_at, set_split, set-set, length-take-le, get_or-append-add, get_or-set_same}
use lib.Dec.{T}
use Rattle.model.specs.Format.{Region, no_region, header_for, header_of, offset_at, capacity_at, count_at}
use Rattle.model.specs.Parts.{word, offset, capacity, count, Part, no_part, past, triples, bodies, image, regions_right, InRegion, InRegions, done, ◌then◌, stored, pushed, part_of, change}
use Rattle.laws.proofs.Parts.{triples_length, fit_length, fit_at, image_right, Flat, flat_at, size}
use Rattle.image.specs.Laid.{At}
use Rattle.image.specs.Reading.{before_end}
use Rattle.image.specs.Stores.{appended}

-- words that show parts of these regions, in a row
pub record ShowsParts (rs : List Region) (w front : List ℕ) (ps : List Part) : Type 0 where
  pub nine : length front ≡ 9
  pub fit : InRegions rs ps
  pub is : w ≡ image front ps

-- stores behind a list, and among the words of one that others follow
pub set_right : {A : Type 0} (xs ys : List A) (i : ℕ) (a : A) → set (xs ++ ys) (length xs + i) a ≡ xs ++ set ys i a
set_right [] ys i a = rw (zero-add i)
set_right {A} (x ∷ xs) ys i a = rw (suc-add (length xs) i) (ap (λ (l : List A). x ∷ l) (set_right xs ys i a))

sets_left : (x y v : List ℕ) (i : ℕ) → i + length v ≤ length x → sets (x ++ y) i v ≡ sets x i v ++ y
sets_left x y [] i h = refl
sets_left x y (a ∷ v) i h = rw (set-append_left x y i a (omega arith)) (sets_left (set x i a) y v (suc i) (rw (length-set x i a) (omega arith)))

sets_right : (x y v : List ℕ) (i : ℕ) → sets (x ++ y) (length x + i) v ≡ x ++ sets y i v
sets_right x y [] i = refl
sets_right x y (a ∷ v) i = let e : suc (length x + i) ≡ length x + suc i = omega arith in rw (set_right x y i a, e) (sets_right x (set y i a) v (suc i))

-- the parts before one and behind it
triples_append : (at : ℕ) (ps qs : List Part) → triples at (ps ++ qs) ≡ triples at ps ++ triples (at + size ps) qs
unfolding triples size
triples_append at [] qs = let e : at ≡ at + 0 = omega arith in ap (λ (n : ℕ). triples n qs) e
triples_append at (p ∷ ps) qs =
    let e : past at p + size ps ≡ at + (p.width * p.capacity + size ps) = omega arith in
    ap (λ (l : List ℕ). at ∷ p.capacity ∷ p.count ∷ l) (triples_append (past at p) ps qs ∙ ap (λ (n : ℕ). triples (past at p) ps ++ triples n qs) e)

bodies_append : (ps qs : List Part) → bodies (ps ++ qs) ≡ bodies ps ++ bodies qs
unfolding bodies
bodies_append [] qs = refl
bodies_append (p ∷ ps) qs = rw (bodies_append ps qs) (sym (append_assoc p.words (bodies ps) (bodies qs)))

bodies_length : {rs : List Region} {ps : List Part} → InRegions rs ps → length (bodies ps) ≡ size ps
unfolding bodies size
bodies_length done = refl
bodies_length (◌then◌ {p = p} {ps = ps} x f) = length-append p.words (bodies ps) ∙ rw (x.full, bodies_length f)

pub fit_take : {rs : List Region} {ps : List Part} (n : ℕ) → InRegions rs ps → InRegions (take n rs) (take n ps)
fit_take zero f = done
fit_take (suc n) done = done
fit_take (suc n) (x then f) = x then fit_take n f

-- an image opened at one of its parts
module _ (front : List ℕ) (nine : length front ≡ 9) (xs ys : List Part) where
  at : ℕ
  at = header_for (length xs + suc (length ys))

  start : ℕ
  start = at + size xs

  opened : (p : Part) → image front (xs ++ (p ∷ ys)) ≡ (front ++ triples at xs) ++ (start ∷ p.capacity ∷ p.count ∷ ((triples (past start p) ys ++ bodies xs) ++ (p.words ++ bodies ys)))
  unfolding image triples bodies at start
  opened p = rw (length-append xs (p ∷ ys), triples_append at xs (p ∷ ys), bodies_append xs (p ∷ ys)) (simp append_assoc)

  head : length (front ++ triples at xs) ≡ header_for (length xs)
  head = length-append front (triples at xs) ∙ rw (nine, triples_length at xs)

  lead : Part → List ℕ
  lead p = (front ++ triples at xs) ++ (start ∷ p.capacity ∷ p.count ∷ (triples (past start p) ys ++ bodies xs))

  open_words : (p : Part) → image front (xs ++ (p ∷ ys)) ≡ lead p ++ (p.words ++ bodies ys)
  unfolding lead
  open_words p = opened p ∙ sym (append_assoc (front ++ triples at xs) (start ∷ p.capacity ∷ p.count ∷ (triples (past start p) ys ++ bodies xs)) (p.words ++ bodies ys))

  lead_length : {rs : List Region} → InRegions rs xs → (p : Part) → length (lead p) ≡ start
  unfolding lead start at
  lead_length f p =
      let b = bodies_length f in
      let t = triples_length (past start p) ys in
      let h = head in
      simp length-append (omega (arith, simp length-append at h))

  -- the three words of the part in the header
  module _ (p : Part) where
    word_of : (i : ℕ) → word (image front (xs ++ (p ∷ ys))) (header_for (length xs) + i) ≡ word (start ∷ p.capacity ∷ p.count ∷ ((triples (past start p) ys ++ bodies xs) ++ (p.words ++ bodies ys))) i
    word_of i = rw (opened p, ← head) (get_or-append-add (front ++ triples at xs) (start ∷ p.capacity ∷ p.count ∷ ((triples (past start p) ys ++ bodies xs) ++ (p.words ++ bodies ys))) i 0)

    put_count : (n : ℕ) → set (image front (xs ++ (p ∷ ys))) (header_for (length xs) + 2) n ≡ image front (xs ++ (record { width = p.width; capacity = p.capacity; count = n; words = p.words } ∷ ys))
    put_count n =
        let q : Part = record { width = p.width; capacity = p.capacity; count = n; words = p.words } in
        rw (opened p, opened q, ← head) (set_right (front ++ triples at xs) (start ∷ p.capacity ∷ p.count ∷ ((triples (past start p) ys ++ bodies xs) ++ (p.words ++ bodies ys))) 2 n)

    put_words : {rs : List Region} → InRegions rs xs → (i : ℕ) (v : List ℕ) → i + length v ≤ length p.words
        → sets (image front (xs ++ (p ∷ ys))) (start + i) v ≡ image front (xs ++ (record { width = p.width; capacity = p.capacity; count = p.count; words = sets p.words i v } ∷ ys))
    unfolding lead
    put_words f i v h =
        let q : Part = record { width = p.width; capacity = p.capacity; count = p.count; words = sets p.words i v } in
        ap (λ (l : List ℕ). sets l (start + i) v) (open_words p)
        ∙ ap (λ (n : ℕ). sets (lead p ++ (p.words ++ bodies ys)) (n + i) v) (sym (lead_length f p))
        ∙ sets_right (lead p) (p.words ++ bodies ys) v i
        ∙ ap (λ (l : List ℕ). lead p ++ l) (sets_left p.words (bodies ys) v i h)
        ∙ sym (open_words q)

-- Region k of an image: its three words in the header, stores of words inside it, and a record put behind its last.
module _ {rs : List Region} {ps : List Part} (front : List ℕ) (nine : length front ≡ 9) (fit : InRegions rs ps) (k : ℕ) (low : 1 ≤ k) (high : k ≤ length rs) where
  inside : k - 1 < length ps
  inside = let n = fit_length fit in omega arith

  cut : length (take (k - 1) ps) ≡ k - 1
  cut = let n = fit_length fit in length-take-le (k - 1) ps (omega arith)

  parted : image front ps ≡ image front (take (k - 1) ps ++ (part_of ps k ∷ drop (suc (k - 1)) ps))
  parted = ap (λ (l : List Part). image front l) (split_at ps (k - 1) no_part inside)

  changed : (q : Part) → image front (take (k - 1) ps ++ (q ∷ drop (suc (k - 1)) ps)) ≡ image front (set ps (k - 1) q)
  changed q = ap (λ (l : List Part). image front l) (sym (set_split ps (k - 1) q inside))

  begins : ℕ
  begins = start front nine (take (k - 1) ps) (drop (suc (k - 1)) ps)

  offset_is : offset (image front ps) k ≡ begins
  unfolding begins
  offset_is = let e : offset_at k ≡ header_for (length (take (k - 1) ps)) + 0 = let c = cut in omega arith in
      rw (parted, e) (word_of front nine (take (k - 1) ps) (drop (suc (k - 1)) ps) (part_of ps k) 0)

  pub capacity_is : capacity (image front ps) k ≡ (part_of ps k).capacity
  capacity_is = let e : capacity_at k ≡ header_for (length (take (k - 1) ps)) + 1 = let c = cut in omega arith in
      rw (parted, e) (word_of front nine (take (k - 1) ps) (drop (suc (k - 1)) ps) (part_of ps k) 1)

  pub count_is : count (image front ps) k ≡ (part_of ps k).count
  count_is = let e : count_at k ≡ header_for (length (take (k - 1) ps)) + 2 = let c = cut in omega arith in
      rw (parted, e) (word_of front nine (take (k - 1) ps) (drop (suc (k - 1)) ps) (part_of ps k) 2)

  pub shaped : InRegion (get_or rs (k - 1) no_region) (part_of ps k)
  shaped = fit_at fit (k - 1) (omega arith)

  -- words stored in region k from its word i on
  pub image_put : (i : ℕ) (v : List ℕ) → i + length v ≤ length (part_of ps k).words
      → sets (image front ps) (offset (image front ps) k + i) v
      ≡ image front (change (λ p. record { width = p.width; capacity = p.capacity; count = p.count; words = sets p.words i v }) k ps)
  unfolding begins
  image_put i v h =
      let p = part_of ps k in
      rw (offset_is, parted) (put_words front nine (take (k - 1) ps) (drop (suc (k - 1)) ps) p (fit_take (k - 1) fit) i v h ∙ changed (record { width = p.width; capacity = p.capacity; count = p.count; words = sets p.words i v }))

  -- and its count
  pub image_count : (n : ℕ) → set (image front ps) (count_at k) n ≡ image front (change (λ p. record { width = p.width; capacity = p.capacity; count = n; words = p.words }) k ps)
  image_count n =
      let p = part_of ps k in
      let e : count_at k ≡ header_for (length (take (k - 1) ps)) + 2 = let c = cut in omega arith in
      rw (parted, e) (put_count front nine (take (k - 1) ps) (drop (suc (k - 1)) ps) p n ∙ changed (record { width = p.width; capacity = p.capacity; count = n; words = p.words }))

-- a part changed in its place
pub fit_change : {rs : List Region} {ps : List Part} (j : ℕ) (q : Part) → InRegions rs ps → InRegion (get_or rs j no_region) q → InRegions rs (set ps j q)
fit_change j q done h = done
fit_change zero q (x then f) h = h then f
fit_change (suc j) q (x then f) h = x then fit_change j q f h

module _ {rs : List Region} {ps : List Part} {w front : List ℕ} (s : ShowsParts rs w front ps) (k : ℕ) (low : 1 ≤ k) (high : k ≤ length rs) where
  in_range : k - 1 < length ps
  in_range = let n = fit_length s.fit in omega arith

  shape_of : InRegion (get_or rs (k - 1) no_region) (part_of ps k)
  shape_of = shaped front s.nine s.fit k low high

  pub shows_at : At w k (part_of ps k).width
  shows_at =
      let n = s.nine in
      let p = part_of ps k in
      let c : capacity w k ≡ p.capacity = rw s.is (capacity_is front n s.fit k low high) in
      let m : count w k ≡ p.count = rw s.is (count_is front n s.fit k low high) in
      let r : T (regions_right rs 1 (header_of rs) w) = rw s.is (image_right front n s.fit) in
      let f = flat_at w rs 1 (header_of rs) r (k - 1) (omega arith) in
      let e : 1 + (k - 1) ≡ k = omega arith in
      let g : Flat w k (get_or rs (k - 1) no_region).width (header_of rs) = rw e at f in
      rw shape_of.wide (record { head = omega arith; behind = omega arith; held = rw (c, m) shape_of.held; inside = g.inside })

  -- words stored in region k from its word i on
  pub shows_put : (i : ℕ) (r : List ℕ) → i + length r ≤ (part_of ps k).width * (part_of ps k).capacity
      → ShowsParts rs (sets w (offset w k + i) r) front (change (λ p. stored i r p.count p) k ps)
  shows_put i r h =
      let p = part_of ps k in
      let full : length (sets p.words i r) ≡ p.width * p.capacity = length-sets p.words i r ∙ shape_of.full in
      record {
        nine = s.nine;
        fit = fit_change (k - 1) (stored i r p.count p) s.fit (record { wide = shape_of.wide; small = shape_of.small; held = shape_of.held; full = full });
        is = rw s.is (image_put front s.nine s.fit k low high i r (rw shape_of.full h));
      }

  -- and n counted: one law for every store
  pub shows_stored : (i : ℕ) (r : List ℕ) (n : ℕ) → i + length r ≤ (part_of ps k).width * (part_of ps k).capacity → n ≤ capacity w k
      → ShowsParts rs (set (sets w (offset w k + i) r) (count_at k) n) front (change (stored i r n) k ps)
  shows_stored i r n h m =
      let nine = s.nine in
      let fit = s.fit in
      let p = part_of ps k in
      let v = image front ps in
      let c : capacity w k ≡ p.capacity = rw s.is (capacity_is front nine fit k low high) in
      let full : length (sets p.words i r) ≡ p.width * p.capacity = length-sets p.words i r ∙ shape_of.full in
      let q : Part = stored i r p.count p in
      let qf : InRegion (get_or rs (k - 1) no_region) q = record { wide = shape_of.wide; small = shape_of.small; held = shape_of.held; full = full } in
      let one : sets v (offset v k + i) r ≡ image front (set ps (k - 1) q) = image_put front nine fit k low high i r (rw shape_of.full h) in
      let two = image_count front nine (fit_change (k - 1) q fit qf) k low high n in
      let same : part_of (set ps (k - 1) q) k ≡ q = get_or-set_same ps (k - 1) q no_part in_range in
      let all : set (sets v (offset v k + i) r) (count_at k) n ≡ image front (change (stored i r n) k ps) = rw one (two ∙ rw (same, set-set)) in
      record {
        nine = nine;
        fit = fit_change (k - 1) (stored i r n p) fit (record { wide = shape_of.wide; small = shape_of.small; held = rw c at m; full = full });
        is = rw s.is all;
      }

  -- a record put behind the last: the words show the parts with that record
  pub shows_pushed : (r : List ℕ) → length r ≡ (part_of ps k).width → count w k < capacity w k → ShowsParts rs (appended w k (part_of ps k).width r) front (change (pushed r) k ps)
  shows_pushed r n h =
      let p = part_of ps k in
      let c : capacity w k ≡ p.capacity = rw s.is (capacity_is front s.nine s.fit k low high) in
      let m : count w k ≡ p.count = rw s.is (count_is front s.nine s.fit k low high) in
      let room = before_end p.width p.count p.capacity (omega arith) in
      rw m (shows_stored (p.width * p.count) r (p.count + 1) (omega arith) (omega arith))

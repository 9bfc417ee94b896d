-- An image as its first nine words and its regions' parts, whatever these hold and however many they are. Assumes nothing.
use Rattle.std.specs.Prelude.{ℕ, suc, ◌+◌, ◌-◌, ◌*◌, ◌≤◌, ◌≡◌, List, [], ◌∷◌, ◌++◌, Bool, true, ◌&&◌, length, get_or, set, take, drop, eqb, leb}
use Rattle.std.proofs.lemmas.List.Edits.{sets}
use Rattle.model.specs.Lists.{is_zero, all_of, all}
use Rattle.model.specs.Format.{Region, offset_at, capacity_at, count_at, header_for}

-- word i; past the end, 0
abbrev pub word : List ℕ → ℕ → ℕ
word ws i = get_or ws i 0

-- region k's offset, capacity and count
abbrev pub offset : List ℕ → ℕ → ℕ
offset ws k = word ws (offset_at k)

abbrev pub capacity : List ℕ → ℕ → ℕ
capacity ws k = word ws (capacity_at k)

abbrev pub count : List ℕ → ℕ → ℕ
count ws k = word ws (count_at k)

-- what stands in a region: its words are those of all its records, free ones too
pub record Part : Type 0 where
  pub width : ℕ
  pub capacity : ℕ
  pub count : ℕ
  pub words : List ℕ

abbrev pub no_part : Part
no_part = record { width = 0; capacity = 0; count = 0; words = [] }

-- where the region behind a part starts
abbrev pub past : ℕ → Part → ℕ
past at p = at + p.width * p.capacity

-- "9 to 26 offset, capacity, count of each region": "without gaps", the first at a word
unfoldable pub triples : ℕ → List Part → List ℕ
triples at [] = []
triples at (p ∷ ps) = at ∷ p.capacity ∷ p.count ∷ triples (past at p) ps

unfoldable pub bodies : List Part → List ℕ
bodies [] = []
bodies (p ∷ ps) = p.words ++ bodies ps

-- "a header, then six regions without gaps"
unfoldable pub image : List ℕ → List Part → List ℕ
image front ps = front ++ (triples (header_for (length ps)) ps ++ bodies ps)

-- region k of some words, and all from region k on
abbrev pub part_at : Region → ℕ → List ℕ → Part
part_at r k ws = record { width = r.width; capacity = capacity ws k; count = count ws k; words = take (r.width * capacity ws k) (drop (offset ws k) ws) }

unfoldable pub parts_from : List Region → ℕ → List ℕ → List Part
parts_from [] k ws = []
parts_from (r ∷ rs) k ws = part_at r k ws ∷ parts_from rs (suc k) ws

-- "regions without gaps, ending at the slice's end"; "no count passes its capacity": from region k on, which starts at a word
unfoldable pub region_right : List ℕ → (k most at : ℕ) → Bool
region_right ws k most at = all_of (eqb (offset ws k) at ∷ leb (capacity ws k) most ∷ leb (count ws k) (capacity ws k) ∷ [])

unfoldable pub regions_right : List Region → (k at : ℕ) → List ℕ → Bool
regions_right [] k at ws = eqb at (length ws)
regions_right (r ∷ rs) k at ws = region_right ws k r.most at && regions_right rs (suc k) (at + r.width * capacity ws k) ws

-- "all words past a count, are 0", in regions whose records lie in a row
unfoldable pub rest_zero : List ℕ → (k width : ℕ) → Bool
rest_zero ws k width = all is_zero (take (width * (capacity ws k - count ws k)) (drop (offset ws k + width * count ws k) ws))

unfoldable pub rests_zero : List Region → ℕ → List ℕ → Bool
rests_zero [] k ws = true
rests_zero (r ∷ rs) k ws = rest_zero ws k r.width && rests_zero rs (suc k) ws

-- a part of a region
pub record InRegion (r : Region) (p : Part) : Type 0 where
  pub wide : p.width ≡ r.width
  pub small : p.capacity ≤ r.most
  pub held : p.count ≤ p.capacity
  pub full : length p.words ≡ p.width * p.capacity

infixr 30 ◌then◌
pub data InRegions : List Region → List Part → Type 0 where
  done : InRegions [] []
  ◌then◌ : {r : Region} {p : Part} {rs : List Region} {ps : List Part} → InRegion r p → InRegions rs ps → InRegions (r ∷ rs) (p ∷ ps)

-- a part with some words stored from its word i on, and n counted
abbrev pub stored : ℕ → List ℕ → ℕ → Part → Part
stored i r n p = record { width = p.width; capacity = p.capacity; count = n; words = sets p.words i r }

-- with a record more behind its last
abbrev pub pushed : List ℕ → Part → Part
pushed r p = stored (p.width * p.count) r (p.count + 1) p

-- region k's part, and the parts with that one changed
abbrev pub part_of : List Part → ℕ → Part
part_of ps k = get_or ps (k - 1) no_part

abbrev pub change : (Part → Part) → ℕ → List Part → List Part
change g k ps = set ps (k - 1) (g (part_of ps k))

-- opens all that stands above
unfoldable pub parts : Unit {0}
unfolding triples bodies image parts_from region_right regions_right rest_zero rests_zero
parts = tt

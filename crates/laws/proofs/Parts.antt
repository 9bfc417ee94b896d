-- An image and its parts, whatever they hold: parts read off words are those words, and parts written are read back. Each
-- law is by induction over the regions, whatever their number and shapes. Assumes nothing.
use Prim.Native.Nat.{ℕ, zero, suc, ◌+◌, ◌*◌, ◌≤◌, ◌<◌}
use native.Mathlib.Omega.{arith}
use mathlib.Core.Path.{◌≡◌, refl, sym, ap, ◌∙◌}
use mathlib.Core.List.{List, [], ◌∷◌, ◌++◌, append_assoc}
use lib.ListN.{length, get_or, take, drop, length-append, length-drop, take-append-drop}
use lib.Seq.{take_at, drop_at, drop-drop, drop-cons, drop-length, get_or-drop}
use lib.Dec.{T}
use Rattle.model.specs.Format.{Region, no_region, offset_at, capacity_at, count_at, header_for, header_of}
use Rattle.model.specs.Parts.{word, offset, capacity, count, Part, no_part, past, triples, bodies, image, parts_from, region_right, regions_right, rest_zero, rests_zero, InRegion, InRegions, done, ◌then◌}
use Rattle.laws.proofs.Tests.{both, first, second, nth, none, ◌and◌, all_passed, le_of, eq_of, of_le, of_eq}

pub parts_length : (rs : List Region) (k : ℕ) (ws : List ℕ) → length (parts_from rs k ws) ≡ length rs
unfolding parts_from
parts_length [] k ws = refl
parts_length (r ∷ rs) k ws = ap suc (parts_length rs (suc k) ws)

pub fit_length : {rs : List Region} {ps : List Part} → InRegions rs ps → length ps ≡ length rs
fit_length done = refl
fit_length (x then xs) = ap suc (fit_length xs)

-- what the tests of region k say
pub record Right (r : Region) (k at : ℕ) (ws : List ℕ) : Type 0 where
  pub starts : offset ws k ≡ at
  pub small : capacity ws k ≤ r.most
  pub held : count ws k ≤ capacity ws k

module _ (r : Region) (rs : List Region) (k at : ℕ) (ws : List ℕ) (h : T (regions_right (r ∷ rs) k at ws)) where
  pub here : Right r k at ws
  unfolding regions_right region_right
  here =
      let g = first (region_right ws k r.most at) (regions_right rs (suc k) (at + r.width * capacity ws k) ws) h in
      record { starts = eq_of _ _ (nth _ 0 g); small = le_of _ _ (nth _ 1 g); held = le_of _ _ (nth _ 2 g) }

  pub on : T (regions_right rs (suc k) (at + r.width * capacity ws k) ws)
  unfolding regions_right
  on = second (region_right ws k r.most at) (regions_right rs (suc k) (at + r.width * capacity ws k) ws) h

-- the tests of regions, as facts: at a list written out, a row of them
abbrev pub LaidFrom : List Region → (k at : ℕ) → List ℕ → Type 0
LaidFrom [] k at ws = at ≡ length ws
LaidFrom (r ∷ rs) k at ws = Right r k at ws × LaidFrom rs (suc k) (at + r.width * capacity ws k) ws

pub laid_from : (rs : List Region) (k at : ℕ) (ws : List ℕ) → T (regions_right rs k at ws) → LaidFrom rs k at ws
unfolding regions_right
laid_from [] k at ws h = eq_of at (length ws) h
laid_from (r ∷ rs) k at ws h = (here r rs k at ws h, laid_from rs (suc k) (at + r.width * capacity ws k) ws (on r rs k at ws h))

abbrev pub ZeroFrom : List Region → ℕ → List ℕ → Type 0
ZeroFrom [] k ws = Unit {0}
ZeroFrom (r ∷ rs) k ws = T (rest_zero ws k r.width) × ZeroFrom rs (suc k) ws

pub zero_from : (rs : List Region) (k : ℕ) (ws : List ℕ) → T (rests_zero rs k ws) → ZeroFrom rs k ws
unfolding rests_zero
zero_from [] k ws h = tt
zero_from (r ∷ rs) k ws h = (first (rest_zero ws k r.width) (rests_zero rs (suc k) ws) h, zero_from rs (suc k) ws (second (rest_zero ws k r.width) (rests_zero rs (suc k) ws) h))

pub from_zero : (rs : List Region) (k : ℕ) (ws : List ℕ) → ZeroFrom rs k ws → T (rests_zero rs k ws)
unfolding rests_zero
from_zero [] k ws h = tt
from_zero (r ∷ rs) k ws h = both (rest_zero ws k r.width) (rests_zero rs (suc k) ws) h.0 (from_zero rs (suc k) ws h.1)

module _ (ws : List ℕ) where
  pub ends : (rs : List Region) (k at : ℕ) → T (regions_right rs k at ws) → at ≤ length ws
  unfolding regions_right
  ends [] k at h = let e = eq_of at (length ws) h in omega arith
  ends (r ∷ rs) k at h = let e = ends rs (suc k) (at + r.width * capacity ws k) (on r rs k at ws h) in omega arith

  -- words read as parts are those words
  bodies_are : (rs : List Region) (k at : ℕ) → T (regions_right rs k at ws) → bodies (parts_from rs k ws) ≡ drop at ws
  unfolding regions_right bodies parts_from
  bodies_are [] k at h = sym (rw (eq_of at (length ws) h) (drop-length ws))
  bodies_are (r ∷ rs) k at h =
      let n = r.width * capacity ws k in
      rw ((here r rs k at ws h).starts, bodies_are rs (suc k) (at + n) (on r rs k at ws h), ← drop-drop n at ws) (take-append-drop n (drop at ws))

  triples_are : (rs : List Region) (k at : ℕ) → T (regions_right rs k at ws) → offset_at k + 3 * length rs ≤ length ws
      → triples at (parts_from rs k ws) ≡ take (3 * length rs) (drop (offset_at k) ws)
  unfolding triples parts_from
  triples_are [] k at h fits = refl
  triples_are (r ∷ rs) k at h fits =
      let a : ℕ = offset_at k in
      let n : 3 * suc (length rs) ≡ suc (suc (suc (3 * length rs))) = omega arith in
      let e₁ : capacity_at k ≡ suc a = omega arith in
      let e₂ : count_at k ≡ suc (suc a) = omega arith in
      let e₃ : offset_at (suc k) ≡ suc (suc (suc a)) = omega arith in
      let d : drop a ws ≡ word ws a ∷ word ws (suc a) ∷ word ws (suc (suc a)) ∷ drop (suc (suc (suc a))) ws =
      drop-cons ws a 0 (omega arith) ∙ ap (λ (l : List ℕ). word ws a ∷ l) (drop-cons ws (suc a) 0 (omega arith) ∙ ap (λ (l : List ℕ). word ws (suc a) ∷ l) (drop-cons ws (suc (suc a)) 0 (omega arith))) in
      let ih : triples (at + r.width * capacity ws k) (parts_from rs (suc k) ws) ≡ take (3 * length rs) (drop (suc (suc (suc a))) ws) =
      rw e₃ at (triples_are rs (suc k) (at + r.width * capacity ws k) (on r rs k at ws h) (omega arith)) in
      rw (n, d, ih, ← (here r rs k at ws h).starts, e₁, e₂)

  pub image_parts : (rs : List Region) → header_of rs ≤ length ws → T (regions_right rs 1 (header_of rs) ws)
      → image (take 9 ws) (parts_from rs 1 ws) ≡ ws
  unfolding image
  image_parts rs fits h =
      let n = 3 * length rs in
      rw (parts_length rs 1 ws, triples_are rs 1 (header_of rs) h fits, bodies_are rs 1 (header_of rs) h, ← drop-drop n 9 ws, take-append-drop n (drop 9 ws)) (take-append-drop 9 ws)

-- Parts that lie in words from region k on, the first at a word: what the other way round goes by.
pub data Lies (ws : List ℕ) : ℕ → ℕ → List Part → Type 0 where
  end : {k at : ℕ} → at ≡ length ws → Lies ws k at []
  next : {k at : ℕ} {p : Part} {ps : List Part} → offset ws k ≡ at → capacity ws k ≡ p.capacity → count ws k ≡ p.count
      → take (p.width * p.capacity) (drop at ws) ≡ p.words → Lies ws (suc k) (past at p) ps → Lies ws k at (p ∷ ps)

module _ {ws : List ℕ} where
  -- parts that lie in words are read off them, and pass the tests
  pub lie_back : {rs : List Region} {ps : List Part} {k at : ℕ} → InRegions rs ps → Lies ws k at ps → parts_from rs k ws ≡ ps
  unfolding parts_from
  lie_back done (end e) = refl
  lie_back (◌then◌ {r = r} {p = p} {rs = rs} {ps = ps} x xs) (next {k = k} {at = at} o c n w l) =
      let b : take (r.width * capacity ws k) (drop (offset ws k) ws) ≡ p.words = rw (← x.wide, c, o) w in
      let a = sym x.wide in
      let ih = lie_back xs l in
      λ i. record { width = a i; capacity = c i; count = n i; words = b i } ∷ ih i

  pub lie_right : {rs : List Region} {ps : List Part} {k at : ℕ} → InRegions rs ps → Lies ws k at ps → T (regions_right rs k at ws)
  unfolding regions_right region_right
  lie_right {k = k} {at = at} done (end e) = of_eq at (length ws) e
  lie_right (◌then◌ {r = r} {p = p} {rs = rs} {ps = ps} x xs) (next {k = k} {at = at} o c n w l) =
      let e : past at p ≡ at + r.width * capacity ws k = rw (← x.wide, c) in
      let ih : T (regions_right rs (suc k) (at + r.width * capacity ws k) ws) = rw e at (lie_right xs l) in
      both (region_right ws k r.most at) (regions_right rs (suc k) (at + r.width * capacity ws k) ws)
      (all_passed _ (of_eq (offset ws k) at o and of_le (capacity ws k) r.most (rw c x.small) and of_le (count ws k) (capacity ws k) (rw (c, n) x.held) and none)) ih

  -- parts written lie there
  lie : {rs : List Region} {ps : List Part} → InRegions rs ps → (k at : ℕ) (r : List ℕ) → drop (offset_at k) ws ≡ triples at ps ++ r → drop at ws ≡ bodies ps → at ≤ length ws → Lies ws k at ps
  unfolding triples bodies
  lie done k at r t b h = let e : at ≡ length ws = omega (arith, length-drop at ws, ap length b) in end e
  lie (◌then◌ {p = p} {ps = ps} x xs) k at r t b h =
      let a : ℕ = offset_at k in
      let e₀ : a + 0 ≡ a = omega arith in
      let e₁ : a + 1 ≡ capacity_at k = omega arith in
      let e₂ : a + 2 ≡ count_at k = omega arith in
      let e₃ : a + 3 ≡ offset_at (suc k) = omega arith in
      let n : ℕ = p.width * p.capacity in
      let o : offset ws k ≡ at = ap (λ (i : ℕ). word ws i) (sym e₀) ∙ sym (get_or-drop a ws 0 0) ∙ ap (λ (l : List ℕ). word l 0) t in
      let c : capacity ws k ≡ p.capacity = ap (λ (i : ℕ). word ws i) (sym e₁) ∙ sym (get_or-drop a ws 1 0) ∙ ap (λ (l : List ℕ). word l 1) t in
      let m : count ws k ≡ p.count = ap (λ (i : ℕ). word ws i) (sym e₂) ∙ sym (get_or-drop a ws 2 0) ∙ ap (λ (l : List ℕ). word l 2) t in
      let t' : drop (offset_at (suc k)) ws ≡ triples (past at p) ps ++ r = rw (← e₃, ← drop-drop 3 a ws, t) in
      let b' : drop (at + n) ws ≡ bodies ps = rw (← drop-drop n at ws, b) (drop_at p.words (bodies ps) n x.full) in
      let w : take n (drop at ws) ≡ p.words = rw b (take_at p.words (bodies ps) n x.full) in
      let h' : at + n ≤ length ws = omega (arith, length-drop at ws, ap length b, length-append p.words (bodies ps), x.full) in
      next o c m w (lie xs (suc k) (at + n) r t' b' h')

-- the words that parts take
unfoldable pub size : List Part → ℕ
size [] = 0
size (p ∷ ps) = p.width * p.capacity + size ps

pub lie_end : {ws : List ℕ} {ps : List Part} {k at : ℕ} → Lies ws k at ps → length ws ≡ at + size ps
unfolding size
lie_end {ws = ws} (end e) = omega arith
lie_end (next {ps = ps} o c n w l) = let h = lie_end l in omega arith

pub triples_length : (at : ℕ) (ps : List Part) → length (triples at ps) ≡ 3 * length ps
unfolding triples
triples_length at [] = refl
triples_length at (p ∷ ps) = let h = triples_length (past at p) ps in omega arith

module _ (front : List ℕ) (n : length front ≡ 9) {rs : List Region} {ps : List Part} (f : InRegions rs ps) where
  pub image_lies : Lies (image front ps) 1 (header_of rs) ps
  unfolding image
  image_lies =
      let at : ℕ = header_for (length ps) in
      let w = image front ps in
      let ts = triples at ps in
      let m : length (front ++ ts) ≡ at = length-append front ts ∙ rw (n, triples_length at ps) in
      let t : drop 9 w ≡ ts ++ bodies ps = drop_at front (ts ++ bodies ps) 9 n in
      let b : drop at w ≡ bodies ps = rw (← append_assoc front ts (bodies ps)) (drop_at (front ++ ts) (bodies ps) at m) in
      let h : at ≤ length w = rw (← append_assoc front ts (bodies ps), length-append (front ++ ts) (bodies ps)) (omega arith) in
      rw (← fit_length f) (lie f 1 at (bodies ps) t b h)

  pub image_back : parts_from rs 1 (image front ps) ≡ ps
  image_back = lie_back f image_lies

  pub image_right : T (regions_right rs 1 (header_of rs) (image front ps))
  image_right = lie_right f image_lies

-- one part of its region
pub fit_at : {rs : List Region} {ps : List Part} → InRegions rs ps → (j : ℕ) → j < length rs → InRegion (get_or rs j no_region) (get_or ps j no_part)
fit_at done j h = absurd (omega arith)
fit_at (x then xs) zero h = x
fit_at (x then xs) (suc j) h = fit_at xs j (omega arith)

-- region k + j by itself: the flat statement
pub record Flat (ws : List ℕ) (k width at : ℕ) : Type 0 where
  pub after : at ≤ offset ws k
  pub inside : offset ws k + width * capacity ws k ≤ length ws

pub flat_at : (ws : List ℕ) (rs : List Region) (k at : ℕ) → T (regions_right rs k at ws) → (j : ℕ) → j < length rs → Flat ws (k + j) (get_or rs j no_region).width at
flat_at ws [] k at h j lt = absurd (omega arith)
flat_at ws (r ∷ rs) k at h zero lt =
    let q = here r rs k at ws h in
    let e : k + 0 ≡ k = omega arith in
    let m = ends ws rs (suc k) (at + r.width * capacity ws k) (on r rs k at ws h) in
    let f : Flat ws k r.width at = record { after = omega arith; inside = rw q.starts m } in
    rw e f
flat_at ws (r ∷ rs) k at h (suc j) lt =
    let f = flat_at ws rs (suc k) (at + r.width * capacity ws k) (on r rs k at ws h) j (omega arith) in
    let e : suc k + j ≡ k + suc j = omega arith in
    let g : Flat ws (k + suc j) (get_or rs j no_region).width (at + r.width * capacity ws k) = rw e at f in
    record { after = omega arith; inside = g.inside }

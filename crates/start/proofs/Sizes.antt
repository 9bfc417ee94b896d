-- The loops over the regions and their capacities: one region, and those that are left. Assumes nothing.
use Prim.Native.Nat.{ℕ, suc, ◌+◌, ◌*◌, ◌≤◌, ◌<◌}
use native.Mathlib.Omega.{arith}
use native.Mathlib.Nat.{add-le-add, mul-le-mul_left}
use native.Mathlib.Numerals.{add-one}
use mathlib.Core.Path.{◌≡◌, refl}
use mathlib.Core.List.{List, [], ◌∷◌, map}
use mathlib.Core.Bool.{Bool, true, ◌&&◌}
use lib.ListN.{length, get_or, drop}
use lib.Seq.{sets, drop-cons}
use lib.Dec.{T, leb}
use Rattle.model.specs.Format.{Region, no_region, regions, newest, header_words, word_end, offset_at}
use Rattle.model.specs.Image.{size_of}
use Rattle.model.specs.Calls.{all_small}
use Rattle.laws.proofs.Tests.{first, second, le_of}
use Rattle.image.specs.Stores.{headed_from}
use Rattle.image.proofs.Listed.{widths, mosts, regions_many, width_at, most_at}

-- capacities within their maxima take no more words than the maxima
small_size : (rs : List Region) (cs : List ℕ) → T (all_small rs cs) → size_of rs cs ≤ size_of rs (map (λ r. r.most) rs)
unfolding all_small
small_size (r ∷ rs) (c ∷ cs) h =
    let here : r.width * c ≤ r.width * r.most = mul-le-mul_left r.width (le_of c r.most (first (leb c r.most) (all_small rs cs) h)) in
    add-le-add here (small_size rs cs (second (leb c r.most) (all_small rs cs) h))
small_size (r ∷ rs) [] h = omega arith
small_size [] [] h = omega arith
small_size [] (c ∷ cs) h = omega arith

-- so an image's words are counted in one word
pub counts : (cs : List ℕ) → T (all_small (regions newest) cs) → header_words + size_of (regions newest) cs < word_end
counts cs h =
    let m = small_size (regions newest) cs h in
    omega (arith, m)

-- the tests, the words and the header from region k + 1 on
abbrev pub small_from : ℕ → List ℕ → Bool
small_from k cs = all_small (drop k (regions newest)) (drop k cs)

abbrev pub size_from : ℕ → List ℕ → ℕ
size_from k cs = size_of (drop k (regions newest)) (drop k cs)

abbrev pub size_all : List ℕ → ℕ
size_all cs = header_words + size_from 0 cs

-- c records of region k + 1 counted: what is left, and no word too far
pub record SizeOn (cs : List ℕ) (k at c : ℕ) : Type 0 where
  pub next : at + get_or widths k 0 * c + size_from (k + 1) cs ≡ size_all cs
  pub within : at + get_or widths k 0 * c < word_end

abbrev pub head_from : (k at : ℕ) → List ℕ → List ℕ → List ℕ
head_from k at cs w = headed_from (1 + k) at (drop k (regions newest)) (drop k cs) w

module _ (cs : List ℕ) (n : length cs ≡ regions_many) (k : ℕ) (h : k < regions_many) where
  region_here : drop k (regions newest) ≡ get_or (regions newest) k no_region ∷ drop (k + 1) (regions newest)
  region_here = rw (add-one k) (drop-cons (regions newest) k no_region h)

  size_here : drop k cs ≡ get_or cs k 0 ∷ drop (k + 1) cs
  size_here = rw (add-one k) (drop-cons cs k 0 (omega arith))

  pub small_on : small_from k cs ≡ leb (get_or cs k 0) (get_or mosts k 0) && small_from (k + 1) cs
  unfolding all_small
  small_on = rw (most_at k, region_here, size_here)

  size_here_on : size_from k cs ≡ get_or widths k 0 * get_or cs k 0 + size_from (k + 1) cs
  size_here_on = rw (width_at k, region_here, size_here)

  pub size_on : (at c : ℕ) → c ≡ get_or cs k 0 → T (all_small (regions newest) cs) → at + size_from k cs ≡ size_all cs → SizeOn cs k at c
  size_on at c e t h = record { next = rw e (omega (arith, h, size_here_on)); within = rw e (omega (arith, h, size_here_on, counts cs t)) }

  pub head_on : (at : ℕ) (w : List ℕ) → head_from k at cs w ≡ head_from (k + 1) (at + get_or widths k 0 * get_or cs k 0) cs (sets w (offset_at (k + 1)) (at ∷ get_or cs k 0 ∷ 0 ∷ []))
  unfolding headed_from
  head_on at w =
      let e₁ : k + 1 ≡ 1 + k = omega arith in
      let e₂ : 1 + (k + 1) ≡ suc (1 + k) = omega arith in
      rw (width_at k, region_here, size_here, e₂, e₁)

pub small_end : (cs : List ℕ) → small_from regions_many cs ≡ true
unfolding all_small
small_end cs = refl

pub head_end : (at : ℕ) (cs w : List ℕ) → head_from regions_many at cs w ≡ w
unfolding headed_from
head_end at cs w = refl

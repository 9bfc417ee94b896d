-- The groups of tests are the model's tests, and what they say is laid out. Assumes nothing.
use Prim.Native.Nat.{ℕ, ◌+◌, ◌-◌, ◌*◌, ◌≤◌}
use native.Mathlib.Omega.{arith}
use native.Mathlib.Nat.{mul-le-mul_left}
use mathlib.Core.Path.{◌≡◌, ap, ◌∙◌}
use mathlib.Core.List.{List, [], ◌∷◌}
use mathlib.Core.Bool.{Bool, true, ◌&&◌, and-true}
use lib.ListN.{length, take, drop, length-drop}
use mir.Syntax.{w32}
use mir.Val.{Fits}
use lib.Dec.{ltb}
use Rattle.model.specs.Lists.{is_zero, all_of, all}
use Rattle.model.specs.Format.{regions, rows, newest, header_words, entries_region}
use Rattle.model.specs.Parts.{word, offset, capacity, count, regions_right, rest_zero, rests_zero}
use Rattle.model.specs.Image.{records_of, table}
use Rattle.model.specs.Formed.{words_fit, header_whole, format_known, state_known, pending_when_asked, names_few, functor_known, pair_right, records_right, well_formed}
use Rattle.laws.proofs.Tests.{true_of, of_true, nth, all_of_lem, of_lt, le_of}
use Rattle.laws.proofs.Regions.{parts}
use Rattle.laws.proofs.Round.{regions_laid}
use Rattle.image.specs.Laid.{Laid}
use Rattle.image.specs.Shown.{entries_of}
use Rattle.image.specs.Reading.{entries_count}
use Rattle.formed.specs.Grouped.{header_right, RegionInside, pair_of}
use Rattle.formed.proofs.Tested.{all_append}
use Rattle.formed.proofs.Walked.{pairs_are}

module _ (ws : List ℕ) where
  words_fit_lem : ((i : ℕ) → Fits w32 (word ws i)) → words_fit ws ≡ true
  unfolding words_fit
  words_fit_lem h = true_of _ (all_of_lem _ 0 ws (λ i lt. of_lt _ _ (h i).fits))

  -- the groups, one after the other, of a lent slice's words
  pub formed_is : ((i : ℕ) → Fits w32 (word ws i)) → well_formed ws ≡ (header_right ws && (regions_right (regions newest) 1 header_words ws && (rests_zero (rows newest) 1 ws && records_right (table ws))))
  unfolding well_formed header_right all_of
  formed_is h =
      rw (words_fit_lem h)
      (all_append (header_whole ws ∷ format_known ws ∷ state_known ws ∷ pending_when_asked ws ∷ names_few ws ∷ functor_known ws ∷ []) (regions_right (regions newest) 1 header_words ws ∷ rests_zero (rows newest) 1 ws ∷ records_right (table ws) ∷ [])
      ∙ ap (λ (t : Bool). header_right ws && (regions_right (regions newest) 1 header_words ws && (rests_zero (rows newest) 1 ws && t))) (and-true (records_right (table ws))))

  pub header_whole_lem : header_right ws ≡ true → header_words ≤ length ws
  unfolding header_right header_whole
  header_whole_lem e = le_of _ _ (nth _ 0 (of_true _ e))

  pub all_laid : header_words ≤ length ws → regions_right (regions newest) 1 header_words ws ≡ true → Laid ws
  all_laid n e = regions_laid ws n (of_true _ e)

-- region k's words, from a start to an end as code finds them
module _ (ws : List ℕ) (k width : ℕ) (r : RegionInside ws k width) (o n m : ℕ) (p : o ≡ offset ws k) (q : n ≡ count ws k) (s : m ≡ capacity ws k) where
  pub rest_inside : (o + width * n ≤ o + width * m) × (o + width * m ≤ length ws)
  rest_inside = let h : width * n ≤ width * m = rw (q, s) (mul-le-mul_left width r.held) in (omega arith, rw (p, s) r.inside)

  pub rest_is : all is_zero (take (o + width * m - (o + width * n)) (drop (o + width * n) ws)) ≡ rest_zero ws k width
  unfolding rest_zero
  rest_is =
      let h = parts width (count ws k) (capacity ws k) r.held in
      let size : offset ws k + width * capacity ws k - (offset ws k + width * count ws k) ≡ width * (capacity ws k - count ws k) = omega arith in
      rw (p, q, s, size)

-- the pairs of region k, by their words
pub pairs_part : (ws : List ℕ) (k : ℕ) → RegionInside ws k 2 → (o n : ℕ) → o ≡ offset ws k → n ≡ count ws k
    → all (λ x. ltb x (count ws entries_region)) (take (o + 2 * n - o) (drop o ws)) ≡ all (pair_right (entries_of ws)) (records_of pair_of 2 ws k)
unfolding records_of
pairs_part ws k r o n p q =
    let size : offset ws k + 2 * count ws k - offset ws k ≡ 2 * count ws k = omega arith in
    rw (p, q, size, ← entries_count ws) (pairs_are (entries_of ws) (count ws k) (drop (offset ws k) ws) (rw length-drop (omega arith)))

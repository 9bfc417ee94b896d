-- An image that is started: every word zeroed, and the header written over the zeroes. Assumes nothing.
use Prim.Native.Nat.{ℕ, suc, ◌+◌, ◌≤◌, ◌<◌}
use native.Mathlib.Omega.{arith}
use native.Mathlib.Nat.{sub-zero, add-zero}
use native.Mathlib.Numerals.{add-one}
use mathlib.Core.Path.{◌≡◌, refl, sym, ap, ◌∙◌}
use mathlib.Core.List.{List, [], ◌∷◌, ◌++◌, append-nil}
use mathlib.Core.Bool.{Bool, true, false, not, ◌&&◌, and_assoc, and-true}
use lib.ListN.{length, get_or, set, drop, replicate, length-append, length-drop, length-replicate, replicate-append-replicate}
use lib.Seq.{drop-cons, drop-length, set_at, append_snoc}
use lib.Dec.{T}
use borrow.Author.Tests.{not-true, not-false}
use Rattle.model.specs.Lists.{all_of, flat}
use Rattle.model.specs.Format.{regions, newest, header_words, idle}
use Rattle.model.specs.Table.{Capacities, state_of}
use Rattle.model.specs.Parts.{triples, bodies, image}
use Rattle.model.specs.Image.{region, packed, size_of, in_order, image_length, front_as, parts_of, words_as, words}
use Rattle.model.specs.Calls.{empty_table, all_small, capacities_right, start, response_of, provided}
use Rattle.model.specs.Told.{done, told_refusal}
use Rattle.model.specs.declared.Refusal.TheVariants.{BadCapacity}
use Rattle.laws.proofs.Tests.{of_true, nth, eq_of}
use Rattle.laws.proofs.Regions.{blanks_are}
use Rattle.image.specs.Stores.{headed_from, headed}

-- the first i words are zeroed
pub record Zeroed (w₀ : List ℕ) (i : ℕ) (w : List ℕ) : Type 0 where
  pub within : i ≤ length w₀
  pub is : w ≡ replicate i 0 ++ drop i w₀

zeroed_size : {w₀ w : List ℕ} {i : ℕ} → Zeroed w₀ i w → length w ≡ length w₀
zeroed_size {w₀} {w} {i} z = ap length z.is ∙ simp (length-append, length-replicate, length-drop) (omega (arith, z.within))

pub zeroed_start : (w : List ℕ) → Zeroed w 0 w
zeroed_start w = record { within = omega arith; is = refl }

module _ {w₀ w : List ℕ} {i : ℕ} (z : Zeroed w₀ i w) where
  pub zeroed_length : length w ≡ length w₀
  zeroed_length = zeroed_size z

  pub zeroed_more : i < length w → Zeroed w₀ (i + 1) (set w i 0)
  zeroed_more h =
      let n = zeroed_size z in
      let zs : List ℕ = replicate i 0 in
      record {
        within = omega arith;
        is =
            ap (λ (l : List ℕ). set l i 0) (z.is ∙ ap (λ (l : List ℕ). zs ++ l) (drop-cons w₀ i 0 (omega arith)))
            ∙ set_at zs (get_or w₀ i 0) (drop (suc i) w₀) 0 i (length-replicate i 0)
            ∙ sym (append_snoc zs 0 (drop (suc i) w₀))
            ∙ ap (λ (l : List ℕ). l ++ drop (suc i) w₀) (replicate-append-replicate i 1 0)
            ∙ ap (λ (k : ℕ). replicate (i + 1) 0 ++ drop k w₀) (sym (add-one i));
      }

  pub zeroed_end : length w ≤ i → w ≡ replicate (length w₀) 0
  zeroed_end h =
      let n = zeroed_size z in
      let e : i ≡ length w₀ = omega (arith, z.within) in
      z.is ∙ rw e (rw (drop-length w₀) (append-nil (replicate (length w₀) 0)))

-- an empty image's words: its header, and zeroes
abbrev free : Capacities → ℕ
free c = size_of (regions newest) (in_order c)

empty_words : (names functor : ℕ) (c : Capacities)
    → words (empty_table names functor c) ≡ (front_as idle (empty_table names functor c) ++ triples header_words (parts_of (empty_table names functor c))) ++ replicate (free c) 0
unfolding words_as image front_as triples bodies parts_of packed region flat empty_table state_of
empty_words names functor c = simp (sub-zero, add-zero, blanks_are, replicate-append-replicate, append-nil)

pub started : (names functor : ℕ) (c : Capacities) (n : ℕ) → n ≡ image_length c → headed (replicate n 0) names functor c ≡ words (empty_table names functor c)
unfolding headed headed_from front_as triples parts_of packed empty_table
started names functor c n e =
    ap (λ (l : List ℕ). headed l names functor c) (ap (λ (i : ℕ). replicate i 0) e ∙ sym (replicate-append-replicate {A = ℕ} header_words (free c) 0))
    ∙ sym (empty_words names functor c)

-- the tests of a start, and what they say
pub test_fails : (small : Bool) (bs : List Bool) → small ≡ false → false ≡ all_of (small ∷ bs)
unfolding all_of
test_fails small bs e = rw e

pub tests_are : (small size many least : Bool) → small ≡ true → (size && many && least) ≡ all_of (small ∷ size ∷ many ∷ least ∷ [])
unfolding all_of
tests_are small size many least e = rw e (simp (and_assoc, and-true))

module _ (names functor : ℕ) (c : Capacities) (w : List ℕ) where
  right_size : T (capacities_right names functor c w) → length w ≡ image_length c
  unfolding capacities_right
  right_size h = sym (eq_of _ _ (nth _ 1 h))

  module _ (r : Bool) (said : r ≡ capacities_right names functor c w) where
    right : not r ≡ false → T (capacities_right names functor c w)
    right e = of_true _ (sym said ∙ not-false r e)

    pub room_for_header : not r ≡ false → header_words ≤ length w
    room_for_header e = omega (arith, right_size (right e))

    pub sizes_small : not r ≡ false → T (all_small (regions newest) (in_order c))
    unfolding capacities_right
    sizes_small e = nth _ 0 (right e)

    pub start_refused : not r ≡ true → (told_refusal BadCapacity ≡ (start names functor c w).says) × (w ≡ (start names functor c w).words)
    unfolding start response_of provided
    start_refused e =
        let f : capacities_right names functor c w ≡ false = sym said ∙ not-true r e in
        (rw f, rw f)

    pub start_done : not r ≡ false → (u v : List ℕ) → u ≡ replicate (length w) 0 → v ≡ headed u names functor c
        → (done [] ≡ (start names functor c w).says) × (v ≡ (start names functor c w).words)
    unfolding start response_of provided
    start_done e u v p q =
        let t : capacities_right names functor c w ≡ true = sym said ∙ not-false r e in
        (rw t, rw t (q ∙ ap (λ (l : List ℕ). headed l names functor c) p ∙ started names functor c (length w) (right_size (right e))))

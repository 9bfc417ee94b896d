-- An inter's chosen side under sup or the negation of the other: what the code knows, and what it comes to at each way out. Assumes nothing.
use Rattle.std.specs.Prelude.{None, Option, Some, Err, Result}
use Prim.Native.Nat.{ℕ, ◌≤◌, ◌<◌}
use native.Mathlib.Omega.{arith}
use mathlib.Core.Path.{◌≡◌, refl, sym, ap, subst, ◌∙◌}
use mathlib.Core.List.{List, [], ◌∷◌}
use mathlib.Core.Logic.{⊎_elim}
use lib.ListN.{length, take}
use lib.Dec.{T}
use Rattle.model.specs.declared.Refusal.{Refusal}
use Rattle.instalments.specs.Machine.{Outcome, goes}
use Rattle.model.specs.Format.{entries_region}
use Rattle.model.specs.Table.{Entry, Pair, ◌⊑◌, Store, changed_to, with_graph, with_entries, with_visited}
use Rattle.model.specs.Image.{table}
use Rattle.model.specs.Formed.{well_formed}
use Rattle.model.specs.Making.{make_neg, undone}
use Rattle.model.specs.Rules.{target, follow_made, visit, outcome_of}
use Rattle.model.specs.declared.Failure.{Failure}
use Rattle.model.specs.declared.Refusal.TheVariants.{NoRoom}
use Rattle.laws.specs.Good.{Good, Shallow, SoundStore}
use Rattle.laws.proofs.Entries.{lt_or_ge}
use Rattle.laws.proofs.Formed.{sound_table}
use Rattle.laws.proofs.Negation.{Grown, target_grown, undo_target}
use Rattle.image.specs.Shown.{Shows, Shown, store_of, entries_of, fields_in, pending_in, entries_to}
use Rattle.image.proofs.Laying.{shown}
use Rattle.type_table.specs.Made.{entries_in, Negatable, UndoesTo}
use Rattle.type_table.proofs.Undoing.{seen_entries}
use Rattle.type_table.proofs.Negating.{never}
use Rattle.type_table.proofs.Answers.{negatable, words_back}
use Rattle.constrain.specs.declared.Next.TheVariants.{Isolate}
use Rattle.step.specs.Taken.{Taken, taken, outcome_for}
use Rattle.step.specs.Made.{TargetIn, settled}
use Rattle.step.specs.declared.Step.{Step}
use Rattle.step.proofs.Settling.{Gives, gives, made_none, made_settles, made_settled}

module _ (w : List ℕ) (sub sup c d : ℕ) (good : T (well_formed w)) (below-sup : sup < length (entries_of w)) (below : d < length (entries_of w)) where
  sound : SoundStore (store_of w)
  sound = (sound_table w good).store

  grown : Grown (entries_of w) (fields_in w) (store_of w).names d (target sup (make_neg (entries_of w) d))
  grown = target_grown (entries_of w) (fields_in w) (store_of w).names sup d sound.good.entries below-sup below

  outcome : outcome_for (store_of w) (sub ⊑ sup) (Isolate c d)
      ≡ goes (visit (sub ⊑ sup) (with_entries (target sup (make_neg (entries_of w) d)).after (store_of w))) ((c ⊑ (target sup (make_neg (entries_of w) d)).number) ∷ [])
  unfolding outcome_for outcome_of follow_made changed_to with_graph with_entries visit with_visited
  outcome = refl

  pub isolate_asks : Negatable w d × (Good (store_of w) × (Shallow (entries_of w) × (sup < length (entries_of w))))
  isolate_asks = (negatable w d good below, (sound.good, (sound.shallow, below-sup)))

  module _ (old : ℕ) (e : old ≡ length (entries_of w)) (a : Option ℕ) (v : List ℕ) (r : TargetIn (table w) sup d a v) where
    -- there was no room
    module _ (f : a ≡ None) where
      none : TargetIn (table w) sup d None v
      none = subst (λ (b : Option ℕ). TargetIn (table w) sup d b v) f r

      lacking : (store_of w).capacities.entries < length (target sup (make_neg (entries_of w) d)).after
      lacking =
          ⊎_elim
          (λ (l : (store_of w).capacities.entries < length (target sup (make_neg (entries_of w) d)).after). l)
          (λ (l : length (target sup (make_neg (entries_of w) d)).after ≤ (store_of w).capacities.entries). absurd (never _ (none.done l).0))
          (lt_or_ge (store_of w).capacities.entries (length (target sup (make_neg (entries_of w) d)).after))

      left : (us : List Entry) × (Shows v (entries_in (table w) us) × UndoesTo (entries_of w) us)
      left = (none.full lacking).1

      pub isolate_undo : Shown v × (old ≤ length (entries_of v))
      isolate_undo = (shown left.1.0, omega (arith, ap length (seen_entries (table w) v left.0 left.1.0), left.1.1.longer))

      pub isolate_full : (u : List ℕ) → Shows u (entries_to v (undone old (entries_of v)))
          → Gives (taken w (outcome_for (store_of w) (sub ⊑ sup) (Isolate c d))) (Err (NoRoom entries_region)) u
      isolate_full u su =
          let back : u ≡ w = words_back w v u left.0 old good left.1.0 left.1.1.undo e su in
          gives _ _ u
          (ap (λ (o : Outcome Store Pair Failure). taken w o) outcome
          ∙ made_none w good (target sup (make_neg (entries_of w) d)).after (sub ⊑ sup) (c ⊑ (target sup (make_neg (entries_of w) d)).number) lacking
          ∙ ap (λ (x : List ℕ). record { says = Err (NoRoom entries_region); words = x }) (sym back))

    -- all is made
    module _ (k : ℕ) (f : a ≡ Some k) where
      all : TargetIn (table w) sup d (Some k) v
      all = subst (λ (b : Option ℕ). TargetIn (table w) sup d b v) f r

      fits : length (target sup (make_neg (entries_of w) d)).after ≤ (store_of w).capacities.entries
      fits =
          ⊎_elim
          (λ (l : (store_of w).capacities.entries < length (target sup (make_neg (entries_of w) d)).after). absurd (never k (sym (all.full l).0)))
          (λ (l : length (target sup (make_neg (entries_of w) d)).after ≤ (store_of w).capacities.entries). l)
          (lt_or_ge (store_of w).capacities.entries (length (target sup (make_neg (entries_of w) d)).after))

      number_is : k ≡ (target sup (make_neg (entries_of w) d)).number
      number_is = let q : Some k ≡ Some (target sup (make_neg (entries_of w) d)).number = (all.done fits).0 in cc

      shows : Shows v (entries_to w (target sup (make_neg (entries_of w) d)).after)
      shows = (all.done fits).1

      pub isolate_settle : 0 < length (pending_in w) → Shown v × ((0 < length (pending_in v)) × ((old ≤ length (entries_of v)) × Shallow (take old (entries_of v))))
      isolate_settle some = made_settles w good (target sup (make_neg (entries_of w) d)).after (sub ⊑ sup) v old shows e grown.kept some

      same : settled v old (sub ⊑ sup) (c ⊑ k) ≡ taken w (outcome_for (store_of w) (sub ⊑ sup) (Isolate c d))
      same =
          ap (λ (i : ℕ). settled v old (sub ⊑ sup) (c ⊑ i)) number_is
          ∙ made_settled w good (target sup (make_neg (entries_of w) d)).after (sub ⊑ sup) v old shows e (c ⊑ (target sup (make_neg (entries_of w) d)).number)
          (undo_target (entries_of w) (fields_in w) (store_of w).names sup d sound.good.entries below-sup below)
          ∙ ap (λ (o : Outcome Store Pair Failure). taken w o) (sym outcome)

      pub isolate_told : (x : Result Step Refusal) (u : List ℕ) → Gives (settled v old (sub ⊑ sup) (c ⊑ k)) x u → Gives (taken w (outcome_for (store_of w) (sub ⊑ sup) (Isolate c d))) x u
      isolate_told x u h = subst (λ (t : Taken). Gives t x u) same h

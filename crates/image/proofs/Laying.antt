-- A well formed image is laid out and shows its table; words that show a table, with whatever state word, are laid out, and read back as it. Assumes nothing.
use Prim.Native.Nat.{ℕ}
use native.Mathlib.Omega.{arith}
use mathlib.Core.Path.{◌≡◌, sym, ap, ◌∙◌, subst}
use mathlib.Core.List.{List}
use lib.ListN.{length}
use lib.Dec.{T}
use Rattle.model.specs.Table.{Table}
use Rattle.model.specs.Image.{image_length, front_as, words_as, table}
use Rattle.model.specs.Formed.{well_formed}
use Rattle.laws.proofs.Parts.{image_right}
use Rattle.laws.proofs.Round.{regions_laid, front_length, parts_fit, length_as, words_table}
use Rattle.laws.proofs.Round as round
use Rattle.laws.proofs.Formed.{sound_within, sound_table}
use Rattle.image.specs.Laid.{Laid}
use Rattle.image.specs.Shown.{Within, Shows, Shown, ShowsAs, ShownAs}

pub formed_shown : (w : List ℕ) → T (well_formed w) → Shown w
formed_shown w h = record { within = sound_within (table w) (sound_table w h); is = sym (words_table w h) }

pub formed_laid : (w : List ℕ) → T (well_formed w) → Laid w
formed_laid = round.formed_laid

laid_as : (state : ℕ) (t : Table) → Within t → Laid (words_as state t)
unfolding words_as
laid_as state t k = let n = length_as t k state in regions_laid (words_as state t) (omega arith) (image_right (front_as state t) (front_length state t) (parts_fit t k))

module _ {state : ℕ} {w : List ℕ} {t : Table} (s : ShowsAs state w t) where
  pub shown_laid : Laid w
  shown_laid = subst Laid (sym s.is) (laid_as state t s.within)

  -- they read back as it: nothing of a table is read off the state word
  pub seen : table w ≡ t
  seen = ap table s.is ∙ round.table_as t s.within state

  pub shown_as : ShownAs state w
  shown_as = subst (λ (u : Table). ShowsAs state w u) (sym seen) s

  pub shown_size : length w ≡ image_length t.store.capacities
  shown_size = ap length s.is ∙ length_as t s.within state

pub shown : {w : List ℕ} {t : Table} → Shows w t → Shown w
shown {w} {t} s = subst (λ (u : Table). Shows w u) (sym (seen s)) s

-- What each answer of a name call tells: document 01's number for it, and the values that go with it. proofs/OneToOne.antt
-- shows that no two answers tell the same. Assumes nothing.
use Rattle.std.specs.Prelude.{ℕ, [], ◌∷◌, Option, None, Some, Result, Ok, Err}
use Rattle.std.specs.declared.cmp.Ordering.{Ordering}
use Rattle.std.specs.declared.cmp.Ordering.TheVariants.{Less, Equal, Greater}
use Rattle.model.specs.Told.{Told, done, told_refusal}
use Rattle.model.specs.declared.Refusal.{Refusal}
use Rattle.names.specs.Names.{before, same, after}
use Rattle.names.specs.declared.Placed.{Placed}

-- the count of the names
abbrev pub told_counted : Result ℕ Refusal → Told
told_counted (Ok n) = done (n ∷ [])
told_counted (Err r) = told_refusal r

-- 01's −1, 0, 1, each told one higher
abbrev pub told_order : Ordering → ℕ
told_order Less = before
told_order Equal = same
told_order Greater = after

abbrev pub told_compared : Result Ordering Refusal → Told
told_compared (Ok o) = done (told_order o ∷ [])
told_compared (Err r) = told_refusal r

-- the name's number; nothing where no name has the bytes
abbrev pub told_found : Result (Option ℕ) Refusal → Told
told_found (Ok (Some n)) = done (n ∷ [])
told_found (Ok None) = done []
told_found (Err r) = told_refusal r

-- the place: the first byte's, and the count of bytes
abbrev pub told_placed : Result Placed Refusal → Told
told_placed (Ok p) = done (p.start ∷ p.bytes ∷ [])
told_placed (Err r) = told_refusal r

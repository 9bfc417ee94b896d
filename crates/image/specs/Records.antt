-- Records by their number (past the end, one with every word 0), an entry as it is put, and an attrset from its words. Assumes nothing.
use Rattle.std.specs.Prelude.{ℕ, ◌/◌, ◌%◌, List, Bool, cond, get_or, eqb, None, Option, Some}
use Rattle.model.specs.Format.{mark_flag, open_flag, dynamic_flag}
use Rattle.model.specs.declared.Attrset.{Attrset}
use Rattle.model.specs.Table.{Entry, Field, Bound, Pair, ◌⊑◌}

-- an entry as it is put, with no negation cached
abbrev pub entry_made : ℕ → ℕ → ℕ → ℕ → ℕ → ℕ → Entry
entry_made kind x y z flags spread = record { kind = kind; x = x; y = y; z = z; flags = flags; spread = spread; negation = 0 }

abbrev pub field_at : List Field → ℕ → Field
field_at fs i = get_or fs i (record { name = 0; entry = 0; optional = 0 })

abbrev pub bound_at : List Bound → ℕ → Bound
bound_at bs i = get_or bs i (record { variable = 0; side = 0; bound = 0 })

abbrev pub visited_at : List Pair → ℕ → Pair
visited_at ps i = get_or ps i (0 ⊑ 0)

abbrev pub pending_at : List Pair → ℕ → Pair
pending_at ps i = get_or ps i (0 ⊑ 0)

abbrev pub equal_at : List Pair → ℕ → Pair
equal_at ps i = get_or ps i (0 ⊑ 0)

abbrev pub says_mark : ℕ → Bool
says_mark flags = eqb (flags / mark_flag % 2) 1

abbrev pub says_open : ℕ → Bool
says_open flags = eqb (flags / open_flag % 2) 1

abbrev pub says_dynamic : ℕ → Bool
says_dynamic flags = eqb (flags / dynamic_flag % 2) 1

abbrev pub dynamic_read : ℕ → ℕ → Option ℕ
dynamic_read flags z = cond (says_dynamic flags) (Some z) None

abbrev pub attrset_read : ℕ → ℕ → ℕ → ℕ → Attrset
attrset_read x y z flags = record { first = x; count = y; is_open = says_open flags; dynamic = dynamic_read flags z }

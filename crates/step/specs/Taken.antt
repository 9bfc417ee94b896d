-- What a step answers and leaves, by the outcome of its pair's rule and the room for it. Assumes nothing.
use Rattle.std.specs.Prelude.{ℕ, ◌+◌, ◌-◌, ◌≡◌, List, [], ◌++◌, reverse, Bool, length, take, Err, Ok, Result}
use Rattle.instalments.specs.Machine.{Outcome, fails, goes, Room, enough, lacks}
use Rattle.model.specs.Format.{asked}
use Rattle.model.specs.Table.{Pair, Store, Table, table_of, graph_of, with_bounds}
use Rattle.model.specs.Image.{words}
use Rattle.model.specs.Making.{bounds_in, repeats, add_bound}
use Rattle.model.specs.Rules.{visit, outcome_of}
use Rattle.model.specs.Room.{fitting, room_for}
use Rattle.model.specs.declared.Failure.{Failure}
use Rattle.model.specs.declared.Refusal.{Refusal}
use Rattle.image.specs.Shown.{ShowsAs, store_of, bounds_all, pending_in}
use Rattle.image.specs.Records.{pending_at}
use Rattle.constrain.specs.Next.{effect_of}
use Rattle.constrain.specs.declared.Next.{Next}
use Rattle.step.specs.declared.Step.{Step}
use Rattle.step.specs.declared.Step.TheVariants.{Went, Failed}

-- "A step takes one pair off the end of pending": that pair, and what stands before it
abbrev pub last_pair : List ℕ → Pair
last_pair w = pending_at (pending_in w) (length (pending_in w) - 1)

abbrev pub before_last : List ℕ → List Pair
before_last w = take (length (pending_in w) - 1) (pending_in w)

-- in the midst of a step: a table's words, but the question is still asked, whatever is pending
abbrev pub Midway : List ℕ → Table → Type 0
Midway w t = ShowsAs asked w t

abbrev pub room_in : Result (Unit {0}) Refusal → Room Refusal
room_in (Ok tt) = enough
room_in (Err r) = lacks r

-- the room for a store that a step would leave, with its pair visited, and for so many consequences
abbrev pub RoomFor : List ℕ → Store → ℕ → Result (Unit {0}) Refusal → Type 0
RoomFor w s more r = (p : Pair) → room_in r ≡ fitting (visit p s) (length (before_last w) + more)

-- the same where it adds a bound, unless that repeats one
abbrev pub RoomForBound : List ℕ → Bool → ℕ → Result (Unit {0}) Refusal → Type 0
RoomForBound w repeated more r = (v side b : ℕ) → repeated ≡ repeats (bounds_in (bounds_all w) v side) b → RoomFor w (with_bounds (add_bound v side b (bounds_all w)) (store_of w)) more r

-- what it answers, and the words after
pub record Taken : Type 0 where
  pub says : Result Step Refusal
  pub words : List ℕ

-- refused, with these words as found; or the failure, with pending emptied; or its consequences on pending, last first
unfoldable pub taken_by : Room Refusal → List ℕ → List Pair → Outcome Store Pair Failure → Taken
taken_by (lacks r) w before o = record { says = Err r; words = w }
taken_by enough w before (fails f u) = record { says = Ok (Failed f); words = words (table_of u []) }
taken_by enough w before (goes u qs) = record { says = Ok Went; words = words (table_of u (before ++ reverse qs)) }

abbrev pub taken : List ℕ → Outcome Store Pair Failure → Taken
taken w o = taken_by (room_for (length (before_last w)) o) w (before_last w) o

-- the outcome of what the pair comes to
unfoldable pub outcome_for : Store → Pair → Next → Outcome Store Pair Failure
outcome_for s p next = outcome_of (visit p s) p (effect_of (graph_of s) p next)

-- A call by its tests, one after the other: what it says and leaves where a test refuses, and what is left to do where it does not.
-- Assumes nothing.
use Rattle.std.specs.Prelude.{Err, Ok, Result}
use Prim.Native.Nat.{ℕ, ◌≤◌, ◌<◌}
use mathlib.Core.Path.{◌≡◌, refl, sym, ap, ◌∙◌}
use mathlib.Core.List.{List, []}
use mathlib.Core.Bool.{Bool, true, false, not, ◌&&◌, and-false}
use lib.ListN.{length}
use lib.Dec.{T, leb}
use borrow.Author.Tests.{lt-ltb, le-ltb, le-leb, lt-leb, eq-eqb, ne_eqb}
use Rattle.model.specs.Format.{variable, upper}
use Rattle.model.specs.Table.{Entry, Table, is_asked, entry_at, is, is_at}
use Rattle.model.specs.Image.{words, table}
use Rattle.model.specs.Formed.{well_formed, is_entry}
use Rattle.model.specs.Calls.{Response, Turn, refuse, tell, leave, response_of, admission, provided, when_idle, Call, denies, turn_of, perform}
use Rattle.model.specs.Told.{Told, done, told_refusal}
use Rattle.model.specs.declared.Refusal.{Refusal}
use Rattle.model.specs.declared.Refusal.TheVariants.{Busy}
use Rattle.laws.proofs.Replies.{refused_by, passed_by, good_formed, perform_formed, perform_unfit}

-- a reply by its two parts
pub record Replies (a : Told) (v : List ℕ) (r : Response) : Type 0 where
  pub says : a ≡ r.says
  pub leaves : v ≡ r.words

pub refused_as : (w : List ℕ) (r : Refusal) → Replies (told_refusal r) w (response_of w (refuse r))
unfolding response_of
refused_as w r = record { says = refl; leaves = refl }

-- the refusal of an unfit image
pub denied_as : (w : List ℕ) (a : Told) → Replies a w (response_of w (tell a))
unfolding response_of
denied_as w a = record { says = refl; leaves = refl }

-- a reply that is the same
pub as_same : {a : Told} {v : List ℕ} {r s : Response} → r ≡ s → Replies a v r → Replies a v s
as_same e k = record { says = k.says ∙ ap (λ (x : Response). x.says) e; leaves = k.leaves ∙ ap (λ (x : Response). x.words) e }

-- the two sides of an image's admission: x is what `formed::admit` answers
module _ (w : List ℕ) {x : (Result (Unit {0}) Refusal)} (e : x ≡ admission w) where
  pub unfit : (c : Call) {r : Refusal} → x ≡ Err r → response_of w (tell (denies c r)) ≡ perform c w
  unfit c {r} u = sym (perform_unfit c w r (sym e ∙ u))

  pub good_image : x ≡ (Ok tt) → T (well_formed w)
  good_image g = good_formed w (sym e ∙ g)

  pub good : (c : Call) → x ≡ (Ok tt) → response_of w (turn_of c w (table w)) ≡ perform c w
  good c g = sym (perform_formed c w (good_image g))

-- a test of a call, and what is done where it passes: refused, or gone on with
module _ (w : List ℕ) (r : Refusal) (turn : Turn) (ok : Bool) where
  pub stopped : ok ≡ false → Replies (told_refusal r) w (response_of w (provided ok r turn))
  stopped e = as_same (ap (response_of w) (sym (refused_by ok r turn e))) (refused_as w r)

  pub gone_on : ok ≡ true → {a : Told} {v : List ℕ} → Replies a v (response_of w turn) → Replies a v (response_of w (provided ok r turn))
  gone_on e k = as_same (ap (response_of w) (sym (passed_by ok r turn e))) k

  -- a read: only what it says
  pub read_on : ok ≡ true → {a : Told} → a ≡ (response_of w turn).says → a ≡ (response_of w (provided ok r turn)).says
  read_on e k = k ∙ ap (λ (x : Turn). (response_of w x).says) (sym (passed_by ok r turn e))

-- 3, of the calls that are no reads, work or abandon
module _ (w : List ℕ) (turn : Turn) where
  pub busy : is_asked (table w) ≡ true → Replies (told_refusal Busy) w (response_of w (when_idle (table w) turn))
  busy e = stopped w Busy turn (not (is_asked (table w))) (ap not e)

  pub idle : is_asked (table w) ≡ false → {a : Told} {v : List ℕ} → Replies a v (response_of w turn) → Replies a v (response_of w (when_idle (table w) turn))
  idle e k = gone_on w Busy turn (not (is_asked (table w))) (ap not e) k

-- entry numbers
module _ (es : List Entry) where
  pub no_entry : (n : ℕ) → length es ≤ n → is_entry es n ≡ false
  unfolding is_entry
  no_entry n h = le-ltb n (length es) h

  pub an_entry : (n : ℕ) → n < length es → is_entry es n ≡ true
  unfolding is_entry
  an_entry n h = lt-ltb n (length es) h

  pub two_entries : (a b : ℕ) → a < length es → b < length es → (is_entry es a && is_entry es b) ≡ true
  two_entries a b h k = rw (an_entry a h, an_entry b k)

  pub first_no_entry : (a b : ℕ) → length es ≤ a → (is_entry es a && is_entry es b) ≡ false
  first_no_entry a b h = rw (no_entry a h)

  pub second_no_entry : (a b : ℕ) → length es ≤ b → (is_entry es a && is_entry es b) ≡ false
  second_no_entry a b h = rw (no_entry b h) (and-false (is_entry es a))

-- what is done leaves the words of a table
pub left_as : (w v : List ℕ) (t : Table) → v ≡ words t → Replies (done []) v (response_of w (leave (done []) 0 t))
unfolding response_of
left_as w v t e = record { says = refl; leaves = e }

-- a bound's three numbers
module _ (es : List Entry) (v side b : ℕ) where
  abbrev pub bound_numbered : Bool
  bound_numbered = is_entry es v && leb side upper && is_entry es b

  pub bound_numbered_lem : v < length es → side ≤ upper → b < length es → bound_numbered ≡ true
  bound_numbered_lem h k l = rw (an_entry es v h, le-leb side upper k, an_entry es b l)

  pub no_bounded : length es ≤ v → bound_numbered ≡ false
  no_bounded h = rw (no_entry es v h)

  pub no_side : upper < side → bound_numbered ≡ false
  no_side h = rw (lt-leb side upper h, and-false (is_entry es v))

  pub no_bound : length es ≤ b → bound_numbered ≡ false
  no_bound h = rw (no_entry es b h) (and-false (is_entry es v && leb side upper))

  -- an entry's kind says whether it is a variable
  pub kind_variable : (entry_at es v).kind ≡ variable → is_at es variable v ≡ true
  unfolding is_at is
  kind_variable e = eq-eqb (entry_at es v).kind variable e

  pub kind_other : ((entry_at es v).kind ≡ variable → ⊥) → is_at es variable v ≡ false
  unfolding is_at is
  kind_other e = ne_eqb (entry_at es v).kind variable e

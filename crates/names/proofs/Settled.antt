-- Each public function's contract settles its result for all inputs: any two results that it allows are equal. `Post` is the
-- contract itself, what the function ensures of its arguments and its result. Assumes nothing.
use Prim.Native.Nat.{ℕ}
use mathlib.Core.Path.{◌≡◌, sym, ◌∙◌}
use mathlib.Core.List.{List}
use denote.Ref.{Bor}
use Rattle.model.proofs.OneToOne.{reply_one_to_one}
use Rattle.names.proofs.OneToOne.{counted_one_to_one, order_one_to_one, compared_one_to_one, found_one_to_one, placed_one_to_one}
use Rattle.names.proofs.check.Reads as check
use Rattle.names.proofs.check_name.Reads as check-name
use Rattle.names.proofs.count.Reads as count
use Rattle.names.proofs.compare_parts.Reads as compare-parts
use Rattle.names.proofs.compare.Reads as compare
use Rattle.names.proofs.find.Reads as find
use Rattle.names.proofs.place.Reads as place
use Rattle.names.proofs.show.Reads as show

-- any two results of one call that a contract allows are equal
abbrev pub Settles : {K : Type 0} {A R E : K → Type 0} → ((κs : K) → A κs → R κs → E κs → Type 0) → Type 0
Settles {K} {A} {R} {E} post = (κs : K) (a : A κs) (x y : R κs) (e f : E κs) → post κs a x e → post κs a y f → x ≡ y

pub check_settled : Settles check.Post
check_settled κs a x y e f p q = reply_one_to_one x y (p ∙ sym q)

pub check_name_settled : Settles check-name.Post
check_name_settled κs a x y e f p q = reply_one_to_one x y (p ∙ sym q)

pub count_settled : Settles count.Post
count_settled κs a x y e f p q = counted_one_to_one x y (p ∙ sym q)

pub compare_parts_settled : Settles compare-parts.Post
compare_parts_settled κs a x y e f p q = order_one_to_one x y (p ∙ sym q)

pub compare_settled : Settles compare.Post
compare_settled κs a x y e f p q = compared_one_to_one x y (p ∙ sym q)

pub find_settled : Settles find.Post
find_settled κs a x y e f p q = found_one_to_one x y (p ∙ sym q)

pub place_settled : Settles place.Post
place_settled κs a x y e f p q = placed_one_to_one x y (p ∙ sym q)

-- a part that is returned is settled in all that a program sees of it: where it stands, and what it holds. (A reference's
-- denotation also has a ghost name, which is no value and which each borrow makes anew.)
abbrev pub seen : Bor (List ℕ) → (ℕ × ℕ) × List ℕ
seen x = (x.ref_ptr, x.now)

abbrev pub SettlesSeen : {K : Type 0} {A E : K → Type 0} → ((κs : K) → A κs → Bor (List ℕ) → E κs → Type 0) → Type 0
SettlesSeen {K} {A} {E} post =
    (κs : K) (a : A κs) (x y : Bor (List ℕ)) (e f : E κs) → post κs a x e → post κs a y f → seen x ≡ seen y

pub show_settled : SettlesSeen show.Post
show_settled κs a x y e f p q =
    let place : x.ref_ptr ≡ y.ref_ptr = p.1 ∙ sym q.1 in
    let bytes : x.now ≡ y.now = p.0 ∙ sym q.0 in
    rw (place, bytes)

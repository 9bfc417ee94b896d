-- Field records one after the other, and the field that a name finds. Assumes nothing.
use Rattle.std.specs.Prelude.{None, Some, is_some, Option}
use Prim.Native.Nat.{ℕ, zero, suc, ◌+◌, ◌-◌, ◌≤◌, ◌<◌}
use native.Mathlib.Omega.{arith}
use native.Mathlib.Numerals.{add-one}
use mathlib.Core.Path.{◌≡◌, refl, sym, ap, ◌∙◌}
use mathlib.Core.List.{List, [], ◌∷◌}
use mathlib.Core.Bool.{Bool, true, false, cond}
use lib.ListN.{length, take, drop}
use lib.Seq.{drop-cons}
use lib.Dec.{eqb}
use borrow.Author.Tests.{eq-eqb, ne_eqb, eqb-true}
use Rattle.model.specs.Lists.{any}
use Rattle.model.specs.Format.{fields_most, attrset}
use Rattle.model.specs.Table.{Entry, Field, Graph, is}
use Rattle.model.specs.Shapes.{fields_of, field_named, functor_in, functor_of, has_functor}
use Rattle.image.specs.Laid.{Laid}
use Rattle.image.specs.Shown.{fields_in}
use Rattle.image.specs.Records.{field_at}
use Rattle.image.specs.Reading.{fields_count}
use Rattle.disjoint.specs.Fields.{found_from, number_named, functor_number, functor_record, field_found, FoundInside}

-- there are few of them
pub fields_few : (w : List ℕ) → Laid w → length (fields_in w) ≤ fields_most
fields_few w l = omega (arith, fields_count w, l.fields.held, l.fields.small)

-- the records from i up to e
abbrev pub rest : List Field → ℕ → ℕ → List Field
rest fs i e = take (e - i) (drop i fs)

pub next : (fs : List Field) (i e : ℕ) → i < e → e ≤ length fs → rest fs i e ≡ field_at fs i ∷ rest fs (i + 1) e
next fs i e h l =
    let d : e - i ≡ suc (e - (i + 1)) = omega arith in
    rw (d, add-one i, drop-cons fs i (record { name = 0; entry = 0; optional = 0 }) (omega arith))

pub none_left : (fs : List Field) (i e : ℕ) → e ≤ i → rest fs i e ≡ []
none_left fs i e h = let d : e - i ≡ 0 = omega arith in rw d

pub whole : (fs : List Field) (i n : ℕ) → take n (drop i fs) ≡ rest fs i (i + n)
whole fs i n = let h : (i + n) - i ≡ n = omega arith in rw h

-- the search by name
module _ (fs : List Field) (i e name : ℕ) where
  pub hit : i < e → e ≤ length fs → (field_at fs i).name ≡ name → found_from i (rest fs i e) name ≡ Some i
  unfolding found_from
  hit h l q = rw (next fs i e h l, eq-eqb _ _ q)

  pub skip : i < e → e ≤ length fs → ((field_at fs i).name ≡ name → ⊥) → found_from i (rest fs i e) name ≡ found_from (i + 1) (rest fs (i + 1) e) name
  unfolding found_from
  skip h l n = rw (next fs i e h l, ne_eqb _ _ n, add-one i)

  pub gone : e ≤ i → found_from i (rest fs i e) name ≡ None
  unfolding found_from
  gone h = rw (none_left fs i e h)

pub from_first : (fs : List Field) (i n name : ℕ) → number_named fs i n name ≡ found_from i (rest fs i (i + n)) name
unfolding number_named
from_first fs i n name = ap (λ (l : List Field). found_from i l name) (whole fs i n)

-- the number found is that of the model's field
module _ (fs : List Field) where
  pick : (b : Bool) (i : ℕ) (r : Option ℕ) (o : Option Field) → field_found fs r ≡ o → field_found fs (cond b (Some i) r) ≡ cond b (Some (field_at fs i)) o
  pick true i r o h = refl
  pick false i r o h = h

  found_is : (n i name : ℕ) → i + n ≤ length fs → field_found fs (found_from i (take n (drop i fs)) name) ≡ field_named (take n (drop i fs)) name
  unfolding found_from field_named
  found_is zero i name h = refl
  found_is (suc n) i name h =
      rw (drop-cons fs i (record { name = 0; entry = 0; optional = 0 }) (omega arith))
      (pick (eqb (field_at fs i).name name) i _ _ (found_is n (suc i) name (omega arith)))

  pick_inside : (b : Bool) (i : ℕ) (r : Option ℕ) → i < length fs → FoundInside fs r → FoundInside fs (cond b (Some i) r)
  pick_inside true i r h k = h
  pick_inside false i r h k = k

  found_inside : (n i name : ℕ) → i + n ≤ length fs → FoundInside fs (found_from i (take n (drop i fs)) name)
  unfolding found_from
  found_inside zero i name h = tt
  found_inside (suc n) i name h =
      rw (drop-cons fs i (record { name = 0; entry = 0; optional = 0 }) (omega arith))
      (pick_inside (eqb (field_at fs i).name name) i _ (omega arith) (found_inside n (suc i) name (omega arith)))

  pub named_is : (first count name : ℕ) → first + count ≤ length fs → field_found fs (number_named fs first count name) ≡ field_named (take count (drop first fs)) name
  unfolding number_named
  named_is first count name h = found_is count first name h

  pub named_inside : (first count name : ℕ) → first + count ≤ length fs → FoundInside fs (number_named fs first count name)
  unfolding number_named
  named_inside first count name h = found_inside count first name h

  found_some : (r : Option ℕ) → is_some (field_found fs r) ≡ is_some r
  found_some (Some i) = refl
  found_some None = refl

  pub named_some : (first count name : ℕ) → first + count ≤ length fs → is_some (field_named (take count (drop first fs)) name) ≡ is_some (number_named fs first count name)
  named_some first count name h = ap is_some (sym (named_is first count name h)) ∙ found_some (number_named fs first count name)

  pub functor_number_lem : (first count word : ℕ) → first + count ≤ length fs → field_found fs (functor_number fs first count word) ≡ functor_in (take count (drop first fs)) word
  unfolding functor_number functor_in
  functor_number_lem first count zero h = refl
  functor_number_lem first count (suc name) h = named_is first count name h

  pub functor_some : (first count word : ℕ) → first + count ≤ length fs → is_some (functor_in (take count (drop first fs)) word) ≡ is_some (functor_number fs first count word)
  functor_some first count word h = ap is_some (sym (functor_number_lem first count word h)) ∙ found_some (functor_number fs first count word)

  pub functor_number_inside : (first count word : ℕ) → first + count ≤ length fs → FoundInside fs (functor_number fs first count word)
  unfolding functor_number
  functor_number_inside first count zero h = tt
  functor_number_inside first count (suc name) h = named_inside first count name h

-- the functor word tells the name
numbered : (fs : List Field) (first count word : ℕ) → (word ≡ 0 → ⊥) → number_named fs first count (word - 1) ≡ functor_number fs first count word
unfolding functor_number
numbered fs first count zero n = absurd (n refl)
numbered fs first count (suc name) n = let q : suc name - 1 ≡ name = omega arith in rw q

module _ (fs : List Field) (first count r word : ℕ) (read : r ≡ word) where
  pub unset : r ≡ 0 → None ≡ functor_number fs first count word
  unfolding functor_number
  unset q = rw (sym read ∙ q)

  pub set : (r ≡ 0 → ⊥) → number_named fs first count (r - 1) ≡ functor_number fs first count word
  set n = numbered fs first count r n ∙ ap (functor_number fs first count) read

-- the functor of an entry whose fields, if it is an attrset, are there
module _ (g : Graph) (e : Entry) (h : e.kind ≡ attrset → e.x + e.y ≤ length g.fields) where
  by_functor : (b : Bool) → (b ≡ true → e.x + e.y ≤ length g.fields)
      → field_found g.fields (cond b (functor_number g.fields e.x e.y g.functor) None) ≡ cond b (functor_in (fields_of g.fields e) g.functor) None
  unfolding fields_of
  by_functor true k = functor_number_lem g.fields e.x e.y g.functor (k refl)
  by_functor false k = refl

  by_inside : (b : Bool) → (b ≡ true → e.x + e.y ≤ length g.fields) → FoundInside g.fields (cond b (functor_number g.fields e.x e.y g.functor) None)
  by_inside true k = functor_number_inside g.fields e.x e.y g.functor (k refl)
  by_inside false k = tt

  inside_if : is attrset e ≡ true → e.x + e.y ≤ length g.fields
  unfolding is
  inside_if q = h (eqb-true e.kind attrset q)

  pub functor_is : field_found g.fields (functor_record g e) ≡ functor_of g e
  unfolding functor_record functor_of
  functor_is = by_functor (is attrset e) inside_if

  pub functor_inside : FoundInside g.fields (functor_record g e)
  unfolding functor_record
  functor_inside = by_inside (is attrset e) inside_if

  pub functor_has : is_some (functor_record g e) ≡ has_functor g e
  unfolding has_functor
  functor_has = sym (found_some g.fields (functor_record g e)) ∙ ap is_some functor_is

-- some field passes a test
module _ (f : Field → Bool) (fs : List Field) (j e : ℕ) where
  pub stop : j < e → e ≤ length fs → f (field_at fs j) ≡ true → any f (rest fs j e) ≡ true
  unfolding any
  stop h l q = rw (next fs j e h l, q)

  pub go_on : j < e → e ≤ length fs → f (field_at fs j) ≡ false → any f (rest fs j e) ≡ any f (rest fs (j + 1) e)
  unfolding any
  go_on h l q = rw (next fs j e h l, q)

  pub nothing : e ≤ j → any f (rest fs j e) ≡ false
  unfolding any
  nothing h = rw (none_left fs j e h)

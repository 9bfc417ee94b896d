-- The three searches: n + 1 rounds suffice for entry n, and what each is for an entry as it is read out. Assumes nothing.
use Prim.Native.Nat.{ℕ, suc, ◌<◌}
use native.Mathlib.Omega.{arith}
use mathlib.Core.Path.{◌≡◌, refl, sym, ap, ap₂, ◌∙◌}
use mathlib.Core.List.{List, [], ◌∷◌}
use mathlib.Core.Bool.{Bool, true, false, ◌||◌}
use lib.ListN.{length}
use lib.Dec.{eqb}
use types.Run.{OneOf, miss}
use denote.Enum.Declared.{tag_of}
use borrow.Author.Tests.{eq-eqb, ne_eqb}
use Rattle.model.specs.Table.{Entry, Store, Graph, graph_of, entry_at, is}
use Rattle.model.specs.Shapes.{disjoint, holds_by, holds_within, holds_variable, member_by, member_within, union_member, disjoint_by, disjoint_within, disjoint_from_sup}
use Rattle.model.specs.Calls.{read_out}
use Rattle.model.specs.declared.Entry.{Entry as EntryOut}
use Rattle.model.specs.declared.Entry.TheVariants as E
use Rattle.model.specs.contracts.Entry.{the_type}
use Rattle.laws.specs.Good.{Good}
use Rattle.disjoint.proofs.Views.{Reads, a_variable, a_primitive, a_list, a_lambda, an_attrset, a_named, a_neg, an_inter, a_union, Under, reads, under}
use Rattle.disjoint.proofs.Rounds.{enough}

-- one round for an entry as it is read out
abbrev pub holds_in : (ℕ → Bool) → EntryOut → Bool
holds_in again (E.Variable l) = true
holds_in again (E.Primitive p) = false
holds_in again (E.List x) = false
holds_in again (E.Lambda p b) = false
holds_in again (E.AttrSet a) = false
holds_in again (E.Named x l) = again x
holds_in again (E.Neg x) = false
holds_in again (E.Inter x y) = again x || again y
holds_in again (E.Union x y) = false

abbrev pub member_in : (ℕ → Bool) → EntryOut → Bool
member_in again (E.Variable l) = false
member_in again (E.Primitive p) = false
member_in again (E.List x) = false
member_in again (E.Lambda p b) = false
member_in again (E.AttrSet a) = false
member_in again (E.Named x l) = again x
member_in again (E.Neg x) = false
member_in again (E.Inter x y) = false
member_in again (E.Union x y) = again x || again y

-- `other` is the answer for an entry that is no inter
abbrev pub through_inter : (ℕ → Bool) → Bool → EntryOut → Bool
through_inter again other (E.Variable l) = other
through_inter again other (E.Primitive p) = other
through_inter again other (E.List x) = other
through_inter again other (E.Lambda p b) = other
through_inter again other (E.AttrSet a) = other
through_inter again other (E.Named x l) = other
through_inter again other (E.Neg x) = other
through_inter again other (E.Inter x y) = again x || again y
through_inter again other (E.Union x y) = other

module _ (again : ℕ → Bool) (e : Entry) where
  holds_read : {o : EntryOut} → Reads e o → holds_by again e ≡ holds_in again o
  unfolding holds_by is
  holds_read (a_variable q) = rw q
  holds_read (a_primitive q) = rw q
  holds_read (a_list q) = rw q
  holds_read (a_lambda q) = rw q
  holds_read (an_attrset q) = rw q
  holds_read (a_named q) = rw q
  holds_read (a_neg q) = rw q
  holds_read (an_inter q) = rw q
  holds_read (a_union q) = rw q

  member_read : {o : EntryOut} → Reads e o → member_by again e ≡ member_in again o
  unfolding member_by is
  member_read (a_variable q) = rw q
  member_read (a_primitive q) = rw q
  member_read (a_list q) = rw q
  member_read (a_lambda q) = rw q
  member_read (an_attrset q) = rw q
  member_read (a_named q) = rw q
  member_read (a_neg q) = rw q
  member_read (an_inter q) = rw q
  member_read (a_union q) = rw q

  disjoint_read : (g : Graph) (sup : Entry) {o : EntryOut} → Reads e o → disjoint_by again g sup e ≡ through_inter again (disjoint g e sup) o
  unfolding disjoint_by is
  disjoint_read g sup (a_variable q) = rw q
  disjoint_read g sup (a_primitive q) = rw q
  disjoint_read g sup (a_list q) = rw q
  disjoint_read g sup (a_lambda q) = rw q
  disjoint_read g sup (an_attrset q) = rw q
  disjoint_read g sup (a_named q) = rw q
  disjoint_read g sup (a_neg q) = rw q
  disjoint_read g sup (an_inter q) = rw q
  disjoint_read g sup (a_union q) = rw q

-- what is left for the arm `_` of each
holds_other : (again : ℕ → Bool) (o : EntryOut) → OneOf (1 ∷ 2 ∷ 3 ∷ 4 ∷ 6 ∷ 8 ∷ []) (tag_of the_type o) → false ≡ holds_in again o
holds_other again (E.Variable l) h = absurd (miss (1 ∷ 2 ∷ 3 ∷ 4 ∷ 6 ∷ 8 ∷ []) 0 tt h)
holds_other again (E.Primitive p) h = refl
holds_other again (E.List x) h = refl
holds_other again (E.Lambda p b) h = refl
holds_other again (E.AttrSet a) h = refl
holds_other again (E.Named x l) h = absurd (miss (1 ∷ 2 ∷ 3 ∷ 4 ∷ 6 ∷ 8 ∷ []) 5 tt h)
holds_other again (E.Neg x) h = refl
holds_other again (E.Inter x y) h = absurd (miss (1 ∷ 2 ∷ 3 ∷ 4 ∷ 6 ∷ 8 ∷ []) 7 tt h)
holds_other again (E.Union x y) h = refl

member_other : (again : ℕ → Bool) (o : EntryOut) → OneOf (0 ∷ 1 ∷ 2 ∷ 3 ∷ 4 ∷ 6 ∷ 7 ∷ []) (tag_of the_type o) → false ≡ member_in again o
member_other again (E.Variable l) h = refl
member_other again (E.Primitive p) h = refl
member_other again (E.List x) h = refl
member_other again (E.Lambda p b) h = refl
member_other again (E.AttrSet a) h = refl
member_other again (E.Named x l) h = absurd (miss (0 ∷ 1 ∷ 2 ∷ 3 ∷ 4 ∷ 6 ∷ 7 ∷ []) 5 tt h)
member_other again (E.Neg x) h = refl
member_other again (E.Inter x y) h = refl
member_other again (E.Union x y) h = absurd (miss (0 ∷ 1 ∷ 2 ∷ 3 ∷ 4 ∷ 6 ∷ 7 ∷ []) 8 tt h)

inter_other : (again : ℕ → Bool) (other : Bool) (o : EntryOut) → OneOf (0 ∷ 1 ∷ 2 ∷ 3 ∷ 4 ∷ 5 ∷ 6 ∷ 8 ∷ []) (tag_of the_type o) → other ≡ through_inter again other o
inter_other again other (E.Variable l) h = refl
inter_other again other (E.Primitive p) h = refl
inter_other again other (E.List x) h = refl
inter_other again other (E.Lambda p b) h = refl
inter_other again other (E.AttrSet a) h = refl
inter_other again other (E.Named x l) h = refl
inter_other again other (E.Neg x) h = refl
inter_other again other (E.Inter x y) h = absurd (miss (0 ∷ 1 ∷ 2 ∷ 3 ∷ 4 ∷ 5 ∷ 6 ∷ 8 ∷ []) 7 tt h)
inter_other again other (E.Union x y) h = refl

-- a round looks at smaller numbers only
module _ (p q : ℕ → Bool) (i : ℕ) (h : (x : ℕ) → x < i → p x ≡ q x) where
  holds_smaller : (o : EntryOut) → Under i o → holds_in p o ≡ holds_in q o
  holds_smaller (E.Variable l) u = refl
  holds_smaller (E.Primitive x) u = refl
  holds_smaller (E.List x) u = refl
  holds_smaller (E.Lambda x y) u = refl
  holds_smaller (E.AttrSet a) u = refl
  holds_smaller (E.Named x l) u = h x u
  holds_smaller (E.Neg x) u = refl
  holds_smaller (E.Inter x y) u = ap₂ ◌||◌ (h x u.0) (h y u.1)
  holds_smaller (E.Union x y) u = refl

  member_smaller : (o : EntryOut) → Under i o → member_in p o ≡ member_in q o
  member_smaller (E.Variable l) u = refl
  member_smaller (E.Primitive x) u = refl
  member_smaller (E.List x) u = refl
  member_smaller (E.Lambda x y) u = refl
  member_smaller (E.AttrSet a) u = refl
  member_smaller (E.Named x l) u = h x u
  member_smaller (E.Neg x) u = refl
  member_smaller (E.Inter x y) u = refl
  member_smaller (E.Union x y) u = ap₂ ◌||◌ (h x u.0) (h y u.1)

  inter_smaller : (other : Bool) (o : EntryOut) → Under i o → through_inter p other o ≡ through_inter q other o
  inter_smaller other (E.Variable l) u = refl
  inter_smaller other (E.Primitive x) u = refl
  inter_smaller other (E.List x) u = refl
  inter_smaller other (E.Lambda x y) u = refl
  inter_smaller other (E.AttrSet a) u = refl
  inter_smaller other (E.Named x l) u = refl
  inter_smaller other (E.Neg x) u = refl
  inter_smaller other (E.Inter x y) u = ap₂ ◌||◌ (h x u.0) (h y u.1)
  inter_smaller other (E.Union x y) u = refl

-- the laws that enough rounds suffice
module _ (s : Store) (good : Good s) where
  pub holds_rounds : (rounds i : ℕ) → i < length s.entries → i < rounds
      → holds_within rounds s.entries i ≡ holds_by (λ x. holds_variable s.entries x) (entry_at s.entries i)
  unfolding holds_within holds_variable
  holds_rounds =
      enough (λ again n. holds_by again (entry_at s.entries n)) (λ r. holds_within r s.entries) (length s.entries)
      (λ r n. refl)
      (λ p q n lt h.
      let e : Entry = entry_at s.entries n in
      let r : Reads e (read_out e) = reads s good n lt in
      holds_read p e r ∙ holds_smaller p q n h (read_out e) (under s good n lt (read_out e) refl) ∙ sym (holds_read q e r))

  pub member_rounds : (m rounds i : ℕ) → i < length s.entries → i < rounds
      → member_within rounds s.entries m i ≡ (eqb i m || member_by (λ x. union_member s.entries m x) (entry_at s.entries i))
  unfolding member_within union_member
  member_rounds m =
      enough (λ again n. eqb n m || member_by again (entry_at s.entries n)) (λ r. member_within r s.entries m) (length s.entries)
      (λ r n. refl)
      (λ p q n lt h.
      let e : Entry = entry_at s.entries n in
      let r : Reads e (read_out e) = reads s good n lt in
      ap (λ (b : Bool). eqb n m || b)
      (member_read p e r ∙ member_smaller p q n h (read_out e) (under s good n lt (read_out e) refl) ∙ sym (member_read q e r)))

  pub disjoint_rounds : (sup : Entry) (rounds i : ℕ) → i < length s.entries → i < rounds
      → disjoint_within rounds (graph_of s) sup i ≡ disjoint_by (λ x. disjoint_from_sup (graph_of s) sup x) (graph_of s) sup (entry_at s.entries i)
  unfolding disjoint_within disjoint_from_sup
  disjoint_rounds sup =
      enough (λ again n. disjoint_by again (graph_of s) sup (entry_at s.entries n)) (λ r. disjoint_within r (graph_of s) sup) (length s.entries)
      (λ r n. refl)
      (λ p q n lt h.
      let e : Entry = entry_at s.entries n in
      let r : Reads e (read_out e) = reads s good n lt in
      disjoint_read p e (graph_of s) sup r
      ∙ inter_smaller p q n h (disjoint (graph_of s) e sup) (read_out e) (under s good n lt (read_out e) refl)
      ∙ sym (disjoint_read q e (graph_of s) sup r))

  -- a call of each, by the entry that it reads
  module _ (i : ℕ) (lt : i < length s.entries) where
    holds_opened : holds_variable s.entries i ≡ holds_in (λ x. holds_variable s.entries x) (read_out (entry_at s.entries i))
    unfolding holds_variable
    holds_opened = holds_rounds (suc i) i lt (omega arith) ∙ holds_read _ _ (reads s good i lt)

    member_opened : (m : ℕ) → union_member s.entries m i ≡ (eqb i m || member_in (λ x. union_member s.entries m x) (read_out (entry_at s.entries i)))
    unfolding union_member
    member_opened m = member_rounds m (suc i) i lt (omega arith) ∙ ap (λ (b : Bool). eqb i m || b) (member_read _ _ (reads s good i lt))

    disjoint_opened : (sup : Entry)
        → disjoint_from_sup (graph_of s) sup i ≡ through_inter (λ x. disjoint_from_sup (graph_of s) sup x) (disjoint (graph_of s) (entry_at s.entries i) sup) (read_out (entry_at s.entries i))
    unfolding disjoint_from_sup
    disjoint_opened sup = disjoint_rounds sup (suc i) i lt (omega arith) ∙ disjoint_read _ _ (graph_of s) sup (reads s good i lt)

    module _ {o : EntryOut} (eq : o ≡ read_out (entry_at s.entries i)) where
      pub holds_step : holds_variable s.entries i ≡ holds_in (λ x. holds_variable s.entries x) o
      holds_step = rw eq holds_opened

      pub member_step : (m : ℕ) → (i ≡ m → ⊥) → union_member s.entries m i ≡ member_in (λ x. union_member s.entries m x) o
      member_step m ne = rw eq (member_opened m ∙ rw (ne_eqb i m ne))

      pub disjoint_step : (sup : Entry) → disjoint_from_sup (graph_of s) sup i ≡ through_inter (λ x. disjoint_from_sup (graph_of s) sup x) (disjoint (graph_of s) (entry_at s.entries i) sup) o
      disjoint_step sup = rw eq (disjoint_opened sup)

      -- the arm `_` of each
      pub holds_none : OneOf (1 ∷ 2 ∷ 3 ∷ 4 ∷ 6 ∷ 8 ∷ []) (tag_of the_type o) → false ≡ holds_variable s.entries i
      holds_none h = holds_other (λ x. holds_variable s.entries x) o h ∙ sym holds_step

      pub member_none : (m : ℕ) → (i ≡ m → ⊥) → OneOf (0 ∷ 1 ∷ 2 ∷ 3 ∷ 4 ∷ 6 ∷ 7 ∷ []) (tag_of the_type o) → false ≡ union_member s.entries m i
      member_none m ne h = member_other (λ x. union_member s.entries m x) o h ∙ sym (member_step m ne)

      pub disjoint_none : (sup : Entry) → OneOf (0 ∷ 1 ∷ 2 ∷ 3 ∷ 4 ∷ 5 ∷ 6 ∷ 8 ∷ []) (tag_of the_type o) → disjoint (graph_of s) (entry_at s.entries i) sup ≡ disjoint_from_sup (graph_of s) sup i
      disjoint_none sup h = inter_other (λ x. disjoint_from_sup (graph_of s) sup x) (disjoint (graph_of s) (entry_at s.entries i) sup) o h ∙ sym (disjoint_step sup)

pub member_self : (es : List Entry) (m n : ℕ) → n ≡ m → true ≡ union_member es m n
unfolding union_member member_within
member_self es m n q = rw (eq-eqb n m q)

-- What sup's fields ask, one after the other, and that the two passes are the model's attrset rule. Assumes nothing.
use Rattle.std.specs.Prelude.{None, Some, Option}
use Prim.Native.Nat.{ℕ, suc, ◌+◌, ◌≤◌, ◌<◌}
use native.Mathlib.Omega.{arith}
use mathlib.Core.Path.{◌≡◌, refl, sym, ap, ◌∙◌}
use mathlib.Core.List.{List, [], ◌∷◌, ◌++◌}
use mathlib.Core.Bool.{Bool, true, false, not, cond, ◌&&◌}
use lib.ListN.{length, length-append}
use types.Run.{OneOf, miss}
use denote.Enum.Declared.{tag_of}
use borrow.Author.Tests.{eq-eqb, ne_eqb}
use Rattle.model.specs.Lists.{is_zero}
use Rattle.model.specs.Format.{attrset}
use Rattle.model.specs.Table.{Entry, Field, Pair, ◌⊑◌, Store, Graph, graph_of, entry_at, is, is_at, is_open, has_dynamic}
use Rattle.model.specs.Shapes.{fields_of, field_named}
use Rattle.model.specs.Rules.{mismatch, Gathered, gathered, lacking, before, gather_one, gather, dynamics, gathered_effect, attrsets}
use Rattle.model.specs.Calls.{read_out, dynamic_of}
use Rattle.model.specs.declared.Attrset.{Attrset}
use Rattle.model.specs.declared.Entry.{Entry as EntryOut}
use Rattle.model.specs.declared.Entry.TheVariants as E
use Rattle.model.specs.contracts.Entry.{the_type}
use Rattle.laws.specs.Good.{Good}
use Rattle.image.specs.Records.{field_at}
use Rattle.disjoint.specs.Fields.{Inside, fields_held, number_named}
use Rattle.disjoint.proofs.Fields.{rest, next, none_left, whole}
use Rattle.disjoint.proofs.Finding.{named_found, named_nothing}
use Rattle.disjoint.proofs.Views.{attrset_of, Reads, a_variable, a_primitive, a_list, a_lambda, an_attrset, a_named, a_neg, an_inter, a_union, reads, inside}
use Rattle.constrain.specs.declared.FieldAsk.{FieldAsk}
use Rattle.constrain.specs.declared.FieldAsk.TheVariants as A
use Rattle.constrain.specs.declared.Next.{Next}
use Rattle.constrain.specs.declared.Next.TheVariants as N
use Rattle.constrain.specs.declared.Pairs.TheVariants.{Fields}
use Rattle.constrain.specs.Fields.{ask_dynamic, ask_by, ask_of, add_asked, pairs_asked, dynamic_pairs, both_dynamic, field_pairs, missing_or, first_missing, gathered_by, gathered_in}
use Rattle.constrain.specs.Next.{effect_of, Applicable, Comes}

-- a field that no field of its name answers
module _ (d : Option ℕ) (o : Bool) (f : Field) where
  pub ask_present : {n : ℕ} → d ≡ Some n → A.Under n ≡ ask_dynamic d o f
  ask_present q = rw q

  pub ask_open : d ≡ None → o ≡ true → A.Nothing ≡ ask_dynamic d o f
  ask_open q p = rw (q, p)

  pub ask_required : d ≡ None → o ≡ false → f.optional ≡ 0 → A.Missing ≡ ask_dynamic d o f
  ask_required q p z = rw (q, p, eq-eqb _ _ z)

  pub ask_optional : d ≡ None → o ≡ false → (f.optional ≡ 0 → ⊥) → A.Nothing ≡ ask_dynamic d o f
  ask_optional q p z = rw (q, p, ne_eqb _ _ z)

-- the search by the name that was read
pub named_by : (fs : List Field) (a : Attrset) {name n : ℕ} {r o : (Option ℕ)} → n ≡ name → r ≡ number_named fs a.first a.count n → r ≡ o
    → number_named fs a.first a.count name ≡ o
named_by fs a p q e = sym (rw p at q) ∙ e

-- any field
module _ (fs : List Field) (a : Attrset) (h : Inside fs a) (f : Field) where
  pub ask_found : {i : ℕ} → number_named fs a.first a.count f.name ≡ Some i → A.Under (field_at fs i).entry ≡ ask_of a (fields_held fs a) f
  unfolding ask_of
  ask_found q = rw (named_found fs a.first a.count f.name h q)

  pub ask_nothing : number_named fs a.first a.count f.name ≡ None
      → ask_dynamic a.dynamic a.is_open f ≡ ask_of a (fields_held fs a) f
  unfolding ask_of
  ask_nothing q = rw (named_nothing fs a.first a.count f.name h q)

-- the fields from j on, by what field j asks
module _ (fs : List Field) (a : Attrset) (j e : ℕ) (h : j < e) (l : e ≤ length fs) where
  pub pairs_next : pairs_asked a (fields_held fs a) (rest fs j e)
      ≡ add_asked (ask_of a (fields_held fs a) (field_at fs j)) (field_at fs j) (pairs_asked a (fields_held fs a) (rest fs (j + 1) e))
  unfolding pairs_asked
  pairs_next = rw (next fs j e h l)

  first_next : first_missing a (fields_held fs a) (rest fs j e)
      ≡ missing_or (ask_of a (fields_held fs a) (field_at fs j)) (field_at fs j) (first_missing a (fields_held fs a) (rest fs (j + 1) e))
  unfolding first_missing
  first_next = rw (next fs j e h l)

-- where the loop stands: nothing is missing before field j, and so many pairs were seen
pub record Going (fs : List Field) (a b : Attrset) (e j n : ℕ) : Type 0 where
  pub inside : j ≤ e
  pub there : e ≤ length fs
  pub few : b.first + n ≤ j
  pub first : first_missing a (fields_held fs a) (fields_held fs b) ≡ first_missing a (fields_held fs a) (rest fs j e)
  pub count : length (pairs_asked a (fields_held fs a) (fields_held fs b)) ≡ n + length (pairs_asked a (fields_held fs a) (rest fs j e))

pub going_start : (fs : List Field) (a b : Attrset) → Inside fs b → Going fs a b (b.first + b.count) b.first 0
going_start fs a b h =
    let w = whole fs b.first b.count in
    let k = ap (λ (l : List Field). length (pairs_asked a (fields_held fs a) l)) w in
    record {
      inside = omega arith;
      there = h;
      few = omega arith;
      first = ap (first_missing a (fields_held fs a)) w;
      count = omega arith;
    }

module _ {fs : List Field} {a b : Attrset} {e j n : ℕ} (g : Going fs a b e j n) where
  module _ (h : j < e) where
    -- it is under some entry, it asks nothing, or it is missing
    pub going_under : {x : ℕ} → ask_of a (fields_held fs a) (field_at fs j) ≡ A.Under x → Going fs a b e (j + 1) (n + 1)
    going_under {x} q =
        let p : first_missing a (fields_held fs a) (rest fs j e) ≡ first_missing a (fields_held fs a) (rest fs (j + 1) e) = first_next fs a j e h g.there ∙ rw q in
        let m : length (pairs_asked a (fields_held fs a) (rest fs j e)) ≡ suc (length (pairs_asked a (fields_held fs a) (rest fs (j + 1) e))) = rw (pairs_next fs a j e h g.there, q) in
        let k = g.few in
        let t = g.count in
        record { inside = omega arith; there = g.there; few = omega arith; first = g.first ∙ p; count = omega arith }

    pub going_nothing : ask_of a (fields_held fs a) (field_at fs j) ≡ A.Nothing → Going fs a b e (j + 1) n
    going_nothing q =
        let p : first_missing a (fields_held fs a) (rest fs j e) ≡ first_missing a (fields_held fs a) (rest fs (j + 1) e) = first_next fs a j e h g.there ∙ rw q in
        let m : length (pairs_asked a (fields_held fs a) (rest fs j e)) ≡ length (pairs_asked a (fields_held fs a) (rest fs (j + 1) e)) = rw (pairs_next fs a j e h g.there, q) in
        let k = g.few in
        let t = g.count in
        record { inside = omega arith; there = g.there; few = omega arith; first = g.first ∙ p; count = omega arith }

    pub going_missing : ask_of a (fields_held fs a) (field_at fs j) ≡ A.Missing → N.Missing (field_at fs j).name ≡ gathered_in fs a b
    unfolding gathered_in
    going_missing q =
        let p : first_missing a (fields_held fs a) (fields_held fs b) ≡ Some (field_at fs j).name = g.first ∙ first_next fs a j e h g.there ∙ rw q in
        rw p

  pub going_end : {m : ℕ} → e ≤ j → m ≡ n + both_dynamic a.dynamic b.dynamic → N.Follow (Fields a b m) ≡ gathered_in fs a b
  unfolding gathered_in first_missing pairs_asked field_pairs
  going_end {m} h q =
      let l : rest fs j e ≡ [] = none_left fs j e h in
      let p : first_missing a (fields_held fs a) (fields_held fs b) ≡ None = g.first ∙ rw l in
      let k : length (pairs_asked a (fields_held fs a) (fields_held fs b)) ≡ n + 0 = g.count ∙ rw l in
      let c : m ≡ length (field_pairs fs a b) = omega (arith, length-append (pairs_asked a (fields_held fs a) (fields_held fs b)) (dynamic_pairs a.dynamic b.dynamic)) in
      rw (p, c)

-- the model's gathering, by what each field asks
abbrev by_ask : FieldAsk → Field → Gathered → Gathered
by_ask (A.Under x) f g = before (x ⊑ f.entry) g
by_ask A.Nothing f g = g
by_ask A.Missing f g = lacking f.name

module _ (f : Field) (g : Gathered) where
  lacking_by : (u : Bool) → cond u (lacking f.name) g ≡ by_ask (cond u A.Missing A.Nothing) f g
  lacking_by true = refl
  lacking_by false = refl

  one_by : (t o : Bool) (z : ℕ)
      → cond t (before (z ⊑ f.entry) g) (cond (not o && is_zero f.optional) (lacking f.name) g) ≡ by_ask (ask_dynamic (cond t (Some z) None) o f) f g
  one_by true o z = refl
  one_by false o z = lacking_by (not o && is_zero f.optional)

  one : (e : Entry) (o : Option Field) → gather_one e f o g ≡ by_ask (ask_by (attrset_of e) f o) f g
  unfolding gather_one dynamic_of
  one e (Some h) = refl
  one e None = one_by (has_dynamic e) (is_open e) e.z

-- a missing field, or the pairs
abbrev told : Option ℕ → List Pair → Gathered
told (Some n) ps = lacking n
told None ps = gathered ps

told_by : (w : FieldAsk) (f : Field) (m : Option ℕ) (qs last : List Pair) → by_ask w f (told m (qs ++ last)) ≡ told (missing_or w f m) (add_asked w f qs ++ last)
unfolding before
told_by (A.Under x) f None qs last = refl
told_by (A.Under x) f (Some n) qs last = refl
told_by A.Nothing f m qs last = refl
told_by A.Missing f m qs last = refl

gather_told : (e : Entry) (have : List Field) (last : List Pair) (fs : List Field)
    → gather e have last fs ≡ told (first_missing (attrset_of e) have fs) (pairs_asked (attrset_of e) have fs ++ last)
unfolding gather first_missing pairs_asked ask_of
gather_told e have last [] = refl
gather_told e have last (f ∷ fs) =
    one f (gather e have last fs) e (field_named have f.name)
    ∙ ap (by_ask (ask_of (attrset_of e) have f) f) (gather_told e have last fs)
    ∙ told_by (ask_of (attrset_of e) have f) f (first_missing (attrset_of e) have fs) (pairs_asked (attrset_of e) have fs) last

dynamics_by : (t u : Bool) (x y : ℕ) → cond (t && u) ((x ⊑ y) ∷ []) [] ≡ dynamic_pairs (cond t (Some x) None) (cond u (Some y) None)
dynamics_by true true x y = refl
dynamics_by true false x y = refl
dynamics_by false u x y = refl

dynamics_told : (d e : Entry) → dynamics d e ≡ dynamic_pairs (dynamic_of d) (dynamic_of e)
unfolding dynamics dynamic_of
dynamics_told d e = dynamics_by (has_dynamic d) (has_dynamic e) d.z e.z

effect_told : (g : Graph) (p : Pair) (a b : Attrset) (m : Option ℕ) → effect_of g p (gathered_by g.fields a b m) ≡ gathered_effect g (told m (field_pairs g.fields a b))
unfolding gathered_effect
effect_told g p a b None = refl
effect_told g p a b (Some n) = refl

-- the attrset rule
attrsets_told : (g : Graph) (p : Pair) (d e : Entry) → effect_of g p (gathered_in g.fields (attrset_of d) (attrset_of e)) ≡ attrsets g d e
unfolding attrsets gathered_in field_pairs fields_of
attrsets_told g p d e =
    let a = attrset_of d in
    let b = attrset_of e in
    let m = first_missing a (fields_held g.fields a) (fields_held g.fields b) in
    let q : gather d (fields_of g.fields d) (dynamics d e) (fields_of g.fields e) ≡ told m (field_pairs g.fields a b) =
    gather_told d (fields_of g.fields d) (dynamics d e) (fields_of g.fields e) ∙ rw (dynamics_told d e) in
    effect_told g p a b m ∙ sym (ap (gathered_effect g) q)

applicable : (g : Graph) (a b : Attrset) (m : Option ℕ) → Inside g.fields a → Inside g.fields b → Applicable g (gathered_by g.fields a b m)
applicable g a b None h k = (h, k, refl)
applicable g a b (Some n) h k = tt

-- an entry that reads out as an attrset, or not
abbrev AsAttrset : Entry → EntryOut → Type 0
AsAttrset e (E.Variable l) = e.kind ≡ 0
AsAttrset e (E.Primitive p) = e.kind ≡ 1
AsAttrset e (E.List x) = e.kind ≡ 2
AsAttrset e (E.Lambda p b) = e.kind ≡ 3
AsAttrset e (E.AttrSet a) = (e.kind ≡ 4) × (attrset_of e ≡ a)
AsAttrset e (E.Named x l) = e.kind ≡ 5
AsAttrset e (E.Neg x) = e.kind ≡ 6
AsAttrset e (E.Inter x y) = e.kind ≡ 7
AsAttrset e (E.Union x y) = e.kind ≡ 8

as_attrset : (e : Entry) {o : EntryOut} → Reads e o → AsAttrset e o
as_attrset e (a_variable q) = q
as_attrset e (a_primitive q) = q
as_attrset e (a_list q) = q
as_attrset e (a_lambda q) = q
as_attrset e (an_attrset q) = (q, refl)
as_attrset e (a_named q) = q
as_attrset e (a_neg q) = q
as_attrset e (an_inter q) = q
as_attrset e (a_union q) = q

no_attrset : (e : Entry) (o : EntryOut) → AsAttrset e o → OneOf (0 ∷ 1 ∷ 2 ∷ 3 ∷ 5 ∷ 6 ∷ 7 ∷ 8 ∷ []) (tag_of the_type o) → is attrset e ≡ false
unfolding is
no_attrset e (E.Variable l) q h = rw q
no_attrset e (E.Primitive p) q h = rw q
no_attrset e (E.List x) q h = rw q
no_attrset e (E.Lambda p b) q h = rw q
no_attrset e (E.AttrSet a) q h = absurd (miss (0 ∷ 1 ∷ 2 ∷ 3 ∷ 5 ∷ 6 ∷ 7 ∷ 8 ∷ []) 4 tt h)
no_attrset e (E.Named x l) q h = rw q
no_attrset e (E.Neg x) q h = rw q
no_attrset e (E.Inter x y) q h = rw q
no_attrset e (E.Union x y) q h = rw q

-- by the entry's number
module _ (s : Store) (good : Good s) (i : ℕ) (lt : i < length s.entries) where
  pub other_at : {o : EntryOut} → o ≡ read_out (entry_at s.entries i) → OneOf (0 ∷ 1 ∷ 2 ∷ 3 ∷ 5 ∷ 6 ∷ 7 ∷ 8 ∷ []) (tag_of the_type o) → is_at s.entries attrset i ≡ false
  unfolding is_at
  other_at {o} q h = no_attrset (entry_at s.entries i) o (rw q (as_attrset (entry_at s.entries i) (reads s good i lt))) h

  attrset_read : {a : Attrset} → E.AttrSet a ≡ read_out (entry_at s.entries i) → ((entry_at s.entries i).kind ≡ attrset) × (attrset_of (entry_at s.entries i) ≡ a)
  attrset_read q = rw (← q) at (as_attrset (entry_at s.entries i) (reads s good i lt))

  pub attrset_at : {a : Attrset} → E.AttrSet a ≡ read_out (entry_at s.entries i) → is_at s.entries attrset i ≡ true
  unfolding is_at is
  attrset_at q = rw (attrset_read q).0

  pub attrset_is : {a : Attrset} → E.AttrSet a ≡ read_out (entry_at s.entries i) → attrset_of (entry_at s.entries i) ≡ a
  attrset_is q = (attrset_read q).1

  pub attrset_inside : {a : Attrset} → E.AttrSet a ≡ read_out (entry_at s.entries i) → Inside s.fields a
  attrset_inside q = rw (← (attrset_read q).1) (inside s good i lt (attrset_read q).0)

-- what two entries come to
abbrev PairComes : Store → ℕ → ℕ → Next → Type 0
PairComes s i j r = Comes (graph_of s) (i ⊑ j) r (cond (is_at s.entries attrset i && is_at s.entries attrset j) (attrsets (graph_of s) (entry_at s.entries i) (entry_at s.entries j)) mismatch)

module _ (s : Store) (good : Good s) (i j : ℕ) (li : i < length s.entries) (lj : j < length s.entries) where
  pub first_other : {o : EntryOut} → o ≡ read_out (entry_at s.entries i) → OneOf (0 ∷ 1 ∷ 2 ∷ 3 ∷ 5 ∷ 6 ∷ 7 ∷ 8 ∷ []) (tag_of the_type o) → PairComes s i j N.Mismatch
  first_other q h = record { means = rw (other_at s good i li q h); applies = tt }

  pub second_other : {a : Attrset} {o : EntryOut} → E.AttrSet a ≡ read_out (entry_at s.entries i)
      → o ≡ read_out (entry_at s.entries j) → OneOf (0 ∷ 1 ∷ 2 ∷ 3 ∷ 5 ∷ 6 ∷ 7 ∷ 8 ∷ []) (tag_of the_type o) → PairComes s i j N.Mismatch
  second_other p q h = record { means = rw (attrset_at s good i li p, other_at s good j lj q h); applies = tt }

  pub both_told : {a b : Attrset} → E.AttrSet a ≡ read_out (entry_at s.entries i) → E.AttrSet b ≡ read_out (entry_at s.entries j)
      → {r : Next} → r ≡ gathered_in s.fields a b → PairComes s i j r
  unfolding gathered_in
  both_told {a} {b} p q {r} h =
      let d = entry_at s.entries i in
      let e = entry_at s.entries j in
      let m : effect_of (graph_of s) (i ⊑ j) r ≡ attrsets (graph_of s) d e = rw (h, ← attrset_is s good i li p, ← attrset_is s good j lj q) (attrsets_told (graph_of s) (i ⊑ j) d e) in
      record {
        means = rw (attrset_at s good i li p, attrset_at s good j lj q) m;
        applies = rw h (applicable (graph_of s) a b (first_missing a (fields_held s.fields a) (fields_held s.fields b)) (attrset_inside s good i li p) (attrset_inside s good j lj q));
      }

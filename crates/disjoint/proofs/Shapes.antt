-- Disjointness by shape is the model's, and the tests of `compatible`. Assumes nothing.
use Rattle.std.specs.Prelude.{None, Option, is_some}
use Prim.Native.Nat.{ℕ, ◌+◌, ◌≤◌, ◌<◌}
use mathlib.Core.Path.{◌≡◌, refl, sym, ap, ◌∙◌}
use mathlib.Core.List.{List, [], ◌∷◌}
use mathlib.Core.Bool.{Bool, true, false, not, ◌&&◌, ◌||◌}
use lib.ListN.{length}
use lib.Dec.{eqb}
use types.Run.{OneOf, miss}
use denote.Enum.Declared.{tag_of}
use borrow.Author.Tests.{eq-eqb, ne_eqb, eqb-true}
use Rattle.model.specs.Lists.{any}
use Rattle.model.specs.Format.{int, float, number, primitive, lambda, attrset, named}
use Rattle.model.specs.Table.{Entry, Field, Store, Graph, graph_of, entry_at, is}
use Rattle.model.specs.Shapes.{fields_of, functor_of, has_functor, under_number, lacks_field, closed_lacks, attrsets_disjoint, has_shape, same_shape_disjoint, disjoint, compatible}
use Rattle.model.specs.Calls.{read_out}
use Rattle.model.specs.declared.Attrset.{Attrset}
use Rattle.model.specs.declared.Entry.{Entry as EntryOut}
use Rattle.model.specs.declared.Entry.TheVariants as E
use Rattle.model.specs.contracts.Entry.{the_type}
use Rattle.laws.specs.Good.{Good}
use Rattle.disjoint.specs.declared.Shape.{Shape}
use Rattle.disjoint.specs.declared.Shape.TheVariants as S
use Rattle.disjoint.specs.Fields.{Inside, fields_held, number_named, functor_number, functor_record}
use Rattle.disjoint.specs.Shapes.{shape_of, ShapeInside, lacks_some, closed_lacks_in, attrsets_disjoint_in, callable, shapes_disjoint}
use Rattle.disjoint.proofs.Fields.{rest, whole, named_some, functor_some}
use Rattle.disjoint.proofs.Views.{attrset_of, Reads, a_variable, a_primitive, a_list, a_lambda, an_attrset, a_named, a_neg, an_inter, a_union, reads, inside}

-- an optional field is not lacking, and any other is where its name finds nothing
module _ (fs : List Field) (a : Attrset) (h : Inside fs a) (f : Field) where
  pub optional : (f.optional ≡ 0 → ⊥) → false ≡ lacks_field (fields_held fs a) f
  unfolding lacks_field
  optional n = rw (ne_eqb _ _ n)

  pub required : f.optional ≡ 0 → not (is_some (number_named fs a.first a.count f.name)) ≡ lacks_field (fields_held fs a) f
  unfolding lacks_field
  required z = rw (eq-eqb _ _ z, named_some fs a.first a.count f.name h)

pub lacks_from : (fs : List Field) (a b : Attrset) → lacks_some fs a b ≡ any (lacks_field (fields_held fs a)) (rest fs b.first (b.first + b.count))
unfolding lacks_some
lacks_from fs a b = ap (any (lacks_field (fields_held fs a))) (whole fs b.first b.count)

pub open_lacks : (fs : List Field) (a b : Attrset) → a.is_open ≡ true → false ≡ closed_lacks_in fs a b
unfolding closed_lacks_in
open_lacks fs a b q = ap (λ (o : Bool). not o && lacks_some fs a b) (sym q)

pub shut_lacks : (fs : List Field) (a b : Attrset) → a.is_open ≡ false → lacks_some fs a b ≡ closed_lacks_in fs a b
unfolding closed_lacks_in
shut_lacks fs a b q = ap (λ (o : Bool). not o && lacks_some fs a b) (sym q)

-- a told answer, closed
pub shut_so : (fs : List Field) (a b : Attrset) (r : Bool) → a.is_open ≡ false → r ≡ lacks_some fs a b → r ≡ closed_lacks_in fs a b
shut_so fs a b r q e = e ∙ shut_lacks fs a b q

-- an optional flag that was read: the field is not lacking
pub optional_so : (fs : List Field) (a : Attrset) (f : Field) (o : ℕ) → Inside fs a → o ≡ f.optional → (o ≡ 0 → ⊥) → false ≡ lacks_field (fields_held fs a) f
optional_so fs a f o h e n = optional fs a h f (λ q. n (e ∙ q))

-- or it is, as the search by its name tells
pub required_so : (fs : List Field) (a : Attrset) (f : Field) (o n : ℕ) (r : Bool) (k : Option ℕ) → Inside fs a → o ≡ f.optional → o ≡ 0
    → n ≡ f.name → k ≡ number_named fs a.first a.count n → r ≡ is_some k → not r ≡ lacks_field (fields_held fs a) f
required_so fs a f o n r k h e z en ek er = rw (er, ek, en) (required fs a h f (sym e ∙ z))

-- the functor's record, of an entry that reads out so
abbrev pub functor_by : Graph → EntryOut → Option ℕ
functor_by g (E.Variable l) = None
functor_by g (E.Primitive p) = None
functor_by g (E.List x) = None
functor_by g (E.Lambda p b) = None
functor_by g (E.AttrSet a) = functor_number g.fields a.first a.count g.functor
functor_by g (E.Named x l) = None
functor_by g (E.Neg x) = None
functor_by g (E.Inter x y) = None
functor_by g (E.Union x y) = None

functor_read : (g : Graph) (e : Entry) {o : EntryOut} → Reads e o → functor_record g e ≡ functor_by g o
unfolding functor_record is
functor_read g e (a_variable q) = rw q
functor_read g e (a_primitive q) = rw q
functor_read g e (a_list q) = rw q
functor_read g e (a_lambda q) = rw q
functor_read g e (an_attrset q) = rw q
functor_read g e (a_named q) = rw q
functor_read g e (a_neg q) = rw q
functor_read g e (an_inter q) = rw q
functor_read g e (a_union q) = rw q

-- the arm of all but attrsets
no_functor : (g : Graph) (o : EntryOut) → OneOf (0 ∷ 1 ∷ 2 ∷ 3 ∷ 5 ∷ 6 ∷ 7 ∷ 8 ∷ []) (tag_of the_type o) → None ≡ functor_by g o
no_functor g (E.Variable l) h = refl
no_functor g (E.Primitive p) h = refl
no_functor g (E.List x) h = refl
no_functor g (E.Lambda p b) h = refl
no_functor g (E.AttrSet a) h = absurd (miss (0 ∷ 1 ∷ 2 ∷ 3 ∷ 5 ∷ 6 ∷ 7 ∷ 8 ∷ []) 4 tt h)
no_functor g (E.Named x l) h = refl
no_functor g (E.Neg x) h = refl
no_functor g (E.Inter x y) h = refl
no_functor g (E.Union x y) h = refl

-- which kind an entry of a shape has
data Shaped (e : Entry) : Shape → Type 0 where
  primitively : e.kind ≡ 1 → Shaped e (S.Primitive e.x)
  listed : e.kind ≡ 2 → Shaped e S.List
  lambdas : e.kind ≡ 3 → Shaped e S.Lambda
  with_fields : e.kind ≡ 4 → Shaped e (S.AttrSet (attrset_of e))
  opaque : has_shape e ≡ false → Shaped e S.Opaque

shaped : (e : Entry) {o : EntryOut} → Reads e o → Shaped e (shape_of o)
unfolding has_shape
shaped e (a_variable q) = opaque (rw q)
shaped e (a_primitive q) = primitively q
shaped e (a_list q) = listed q
shaped e (a_lambda q) = lambdas q
shaped e (an_attrset q) = with_fields q
shaped e (a_named q) = opaque (rw q)
shaped e (a_neg q) = opaque (rw q)
shaped e (an_inter q) = opaque (rw q)
shaped e (a_union q) = opaque (rw q)

or_false : (b : Bool) → (b || false) ≡ b
or_false true = refl
or_false false = refl

has_callable : (g : Graph) (e : Entry) → e.kind ≡ attrset → Inside g.fields (attrset_of e) → has_functor g e ≡ callable g (attrset_of e)
unfolding has_functor functor_of callable is fields_of
has_callable g e q h = rw q (functor_some g.fields e.x e.y g.functor h)

pub shaped_inside : (s : Store) (e : Entry) → (e.kind ≡ attrset → e.x + e.y ≤ length s.fields) → {o : EntryOut} → Reads e o → ShapeInside s.fields (shape_of o)
shaped_inside s e h (a_variable q) = tt
shaped_inside s e h (a_primitive q) = tt
shaped_inside s e h (a_list q) = tt
shaped_inside s e h (a_lambda q) = tt
shaped_inside s e h (an_attrset q) = h q
shaped_inside s e h (a_named q) = tt
shaped_inside s e h (a_neg q) = tt
shaped_inside s e h (an_inter q) = tt
shaped_inside s e h (a_union q) = tt

-- opens disjointness
shape_tests : Unit {0}
unfolding disjoint has_shape same_shape_disjoint attrsets_disjoint closed_lacks attrsets_disjoint_in closed_lacks_in lacks_some fields_of has_functor functor_of is
shape_tests = tt

-- of shapes that are known to be these
pub shapes_are : (g : Graph) {a b x y : Shape} → a ≡ x → b ≡ y → shapes_disjoint g x y ≡ shapes_disjoint g a b
shapes_are g p q = rw (p, q)

pub attrset_inside : (fs : List Field) {x : Shape} {a : Attrset} → x ≡ S.AttrSet a → ShapeInside fs x → Inside fs a
attrset_inside fs p h = rw p at h

module _ (g : Graph) (a b : Entry) where
  lambda_attrset : a.kind ≡ lambda → b.kind ≡ attrset → disjoint g a b ≡ not (has_functor g b)
  unfolding disjoint has_shape is
  lambda_attrset p q = rw (p, q)

  attrset_lambda : a.kind ≡ attrset → b.kind ≡ lambda → disjoint g a b ≡ not (has_functor g a || false)
  unfolding disjoint has_shape is
  attrset_lambda p q = rw (p, q)

  by_shape : {x y : Shape} → Shaped a x → Shaped b y → ShapeInside g.fields x → ShapeInside g.fields y → disjoint g a b ≡ shapes_disjoint g x y
  unfolding shape_tests
  by_shape (opaque p) y l r = rw p
  by_shape (primitively p) (primitively q) l r = rw (p, q)
  by_shape (primitively p) (listed q) l r = rw (p, q)
  by_shape (primitively p) (lambdas q) l r = rw (p, q)
  by_shape (primitively p) (with_fields q) l r = rw (p, q)
  by_shape (primitively p) (opaque q) l r = rw (p, q)
  by_shape (listed p) (primitively q) l r = rw (p, q)
  by_shape (listed p) (listed q) l r = rw (p, q)
  by_shape (listed p) (lambdas q) l r = rw (p, q)
  by_shape (listed p) (with_fields q) l r = rw (p, q)
  by_shape (listed p) (opaque q) l r = rw (p, q)
  by_shape (lambdas p) (primitively q) l r = rw (p, q)
  by_shape (lambdas p) (listed q) l r = rw (p, q)
  by_shape (lambdas p) (lambdas q) l r = rw (p, q)
  by_shape (lambdas p) (with_fields q) l r = lambda_attrset p q ∙ ap not (has_callable g b q r)
  by_shape (lambdas p) (opaque q) l r = rw (p, q)
  by_shape (with_fields p) (primitively q) l r = rw (p, q)
  by_shape (with_fields p) (listed q) l r = rw (p, q)
  by_shape (with_fields p) (lambdas q) l r = attrset_lambda p q ∙ ap not (or_false (has_functor g a) ∙ has_callable g a p l)
  by_shape (with_fields p) (with_fields q) l r = rw (p, q)
  by_shape (with_fields p) (opaque q) l r = rw (p, q)

-- primitives
and_true : (b : Bool) → (b && true) ≡ b
and_true true = refl
and_true false = refl

and_false : (b : Bool) → (b && false) ≡ false
and_false true = refl
and_false false = refl

module _ (p q : ℕ) where
  pub int_under : q ≡ number → p ≡ int → true ≡ under_number p q
  unfolding under_number
  int_under h k = rw (h, k)

  pub float_under : q ≡ number → (p ≡ int → ⊥) → eqb p float ≡ under_number p q
  unfolding under_number
  float_under h n = rw (h, ne_eqb p int n) (sym (and_true (eqb p float)))

  pub not_under : (q ≡ number → ⊥) → false ≡ under_number p q
  unfolding under_number
  not_under n = rw (ne_eqb q number n) (sym (and_false (eqb p int || eqb p float)))

-- `compatible`, of two kinds that differ
module _ (g : Graph) (a b : Entry) where
  pub same_kind : a.kind ≡ b.kind → true ≡ compatible g a b
  unfolding compatible
  same_kind q = rw (eq-eqb _ _ q)

  module _ (ne : a.kind ≡ b.kind → ⊥) where
    no_two : (t u : Bool) → is primitive a ≡ t → is primitive b ≡ u → (t && u && under_number a.x b.x) ≡ false
    unfolding is
    no_two true true p q = absurd (ne (eqb-true a.kind primitive p ∙ sym (eqb-true b.kind primitive q)))
    no_two true false p q = refl
    no_two false u p q = refl

    no_primitives : (is primitive a && is primitive b && under_number a.x b.x) ≡ false
    no_primitives = no_two (is primitive a) (is primitive b) refl refl

    differ : compatible g a b ≡ ((is lambda b && has_functor g a) || is named b)
    unfolding compatible
    differ = rw (ne_eqb a.kind b.kind ne, no_primitives)

    pub to_named : b.kind ≡ named → true ≡ compatible g a b
    unfolding is
    to_named q = sym (differ ∙ rw q)

    pub to_lambda : b.kind ≡ lambda → has_functor g a ≡ compatible g a b
    unfolding is
    to_lambda q = sym (differ ∙ rw q (or_false (has_functor g a)))

    pub to_other : (b.kind ≡ named → ⊥) → (b.kind ≡ lambda → ⊥) → false ≡ compatible g a b
    unfolding is
    to_other n l = sym (differ ∙ rw (ne_eqb b.kind lambda l, ne_eqb b.kind named n))

-- by the entries' numbers
module _ (s : Store) (good : Good s) (i : ℕ) (lt : i < length s.entries) where
  pub shape_inside : (o : EntryOut) → o ≡ read_out (entry_at s.entries i) → ShapeInside s.fields (shape_of o)
  shape_inside o q = rw q (shaped_inside s (entry_at s.entries i) (inside s good i lt) (reads s good i lt))

  pub functor_at : (o : EntryOut) → o ≡ read_out (entry_at s.entries i) → functor_record (graph_of s) (entry_at s.entries i) ≡ functor_by (graph_of s) o
  functor_at o q = rw q (functor_read (graph_of s) (entry_at s.entries i) (reads s good i lt))

  pub functor_none : (o : EntryOut) → o ≡ read_out (entry_at s.entries i) → OneOf (0 ∷ 1 ∷ 2 ∷ 3 ∷ 5 ∷ 6 ∷ 7 ∷ 8 ∷ []) (tag_of the_type o) → None ≡ functor_record (graph_of s) (entry_at s.entries i)
  functor_none o q h = no_functor (graph_of s) o h ∙ sym (functor_at o q)

pub disjoint_by : (s : Store) (good : Good s) (i j : ℕ) → i < length s.entries → j < length s.entries
    → (o p : EntryOut) → o ≡ read_out (entry_at s.entries i) → p ≡ read_out (entry_at s.entries j)
    → shapes_disjoint (graph_of s) (shape_of o) (shape_of p) ≡ disjoint (graph_of s) (entry_at s.entries i) (entry_at s.entries j)
disjoint_by s good i j li lj o p q r =
    let a : Entry = entry_at s.entries i in
    let b : Entry = entry_at s.entries j in
    rw (q, r) (sym (by_shape (graph_of s) a b (shaped a (reads s good i li)) (shaped b (reads s good j lj)) (shape_inside s good i li (read_out a) refl) (shape_inside s good j lj (read_out b) refl)))

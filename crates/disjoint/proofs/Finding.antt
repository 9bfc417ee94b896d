-- What a caller of field_named and functor_of goes by: the field that was found, and that its record is there.
-- Assumes nothing.
use Rattle.std.specs.Prelude.{None, Some}
use Prim.Native.Nat.{ℕ, ◌+◌, ◌≤◌, ◌<◌}
use mathlib.Core.Path.{◌≡◌, sym, ◌∙◌}
use mathlib.Core.List.{List}
use lib.ListN.{length, take, drop}
use Rattle.model.specs.Table.{Field, Store, graph_of, entry_at}
use Rattle.model.specs.Shapes.{field_named, functor_of}
use Rattle.laws.specs.Good.{Good}
use Rattle.image.specs.Records.{field_at}
use Rattle.disjoint.specs.Fields.{number_named, functor_record}
use Rattle.disjoint.proofs.Fields.{named_is, named_inside, functor_is, functor_inside}
use Rattle.disjoint.proofs.Views.{inside}

module _ (fs : List Field) (first count name : ℕ) (h : first + count ≤ length fs) where
  pub named_found : {i : ℕ} → number_named fs first count name ≡ Some i → field_named (take count (drop first fs)) name ≡ Some (field_at fs i)
  named_found q = sym (named_is fs first count name h) ∙ rw q

  pub named_there : {i : ℕ} → number_named fs first count name ≡ Some i → i < length fs
  named_there q = rw q at (named_inside fs first count name h)

  pub named_nothing : number_named fs first count name ≡ None → field_named (take count (drop first fs)) name ≡ None
  named_nothing q = sym (named_is fs first count name h) ∙ rw q

module _ (s : Store) (good : Good s) (n : ℕ) (lt : n < length s.entries) where
  pub functor_found : {i : ℕ} → functor_record (graph_of s) (entry_at s.entries n) ≡ Some i → functor_of (graph_of s) (entry_at s.entries n) ≡ Some (field_at s.fields i)
  functor_found q = sym (functor_is (graph_of s) (entry_at s.entries n) (inside s good n lt)) ∙ rw q

  pub functor_there : {i : ℕ} → functor_record (graph_of s) (entry_at s.entries n) ≡ Some i → i < length s.fields
  functor_there q = rw q at (functor_inside (graph_of s) (entry_at s.entries n) (inside s good n lt))

  pub functor_nothing : functor_record (graph_of s) (entry_at s.entries n) ≡ None → functor_of (graph_of s) (entry_at s.entries n) ≡ None
  functor_nothing q = sym (functor_is (graph_of s) (entry_at s.entries n) (inside s good n lt)) ∙ rw q

-- An entry read out, by its kind; what a good store says of the components and fields of one. Assumes nothing.
use Prim.Native.Nat.{ℕ, zero, suc, ◌+◌, ◌≤◌, ◌<◌}
use native.Mathlib.Omega.{arith}
use mathlib.Core.Path.{◌≡◌, refl}
use lib.ListN.{length}
use lib.Dec.{T}
use Rattle.model.specs.Format.{attrset, union}
use Rattle.model.specs.Table.{Entry, Store, entry_at, is, is_open}
use Rattle.model.specs.Formed.{kind_known, components_below, one_component, two_components, fields_right}
use Rattle.model.specs.Calls.{read_out, dynamic_of}
use Rattle.model.specs.declared.Attrset.{Attrset}
use Rattle.model.specs.declared.Entry.{Entry as EntryOut}
use Rattle.model.specs.declared.Entry.TheVariants as E
use Rattle.laws.specs.Good.{entry_good, Good}
use Rattle.laws.proofs.Tests.{nth, le_of, lt_of}

abbrev pub attrset_of : Entry → Attrset
attrset_of e = record { first = e.x; count = e.y; is_open = is_open e; dynamic = dynamic_of e }

-- which kind an entry has that reads out so
pub data Reads (e : Entry) : EntryOut → Type 0 where
  a_variable : e.kind ≡ 0 → Reads e (E.Variable e.x)
  a_primitive : e.kind ≡ 1 → Reads e (E.Primitive e.x)
  a_list : e.kind ≡ 2 → Reads e (E.List e.x)
  a_lambda : e.kind ≡ 3 → Reads e (E.Lambda e.x e.y)
  an_attrset : e.kind ≡ 4 → Reads e (E.AttrSet (attrset_of e))
  a_named : e.kind ≡ 5 → Reads e (E.Named e.x e.y)
  a_neg : e.kind ≡ 6 → Reads e (E.Neg e.x)
  an_inter : e.kind ≡ 7 → Reads e (E.Inter e.x e.y)
  a_union : e.kind ≡ 8 → Reads e (E.Union e.x e.y)

reads_by : (e : Entry) (k : ℕ) → e.kind ≡ k → k ≤ union → Reads e (read_out e)
unfolding read_out is
reads_by e zero q h = let z : read_out e ≡ E.Variable e.x = rw q in rw z (a_variable q)
reads_by e (suc zero) q h = let z : read_out e ≡ E.Primitive e.x = rw q in rw z (a_primitive q)
reads_by e (suc (suc zero)) q h = let z : read_out e ≡ E.List e.x = rw q in rw z (a_list q)
reads_by e (suc (suc (suc zero))) q h = let z : read_out e ≡ E.Lambda e.x e.y = rw q in rw z (a_lambda q)
reads_by e (suc (suc (suc (suc zero)))) q h = let z : read_out e ≡ E.AttrSet (attrset_of e) = rw q in rw z (an_attrset q)
reads_by e (suc (suc (suc (suc (suc zero))))) q h = let z : read_out e ≡ E.Named e.x e.y = rw q in rw z (a_named q)
reads_by e (suc (suc (suc (suc (suc (suc zero)))))) q h = let z : read_out e ≡ E.Neg e.x = rw q in rw z (a_neg q)
reads_by e (suc (suc (suc (suc (suc (suc (suc zero))))))) q h = let z : read_out e ≡ E.Inter e.x e.y = rw q in rw z (an_inter q)
reads_by e (suc (suc (suc (suc (suc (suc (suc (suc zero)))))))) q h = let z : read_out e ≡ E.Union e.x e.y = rw q in rw z (a_union q)
reads_by e (suc (suc (suc (suc (suc (suc (suc (suc (suc k))))))))) q h = absurd (omega arith)

-- the components, and the fields, of an entry with number i
abbrev pub Under : ℕ → EntryOut → Type 0
Under i (E.Variable l) = Unit {0}
Under i (E.Primitive p) = Unit {0}
Under i (E.List x) = x < i
Under i (E.Lambda x y) = (x < i) × (y < i)
Under i (E.AttrSet a) = Unit {0}
Under i (E.Named x l) = x < i
Under i (E.Neg x) = x < i
Under i (E.Inter x y) = (x < i) × (y < i)
Under i (E.Union x y) = (x < i) × (y < i)

under_by : (i : ℕ) (e : Entry) {o : EntryOut} → T (components_below i e) → Reads e o → Under i o
unfolding components_below one_component two_components is
under_by i e b (a_variable q) = tt
under_by i e b (a_primitive q) = tt
under_by i e b (a_list q) = lt_of e.x i (rw q at (nth _ 0 b))
under_by i e b (a_lambda q) = (lt_of e.x i (rw q at (nth _ 0 b)), lt_of e.y i (rw q at (nth _ 1 b)))
under_by i e b (an_attrset q) = tt
under_by i e b (a_named q) = lt_of e.x i (rw q at (nth _ 0 b))
under_by i e b (a_neg q) = lt_of e.x i (rw q at (nth _ 0 b))
under_by i e b (an_inter q) = (lt_of e.x i (rw q at (nth _ 0 b)), lt_of e.y i (rw q at (nth _ 1 b)))
under_by i e b (a_union q) = (lt_of e.x i (rw q at (nth _ 0 b)), lt_of e.y i (rw q at (nth _ 1 b)))

module _ (s : Store) (good : Good s) (i : ℕ) (lt : i < length s.entries) where
  pub reads : Reads (entry_at s.entries i) (read_out (entry_at s.entries i))
  unfolding entry_good kind_known
  reads = reads_by (entry_at s.entries i) (entry_at s.entries i).kind refl (le_of (entry_at s.entries i).kind union (nth _ 0 (good.entries i lt)))

  pub under : (o : EntryOut) → read_out (entry_at s.entries i) ≡ o → Under i o
  unfolding entry_good
  under o q = rw q at (under_by i (entry_at s.entries i) (nth _ 2 (good.entries i lt)) reads)

  pub inside : (entry_at s.entries i).kind ≡ attrset → (entry_at s.entries i).x + (entry_at s.entries i).y ≤ length s.fields
  unfolding entry_good fields_right is
  inside q = le_of ((entry_at s.entries i).x + (entry_at s.entries i).y) (length s.fields) (nth _ 0 (rw q at (nth _ 7 (good.entries i lt))))

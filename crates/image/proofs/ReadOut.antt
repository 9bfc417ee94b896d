-- An entry read out, by its kind. Assumes nothing.
use Prim.Native.Nat.{ℕ}
use mathlib.Core.Path.{◌≡◌, refl, sym, ap, ◌∙◌}
use mathlib.Core.Bool.{cond}
use lib.Dec.{eqb}
use borrow.Author.Tests.{ne_eqb}
use Rattle.model.specs.Table.{Entry, is, is_open, has_dynamic}
use Rattle.model.specs.Calls.{read_out, dynamic_of}
use Rattle.model.specs.declared.Attrset.{Attrset}
use Rattle.model.specs.declared.Entry.{Entry as EntryOut}
use Rattle.model.specs.declared.Entry.TheVariants as E
use Rattle.image.specs.Records.{attrset_read}

-- what is read out, were the kind k
read_kind : ℕ → Entry → EntryOut
read_kind k e =
    cond (eqb k 0) (E.Variable e.x)
    (cond (eqb k 1) (E.Primitive e.x)
    (cond (eqb k 2) (E.List e.x)
    (cond (eqb k 3) (E.Lambda e.x e.y)
    (cond (eqb k 4) (E.AttrSet (attrset_read e.x e.y e.z e.flags))
    (cond (eqb k 5) (E.Named e.x e.y)
    (cond (eqb k 6) (E.Neg e.x)
    (cond (eqb k 7) (E.Inter e.x e.y)
    (E.Union e.x e.y))))))))

read_by : (e : Entry) → read_out e ≡ read_kind e.kind e
unfolding read_out is read_kind is_open dynamic_of has_dynamic
read_by e = refl

module _ (e : Entry) (k : ℕ) (h : k ≡ e.kind) where
  of_kind : read_kind k e ≡ read_out e
  of_kind = ap (λ (n : ℕ). read_kind n e) h ∙ sym (read_by e)

  pub read_variable : (x : ℕ) → x ≡ e.x → k ≡ 0 → E.Variable x ≡ read_out e
  unfolding read_kind
  read_variable x p r = rw p (sym (ap (λ (n : ℕ). read_kind n e) r) ∙ of_kind)

  pub read_primitive : (x : ℕ) → x ≡ e.x → k ≡ 1 → E.Primitive x ≡ read_out e
  unfolding read_kind
  read_primitive x p r = rw p (sym (ap (λ (n : ℕ). read_kind n e) r) ∙ of_kind)

  pub read_list : (x : ℕ) → x ≡ e.x → k ≡ 2 → E.List x ≡ read_out e
  unfolding read_kind
  read_list x p r = rw p (sym (ap (λ (n : ℕ). read_kind n e) r) ∙ of_kind)

  pub read_neg : (x : ℕ) → x ≡ e.x → k ≡ 6 → E.Neg x ≡ read_out e
  unfolding read_kind
  read_neg x p r = rw p (sym (ap (λ (n : ℕ). read_kind n e) r) ∙ of_kind)

  module _ (x y : ℕ) (p : x ≡ e.x) (q : y ≡ e.y) where
    pub read_lambda : k ≡ 3 → E.Lambda x y ≡ read_out e
    unfolding read_kind
    read_lambda r = rw (p, q) (sym (ap (λ (n : ℕ). read_kind n e) r) ∙ of_kind)

    pub read_named : k ≡ 5 → E.Named x y ≡ read_out e
    unfolding read_kind
    read_named r = rw (p, q) (sym (ap (λ (n : ℕ). read_kind n e) r) ∙ of_kind)

    pub read_inter : k ≡ 7 → E.Inter x y ≡ read_out e
    unfolding read_kind
    read_inter r = rw (p, q) (sym (ap (λ (n : ℕ). read_kind n e) r) ∙ of_kind)

    pub read_attrset : (z f : ℕ) → z ≡ e.z → f ≡ e.flags → k ≡ 4 → (a : Attrset) → a ≡ attrset_read x y z f → E.AttrSet a ≡ read_out e
    unfolding read_kind
    read_attrset z f s t r a g = rw (g, p, q, s, t) (sym (ap (λ (n : ℕ). read_kind n e) r) ∙ of_kind)

    pub read_union : (k ≡ 0 → ⊥) → (k ≡ 1 → ⊥) → (k ≡ 2 → ⊥) → (k ≡ 3 → ⊥) → (k ≡ 4 → ⊥) → (k ≡ 5 → ⊥) → (k ≡ 6 → ⊥) → (k ≡ 7 → ⊥) → E.Union x y ≡ read_out e
    unfolding read_kind
    read_union a b c d g i j l =
        let z : read_kind k e ≡ E.Union e.x e.y = rw (ne_eqb k 0 a, ne_eqb k 1 b, ne_eqb k 2 c, ne_eqb k 3 d, ne_eqb k 4 g, ne_eqb k 5 i, ne_eqb k 6 j, ne_eqb k 7 l) in
        rw (p, q) (sym z ∙ of_kind)

-- The pairs of sup's fields put on pending, last first: where the loop over the fields stands. Assumes nothing.
use Rattle.std.specs.Prelude.{None, Option, Some}
use Prim.Native.Nat.{ℕ, zero, suc, ◌+◌, ◌-◌, ◌≤◌, ◌<◌}
use native.Mathlib.Omega.{arith}
use mathlib.Core.Path.{◌≡◌, refl, sym, ap, subst, ◌∙◌}
use mathlib.Core.List.{List, [], ◌∷◌, ◌++◌, reverse, reverse-cons, reverse-append, append_assoc, append-nil}
use lib.ListN.{length, length-append, length-reverse}
use types.Run.{OneOf, miss}
use denote.Enum.Declared.{tag_of}
use Rattle.model.specs.Table.{Field, Pair, ◌⊑◌, Table, table_of}
use Rattle.model.specs.Image.{table}
use Rattle.model.specs.declared.Attrset.{Attrset}
use Rattle.image.specs.Shown.{store_of, fields_in, pending_in, pending_to}
use Rattle.image.specs.Records.{field_at}
use Rattle.image.proofs.Laying.{seen, shown_as}
use Rattle.writes.proofs.Pending.{same_size_as}
use Rattle.disjoint.specs.Fields.{Inside, fields_held}
use Rattle.disjoint.proofs.Fields.{rest, none_left, whole}
use Rattle.constrain.specs.declared.FieldAsk.{FieldAsk}
use Rattle.constrain.specs.declared.FieldAsk.TheVariants as A
use Rattle.constrain.specs.contracts.FieldAsk.{the_type}
use Rattle.constrain.specs.Fields.{ask_of, add_asked, pairs_asked, dynamic_pairs, field_pairs}
use Rattle.constrain.proofs.Gathering.{pairs_next}
use Rattle.step.specs.Put.{field_pair}
use Rattle.step.specs.Taken.{Midway}

-- so many pairs more, or none
pub pending_none : {w : List ℕ} → Midway w (table w) → {ps : List Pair} → ps ≡ [] → Midway w (pending_to w (pending_in w ++ ps))
pending_none {w} s {ps} q = rw (q, append-nil) s

pub pending_one : (w : List ℕ) {v : List ℕ} {p : Pair} {ps : List Pair} → ps ≡ p ∷ [] → Midway v (pending_to w (pending_in w ++ (p ∷ []))) → Midway v (pending_to w (pending_in w ++ ps))
pending_one w q s = rw q s

pub pending_room : (w : List ℕ) {p : Pair} {ps : List Pair} → ps ≡ p ∷ [] → length (pending_in w) + length ps ≤ (store_of w).capacities.pending
    → length (pending_in w) < (store_of w).capacities.pending
pending_room w q h = let n = ap length q in omega arith

pub pending_size : {w v : List ℕ} {ps : List Pair} → Midway w (table w) → Midway v (pending_to w ps) → length v ≡ length w
pending_size s t = same_size_as t s refl

-- what a field asks
module _ (fs : List Field) (a : Attrset) (j : ℕ) where
  pub field_under : {x : ℕ} → ask_of a (fields_held fs a) (field_at fs j) ≡ A.Under x → field_pair fs a j ≡ (x ⊑ (field_at fs j).entry) ∷ []
  field_under q = rw q

  pub field_asked : {x e : ℕ} → ask_of a (fields_held fs a) (field_at fs j) ≡ A.Under x → e ≡ (field_at fs j).entry → field_pair fs a j ≡ (x ⊑ e) ∷ []
  field_asked {x} {e} q h = field_under q ∙ ap (λ (y : ℕ). (x ⊑ y) ∷ []) (sym h)

  not_under : (o : FieldAsk) → OneOf (1 ∷ 2 ∷ []) (tag_of the_type o) → add_asked o (field_at fs j) [] ≡ []
  not_under (A.Under x) h = absurd (miss (1 ∷ 2 ∷ []) 0 tt h)
  not_under A.Nothing h = refl
  not_under A.Missing h = refl

  pub field_free : {o : FieldAsk} → o ≡ ask_of a (fields_held fs a) (field_at fs j) → OneOf (1 ∷ 2 ∷ []) (tag_of the_type o) → field_pair fs a j ≡ []
  field_free {o} q h = rw (← q) (not_under o h)

-- two dynamic types
pub dynamic_both : {a b : (Option ℕ)} {m n : ℕ} → a ≡ Some m → b ≡ Some n → dynamic_pairs a b ≡ (m ⊑ n) ∷ []
dynamic_both p q = rw (p, q)

pub dynamic_first : {a : (Option ℕ)} (b : Option ℕ) → a ≡ None → dynamic_pairs a b ≡ []
dynamic_first b p = rw p

pub dynamic_second : {a b : (Option ℕ)} {m : ℕ} → a ≡ Some m → b ≡ None → dynamic_pairs a b ≡ []
dynamic_second p q = rw (p, q)

dynamic_reverse : (a b : Option ℕ) → reverse (dynamic_pairs a b) ≡ dynamic_pairs a b
dynamic_reverse None b = refl
dynamic_reverse (Some m) None = refl
dynamic_reverse (Some m) (Some n) = refl

pub dynamic_room : (w : List ℕ) (a b : Attrset) → length (pending_in w) + length (field_pairs (fields_in w) a b) ≤ (store_of w).capacities.pending
    → length (pending_in w) + length (dynamic_pairs a.dynamic b.dynamic) ≤ (store_of w).capacities.pending
unfolding field_pairs
dynamic_room w a b h =
    omega (arith, length-append (pairs_asked a (fields_held (fields_in w) a) (fields_held (fields_in w) b)) (dynamic_pairs a.dynamic b.dynamic))

-- the pairs of the fields from j on
module _ (fs : List Field) (a b : Attrset) where
  abbrev pub pairs_from : ℕ → List Pair
  pairs_from j = pairs_asked a (fields_held fs a) (rest fs j (b.first + b.count))

  asked_last : (o : FieldAsk) (f : Field) (ps : List Pair) → reverse (add_asked o f ps) ≡ reverse ps ++ add_asked o f []
  asked_last (A.Under x) f ps = reverse-cons (x ⊑ f.entry) ps
  asked_last A.Nothing f ps = sym (append-nil (reverse ps))
  asked_last A.Missing f ps = sym (append-nil (reverse ps))

  asked_more : (o : FieldAsk) (f : Field) (ps : List Pair) → length ps ≤ length (add_asked o f ps)
  asked_more (A.Under x) f ps = omega arith
  asked_more A.Nothing f ps = omega arith
  asked_more A.Missing f ps = omega arith

  module _ (inside : Inside fs b) where
    from_last : (i : ℕ) → i < b.first + b.count → reverse (pairs_from i) ≡ reverse (pairs_from (i + 1)) ++ field_pair fs a i
    from_last i h = ap reverse (pairs_next fs a i (b.first + b.count) h inside) ∙ asked_last (ask_of a (fields_held fs a) (field_at fs i)) (field_at fs i) (pairs_from (i + 1))

    fewer : (k i : ℕ) → i + k ≤ b.first + b.count → length (pairs_from (i + k)) ≤ length (pairs_from i)
    fewer zero i h = let z : i + 0 ≡ i = omega arith in rw z (omega arith)
    fewer (suc k) i h =
        let z : i + suc k ≡ (i + 1) + k = omega arith in
        let m : length (pairs_from ((i + 1) + k)) ≤ length (pairs_from (i + 1)) = fewer k (i + 1) (omega arith) in
        let n = asked_more (ask_of a (fields_held fs a) (field_at fs i)) (field_at fs i) (pairs_from (i + 1)) in
        rw (z, pairs_next fs a i (b.first + b.count) (omega arith) inside) (omega arith)

  all_from : pairs_from b.first ≡ pairs_asked a (fields_held fs a) (fields_held fs b)
  all_from = ap (pairs_asked a (fields_held fs a)) (sym (whole fs b.first b.count))

  none_from : pairs_from (b.first + b.count) ≡ []
  unfolding pairs_asked
  none_from = rw (none_left fs (b.first + b.count) (b.first + b.count) (omega arith))

-- the pair of the dynamic types is there, with room for the others
pub record Ready (w : List ℕ) (a b : Attrset) : Type 0 where
  pub shown : Midway w (table w)
  pub sub : Inside (fields_in w) a
  pub sup : Inside (fields_in w) b
  pub room : length (pending_in w) + length (pairs_asked a (fields_held (fields_in w) a) (fields_held (fields_in w) b)) ≤ (store_of w).capacities.pending

module _ (w : List ℕ) (a b : Attrset) {v : List ℕ} (s : Midway v (pending_to w (pending_in w ++ dynamic_pairs a.dynamic b.dynamic))) where
  pub ready : Inside (fields_in w) a → Inside (fields_in w) b
      → length (pending_in w) + length (field_pairs (fields_in w) a b) ≤ (store_of w).capacities.pending → Ready v a b
  unfolding field_pairs
  ready h k r =
      let qs : List Pair = pairs_asked a (fields_held (fields_in w) a) (fields_held (fields_in w) b) in
      let ds : List Pair = dynamic_pairs a.dynamic b.dynamic in
      let m = length-append qs ds in
      let n = length-append (pending_in w) ds in
      record {
        shown = shown_as s;
        sub = subst (λ (t : Table). Inside t.store.fields a) (sym (seen s)) h;
        sup = subst (λ (t : Table). Inside t.store.fields b) (sym (seen s)) k;
        room = subst (λ (t : Table). length t.pending + length (pairs_asked a (fields_held t.store.fields a) (fields_held t.store.fields b)) ≤ t.store.capacities.pending) (sym (seen s)) (omega arith);
      }

-- where the loop stands: the pairs from field j on are there, last first
pub record Putting (w₀ : List ℕ) (a b : Attrset) (j : ℕ) (w : List ℕ) : Type 0 where
  pub before : Ready w₀ a b
  pub shows : Midway w (pending_to w₀ (pending_in w₀ ++ reverse (pairs_from (fields_in w₀) a b j)))
  pub low : b.first ≤ j
  pub high : j ≤ b.first + b.count

pub putting_start : {w : List ℕ} {a b : Attrset} → Ready w a b → Putting w a b (b.first + b.count) w
putting_start {w} {a} {b} r =
    let q : reverse (pairs_from (fields_in w) a b (b.first + b.count)) ≡ [] = ap reverse (none_from (fields_in w) a b) in
    record { before = r; shows = pending_none r.shown q; low = omega arith; high = omega arith }

module _ {w₀ : List ℕ} {a b : Attrset} {j : ℕ} {w : List ℕ} (p : Putting w₀ a b j w) where
  pub putting_shown : Midway w (table w)
  putting_shown = shown_as p.shows

  pub putting_inside : Inside (fields_in w) a
  putting_inside = subst (λ (t : Table). Inside t.store.fields a) (sym (seen p.shows)) p.before.sub

  module _ (h : b.first < j) where
    pub putting_there : j - 1 < length (fields_in w)
    putting_there = subst (λ (t : Table). j - 1 < length t.store.fields) (sym (seen p.shows)) (omega (arith, p.high, p.before.sup))

    last_is : reverse (pairs_from (fields_in w₀) a b (j - 1)) ≡ reverse (pairs_from (fields_in w₀) a b j) ++ field_pair (fields_in w₀) a (j - 1)
    last_is =
        let k : (j - 1) + 1 ≡ j = omega arith in
        from_last (fields_in w₀) a b p.before.sup (j - 1) (omega (arith, p.high))
        ∙ ap (λ (i : ℕ). reverse (pairs_from (fields_in w₀) a b i) ++ field_pair (fields_in w₀) a (j - 1)) k

    pub putting_room : length (pending_in w) + length (field_pair (fields_in w) a (j - 1)) ≤ (store_of w).capacities.pending
    putting_room =
        let fs : List Field = fields_in w₀ in
        let k : b.first + ((j - 1) - b.first) ≡ j - 1 = omega arith in
        let few : length (pairs_from fs a b (j - 1)) ≤ length (pairs_from fs a b b.first) =
        subst (λ (i : ℕ). length (pairs_from fs a b i) ≤ length (pairs_from fs a b b.first)) k
        (fewer fs a b p.before.sup ((j - 1) - b.first) b.first (omega (arith, p.high))) in
        let all = ap length (all_from fs a b) in
        let n = ap length last_is in
        let x = length-append (reverse (pairs_from fs a b j)) (field_pair fs a (j - 1)) in
        let y = length-reverse (pairs_from fs a b (j - 1)) in
        let m = length-append (pending_in w₀) (reverse (pairs_from fs a b j)) in
        let r = p.before.room in
        subst (λ (t : Table). length t.pending + length (field_pair t.store.fields a (j - 1)) ≤ t.store.capacities.pending) (sym (seen p.shows)) (omega arith)

    pub putting_more : {v : List ℕ} → Midway v (pending_to w (pending_in w ++ field_pair (fields_in w) a (j - 1))) → Putting w₀ a b (j - 1) v
    putting_more {v} s =
        let ps : List Pair = reverse (pairs_from (fields_in w₀) a b j) in
        let f : List Pair = field_pair (fields_in w₀) a (j - 1) in
        let t : Midway v (pending_to w₀ ((pending_in w₀ ++ ps) ++ f)) = subst (λ (t : Table). Midway v (table_of t.store (t.pending ++ field_pair t.store.fields a (j - 1)))) (seen p.shows) s in
        let q : (pending_in w₀ ++ ps) ++ f ≡ pending_in w₀ ++ reverse (pairs_from (fields_in w₀) a b (j - 1)) =
        append_assoc (pending_in w₀) ps f ∙ ap (λ (l : List Pair). pending_in w₀ ++ l) (sym last_is) in
        record { before = p.before; shows = subst (λ (l : List Pair). Midway v (pending_to w₀ l)) q t; low = omega arith; high = omega (arith, p.high) }

-- all are put
pub putting_end : (w : List ℕ) (a b : Attrset) {v u : List ℕ} {j : ℕ} → Midway v (pending_to w (pending_in w ++ dynamic_pairs a.dynamic b.dynamic))
    → Putting v a b j u → j ≤ b.first → Midway u (pending_to w (pending_in w ++ reverse (field_pairs (fields_in w) a b)))
unfolding field_pairs
putting_end w a b {v} {u} {j} s p h =
    let e : j ≡ b.first = omega (arith, p.low) in
    let q : pairs_from (fields_in v) a b j ≡ pairs_asked a (fields_held (fields_in v) a) (fields_held (fields_in v) b) = ap (pairs_from (fields_in v) a b) e ∙ all_from (fields_in v) a b in
    let qs : List Pair = pairs_asked a (fields_held (fields_in w) a) (fields_held (fields_in w) b) in
    let ds : List Pair = dynamic_pairs a.dynamic b.dynamic in
    let x : Midway u (pending_to v (pending_in v ++ reverse (pairs_asked a (fields_held (fields_in v) a) (fields_held (fields_in v) b)))) =
    subst (λ (l : List Pair). Midway u (pending_to v (pending_in v ++ reverse l))) q p.shows in
    let y : Midway u (pending_to w ((pending_in w ++ ds) ++ reverse qs)) =
    subst (λ (t : Table). Midway u (table_of t.store (t.pending ++ reverse (pairs_asked a (fields_held t.store.fields a) (fields_held t.store.fields b))))) (seen s) x in
    let z : (pending_in w ++ ds) ++ reverse qs ≡ pending_in w ++ reverse (qs ++ ds) =
    append_assoc (pending_in w) ds (reverse qs)
    ∙ ap (λ (l : List Pair). pending_in w ++ l) (ap (λ (l : List Pair). l ++ reverse qs) (sym (dynamic_reverse a.dynamic b.dynamic)) ∙ sym (reverse-append qs ds)) in
    subst (λ (l : List Pair). Midway u (pending_to w l)) z y

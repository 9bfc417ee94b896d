-- What is known at each place of the code that makes Neg(n). Assumes nothing.
use Rattle.std.specs.Prelude.{None, Option, Some}
use Prim.Native.Nat.{ℕ, suc, ◌+◌, ◌-◌, ◌≤◌, ◌<◌}
use native.Mathlib.Omega.{arith}
use mathlib.Core.Path.{◌≡◌, refl, sym, ap, subst, ◌∙◌}
use mathlib.Core.List.{List}
use mathlib.Core.Logic.{⊎_elim}
use lib.ListN.{length}
use Rattle.model.specs.Format.{spread_most, neg, inter, union}
use Rattle.model.specs.Table.{Entry, Table, with_entries, entry_at}
use Rattle.model.specs.Image.{table}
use Rattle.model.specs.Making.{Making, spread_at, spread_of, put_entry, new_entry, with_negation, cached_as, make_neg}
use Rattle.laws.specs.Good.{EntriesGood, CachedLow}
use Rattle.laws.proofs.Entries.{lt_or_ge, changed_length, x_known, y_known, spread_known}
use Rattle.laws.proofs.NewEntries.{new_length}
use Rattle.laws.proofs.Undone.{undoable_trans}
use Rattle.laws.proofs.Negation.{Grown, neg_grown, Deep, deep_within}
use Rattle.image.specs.Shown.{Shows, Shown, store_of, entries_of, fields_in}
use Rattle.image.proofs.Laying.{seen, shown}
use Rattle.type_table.specs.Made.{entries_in, Added, Negatable, UndoesTo, NegatedIn}
use Rattle.type_table.proofs.Rounds.{kind_known_lem, neg_cached, neg_twice, neg_fresh, neg_over}
use Rattle.type_table.proofs.WaysOut.{spread_inner, spread_both}
use Rattle.type_table.proofs.Undoing.{seen_entries}

pub never : (c : ℕ) → None ≡ Some c → ⊥
never c e = let z : ◌≡◌ {A = ℕ} 0 1 = cc in omega arith

cached_length : (es : List Entry) (n kind x y : ℕ) → length (cached_as n (new_entry es kind x y)).after ≡ length es + 1
unfolding cached_as
cached_length es n kind x y =
    changed_length (with_negation (suc (new_entry es kind x y).number)) (new_entry es kind x y).after n ∙ new_length es kind x y

-- what a negation answers says whether there was room
module _ (t : Table) (n : ℕ) (v : List ℕ) where
  abbrev m : Making
  m = make_neg t.store.entries n

  pub full_lacks : NegatedIn t n None v → t.store.capacities.entries < length (make_neg t.store.entries n).after
  full_lacks a =
      ⊎_elim
      (λ (l : t.store.capacities.entries < length m.after). l)
      (λ (l : length m.after ≤ t.store.capacities.entries). absurd (never _ (a.done l).0))
      (lt_or_ge t.store.capacities.entries (length m.after))

  pub made_fits : (p : ℕ) → NegatedIn t n (Some p) v → length (make_neg t.store.entries n).after ≤ t.store.capacities.entries
  made_fits p a =
      ⊎_elim
      (λ (l : t.store.capacities.entries < length m.after). absurd (never p (sym (a.full l).0)))
      (λ (l : length m.after ≤ t.store.capacities.entries). l)
      (lt_or_ge t.store.capacities.entries (length m.after))

  pub made_number : (p : ℕ) → NegatedIn t n (Some p) v → p ≡ (make_neg t.store.entries n).number
  made_number p a = let q : Some p ≡ Some m.number = (a.done (made_fits p a)).0 in cc

  pub made_shows : (p : ℕ) → NegatedIn t n (Some p) v → Shows v (entries_in t (make_neg t.store.entries n).after)
  made_shows p a = (a.done (made_fits p a)).1

-- nothing is new, or an entry of its own
module _ (w : List ℕ) (n : ℕ) (r : Negatable w n) where
  give : (c : ℕ) → make_neg (entries_of w) n ≡ record { number = c; after = entries_of w } → NegatedIn (table w) n (Some c) w
  unfolding with_entries
  give c e = record {
    done = λ le. rw e (refl, r.shows);
    full = λ gt. let z : length (make_neg (entries_of w) n).after ≡ length (entries_of w) = ap (λ (m : Making). length m.after) e in absurd (omega (arith, r.shows.within.held.entries));
  }

  pub cached_back : (cached : ℕ) → cached ≡ (entry_at (entries_of w) n).negation → 0 < cached → NegatedIn (table w) n (Some (cached - 1)) w
  cached_back cached e h = give (cached - 1) (neg_cached (entries_of w) (fields_in w) (store_of w).names n r.good r.below (cached - 1) (omega arith))

  pub twice_back : (cached kind x : ℕ) → cached ≡ (entry_at (entries_of w) n).negation → cached ≤ 0 → kind ≡ (entry_at (entries_of w) n).kind → neg ≤ kind → kind < inter
      → x ≡ (entry_at (entries_of w) n).x → NegatedIn (table w) n (Some x) w
  twice_back cached kind x e z f l u q =
      rw q (give (entry_at (entries_of w) n).x (neg_twice (entries_of w) (fields_in w) (store_of w).names n r.good r.below (omega arith) (omega arith)))

  pub fresh_back : (cached kind spread : ℕ) (a : Option ℕ) (v : List ℕ) → cached ≡ (entry_at (entries_of w) n).negation → cached ≤ 0 → kind ≡ (entry_at (entries_of w) n).kind → kind < neg
      → spread ≡ spread_at (entries_of w) n → Added (table w) neg n 0 (1 + spread) n a v → NegatedIn (table w) n a v
  unfolding cached_as new_entry put_entry with_entries
  fresh_back cached kind spread a v e z f l q d =
      let es : List Entry = entries_of w in
      let k : make_neg es n ≡ cached_as n (new_entry es neg n 0) = neg_fresh es (fields_in w) (store_of w).names n r.good r.below (omega arith) (omega arith) in
      let len : length (make_neg es n).after ≡ length es + 1 = ap (λ (m : Making). length m.after) k ∙ cached_length es n neg n 0 in
      let s : spread_of es neg n 0 ≡ 1 + spread = spread_inner es neg n 0 (omega arith) (omega arith) ∙ ap (λ (i : ℕ). 1 + i) (sym q) in
      record {
        done = λ le. rw (k, s) (d.done (omega arith));
        full = λ gt. let b = d.full (omega arith) in (b.0, (es, (b.1, record { longer = omega arith; undo = λ i li. refl })));
      }

-- the parts of an inter or a union are to be made
pub record Parts (w : List ℕ) (n kind x y : ℕ) : Type 0 where
  pub pre : Negatable w n
  pub none : (entry_at (entries_of w) n).negation ≡ 0
  pub two : neg < (entry_at (entries_of w) n).kind
  pub kind_is : kind ≡ (entry_at (entries_of w) n).kind
  pub x_is : x ≡ (entry_at (entries_of w) n).x
  pub y_is : y ≡ (entry_at (entries_of w) n).y

pub parts : (w : List ℕ) (n cached kind x y : ℕ) → Negatable w n → cached ≡ (entry_at (entries_of w) n).negation → cached ≤ 0 → kind ≡ (entry_at (entries_of w) n).kind → inter ≤ kind
    → x ≡ (entry_at (entries_of w) n).x → y ≡ (entry_at (entries_of w) n).y → Parts w n kind x y
parts w n cached kind x y r e z f l g h = record { pre = r; none = omega arith; two = omega arith; kind_is = f; x_is = g; y_is = h }

-- the negations of the two parts, one after the other
abbrev pub left : List Entry → ℕ → Making
left es n = make_neg es (entry_at es n).x

abbrev pub right : List Entry → ℕ → Making
right es n = make_neg (left es n).after (entry_at es n).y

-- what is known after the first was made, and after the second
pub record First (w : List ℕ) (n y p : ℕ) (v : List ℕ) : Type 0 where
  pub shows : Shows v (entries_in (table w) (left (entries_of w) n).after)
  pub number : p ≡ (left (entries_of w) n).number
  pub falls : y < n
  pub pre : Negatable v y

pub record Second (w : List ℕ) (n p q : ℕ) (v : List ℕ) : Type 0 where
  pub shows : Shows v (entries_in (table w) (right (entries_of w) n).after)
  pub first_number : p ≡ (left (entries_of w) n).number
  pub second_number : q ≡ (right (entries_of w) n).number
  pub self : Shown v
  pub in_p : p < length (entries_of v)
  pub in_q : q < length (entries_of v)
  pub in_n : n < length (entries_of v)
  pub low_p : spread_at (entries_of v) p ≤ 1049600
  pub low_q : spread_at (entries_of v) q ≤ 1049600

module _ (w : List ℕ) (n kind x y : ℕ) (s : Parts w n kind x y) where
  below_x : (entry_at (entries_of w) n).x < n
  below_x = x_known (entries_of w) (fields_in w) (store_of w).names s.pre.good n s.pre.below (omega (arith, s.two))

  below_y : (entry_at (entries_of w) n).y < n
  below_y = y_known (entries_of w) (fields_in w) (store_of w).names s.pre.good n s.pre.below s.two

  under : n < length (entries_of w)
  under = s.pre.below

  grown_x : Grown (entries_of w) (fields_in w) (store_of w).names (entry_at (entries_of w) n).x (left (entries_of w) n)
  grown_x = neg_grown (entries_of w) (fields_in w) (store_of w).names (entry_at (entries_of w) n).x s.pre.good (omega (arith, below_x, under))

  grown_y : Grown (left (entries_of w) n).after (fields_in w) (store_of w).names (entry_at (entries_of w) n).y (right (entries_of w) n)
  grown_y = neg_grown (left (entries_of w) n).after (fields_in w) (store_of w).names (entry_at (entries_of w) n).y grown_x.good (omega (arith, below_y, under, grown_x.least))

  deep_x : Deep (entries_of w) (entry_at (entries_of w) n).x (left (entries_of w) n)
  unfolding make_neg
  deep_x = deep_within (fields_in w) (store_of w).names (suc (entry_at (entries_of w) n).x) (entries_of w) (entry_at (entries_of w) n).x s.pre.good s.pre.low (omega arith) (omega (arith, below_x, under))

  deep_y : Deep (left (entries_of w) n).after (entry_at (entries_of w) n).y (right (entries_of w) n)
  unfolding make_neg
  deep_y =
      deep_within (fields_in w) (store_of w).names (suc (entry_at (entries_of w) n).y) (left (entries_of w) n).after (entry_at (entries_of w) n).y grown_x.good deep_x.low (omega arith)
      (omega (arith, below_y, under, grown_x.least))

  sum : spread_at (entries_of w) n ≡ 1 + spread_at (entries_of w) (entry_at (entries_of w) n).x + spread_at (entries_of w) (entry_at (entries_of w) n).y
  sum =
      spread_known (entries_of w) (fields_in w) (store_of w).names s.pre.good n s.pre.below
      ∙ spread_both (entries_of w) (entry_at (entries_of w) n).kind (entry_at (entries_of w) n).x (entry_at (entries_of w) n).y s.two

  spread_y : spread_at (left (entries_of w) n).after (entry_at (entries_of w) n).y ≡ spread_at (entries_of w) (entry_at (entries_of w) n).y
  spread_y = (grown_x.kept.kept (entry_at (entries_of w) n).y (omega (arith, below_y, under))).spread

  over : make_neg (entries_of w) n ≡ cached_as n (new_entry (right (entries_of w) n).after (inter + union - (entry_at (entries_of w) n).kind) (left (entries_of w) n).number (right (entries_of w) n).number)
  over = neg_over (entries_of w) (fields_in w) (store_of w).names n s.pre.good s.pre.below s.none s.two

  size : length (make_neg (entries_of w) n).after ≡ length (right (entries_of w) n).after + 1
  size =
      ap (λ (j : Making). length j.after) over
      ∙ cached_length (right (entries_of w) n).after n (inter + union - (entry_at (entries_of w) n).kind) (left (entries_of w) n).number (right (entries_of w) n).number

  pub kind_low : kind ≤ union
  kind_low = omega (arith, s.kind_is, kind_known_lem (entries_of w) (fields_in w) (store_of w).names n s.pre.good s.pre.below)

  -- what the first call asks
  pub pre_one : (x < n) × Negatable w x
  pre_one = rw s.x_is (
    below_x,
    record {
      shows = s.pre.shows;
      good = s.pre.good;
      low = s.pre.low;
      below = omega (arith, below_x, under);
      shallow = omega (arith, sum, s.pre.shallow);
    },
  )

  -- its answer, in the words of the model
  first_of : (a b : Option ℕ) (v : List ℕ) → NegatedIn (table w) x a v → a ≡ b → NegatedIn (table w) (entry_at (entries_of w) n).x b v
  first_of a b v d e = subst (λ (j : ℕ). NegatedIn (table w) j b v) s.x_is (subst (λ (c : Option ℕ). NegatedIn (table w) x c v) e d)

  pub fail_one : (a : Option ℕ) (v : List ℕ) → NegatedIn (table w) x a v → a ≡ None → NegatedIn (table w) n None v
  fail_one a v d e =
      let b = first_of a None v d e in
      let l = full_lacks (table w) (entry_at (entries_of w) n).x v b in
      record { done = λ le. absurd (omega (arith, size, grown_y.least)); full = λ gt. b.full l }

  pub done_one : (a : Option ℕ) (v : List ℕ) (p : ℕ) → NegatedIn (table w) x a v → a ≡ Some p → First w n y p v
  unfolding with_entries
  done_one a v p d e =
      let us : List Entry = (left (entries_of w) n).after in
      let b = first_of a (Some p) v d e in
      let sv : Shows v (entries_in (table w) us) = made_shows (table w) (entry_at (entries_of w) n).x v p b in
      let t : table v ≡ entries_in (table w) us = seen sv in
      record {
        shows = sv;
        number = made_number (table w) (entry_at (entries_of w) n).x v p b;
        falls = rw s.y_is below_y;
        pre = record {
          shows = shown sv;
          good = subst (λ (u : Table). EntriesGood u.store.entries u.store.fields u.store.names) (sym t) grown_x.good;
          low = subst (λ (u : Table). CachedLow u.store.entries) (sym t) deep_x.low;
          below = subst (λ (u : Table). y < length u.store.entries) (sym t) (rw s.y_is (omega (arith, below_y, under, grown_x.least)));
          shallow = subst (λ (u : Table). spread_at u.store.entries y ≤ spread_most) (sym t) (rw s.y_is (omega (arith, spread_y, sum, s.pre.shallow)));
        };
      }

  module _ (p : ℕ) (v : List ℕ) (f : First w n y p v) where
    second_of : (a b : Option ℕ) (u : List ℕ) → NegatedIn (table v) y a u → a ≡ b → NegatedIn (entries_in (table w) (left (entries_of w) n).after) (entry_at (entries_of w) n).y b u
    second_of a b u d e =
        subst (λ (j : ℕ). NegatedIn (entries_in (table w) (left (entries_of w) n).after) j b u) s.y_is
        (subst (λ (t : Table). NegatedIn t y b u) (seen f.shows) (subst (λ (c : Option ℕ). NegatedIn (table v) y c u) e d))

    pub fail_two : (a : Option ℕ) (u : List ℕ) → NegatedIn (table v) y a u → a ≡ None → NegatedIn (table w) n None u
    unfolding with_entries
    fail_two a u d e =
        let t : Table = entries_in (table w) (left (entries_of w) n).after in
        let b = second_of a None u d e in
        let l = full_lacks t (entry_at (entries_of w) n).y u b in
        let k = (b.full l).1 in
        let back : UndoesTo (entries_of w) k.0 = record {
          longer = omega (arith, grown_x.least, k.1.1.longer);
          undo = undoable_trans (entries_of w) (left (entries_of w) n).after k.0 grown_x.least grown_x.undo k.1.1.undo;
        } in
        record {
          done = λ le. absurd (omega (arith, size));
          full = λ gt. (refl, (k.0, (k.1.0, back)));
        }

    pub done_two : (a : Option ℕ) (u : List ℕ) (q : ℕ) → NegatedIn (table v) y a u → a ≡ Some q → Second w n p q u
    unfolding with_entries
    done_two a u q d e =
        let t : Table = entries_in (table w) (left (entries_of w) n).after in
        let us : List Entry = (right (entries_of w) n).after in
        let b = second_of a (Some q) u d e in
        let su : Shows u (entries_in (table w) us) = made_shows t (entry_at (entries_of w) n).y u q b in
        let num : q ≡ (right (entries_of w) n).number = made_number t (entry_at (entries_of w) n).y u q b in
        let g : entries_of u ≡ us = seen_entries (table w) u us su in
        let sp : spread_at us (left (entries_of w) n).number ≡ spread_at (left (entries_of w) n).after (left (entries_of w) n).number = (grown_y.kept.kept (left (entries_of w) n).number grown_x.number).spread in
        record {
          shows = su;
          first_number = f.number;
          second_number = num;
          self = shown su;
          in_p = rw (g, f.number) (omega (arith, grown_x.number, grown_y.least));
          in_q = rw (g, num) grown_y.number;
          in_n = rw g (omega (arith, under, grown_x.least, grown_y.least));
          low_p = rw (g, f.number) (omega (arith, deep_x.ratio, sum, s.pre.shallow));
          low_q = rw (g, num) (omega (arith, deep_y.ratio, spread_y, sum, s.pre.shallow));
        }

  -- both are made, and the whole is, or finds no room
  pub done_both : (p q : ℕ) (v : List ℕ) → Second w n p q v → (a : Option ℕ) (u : List ℕ) (i j : ℕ) → i ≡ spread_at (entries_of v) p → j ≡ spread_at (entries_of v) q
      → Added (table v) (inter + union - kind) p q (1 + i + j) n a u → NegatedIn (table w) n a u
  unfolding cached_as new_entry put_entry with_entries
  done_both p q v f a u i j ei ej d =
      let us : List Entry = (right (entries_of w) n).after in
      let lp : ℕ = (left (entries_of w) n).number in
      let lq : ℕ = (right (entries_of w) n).number in
      let k : ℕ = inter + union - (entry_at (entries_of w) n).kind in
      let g : entries_of v ≡ us = seen_entries (table w) v us f.shows in
      let so : spread_of us k lp lq ≡ 1 + i + j =
      spread_both us k lp lq (omega (arith, kind_low, s.kind_is, s.two)) ∙ sym (rw (ei, ej, g, f.first_number, f.second_number)) in
      let b : Added (entries_in (table w) us) (inter + union - kind) p q (1 + i + j) n a u = subst (λ (t : Table). Added t (inter + union - kind) p q (1 + i + j) n a u) (seen f.shows) d in
      let h : Added (entries_in (table w) us) k lp lq (1 + i + j) n a u = rw (← s.kind_is, ← f.first_number, ← f.second_number) b in
      let back : UndoesTo (entries_of w) us = record {
        longer = omega (arith, grown_x.least, grown_y.least);
        undo = undoable_trans (entries_of w) (left (entries_of w) n).after us grown_x.least grown_x.undo grown_y.undo;
      } in
      record {
        done = λ le. rw (over, so) (h.done (omega (arith, size)));
        full = λ gt.
            let z = h.full (omega (arith, size)) in (z.0, (us, (z.1, back)));
      }

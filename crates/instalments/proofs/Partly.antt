-- What is stopped under an allowance of n steps is stopped after just n steps, and the other way round; so there is one table where
-- it is stopped. Assumes nothing.
use mathlib.Core.Path.{◌≡◌, refl, sym, ap, ◌∙◌, subst}
use mathlib.Core.List.{List, [], ◌∷◌, ◌++◌, append-nil}
use Prim.Native.Nat.{ℕ, zero, suc, ◌+◌, ◌-◌, ◌≤◌, ◌<◌}
use native.Mathlib.Omega.{arith}
use Rattle.instalments.specs.Machine.{Outcome, fails, goes, Result, more_at, after}
use Rattle.instalments.specs.Nested.{Nested, done, failed, stopped, counting, then, in_turn, ruled, nested_to, nested}
use Rattle.instalments.specs.Whole.{End, well, Whole, nothing, goes_on, Partly, here, inside, beyond}
use Rattle.instalments.proofs.Roomless.{shown, run}
use Rattle.instalments.proofs.Laws.{machine_in_turn}
use Rattle.instalments.proofs.Whole.{stepped_goes, whole_goes, more_short}

module _ {T P F : Type 0} (rule : T → P → Outcome T P F) where
  -- what an end under an allowance of n tells of a list, and of the pair at its head
  abbrev Says : ℕ → T → List P → Nested T F → Type 0
  Says n t ps (done k u) = Whole rule t ps k (well u) × (k ≤ n)
  Says n t ps (failed k f u) = Unit {0}
  Says n t ps (stopped u) = Partly rule t ps n u

  abbrev SaysFirst : ℕ → T → P → Nested T F → Type 0
  SaysFirst n t p (done k u) =
      ((ps : List P) (m : ℕ) (w : T) → Partly rule u ps m w → Partly rule t (p ∷ ps) (k + m) w)
      × ((ps : List P) (l : ℕ) (e : End T F) → Whole rule u ps l e → Whole rule t (p ∷ ps) (k + l) e) × (k ≤ n)
  SaysFirst n t p (failed k f u) = Unit {0}
  SaysFirst n t p (stopped u) = (ps : List P) → Partly rule t (p ∷ ps) n u

  says_counting : (n : ℕ) (t u : T) (p : P) (ps : List P) (k : ℕ) → SaysFirst n t p (done k u) → (x : Nested T F) → Says (n - k) u ps x → Says n t (p ∷ ps) (counting k x)
  unfolding counting
  says_counting n t u p ps k h (done l v) a = (h.1 ps l (well v) a.0, omega (arith, h.2, a.1))
  says_counting n t u p ps k h (failed l f v) a = tt
  says_counting n t u p ps k h (stopped v) a =
      let z : k + (n - k) ≡ n = omega (arith, h.2) in
      subst (λ (m : ℕ). Partly rule t (p ∷ ps) m v) z (h.0 ps (n - k) v a)

  says_then : (n : ℕ) (t : T) (p : P) (ps : List P) (x : Nested T F) (k : ℕ → T → Nested T F) → SaysFirst n t p x → ((s : ℕ) (u : T) → Says (n - s) u ps (k s u)) → Says n t (p ∷ ps) (then x k)
  unfolding then
  says_then n t p ps (done s u) k h a = says_counting n t u p ps s h (k s u) (a s u)
  says_then n t p ps (failed s f u) k h a = tt
  says_then n t p ps (stopped u) k h a = h ps

  says_in_turn : (wholly : ℕ → T → P → Nested T F) (most : ℕ) → ((n : ℕ) → n ≤ most → (t : T) (p : P) → SaysFirst n t p (wholly n t p)) → (n : ℕ) → n ≤ most → (t : T) (ps : List P) → Says n t ps (in_turn wholly n t ps)
  unfolding in_turn
  says_in_turn wholly most h n le t [] = (nothing, omega arith)
  says_in_turn wholly most h n le t (p ∷ ps) =
      says_then n t p ps (wholly n t p) (λ s u. in_turn wholly (n - s) u ps) (h n le t p) (λ s u. says_in_turn wholly most h (n - s) (omega arith) u ps)

  says_opened : (n : ℕ) (t u : T) (p : P) (qs : List P) → rule t p ≡ goes u qs → (x : Nested T F) → Says n u qs x → SaysFirst (suc n) t p (counting 1 x)
  unfolding counting
  says_opened n t u p qs g (done k v) a = (λ ps m w q. beyond g a.0 q, λ ps l e w. goes_on g a.0 w, omega (arith, a.1))
  says_opened n t u p qs g (failed k f v) a = tt
  says_opened n t u p qs g (stopped v) a =
      λ ps.
      let z : 1 + n ≡ suc n = omega arith in
      subst (λ (m : ℕ). Partly rule t (p ∷ ps) m v) z (inside g a)

  says_ruled : (n : ℕ) (t : T) (p : P) (o : Outcome T P F) → rule t p ≡ o → (k : T → List P → Nested T F) → ((u : T) (qs : List P) → Says n u qs (k u qs)) → SaysFirst (suc n) t p (ruled o k)
  unfolding ruled
  says_ruled n t p (fails f u) g k a = tt
  says_ruled n t p (goes u qs) g k a = says_opened n t u p qs g (k u qs) (a u qs)

  says_nested : (d n : ℕ) → n ≤ d → (t : T) (p : P) → SaysFirst n t p (nested_to rule d n t p)
  unfolding nested_to
  says_nested zero zero le t p = λ ps. here
  says_nested zero (suc n) le t p = absurd (omega arith)
  says_nested (suc d) zero le t p = λ ps. here
  says_nested (suc d) (suc n) le t p = says_ruled n t p (rule t p) refl (in_turn (nested_to rule d) n) (says_in_turn (nested_to rule d) d (says_nested d) n (omega arith))

  says_all : (n : ℕ) (t : T) (ps : List P) → Says n t ps (in_turn (nested rule) n t ps)
  unfolding nested
  says_all n t ps = says_in_turn (λ m. nested_to rule m m) n (λ m le. says_nested m m (omega arith)) n (omega arith) t ps

  pub stopped_partly : (n : ℕ) (t u : T) (ps : List P) → in_turn (nested rule) n t ps ≡ stopped u → Partly rule t ps n u
  stopped_partly n t u ps e = subst (λ (x : Nested T F). Says n t ps x) e (says_all n t ps)

  -- the machine that never lacks room stops there too, whatever comes after
  after_more : (k : ℕ) (x : Result T P F) (u : T) (qs : List P) → x ≡ more_at u qs → after k x ≡ more_at u qs
  unfolding after
  after_more k x u qs e = ap (after k) e

  partly_run : {t u : T} {ps : List P} {n : ℕ} → Partly rule t ps n u → (rest : List P) → (qs : List P) × (run rule n t (ps ++ rest) ≡ more_at u qs)
  unfolding run
  partly_run (here {t = t} {p = p} {ps = ps}) rest = (p ∷ (ps ++ rest), refl)
  partly_run (inside {t = t} {u = u} {v = v} {p = p} {ps = ps} {qs = qs} {n = n} h w) rest =
      let k = partly_run w (ps ++ rest) in
      let z : 1 + n ≡ suc n = omega arith in (
        k.0,
        ap (λ (m : ℕ). run rule m t (p ∷ (ps ++ rest))) z
            ∙ stepped_goes rule (λ x l. run rule n x (l ++ (ps ++ rest))) h
            ∙ after_more 1 (run rule n u (qs ++ (ps ++ rest))) v k.0 k.1,
      )
  partly_run (beyond {t = t} {u = u} {v = v} {w = w} {p = p} {ps = ps} {qs = qs} {k = k} {n = n} h x y) rest =
      let l = partly_run y rest in
      let z : 1 + k + n ≡ suc (k + n) = omega arith in (
        l.0,
        ap (λ (m : ℕ). run rule m t (p ∷ (ps ++ rest))) z
            ∙ stepped_goes rule (λ a b. run rule (k + n) a (b ++ (ps ++ rest))) h
            ∙ after_more 1 (run rule (k + n) u (qs ++ (ps ++ rest))) w l.0
            (whole_goes rule x n (ps ++ rest) ∙ after_more k (run rule n v (ps ++ rest)) w l.0 l.1),
      )

  partly_more : {t u : T} {ps : List P} {n : ℕ} → Partly rule t ps n u → (qs : List P) × (run rule n t ps ≡ more_at u qs)
  partly_more {t} {u} {ps} {n} h = let k = partly_run h [] in (k.0, ap (run rule n t) (sym (append-nil ps)) ∙ k.1)

  pub partly_stopped : {t u : T} {ps : List P} {n : ℕ} → Partly rule t ps n u → in_turn (nested rule) n t ps ≡ stopped u
  unfolding shown
  partly_stopped {t} {u} {ps} {n} h = sym (machine_in_turn rule n t ps) ∙ ap shown (partly_more h).1

  -- there is one table where it is stopped
  pub partly_same : {t u v : T} {ps : List P} {n : ℕ} → Partly rule t ps n u → Partly rule t ps n v → u ≡ v
  partly_same {t} {u} {v} {ps} {n} h k =
      let e : ◌≡◌ {A = Nested T F} (stopped u) (stopped v) = sym (partly_stopped h) ∙ partly_stopped k in
      cc

  -- and it is stopped only before the whole is done
  pub partly_short : {t u : T} {ps : List P} {n k : ℕ} {e : End T F} → Partly rule t ps n u → Whole rule t ps k e → n < k
  partly_short {u = u} {n = n} h w = let k = partly_more h in more_short rule w n u k.0 k.1

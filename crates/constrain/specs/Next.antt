-- What `Next` means: the effect of a pair's rule on a graph. Assumes nothing.
use Rattle.std.specs.Prelude.{ℕ, ◌<◌, ◌≡◌, List, [], ◌∷◌, length}
use Rattle.model.specs.Format.{lambda, lower, upper}
use Rattle.model.specs.Table.{Entry, Field, Pair, ◌⊑◌, Graph}
use Rattle.model.specs.Making.{new_entry, make_neg}
use Rattle.model.specs.Rules.{Effect, mismatch, missing, follow, follow_made, target, join_bounds}
use Rattle.disjoint.specs.Fields.{Inside}
use Rattle.constrain.specs.declared.Words.{Words}
use Rattle.constrain.specs.declared.Pairs.{Pairs}
use Rattle.constrain.specs.declared.Pairs.TheVariants.{Nothing, One, Two, Fields}
use Rattle.constrain.specs.declared.Next.{Next}
use Rattle.constrain.specs.declared.Next.TheVariants as N
use Rattle.constrain.specs.Fields.{field_pairs}

abbrev pub words_at : Entry → Words
words_at e = record { kind = e.kind; x = e.x; y = e.y }

-- a lambda; the rules read no more of it
abbrev pub lambda_of : ℕ → ℕ → Entry
lambda_of param body = record { kind = lambda; x = param; y = body; z = 0; flags = 0; spread = 1; negation = 0 }

abbrev pub pairs_in : List Field → Pairs → List Pair
pairs_in fs Nothing = []
pairs_in fs (One a b) = (a ⊑ b) ∷ []
pairs_in fs (Two a b c d) = (a ⊑ b) ∷ (c ⊑ d) ∷ []
pairs_in fs (Fields a b n) = field_pairs fs a b

abbrev pub effect_of : Graph → Pair → Next → Effect
effect_of g p N.Mismatch = mismatch
effect_of g p (N.Missing name) = missing name
effect_of g p (N.Follow ps) = follow g (pairs_in g.fields ps)
effect_of g p (N.Isolate c d) = follow_made g c (target p.sup (make_neg g.entries d))
effect_of g p (N.Functor f param body) =
    let m = new_entry g.entries lambda param body in
    follow_made g f (new_entry m.after lambda p.sub m.number)
effect_of g p N.Upper = join_bounds g p.sub upper p.sup
effect_of g p N.Lower = join_bounds g p.sup lower p.sub

-- what is needed to apply it: its attrsets' records are there, and so many pairs; the side to be negated is an entry
abbrev pub PairsRight : List Field → Pairs → Type 0
PairsRight fs Nothing = Unit {0}
PairsRight fs (One a b) = Unit {0}
PairsRight fs (Two a b c d) = Unit {0}
PairsRight fs (Fields a b n) = Inside fs a × Inside fs b × (n ≡ length (field_pairs fs a b))

abbrev pub Applicable : Graph → Next → Type 0
Applicable g N.Mismatch = Unit {0}
Applicable g (N.Missing name) = Unit {0}
Applicable g (N.Follow ps) = PairsRight g.fields ps
Applicable g (N.Isolate c d) = d < length g.entries
Applicable g (N.Functor f param body) = Unit {0}
Applicable g N.Upper = Unit {0}
Applicable g N.Lower = Unit {0}

-- the pair comes to that effect
pub record Comes (g : Graph) (p : Pair) (r : Next) (e : Effect) : Type 0 where
  pub means : effect_of g p r ≡ e
  pub applies : Applicable g r

-- whatever sub is, and whatever sup is
abbrev pub ComesUnder : Graph → ℕ → Next → Effect → Type 0
ComesUnder g sup r e = (sub : ℕ) → Comes g (sub ⊑ sup) r e

abbrev pub ComesOf : Graph → ℕ → Next → Effect → Type 0
ComesOf g sub r e = (sup : ℕ) → Comes g (sub ⊑ sup) r e

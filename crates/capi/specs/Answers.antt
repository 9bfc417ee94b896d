-- What a C caller gets: each answer as the words of one struct; and what the words mean that C gives for a flag and a dynamic type.
-- proofs/OneToOne.antt shows that answers that differ have words that differ. Assumes nothing.
use Rattle.std.specs.Prelude.{ℕ, List, [], Bool, not, cond, length, get_or, None, Option, Some}
use Rattle.model.specs.Lists.{is_zero}
use Rattle.model.specs.Told.{Told, done, yes, more, failed, refused, unopened}
use Rattle.model.specs.Table as T
use Rattle.capi.specs.declared.Answer.{Answer}
use Rattle.capi.specs.declared.Capacities.{Capacities}

-- kind, number, steps, how many values, and the values, at most eight; 0 past the last
abbrev pub answer : ℕ → ℕ → ℕ → List ℕ → Answer
answer kind number steps vs = record {
  kind = kind;
  number = number;
  steps = steps;
  count = length vs;
  v0 = get_or vs 0 0;
  v1 = get_or vs 1 0;
  v2 = get_or vs 2 0;
  v3 = get_or vs 3 0;
  v4 = get_or vs 4 0;
  v5 = get_or vs 5 0;
  v6 = get_or vs 6 0;
  v7 = get_or vs 7 0;
}

-- kind: 0 done, 1 yes, 2 more, 3 failed, 4 refused, 5 refused at the opening; number: a failure's break kind, a refusal's number in 01, else 0
abbrev pub answer_of : ℕ → Told → Answer
answer_of steps (done vs) = answer 0 0 steps vs
answer_of steps yes = answer 1 0 steps []
answer_of steps more = answer 2 0 steps []
answer_of steps (failed kind vs) = answer 3 kind steps vs
answer_of steps (refused number vs) = answer 4 number steps vs
answer_of steps (unopened number vs) = answer 5 number steps vs

-- a flag: 0 is no, any other word yes
abbrev pub flag_of : ℕ → Bool
flag_of n = not (is_zero n)

-- a dynamic type: whether there is one, and its number, which counts for nothing where there is none
abbrev pub dynamic_of : ℕ → ℕ → Option ℕ
dynamic_of has n = cond (flag_of has) (Some n) None

-- capacities as they are handed over
abbrev pub capacities_of : Capacities → T.Capacities
capacities_of c = record { entries = c.entries; fields = c.fields; bounds = c.bounds; visited = c.visited; pending = c.pending; equals = c.equals }

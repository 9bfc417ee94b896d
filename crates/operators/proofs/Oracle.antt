-- What the Rust of tix answers for every operator and primitive. Written by tools/oracle/worked, from the
-- answers that tools/oracle/check holds to the Rust. Assumes nothing.
use mathlib.Core.List.{List, [], ◌∷◌}
use Rattle.std.specs.Prelude.{None, Some, Ok}
use Rattle.operators.specs.Operators.{Resolved, int, float, string, path, number}

-- a left primitive: what is known from it alone, and the result with each right primitive
pub record Row : Type 0 where
  pub known : Resolved
  pub results : List Resolved

-- an operator: what bounds it at once, and a row for each left primitive
pub record Operator : Type 0 where
  pub once : Resolved
  pub rows : List Row

abbrev – : Resolved
– = Ok None

abbrev I : Resolved
I = Ok (Some int)

abbrev F : Resolved
F = Ok (Some float)

abbrev S : Resolved
S = Ok (Some string)

abbrev P : Resolved
P = Ok (Some path)

abbrev N : Resolved
N = Ok (Some number)

abbrev row : Resolved → List Resolved → Row
row known results = record { known = known; results = results }

abbrev operator : Resolved → List Row → Operator
operator once rows = record { once = once; rows = rows }

unfoldable pub answers : List Operator
answers =
    -- Add
    operator – (
    row – (– ∷ – ∷ – ∷ – ∷ – ∷ – ∷ – ∷ – ∷ [])
    ∷ row – (– ∷ – ∷ – ∷ – ∷ – ∷ – ∷ – ∷ – ∷ [])
    ∷ row – (– ∷ – ∷ I ∷ F ∷ – ∷ – ∷ – ∷ N ∷ [])
    ∷ row – (– ∷ – ∷ F ∷ F ∷ – ∷ – ∷ – ∷ F ∷ [])
    ∷ row S (– ∷ – ∷ – ∷ – ∷ S ∷ S ∷ – ∷ – ∷ [])
    ∷ row P (– ∷ – ∷ – ∷ – ∷ P ∷ P ∷ – ∷ – ∷ [])
    ∷ row – (– ∷ – ∷ – ∷ – ∷ – ∷ – ∷ – ∷ – ∷ [])
    ∷ row – (– ∷ – ∷ N ∷ F ∷ – ∷ – ∷ – ∷ N ∷ [])
    ∷ []
    )
    -- Sub
    ∷ operator N (
    row – (– ∷ – ∷ – ∷ – ∷ – ∷ – ∷ – ∷ – ∷ [])
    ∷ row – (– ∷ – ∷ – ∷ – ∷ – ∷ – ∷ – ∷ – ∷ [])
    ∷ row – (– ∷ – ∷ I ∷ F ∷ – ∷ – ∷ – ∷ N ∷ [])
    ∷ row – (– ∷ – ∷ F ∷ F ∷ – ∷ – ∷ – ∷ F ∷ [])
    ∷ row – (– ∷ – ∷ – ∷ – ∷ – ∷ – ∷ – ∷ – ∷ [])
    ∷ row – (– ∷ – ∷ – ∷ – ∷ – ∷ – ∷ – ∷ – ∷ [])
    ∷ row – (– ∷ – ∷ – ∷ – ∷ – ∷ – ∷ – ∷ – ∷ [])
    ∷ row – (– ∷ – ∷ N ∷ F ∷ – ∷ – ∷ – ∷ N ∷ [])
    ∷ []
    )
    -- Mul
    ∷ operator N (
    row – (– ∷ – ∷ – ∷ – ∷ – ∷ – ∷ – ∷ – ∷ [])
    ∷ row – (– ∷ – ∷ – ∷ – ∷ – ∷ – ∷ – ∷ – ∷ [])
    ∷ row – (– ∷ – ∷ I ∷ F ∷ – ∷ – ∷ – ∷ N ∷ [])
    ∷ row – (– ∷ – ∷ F ∷ F ∷ – ∷ – ∷ – ∷ F ∷ [])
    ∷ row – (– ∷ – ∷ – ∷ – ∷ – ∷ – ∷ – ∷ – ∷ [])
    ∷ row – (– ∷ – ∷ – ∷ – ∷ – ∷ – ∷ – ∷ – ∷ [])
    ∷ row – (– ∷ – ∷ – ∷ – ∷ – ∷ – ∷ – ∷ – ∷ [])
    ∷ row – (– ∷ – ∷ N ∷ F ∷ – ∷ – ∷ – ∷ N ∷ [])
    ∷ []
    )
    -- Div
    ∷ operator N (
    row – (– ∷ – ∷ – ∷ – ∷ – ∷ – ∷ – ∷ – ∷ [])
    ∷ row – (– ∷ – ∷ – ∷ – ∷ – ∷ – ∷ – ∷ – ∷ [])
    ∷ row – (– ∷ – ∷ I ∷ F ∷ – ∷ – ∷ – ∷ N ∷ [])
    ∷ row – (– ∷ – ∷ F ∷ F ∷ – ∷ – ∷ – ∷ F ∷ [])
    ∷ row – (– ∷ – ∷ – ∷ – ∷ – ∷ – ∷ – ∷ – ∷ [])
    ∷ row – (– ∷ – ∷ – ∷ – ∷ – ∷ – ∷ – ∷ – ∷ [])
    ∷ row – (– ∷ – ∷ – ∷ – ∷ – ∷ – ∷ – ∷ – ∷ [])
    ∷ row – (– ∷ – ∷ N ∷ F ∷ – ∷ – ∷ – ∷ N ∷ [])
    ∷ []
    )
    ∷ []

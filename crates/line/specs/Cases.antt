-- Runs of the whole program: input and output, as bytes.
-- Assumes nothing.
use Rattle.std.specs.Prelude.{ℕ, ◌≡◌, List, [], ◌∷◌}
use Rattle.line.specs.Run.{run}

pub record Case : Type 0 where
  pub input : List ℕ
  pub output : List ℕ

abbrev pub cases : List Case
cases =
    -- document 01's example: `i - 9`, `i 61 7`, `p -`, `q -` give `new`, `new`, `61 7`, `end`, `- 9`, `61 7`, `end`
    record { input = 105 ∷ 32 ∷ 45 ∷ 32 ∷ 57 ∷ 10 ∷ 105 ∷ 32 ∷ 54 ∷ 49 ∷ 32 ∷ 55 ∷ 10 ∷ 112 ∷ 32 ∷ 45 ∷ 10 ∷ 113 ∷ 32 ∷ 45 ∷ 10 ∷ []; output = 110 ∷ 101 ∷ 119 ∷ 10 ∷ 110 ∷ 101 ∷ 119 ∷ 10 ∷ 54 ∷ 49 ∷ 32 ∷ 55 ∷ 10 ∷ 101 ∷ 110 ∷ 100 ∷ 10 ∷ 45 ∷ 32 ∷ 57 ∷ 10 ∷ 54 ∷ 49 ∷ 32 ∷ 55 ∷ 10 ∷ 101 ∷ 110 ∷ 100 ∷ 10 ∷ [] }
    -- nothing is no line, a newline is an empty line
    ∷ record { input = []; output = [] }
    ∷ record { input = 10 ∷ []; output = 98 ∷ 97 ∷ 100 ∷ 10 ∷ [] }
    ∷ []

abbrev pub AllRun : List Case → Type 0
AllRun [] = Unit {0}
AllRun (c ∷ cs) = (run c.input ≡ c.output) × AllRun cs

-- How many bytes two byte strings have in common from the front: the place of the first difference, or the shorter length.
-- Assumes nothing.
use Rattle.std.specs.Prelude.{ℕ, suc, ◌+◌, ◌≤◌, ◌<◌, Bool, true, false, cond, List, [], ◌∷◌, ◌≡◌, eqb, get_or}

unfoldable pub common : List ℕ → List ℕ → ℕ
common [] ys = 0
common (x ∷ xs) [] = 0
common (x ∷ xs) (y ∷ ys) = cond (eqb x y) (suc (common xs ys)) 0

-- a flag that answers a question, exactly
abbrev pub Says : Bool → Type 0 → Type 0
Says true P = P
Says false P = P → ⊥

-- the n bytes from a on are the same in both
abbrev pub Agree : List ℕ → List ℕ → ℕ → ℕ → Type 0
Agree xs ys a n = (i : ℕ) → a ≤ i → i < a + n → get_or xs i 0 ≡ get_or ys i 0

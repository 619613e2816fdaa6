-- A chain of free records: from the first one on, each names the next, and the last names the end mark. One law serves leaves and branches.
-- Assumes nothing.
use Rattle.std.specs.Prelude.{ℕ, zero, suc, ◌+◌, ◌≤◌, ◌<◌, ◌≡◌, List, [], ◌∷◌, length}
use Rattle.pictures.specs.Records.{at}

-- Following `next` from x visits exactly xs, each of them free, and then the end mark.
abbrev pub Chain : (Free : ℕ → Type 0) (next : ℕ → ℕ) (last : ℕ) → ℕ → List ℕ → Type 0
Chain Free next last x [] = x ≡ last
Chain Free next last x (y ∷ xs) = (x ≡ y) × Free y × Chain Free next last (next y) xs

-- how often r is in a list
abbrev pub times : ℕ → List ℕ → ℕ
times r [] = 0
times r (x ∷ xs) = at r x + times r xs

-- f of each number below n, summed
abbrev pub sum : (ℕ → ℕ) → ℕ → ℕ
sum f zero = 0
sum f (suc n) = sum f n + f n

-- The records of one kind, in a store of some capacity: `used` counts how often each is reached (`λ r. leaf_times r t`, or `λ r. branch_times r t`), u is how many are
-- reached, and from x on goes the chain xs of those that are free. What is reached is not free, and the two numbers make up the capacity.
pub record Accounted (Free : ℕ → Type 0) (next : ℕ → ℕ) (last : ℕ) (used : ℕ → ℕ) (u capacity x : ℕ) (xs : List ℕ) : Type 0 where
  pub once : (r : ℕ) → used r ≤ 1
  pub within : (r : ℕ) → capacity ≤ r → used r ≡ 0
  pub total : sum used capacity ≡ u
  pub apart : (r : ℕ) → 1 ≤ used r → Free r → ⊥
  pub below : (r : ℕ) → Free r → r < capacity
  pub chain : Chain Free next last x xs
  pub counted : u + length xs ≡ capacity

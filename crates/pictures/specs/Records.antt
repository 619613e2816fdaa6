-- Sums over the records of a tree: how often a record is reached, and how many leaves and branches there are.
-- Assumes nothing.
use Prim.Native.Nat.{ℕ, ◌+◌, compare}
use Rattle.model.specs.Key.{on_equal}
use Rattle.model.specs.Picture.{Tree, leaf, branch, Kids, end, kid}

-- f of each leaf's number, and g of each branch's number and position, summed
abbrev mutual
  pub tally : (ℕ → ℕ) → (ℕ → ℕ → ℕ) → Tree → ℕ
  tally f g (leaf n k v) = f n
  tally f g (branch n p ks) = g n p + tallies f g ks

  pub tallies : (ℕ → ℕ) → (ℕ → ℕ → ℕ) → Kids → ℕ
  tallies f g end = 0
  tallies f g (kid s t ks) = tally f g t + tallies f g ks

-- 1 at one number, 0 elsewhere
abbrev pub at : ℕ → ℕ → ℕ
at r n = on_equal (compare r n) 1 0

-- how often leaf record r, and branch record r, is reached: in a store that is accepted, at most once
abbrev pub leaf_times : ℕ → Tree → ℕ
leaf_times r t = tally (at r) (λ n p. 0) t

abbrev pub branch_times : ℕ → Tree → ℕ
branch_times r t = tally (λ n. 0) (λ n p. at r n) t

abbrev pub leaves : Tree → ℕ
leaves t = tally (λ n. 1) (λ n p. 0) t

abbrev pub branches : Tree → ℕ
branches t = tally (λ n. 0) (λ n p. 1) t

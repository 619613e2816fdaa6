-- The keys that start with a prefix: down by the prefix's nibbles while a branch stands within the prefix. What is met there has them all or none.
-- Assumes nothing.
use Prim.Native.Nat.{ℕ, ◌*◌, compare}
use Rattle.std.specs.Prelude.{List, [], length}
use Rattle.std.proofs.Math.Option.{Option, none, some}
use Rattle.model.specs.Key.{on_equal, starts_with}
use Rattle.model.specs.Map.{Entry, pick, choose}
use Rattle.model.specs.Nibble.{nibble}
use Rattle.model.specs.Picture.{Tree, leaf, branch, Kids, end, kid, listing, closest}

-- The subtree met, unless a branch within the prefix lacks the slot.
abbrev mutual
  pub seek : List ℕ → Tree → Option Tree
  seek q (leaf n k v) = some (leaf n k v)
  seek q (branch n p ks) = choose (compare p (2 * length q)) (seek_k q (nibble q p) ks) (some (branch n p ks)) (some (branch n p ks))

  pub seek_k : List ℕ → ℕ → Kids → Option Tree
  seek_k q s end = none
  seek_k q s (kid r t ks) = on_equal (compare s r) (seek q t) (seek_k q s ks)

-- What it lists: one of its keys decides for all.
abbrev pub found : List ℕ → Option Tree → List Entry
found q none = []
found q (some t) = pick (starts_with q (closest [] t).key) (listing t) []

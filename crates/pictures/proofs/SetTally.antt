-- Overwriting changes no record's number.
-- Assumes nothing.
use Prim.Native.Nat.{ℕ, ◌+◌, Ordering}
use mathlib.Core.Path.{◌≡◌, refl}
use mathlib.Core.List.{List}
use native.Mathlib.Omega.{arith}
use Rattle.model.specs.Key.{on_equal}
use Rattle.model.specs.Nibble.{nibble}
use Rattle.model.specs.Picture.{Tree, leaf, branch, Kids, end, kid}
use Rattle.model.proofs.Compare.{Said, lower, same, higher, said}
use Rattle.pictures.specs.Tree.{set_t, set_k}
use Rattle.pictures.specs.Records.{tally, tallies}
use Rattle.pictures.specs.Stored.{root}

module _ (f : ℕ → ℕ) (g : ℕ → ℕ → ℕ) (k : List ℕ) (v : ℕ) where
  step : (s r : ℕ) (t : Tree) (ks : Kids) → tally f g (set_t k v t) ≡ tally f g t → tallies f g (set_k k v s ks) ≡ tallies f g ks → {o : Ordering} → Said s r o
      → tallies f g (on_equal o (kid r (set_t k v t) ks) (kid r t (set_k k v s ks))) ≡ tally f g t + tallies f g ks
  step s r t ks a b (lower h) = omega arith
  step s r t ks a b (same h) = omega arith
  step s r t ks a b (higher h) = omega arith

  mutual
    pub set_tally : (t : Tree) → tally f g (set_t k v t) ≡ tally f g t
    set_tally (leaf n l w) = refl
    set_tally (branch n p ks) = let i = sets_tally (nibble k p) ks in omega arith

    sets_tally : (s : ℕ) (ks : Kids) → tallies f g (set_k k v s ks) ≡ tallies f g ks
    sets_tally s end = refl
    sets_tally s (kid r t ks) = step s r t ks (set_tally t) (sets_tally s ks) (said s r)

pub set_root_lem : (k : List ℕ) (v : ℕ) (t : Tree) → root (set_t k v t) ≡ root t
set_root_lem k v (leaf n l w) = refl
set_root_lem k v (branch n p ks) = refl

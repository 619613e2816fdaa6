-- The order of keys by their nibbles, and the maps that are sorted by it: what proofs go by. KeyLaws and OrderedMap prove that they are
-- the reader's `order` and `Rising`.
-- Assumes nothing.
use Prim.Native.Nat.{ℕ, ◌<◌}
use mathlib.Core.List.{List, [], ◌∷◌}
use Rattle.model.specs.Map.{Entry, All}
use Rattle.model.specs.Nibble.{nibble, Agree}

-- k comes before l: their nibbles agree up to a position where k's is the lower.
pub record Less (k l : List ℕ) : Type 0 where
  pub place : ℕ
  pub agree : Agree place k l
  pub rises : nibble k place < nibble l place

-- Each key comes before every key that follows it.
abbrev pub Sorted : List Entry → Type 0
Sorted [] = Unit {0}
Sorted (e ∷ m) = All (Less e.0) m × Sorted m

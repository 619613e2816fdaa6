-- Nibbles and critical positions (document 01, "The picture of a key set").
-- Assumes nothing.
use Prim.Native.Nat.{ℕ, zero, suc, ◌/◌, ◌%◌, ◌<◌, compare}
use Rattle.std.specs.Prelude.{◌≡◌, List, [], ◌∷◌}
use Rattle.model.specs.Key.{on_equal}

-- "Position 2i is the high half of byte i plus 1, position 2i+1 the low half plus 1; at or past the end the nibble is 0."
unfoldable pub nibble : List ℕ → ℕ → ℕ
nibble [] p = 0
nibble (b ∷ k) zero = suc (b / 16)
nibble (b ∷ k) (suc zero) = suc (b % 16)
nibble (b ∷ k) (suc (suc p)) = nibble k p

-- "So there are 17 slots, 0 to 16."
abbrev pub slot_count : ℕ
slot_count = 17

-- "Critical position of two different keys: the first position where their nibbles differ. For a proper prefix it is 2 x the shorter length."
unfoldable pub critical : List ℕ → List ℕ → ℕ
critical [] l = 0
critical (x ∷ k) [] = 0
critical (x ∷ k) (y ∷ l) = on_equal (compare (x / 16) (y / 16)) (on_equal (compare (x % 16) (y % 16)) (suc (suc (critical k l))) 1) 0

-- "agree on nibbles before p", of two keys.
pub record Agree (p : ℕ) (k l : List ℕ) : Type 0 where
  pub on : (i : ℕ) → i < p → nibble k i ≡ nibble l i

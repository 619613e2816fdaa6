-- Numbers of w bytes at a place of a list of bytes, and their bytes: the low byte first, or the high byte first.
-- Assumes nothing.
use Rattle.std.specs.Prelude.{ℕ, zero, suc, ◌+◌, ◌*◌, ◌/◌, ◌%◌, List, [], ◌∷◌, reverse, get_or}

-- the number whose bytes these are, the low byte first
unfoldable pub value : List ℕ → ℕ
value [] = 0
value (b ∷ bs) = b + value bs * 256

-- the w low bytes of a number, the low byte first
unfoldable pub little_bytes : ℕ → ℕ → List ℕ
little_bytes zero v = []
little_bytes (suc w) v = v % 256 ∷ little_bytes w (v / 256)

-- and the high byte first
unfoldable pub big_bytes : ℕ → ℕ → List ℕ
big_bytes w v = reverse (little_bytes w v)

-- the w bytes at a place, 0 past the end
unfoldable pub bytes_at : ℕ → List ℕ → ℕ → List ℕ
bytes_at zero xs at = []
bytes_at (suc w) xs at = get_or xs at 0 ∷ bytes_at w xs (suc at)

-- the number of w bytes at a place
unfoldable pub little : ℕ → List ℕ → ℕ → ℕ
little w xs at = value (bytes_at w xs at)

unfoldable pub big : ℕ → List ℕ → ℕ → ℕ
big w xs at = value (reverse (bytes_at w xs at))

-- A number's binary digits as a list, the lowest first: the list is what a bitmap means.
-- Assumes nothing.
use Rattle.std.specs.Prelude.{ℕ, zero, suc, ◌*◌, ◌/◌, ◌%◌, Bool, true, false, List, [], ◌∷◌}

-- a digit as a test
abbrev pub is_one : ℕ → Bool
is_one zero = false
is_one (suc n) = true

-- the d lowest digits of n
unfoldable pub bits_of : ℕ → ℕ → List Bool
bits_of zero n = []
bits_of (suc d) n = is_one (n % 2) ∷ bits_of d (n / 2)

-- how many are set
abbrev pub count : List Bool → ℕ
count [] = zero
count (false ∷ bs) = count bs
count (true ∷ bs) = suc (count bs)

-- how many stand before the first that is set: all, where none is
abbrev pub lowest : List Bool → ℕ
lowest [] = zero
lowest (false ∷ bs) = suc (lowest bs)
lowest (true ∷ bs) = zero

-- the number whose digits these are
unfoldable pub number_of : List Bool → ℕ
number_of [] = 0
number_of (false ∷ bs) = number_of bs * 2
number_of (true ∷ bs) = suc (number_of bs * 2)

-- which of 17 slots a bitmap says are present
abbrev pub present : ℕ → List Bool
present bitmap = bits_of 17 bitmap

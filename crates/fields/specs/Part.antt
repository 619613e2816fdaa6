-- A part of a list of bytes, and the list with other bytes in a part's place.
-- Assumes nothing.
use Rattle.std.specs.Prelude.{List, ◌⊎◌, ℕ, ◌+◌, ◌≤◌, take, drop}
use Rattle.std.proofs.lemmas.List.Edits.{sets}

-- the n elements from a on
unfoldable pub part : List ℕ → ℕ → ℕ → List ℕ
part xs a n = take n (drop a xs)

-- ys over what stands from a on, as far as the list goes
unfoldable pub splice : List ℕ → ℕ → List ℕ → List ℕ
splice xs a ys = sets xs a ys

-- n places from a on and m places from b on have none in common
abbrev pub Apart : ℕ → ℕ → ℕ → ℕ → Type 0
Apart a n b m = (a + n ≤ b) ⊎ (b + m ≤ a)

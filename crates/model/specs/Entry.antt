-- The bytes of a page (document 01, "Listing and pages", last paragraph).
-- Assumes nothing.
use Rattle.std.specs.Prelude.{ℕ, ◌/◌, ◌%◌, List, [], ◌∷◌, ◌++◌, length}
use Rattle.model.specs.Map.{Entry}

-- "tagged fields, each with a one-byte tag and a two-byte length, high byte first"
abbrev pub field : ℕ → List ℕ → List ℕ
field tag contents = tag ∷ (length contents / 256) ∷ (length contents % 256) ∷ contents

-- "the value in 4 bytes, high byte first"
abbrev pub four_bytes : ℕ → List ℕ
four_bytes v = (v / 16777216) ∷ (v / 65536 % 256) ∷ (v / 256 % 256) ∷ (v % 256) ∷ []

-- "An entry is two tagged fields ..: tag 01 with the key, tag 02 with the value"
abbrev pub entry_bytes : Entry → List ℕ
entry_bytes e = field 1 e.0 ++ field 2 (four_bytes e.1)

-- "In a page, each entry is written directly after the one before it"
abbrev pub entries_bytes : List Entry → List ℕ
entries_bytes [] = []
entries_bytes (e ∷ m) = entry_bytes e ++ entries_bytes m

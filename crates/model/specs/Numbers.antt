-- The numbers of document 01, "Numbers". Each is named here once; what hangs on the longest key is worked out from `key_limit`.
-- Assumes nothing. (`Values` speaks of a map's entries, whose type stands in Map.)
use Rattle.std.specs.Prelude.{ℕ, ◌+◌, ◌*◌, ◌-◌, ◌/◌, ◌<◌, min, List, [], ◌∷◌, length}
use Rattle.model.specs.Key.{key_limit}
use Rattle.model.specs.Map.{Entry}

-- "Value: any unsigned 32-bit number."
abbrev pub value_bound : ℕ
value_bound = 4294967296

-- Every value of a map is such a number.
abbrev pub Values : List Entry → Type 0
Values [] = Unit {0}
Values (e ∷ m) = (e.1 < value_bound) × Values m

-- The first 128 of "(L - 128) / 128": what a store has besides its keys.
abbrev pub header_size : ℕ
header_size = 128

-- What a key's block has besides the key's bytes.
abbrev pub tail_size : ℕ
tail_size = 64

-- The second 128 of "(L - 128) / 128": what a key takes.
abbrev pub block_size : ℕ
block_size = key_limit + tail_size

-- "at most 16,384 keys"
abbrev pub most : ℕ
most = 16384

-- "A lent slice of L bytes gives capacity (L - 128) / 128, rounded down, at most 16,384 keys."
abbrev pub capacity_of : ℕ → ℕ
capacity_of size = min ((size - header_size) / block_size) most

-- "Under 256 bytes it is refused."
abbrev pub least_size : ℕ
least_size = header_size + block_size

-- "Bytes past 128 x (capacity + 1) are neither read nor written."
abbrev pub used : List ℕ → ℕ
used st = header_size + block_size * capacity_of (length st)

-- "Height limit: 0 to 65,535"
abbrev pub limit_bound : ℕ
limit_bound = 65536

-- "Page: 1 to 256 entries"
abbrev pub page_limit : ℕ
page_limit = 256

-- "the output must have at least 74 bytes per entry asked": the longest key, and 10 bytes for the two fields' heads and the value.
abbrev pub entry_limit : ℕ
entry_limit = key_limit + 10

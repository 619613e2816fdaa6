-- The places of the store: a header, then a block for each key of the capacity. A block is the key bytes and a tail of 64 bytes. Every place hangs on the
-- key limit, which no law knows.
-- Assumes nothing.
use Rattle.std.specs.Prelude.{ℕ, ◌+◌, ◌*◌, ◌≤◌, List, length}
use Rattle.model.specs.Key.{key_limit}
use Rattle.model.specs.Numbers.{header_size, block_size}

-- ends a chain of free records
abbrev pub last : ℕ
last = 65535

-- the length byte of a free leaf record
abbrev pub free_size : ℕ
free_size = 255

-- where block n starts
abbrev pub start : ℕ → ℕ
start n = header_size + block_size * n

-- in the tail: the branch record's sparse array; the leaf record's length and value
abbrev pub array_at : ℕ → ℕ
array_at n = start n + key_limit

abbrev pub size_at : ℕ → ℕ
size_at n = start n + key_limit + 55

abbrev pub value_at : ℕ → ℕ
value_at n = start n + key_limit + 56

-- block n lies in the store
abbrev pub Room : List ℕ → ℕ → Type 0
Room st n = start n + block_size ≤ length st

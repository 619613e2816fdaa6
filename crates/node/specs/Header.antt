-- The header: a mark with the layout's version in the first 4 bytes, then seven numbers; when it is right, and the store with other numbers in it.
-- The bytes after the last number are not read or written.
-- Assumes nothing.
use Rattle.std.specs.Prelude.{ℕ, Bool, cond, ◌&&◌, List, ◌++◌, length, leb, eqb, Result, Ok, Err}
use Rattle.model.specs.Numbers.{least_size, capacity_of}
use Rattle.fields.specs.Part.{splice}
use Rattle.fields.specs.Number.{little, little_bytes}
use Rattle.node.specs.declared.header.Header.{Header}
use Rattle.node.specs.declared.NotAStore.{NotAStore}
use Rattle.node.specs.NotAStore.{not_a_store}

abbrev pub magic : ℕ
magic = 0x31505150

unfoldable pub mark_in : List ℕ → ℕ
mark_in st = little 4 st 0

abbrev pub header : (capacity limit leaves branches root leaf branch : ℕ) → Header
header capacity limit leaves branches root leaf branch =
    record { capacity = capacity; limit = limit; leaves = leaves; branches = branches; root = root; leaf = leaf; branch = branch }

-- the numbers, right or wrong
unfoldable pub head_in : List ℕ → Header
head_in st = header (little 2 st 4) (little 2 st 6) (little 2 st 8) (little 2 st 10) (little 3 st 12) (little 2 st 15) (little 2 st 17)

-- the slice has room for a block, the mark is there, "the slice's capacity is the one it was created with", and no more records are in use than there are
abbrev pub right_numbers : ℕ → Header → Bool
right_numbers size h = eqb h.capacity (capacity_of size) && (leb h.leaves h.capacity && leb h.branches h.capacity)

abbrev pub right : List ℕ → Bool
right st = leb least_size (length st) && (eqb (mark_in st) magic && right_numbers (length st) (head_in st))

unfoldable pub head_of : List ℕ → Result Header NotAStore
head_of st = cond (right st) (Ok (head_in st)) (Err not_a_store)

-- ---- the store with other numbers, or with the mark

abbrev pub head_bytes : Header → List ℕ
head_bytes h =
    little_bytes 2 h.capacity
    ++ little_bytes 2 h.limit
    ++ little_bytes 2 h.leaves
    ++ little_bytes 2 h.branches
    ++ little_bytes 3 h.root
    ++ little_bytes 2 h.leaf
    ++ little_bytes 2 h.branch

unfoldable pub set_head : List ℕ → Header → List ℕ
set_head st h = splice st 4 (head_bytes h)

unfoldable pub set_mark : List ℕ → List ℕ
set_mark st = splice st 0 (little_bytes 4 magic)

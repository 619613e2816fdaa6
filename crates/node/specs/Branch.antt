-- Branch records: what the bytes of block n say of branch n, and the store with other links there.
-- Assumes nothing.
use Rattle.std.specs.Prelude.{ℕ, List, Option as CodeOption, Some, None, Result, Ok, Err}
use Rattle.std.proofs.Math.Option.{Option, none, some}
use Rattle.fields.specs.Part.{part, splice}
use Rattle.fields.specs.Number.{little, little_bytes}
use Rattle.bitmap.specs.Entries.{Entry, lookup, head}
use Rattle.sparse_array.specs.Array.{size, entries, with_slot, without_slot, cleared}
use Rattle.sparse_array.specs.Answers.{or_else}
use Rattle.node.specs.Layout.{array_at}
use Rattle.node.specs.Child.{Linked, link_of, item_of}
use Rattle.node.specs.declared.NotAStore.{NotAStore}
use Rattle.node.specs.declared.child.Link.{Link}

-- the record's sparse array, and its (slot, item) list
unfoldable pub array_in : List ℕ → ℕ → List ℕ
array_in st n = part st (array_at n) size

abbrev pub children_in : List ℕ → ℕ → List Entry
children_in st n = entries (array_in st n)

-- the number after it, of a free record: it stands in the first item
abbrev pub after_in : List ℕ → ℕ → ℕ
after_in st n = little 2 (array_in st n) 4

-- the link that an item stands for, if there is an item
abbrev pub some_link : Result Link NotAStore → Linked
some_link (Ok l) = Ok (Some l)
some_link (Err e) = Err e

abbrev pub linked : ℕ → Option ℕ → Linked
linked capacity none = Ok None
linked capacity (some item) = some_link (link_of capacity item)

abbrev pub linked_got : ℕ → CodeOption ℕ → Linked
linked_got capacity (Some x) = some_link (link_of capacity x)
linked_got capacity None = Ok None

-- the link of a slot; that of the lowest slot; that of a slot or, where it is missing, of the lowest
abbrev pub linked_in : ℕ → ℕ → List Entry → Linked
linked_in capacity slot es = linked capacity (lookup slot es)

abbrev pub head_link : ℕ → List Entry → Linked
head_link capacity es = linked capacity (head es)

abbrev pub near_in : ℕ → ℕ → List Entry → Linked
near_in capacity slot es = linked capacity (or_else (lookup slot es) (head es))

-- ---- the store with another array in the record

abbrev pub set_array : List ℕ → ℕ → List ℕ → List ℕ
set_array st n b = splice st (array_at n) b

unfoldable pub set_child : List ℕ → ℕ → ℕ → Link → List ℕ
set_child st n slot l = set_array st n (with_slot slot (item_of l) (array_in st n))

unfoldable pub remove_child : List ℕ → ℕ → ℕ → List ℕ
remove_child st n slot = set_array st n (without_slot slot (array_in st n))

-- the record free, with a number after it: no slot is present
unfoldable pub free_branch : List ℕ → ℕ → ℕ → List ℕ
free_branch st n x = set_array st n (splice (cleared (array_in st n)) 4 (little_bytes 2 x))

-- two children and no other: what a new branch starts with
abbrev pub two_slots : ℕ → ℕ → ℕ → ℕ → List ℕ → List ℕ
two_slots s x r y a = with_slot r y (with_slot s x (cleared a))

unfoldable pub make_branch : List ℕ → ℕ → ℕ → Link → ℕ → Link → List ℕ
make_branch st n s l r k = set_array st n (two_slots s (item_of l) r (item_of k) (array_in st n))

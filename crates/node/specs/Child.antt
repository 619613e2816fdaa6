-- Links: what the 3 bytes of an item stand for, and the bytes of a link.
-- "In storage, a child is either a leaf with its number or a branch with its number; leaf numbers and branch numbers are kept apart so that neither is used as the other."
-- Assumes nothing.
use Rattle.std.specs.Prelude.{ℕ, ◌+◌, ◌-◌, ◌*◌, ◌/◌, ◌%◌, cond, ltb, Option, Result, Ok, Err}
use Rattle.model.specs.Numbers.{most}
use Rattle.node.specs.declared.child.Child.{Child}
use Rattle.node.specs.declared.child.Child.TheVariants.{Leaf, Branch}
use Rattle.node.specs.declared.child.Link.{Link}
use Rattle.node.specs.declared.NotAStore.{NotAStore}
use Rattle.node.specs.NotAStore.{not_a_store}

-- What a slot of a branch leads to: a link, or nothing; or no record of the store has that number.
abbrev pub Linked : Type 0
Linked = Result (Option Link) NotAStore

abbrev pub to_leaf : ℕ → ℕ → Link
to_leaf n p = record { child = Leaf (record { 0 = n }); position = p }

abbrev pub to_branch : ℕ → ℕ → Link
to_branch n p = record { child = Branch (record { 0 = n }); position = p }

-- the child with a code, in a store of some capacity: a leaf's code is its number, a branch's is its number past `most`
abbrev pub decoded : (capacity code position : ℕ) → Result Link NotAStore
decoded capacity code position =
    cond (ltb code capacity) (Ok (to_leaf code position))
    (cond (ltb code most) (Err not_a_store)
    (cond (ltb (code - most) capacity) (Ok (to_branch (code - most) position))
    (Err not_a_store)))

-- the link of an item: the code in its two low bytes, the position in the third
abbrev pub link_of : (capacity item : ℕ) → Result Link NotAStore
link_of capacity item = decoded capacity (item % 65536) (item / 65536 % 256)

abbrev pub number_in : Child → ℕ
number_in (Leaf n) = n.0
number_in (Branch n) = n.0

abbrev pub code_of : Child → ℕ
code_of (Leaf n) = n.0
code_of (Branch n) = most + n.0

abbrev pub item_of : Link → ℕ
item_of l = code_of l.child + l.position * 65536

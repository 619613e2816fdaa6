-- When a store's bytes hold a tree, and are right: document 01, "A store that the check accepts". With the definitions that it names, this is the one
-- definition of the implementation that has to be held against the document, since the promises take it as given.
-- It asks for what the document lists, and for four things beyond it, which are the layout's own ("The layout inside is the team's") and are marked so below:
-- the position in a link to a leaf, the root of an empty store, the count of branches, and the header's mark. How a record shows that it is free, and which
-- one is free after it, is the layout's too: it is what "free, once" means here. Nothing is asked of bytes on which no answer hangs.
-- Assumes nothing.
use Rattle.std.specs.Prelude.{ℕ, ◌<◌, ◌≡◌, List, [], ◌∷◌, get_or, Ok}
use Rattle.std.proofs.Math.Option.{Option, none, some}
use Rattle.model.specs.Numbers.{used}
use Rattle.model.specs.Picture.{Tree, Pictured}
use Rattle.pictures.specs.Records.{leaf_times, branch_times}
use Rattle.pictures.specs.Stored.{Child, to_leaf, to_branch, root, Row, Memory, HoldsLeft}
use Rattle.pictures.specs.Chain.{Accounted}
use Rattle.bitmap.specs.Entries.{Entry}
use Rattle.node.specs.Layout.{last}
use Rattle.node.specs.Child.{item_of, to_leaf as leaf_link, to_branch as branch_link}
use Rattle.node.specs.Header.{head_in, head_of}
use Rattle.node.specs.Leaf.{Is, leaf_in}
use Rattle.node.specs.Branch.{children_in}
use Rattle.records.specs.Chain.{Kind, Free, leaves, branches}
use Rattle.records.specs.Create.{no_root}
use Rattle.node.specs.declared.child.Link.{Link}

-- "a child is either a leaf with its number or a branch with its number": the link to a child in the store. The layout's own: a link has a position, that of
-- the branch, and of a leaf it is 0.
abbrev pub link_to : Child → Link
link_to (to_leaf n) = leaf_link n 0
link_to (to_branch n p) = branch_link n p

-- the items of a branch record whose children these are
abbrev pub codes : Row → List Entry
codes [] = []
codes (e ∷ r) = (e.0, item_of (link_to e.1)) ∷ codes r

-- What the records of a store hold.
abbrev pub memory_of : List ℕ → Memory
memory_of st = record { Leaf = λ n k v. Is (leaf_in st n) k v; Branch = λ n r. children_in st n ≡ codes r }

-- how often a record is reached from the root
abbrev pub leaf_uses : Option Tree → ℕ → ℕ
leaf_uses none r = 0
leaf_uses (some t) r = leaf_times r t

abbrev pub branch_uses : Option Tree → ℕ → ℕ
branch_uses none r = 0
branch_uses (some t) r = branch_times r t

-- the header's root link: that of the tree. The layout's own: of an empty store it is `no_root`, which is no link's.
abbrev pub Rooted : ℕ → Option Tree → Type 0
Rooted item none = item ≡ no_root
Rooted item (some t) = item ≡ item_of (link_to (root t))

-- "each node is reached from the root once; .. the stored count is the number of leaves; each record not reached is free, once": of the records of one kind.
-- The layout's own: the header counts the branches too, and their count is the number of branches.
abbrev pub Kept : Kind → List ℕ → (ℕ → ℕ) → List ℕ → Type 0
Kept K st uses xs =
    Accounted (Free K st (head_in st).capacity) (K.next st) last uses (K.used (head_in st)) (head_in st).capacity (K.first (head_in st)) xs

pub record Accepted (st : List ℕ) (o : Option Tree) : Type 0 where
  -- the bytes that the store uses are bytes
  pub bytes : (i : ℕ) → i < used st → get_or st i 0 < 256
  -- "the slice's capacity is the one it was created with". The layout's own: the header's mark.
  pub head : head_of st ≡ Ok (head_in st)
  -- "It holds a picture: .. a branch has 2 to 17 children; positions rise along every path; all leaves under a branch at position p agree on nibbles before p,
  -- and those under a child have that child's slot as nibble p; keys fit"
  pub held : HoldsLeft (memory_of st) o
  pub rooted : Rooted (head_in st).root o
  pub picture : Pictured o
  pub free_leaves : List ℕ
  pub leaves : Kept leaves st (leaf_uses o) free_leaves
  pub free_branches : List ℕ
  pub branches : Kept branches st (branch_uses o) free_branches

-- The walk of the check over the bytes of a store, on any bytes.
-- Assumes nothing.
use Rattle.std.specs.Prelude.{ℕ, zero, suc, ◌+◌, ◌-◌, ◌≤◌, ◌<◌, Bool, true, false, cond, ◌&&◌, List, [], ◌∷◌, Option, Some, None, leb, ltb, eqb}
use Rattle.model.specs.Key.{key_limit}
use Rattle.model.specs.Nibble.{nibble, critical}
use Rattle.bitmap.specs.Entries.{Entry}
use Rattle.node.specs.Child.{link_of}
use Rattle.node.specs.Leaf.{leaf_in}
use Rattle.node.specs.Branch.{children_in}
use Rattle.records.specs.Create.{no_root}
use Rattle.node.specs.declared.child.LeafNo.{LeafNo}
use Rattle.node.specs.declared.child.Link.{Link}
use Rattle.trie_spec.specs.Walk.{steps, on_root, on_node}
use Rattle.audit_tree.specs.declared.tree.Seen.{Seen}
use Rattle.audit_tree.specs.declared.tree.Tally.{Tally}

abbrev pub key_of : List ℕ → LeafNo → List ℕ
key_of st n = (leaf_in st n.0).key

abbrev pub tally : (kids : ℕ) (first : Option LeafNo) (leaves branches : ℕ) → Tally
tally kids first leaves branches = record { kids = kids; first = first; leaves = leaves; branches = branches }

-- no child yet
abbrev pub none_yet : Tally
none_yet = tally 0 None 0 0

-- a picture whose first leaf is n, of so many leaves and branches
abbrev pub good : LeafNo → (leaves branches : ℕ) → Option Seen
good n l b = Some (record { first = n; leaves = l; branches = b })

-- A leaf whose link has a position, where so many leaves may still be met: "keys fit".
unfoldable pub leaf_seen : List ℕ → LeafNo → (position budget : ℕ) → Option Seen
leaf_seen st n p budget = cond (eqb p 0 && (ltb 0 budget && leb (leaf_in st n.0).size key_limit)) (good n 1 0) None

-- the first leaf of all, if a child was met, and the leaf n first differ at p
abbrev pub parts_at : List ℕ → (p : ℕ) → Option LeafNo → LeafNo → Bool
parts_at st p (Some m) n = eqb (critical (key_of st m) (key_of st n)) p
parts_at st p None n = true

-- "all leaves under a branch at position p agree on nibbles before p, and those under a child have that child's slot as nibble p": of the first leaf n of a child in
-- slot s, by the first leaf of the branch's lowest child.
unfoldable pub stands : List ℕ → (p s : ℕ) → Tally → LeafNo → Bool
stands st p s t n = eqb (nibble (key_of st n) p) s && parts_at st p t.first n

-- the first leaf of all, once a child whose first leaf is n is met
abbrev pub head : Option LeafNo → LeafNo → LeafNo
head (Some m) n = m
head None n = n

-- A tally takes a child in slot s of a branch at position p.
unfoldable pub add_kid : List ℕ → (p s : ℕ) → Tally → Option Seen → Option Tally
add_kid st p s t (Some k) = cond (stands st p s t k.first) (Some (tally (t.kids + 1) (Some (head t.first k.first)) (t.leaves + k.leaves) (t.branches + k.branches))) None
add_kid st p s t None = None

abbrev pub on_first {ℓ} : {A : Type ℓ} → (LeafNo → A) → A → Option LeafNo → A
on_first f a (Some n) = f n
on_first f a None = a

-- "a branch has 2 to 17 children"
unfoldable pub finish : Tally → Option Seen
finish t = on_first (λ n. cond (ltb t.kids 2) None (good n t.leaves (t.branches + 1))) None t.first

abbrev pub on_counted {ℓ} : {A : Type ℓ} → (Tally → A) → A → Option Tally → A
on_counted going stop (Some t) = going t
on_counted going stop None = stop

-- The children of a branch at position p, where `below` is the check of a link by how many leaves may still be met.
unfoldable pub kids_seen : List ℕ → (cap p budget : ℕ) → (ℕ → Link → Option Seen) → List Entry → Tally → Option Seen
kids_seen st cap p budget below [] t = finish t
kids_seen st cap p budget below (e ∷ es) t =
    on_root
    (λ l. on_counted (λ t'. kids_seen st cap p budget below es t') None (add_kid st p e.0 t (below (budget - t.leaves) l)))
    None
    (link_of cap e.1)

-- What lies below a link: at most so many branches on a path, at positions from `low` on ("positions rise along every path"), and at most `budget` leaves.
unfoldable pub seen : List ℕ → (cap : ℕ) → ℕ → (low budget : ℕ) → Link → Option Seen
seen st cap zero low budget l = on_node (λ n. leaf_seen st n l.position budget) (λ b. None) l.child
seen st cap (suc f) low budget l =
    on_node
    (λ n. leaf_seen st n l.position budget)
    (λ b. cond (ltb l.position low) None (kids_seen st cap l.position budget (λ m k. seen st cap f (l.position + 1) m k) (children_in st b.0) none_yet))
    l.child

-- "the stored count is the number of leaves", and the count of branches that of the branches
unfoldable pub counts_right : (leaves branches : ℕ) → Option Seen → Bool
counts_right leaves branches (Some s) = eqb s.leaves leaves && eqb s.branches branches
counts_right leaves branches None = false

unfoldable pub tree_right : List ℕ → (cap leaves branches root : ℕ) → Bool
tree_right st cap leaves branches root =
    cond (eqb leaves 0)
    (eqb root no_root && eqb branches 0)
    (on_root (λ l. counts_right leaves branches (seen st cap steps 0 leaves l)) false (link_of cap root))

-- ---- what keeps the sums small

-- what is good has a first leaf of the store, no more leaves than were left to meet, and fewer branches than leaves
abbrev pub Modest : (cap budget : ℕ) → Option Seen → Type 0
Modest cap budget (Some s) = (s.first.0 < cap) × (s.leaves ≤ budget) × (s.branches < s.leaves)
Modest cap budget None = Unit {0}

-- the first leaf of all, if there is one, is a record of the store
abbrev pub FirstIn : (cap : ℕ) → Option LeafNo → Type 0
FirstIn cap (Some n) = n.0 < cap
FirstIn cap None = Unit {0}

abbrev pub Sound : (cap budget : ℕ) → Tally → Type 0
Sound cap budget t = FirstIn cap t.first × (t.leaves ≤ budget) × (t.branches + t.kids ≤ t.leaves)

abbrev pub Grown : (cap budget : ℕ) → Option Tally → Type 0
Grown cap budget (Some t) = Sound cap budget t
Grown cap budget None = Unit {0}

-- The descents over the bytes of a store, on any bytes. Assumes nothing.
use Rattle.std.specs.Prelude.{ℕ, zero, suc, ◌+◌, ◌*◌, ◌<◌, ◌≤◌, ◌≡◌, cond, List, leb, ltb, Result, Ok, Err, Some, None}
use Rattle.model.specs.Key.{key_limit}
use Rattle.model.specs.Nibble.{nibble}
use Rattle.node.specs.NotAStore.{not_a_store}
use Rattle.node.specs.Child.{number_in, Linked}
use Rattle.node.specs.Branch.{children_in, linked_in, near_in}
use Rattle.node.specs.declared.NotAStore.{NotAStore}
use Rattle.node.specs.declared.child.BranchNo.{BranchNo}
use Rattle.node.specs.declared.child.LeafNo.{LeafNo}
use Rattle.node.specs.declared.child.Child.{Child}
use Rattle.node.specs.declared.child.Child.TheVariants.{Leaf as LeafChild, Branch}
use Rattle.node.specs.declared.child.Link.{Link}
use Rattle.trie_spec.specs.declared.descent.Spot.{Spot}
use Rattle.trie_spec.specs.declared.descent.Spot.TheVariants.{Root, Under}
use Rattle.trie_spec.specs.declared.descent.Step.{Step}
use Rattle.trie_spec.specs.declared.descent.Walked.{Walked}
use Rattle.trie_spec.specs.declared.descent.Walked.TheVariants.{At, Missing}
use Rattle.trie_spec.specs.declared.descent.Way.{Way}
use Rattle.trie_spec.specs.declared.descent.Near.{Near}
use Rattle.trie_spec.specs.declared.descent.Closest.{Closest}

-- "Depth of a leaf: the branches above it, at most 128."
abbrev pub depth : ℕ
depth = 2 * key_limit

-- "A descent ends at a leaf, a missing slot or the 129th step."
abbrev pub steps : ℕ
steps = depth + 1

abbrev pub step : Link → Spot → Spot → Step
step l at above = record { child = l.child; position = l.position; at = at; above = above }

-- the link that it went by
abbrev pub link_in : Step → Link
link_in s = record { child = s.child; position = s.position }

-- the step before the first branch
abbrev pub first : Link → Step
first root = step root Root Root

-- what a slot leads to, by cases
abbrev pub on_linked {ℓ} : {A : Type ℓ} → (Link → A) → A → A → Linked → A
on_linked to absent wrong (Ok (Some l)) = to l
on_linked to absent wrong (Ok None) = absent
on_linked to absent wrong (Err e) = wrong

-- what the header's root leads to, by cases
abbrev pub on_root {ℓ} : {A : Type ℓ} → (Link → A) → A → Result Link NotAStore → A
on_root to wrong (Ok l) = to l
on_root to wrong (Err e) = wrong

abbrev pub on_node {ℓ} : {A : Type ℓ} → (LeafNo → A) → (BranchNo → A) → Child → A
on_node leaf branch (LeafChild n) = leaf n
on_node leaf branch (Branch b) = branch b

-- Down by the key's nibbles from a step, with so many steps left, to a leaf or to a branch at the position `stop` or past it.
unfoldable pub walk : (st : List ℕ) (cap : ℕ) (k : List ℕ) (stop : ℕ) → ℕ → Step → Result Walked NotAStore
walk st cap k stop zero s = Err not_a_store
walk st cap k stop (suc f) s =
    on_node (λ n. Ok (At s.child s))
    (λ b. cond (leb stop s.position) (Ok (At s.child s))
    (on_linked (λ l. walk st cap k stop f (step l (Under b (nibble k s.position)) s.at))
    (Ok (Missing b (nibble k s.position)))
    (Err not_a_store)
    (linked_in cap (nibble k s.position) (children_in st b.0))))
    s.child

abbrev pub leaf_at : LeafNo → (depth : ℕ) → Closest
leaf_at n d = record { leaf = n; depth = d }

-- Down by the key's nibble, or by the lowest slot where it is missing.
unfoldable pub near : (st : List ℕ) (cap : ℕ) (k : List ℕ) → ℕ → (depth : ℕ) → Link → Result Closest NotAStore
near st cap k zero d l = Err not_a_store
near st cap k (suc f) d l =
    on_node (λ n. Ok (leaf_at n d))
    (λ b. on_linked (λ m. near st cap k f (d + 1) m) (Err not_a_store) (Err not_a_store) (near_in cap (nibble k l.position) (children_in st b.0)))
    l.child

abbrev pub higher : ℕ → ℕ → ℕ
higher a b = cond (ltb a b) b a

-- Down by the key's nibbles from a step to a leaf or to a missing slot; t is the highest position above.
unfoldable pub way : (st : List ℕ) (cap : ℕ) (k : List ℕ) → ℕ → (depth t : ℕ) → Step → Result Way NotAStore
way st cap k zero d t s = Err not_a_store
way st cap k (suc f) d t s =
    on_node (λ n. Ok (Way.Leaf n d s t))
    (λ b. on_linked (λ m. way st cap k f (d + 1) (higher t s.position) (step m (Under b (nibble k s.position)) s.at))
    (Ok (Way.Off b (nibble k s.position) s.position d (higher t s.position)))
    (Err not_a_store)
    (linked_in cap (nibble k s.position) (children_in st b.0)))
    s.child

-- the closest leaf alone
abbrev pub closest_of : Result Near NotAStore → Result Closest NotAStore
closest_of (Ok n) = Ok (leaf_at n.leaf n.depth)
closest_of (Err e) = Err e

-- every descent to a stop position past t ends at w
abbrev pub EndsAt : (st : List ℕ) (cap : ℕ) (k : List ℕ) → Link → Walked → ℕ → Type 0
EndsAt st cap k root w t = (stop : ℕ) → t < stop → walk st cap k stop steps (first root) ≡ Ok w

abbrev pub Ended : (st : List ℕ) (cap : ℕ) (k : List ℕ) → Link → Result Near NotAStore → Type 0
Ended st cap k root (Ok n) = EndsAt st cap k root n.end n.high
Ended st cap k root (Err e) = Unit {0}

-- what is met lies in the store
abbrev pub Within : ℕ → Spot → Type 0
Within cap Root = Unit {0}
Within cap (Under b s) = (b.0 < cap) × (s ≤ 16)

abbrev pub Lies : ℕ → Walked → Type 0
Lies cap (At c s) = (number_in s.child < cap) × Within cap s.at × Within cap s.above × (c ≡ s.child)
Lies cap (Missing b s) = (b.0 < cap) × (s ≤ 16)

abbrev pub Lands : ℕ → Result Walked NotAStore → Type 0
Lands cap (Ok w) = Lies cap w
Lands cap (Err e) = Unit {0}

abbrev pub OnWay : ℕ → Result Way NotAStore → Type 0
OnWay cap (Ok (Way.Leaf n d s t)) = (n.0 < cap) × (d < steps) × Within cap s.at × Within cap s.above × (LeafChild n ≡ s.child)
OnWay cap (Ok (Way.Off b s p d t)) = (b.0 < cap) × (s ≤ 16) × (d < steps)
OnWay cap (Err e) = Unit {0}

abbrev pub Nearby : ℕ → Result Near NotAStore → Type 0
Nearby cap (Ok n) = (n.leaf.0 < cap) × (n.depth < steps) × Lies cap n.end
Nearby cap (Err e) = Unit {0}

abbrev pub Sound : ℕ → Result Closest NotAStore → Type 0
Sound cap (Ok c) = (c.leaf.0 < cap) × (c.depth < steps)
Sound cap (Err e) = Unit {0}

-- The picture of a key set (document 01, "The picture of a key set" and "A store that the check accepts"), as a tree whose leaves and branches carry the
-- numbers of their records.
-- Assumes nothing. (Depth stands after the closest leaf, by which it is read off.)
use Prim.Native.Nat.{ℕ, zero, suc, min, ◌≤◌, compare}
use Rattle.std.specs.Prelude.{◌≡◌, Bool, false, ◌||◌, ◌&&◌, not, List, [], ◌∷◌, ◌++◌, length, leb, eqb}
use Rattle.std.proofs.Math.Option.{Option, none, some}
use Rattle.model.specs.Key.{key_limit, IsKey, on_equal}
use Rattle.model.specs.Map.{Entry, keep}
use Rattle.model.specs.Nibble.{nibble, slot_count, critical, Agree}

-- "a child is either a leaf with its number or a branch with its number"
mutual
  pub data Tree : Type 0 where
    leaf : (number : ℕ) (key : List ℕ) (value : ℕ) → Tree
    branch : (number position : ℕ) → Kids → Tree

  -- A branch's children, each with its slot, packed: "the place is the number of present slots below it".
  pub data Kids : Type 0 where
    end : Kids
    kid : (slot : ℕ) → Tree → Kids → Kids

-- The entries of the leaves, from left to right.
abbrev mutual
  pub listing : Tree → List Entry
  listing (leaf n k v) = (k, v) ∷ []
  listing (branch n p ks) = listings ks

  pub listings : Kids → List Entry
  listings end = []
  listings (kid s t ks) = listing t ++ listings ks

-- A store holds nothing or a tree; this is its map.
abbrev pub entries : Option Tree → List Entry
entries none = []
entries (some t) = listing t

-- A tree without its record numbers: all are 0.
abbrev mutual
  pub bare : Tree → Tree
  bare (leaf n k v) = leaf 0 k v
  bare (branch n p ks) = branch 0 p (bares ks)

  pub bares : Kids → Kids
  bares end = end
  bares (kid s t ks) = kid s (bare t) (bares ks)

-- The same of a store's whole content.
abbrev pub bare_root : Option Tree → Option Tree
bare_root none = none
bare_root (some t) = some (bare t)

-- "the first position where two of them differ": of the first key and the others. (Two that differ do not both agree with the first.)
abbrev pub first_differ : List ℕ → Entry → List Entry → ℕ
first_differ k e [] = critical k e.0
first_differ k e (d ∷ m) = min (critical k e.0) (first_differ k d m)

-- "its group": the keys whose nibble at position p is s.
abbrev pub group : ℕ → ℕ → List Entry → List Entry
group p s m = keep (λ k. eqb (nibble k p) s) m

-- A child in slot s, if there is one, before others.
abbrev pub attach : ℕ → Option Tree → Kids → Kids
attach s none ks = ks
attach s (some t) ks = kid s t ks

-- "a child for each nibble present, in rising slot order": n slots from s on, in each what g gives there.
abbrev pub children : (ℕ → Option Tree) → ℕ → ℕ → Kids
children g s zero = end
children g s (suc n) = attach s (g s) (children g (suc s) n)

-- "No key: empty. One key: a leaf. More: a branch at the first position where two of them differ; a child for each nibble present, in rising slot order; each
-- child is the picture of its group." The first argument bounds the depth; a group has fewer keys than the whole, so the number of keys is enough.
abbrev pub pictured : ℕ → List Entry → Option Tree
pictured zero m = none
pictured (suc n) [] = none
pictured (suc n) (e ∷ []) = some (leaf 0 e.0 e.1)
pictured (suc n) (e ∷ d ∷ m) =
    let p = first_differ e.0 d m in
    some (branch 0 p (children (λ s. pictured n (group p s (e ∷ d ∷ m))) 0 slot_count))

-- The picture of a map's keys. Its record numbers are all 0.
abbrev pub picture_of : List Entry → Option Tree
picture_of m = pictured (length m) m

-- The way down to the closest leaf: the positions of the branches passed, from the root on; the leaf's record and key.
pub record Descent : Type 0 where
  pub path : List ℕ
  pub number : ℕ
  pub key : List ℕ

-- A way down that passes one branch more, at the top.
abbrev pub pass : ℕ → Descent → Descent
pass p d = record { path = p ∷ d.path; number = d.number; key = d.key }

-- "Closest leaf to a key: go down by the key's nibble, or by the lowest present slot where it is missing."
abbrev mutual
  pub closest : List ℕ → Tree → Descent
  closest k (leaf n l v) = record { path = []; number = n; key = l }
  closest k (branch n p ks) = pass p (closest_k k (nibble k p) ks (first k ks))

  -- the child in slot s, or else d
  pub closest_k : List ℕ → ℕ → Kids → Descent → Descent
  closest_k k s end d = d
  closest_k k s (kid r t ks) d = on_equal (compare s r) (closest k t) (closest_k k s ks d)

  -- the child in the lowest slot
  pub first : List ℕ → Kids → Descent
  first k end = record { path = []; number = 0; key = [] }
  first k (kid r t ks) = closest k t

-- "Depth of a leaf: the branches above it". The closest leaf to a stored key is its own.
abbrev pub depth : List ℕ → Option Tree → ℕ
depth k none = 0
depth k (some t) = length (closest k t).path

-- A number stands in a list.
abbrev pub member : ℕ → List ℕ → Bool
member x [] = false
member x (y ∷ l) = eqb x y || member x l

-- "c is its critical position with the closest leaf. If the path to that leaf has a branch at c, a child is added and nothing is refused. Otherwise it is HEIGHT
-- exactly if the closest leaf's depth is at least the limit."
abbrev pub too_high : ℕ → List ℕ → Descent → Bool
too_high limit k d = not (member (critical k d.key) d.path) && leb limit (length d.path)

-- The same for a store's whole content: "The store isn't empty, the key is new .. An empty store takes a key under any limit."
abbrev pub refuses_height : ℕ → List ℕ → Option Tree → Bool
refuses_height limit k none = false
refuses_height limit k (some t) = too_high limit k (closest k t)

-- KEY: "a key, prefix or after-key is longer than 64"
abbrev pub too_long : List ℕ → Bool
too_long k = leb (suc key_limit) (length k)

-- P holds of the key of every leaf.
abbrev mutual
  pub Every : (List ℕ → Type 0) → Tree → Type 0
  Every P (leaf n k v) = P k
  Every P (branch n p ks) = Everys P ks

  pub Everys : (List ℕ → Type 0) → Kids → Type 0
  Everys P end = Unit {0}
  Everys P (kid s t ks) = Every P t × Everys P ks

-- The number of children.
abbrev pub count : Kids → ℕ
count end = 0
count (kid s t ks) = suc (count ks)

-- "in rising slot order", from the slot `low` on.
abbrev pub SlotsRise : ℕ → Kids → Type 0
SlotsRise low end = Unit {0}
SlotsRise low (kid s t ks) = (low ≤ s) × SlotsRise (suc s) ks

-- "positions rise along every path": a branch at the root stands at position `low` or past it.
abbrev pub StartsAt : ℕ → Tree → Type 0
StartsAt low (leaf n k v) = Unit {0}
StartsAt low (branch n p ks) = low ≤ p

-- "all leaves under a branch at position p agree on nibbles before p, and those under a child have that child's slot as nibble p": of the key k below slot s,
-- where w is a key with which all leaves under the branch agree.
pub record Below (p : ℕ) (w : List ℕ) (s : ℕ) (k : List ℕ) : Type 0 where
  pub agree : Agree p w k
  pub slot : nibble k p ≡ s

-- "It holds a picture: .. a branch has 2 to 17 children; positions rise along every path; all leaves under a branch at position p agree on nibbles before p, and
-- those under a child have that child's slot as nibble p; keys fit". (At most 17: the slots rise, and a nibble is below 17.)
abbrev mutual
  pub Picture : Tree → Type 0
  Picture (leaf n k v) = IsKey k
  Picture (branch n p ks) = (w : List ℕ) × Pictures p w ks × SlotsRise 0 ks × (2 ≤ count ks)

  -- of the children of a branch at position p, whose leaves agree with w before p
  pub Pictures : ℕ → List ℕ → Kids → Type 0
  Pictures p w end = Unit {0}
  Pictures p w (kid s t ks) = Picture t × StartsAt (suc p) t × Every (Below p w s) t × Pictures p w ks

-- A store's whole content, nothing or a tree, is a picture.
abbrev pub Pictured : Option Tree → Type 0
Pictured none = Unit {0}
Pictured (some t) = Picture t

-- A tree that a store's records hold: each leaf and branch in the record of its number. What a record holds is left to the store's layout, as two
-- predicates.
-- Assumes nothing.
use Prim.Native.Nat.{ℕ, compare}
use Rattle.std.specs.Prelude.{◌≡◌, ◌≢◌, ◌⊎◌, List, [], ◌∷◌}
use Rattle.std.proofs.Math.Option.{Option, none, some}
use Rattle.model.specs.Key.{on_equal}
use Rattle.model.specs.Map.{choose}
use Rattle.model.specs.Nibble.{nibble}
use Rattle.model.specs.Picture.{Tree, leaf, branch, Kids, end, kid}
use Rattle.pictures.specs.Tree.{New, new_slot}

-- A link to a child: a leaf with its number, or a branch with its number and its position.
pub data Child : Type 0 where
  to_leaf : ℕ → Child
  to_branch : (number position : ℕ) → Child

abbrev pub root : Tree → Child
root (leaf n k v) = to_leaf n
root (branch n p ks) = to_branch n p

-- A branch record's packed children, each with its slot.
abbrev pub Row : Type 0
Row = List (ℕ × Child)

abbrev pub row : Kids → Row
row end = []
row (kid s t ks) = (s, root t) ∷ row ks

abbrev pub child_at : ℕ → Row → Option Child
child_at s [] = none
child_at s (e ∷ cs) = on_equal (compare s e.0) (some e.1) (child_at s cs)

-- a slot's child replaced; one child more, in a slot that is free; two children in the order of their slots
abbrev pub set_row : ℕ → Child → Row → Row
set_row s c [] = []
set_row s c (e ∷ cs) = on_equal (compare s e.0) ((e.0, c) ∷ cs) (e ∷ set_row s c cs)

abbrev pub add_row : ℕ → Child → Row → Row
add_row s c [] = (s, c) ∷ []
add_row s c (e ∷ cs) = choose (compare s e.0) ((s, c) ∷ e ∷ cs) (e ∷ cs) (e ∷ add_row s c cs)

abbrev pub pair_row : ℕ → Child → ℕ → Child → Row
pair_row s c r d = choose (compare s r) ((s, c) ∷ (r, d) ∷ []) [] ((r, d) ∷ (s, c) ∷ [])

-- What the records of a store hold.
pub record Memory : Type 1 where
  -- leaf record n holds this key and value
  pub Leaf : (n : ℕ) → List ℕ → ℕ → Type 0
  -- branch record n holds these links
  pub Branch : (n : ℕ) → Row → Type 0

abbrev mutual
  pub Holds : Memory → Tree → Type 0
  Holds M (leaf n k v) = M.Leaf n k v
  Holds M (branch n p ks) = M.Branch n (row ks) × HoldsAll M ks

  pub HoldsAll : Memory → Kids → Type 0
  HoldsAll M end = Unit {0}
  HoldsAll M (kid s t ks) = Holds M t × HoldsAll M ks

-- u is the child in slot s
pub data At (s : ℕ) (u : Tree) : Kids → Type 0 where
  here : {ks : Kids} → At s u (kid s u ks)
  there : {r : ℕ} {t : Tree} {ks : Kids} → s ≢ r → At s u ks → At s u (kid r t ks)

-- no child is in slot s
abbrev pub Lacks : ℕ → Kids → Type 0
Lacks s end = Unit {0}
Lacks s (kid r t ks) = (s ≢ r) × Lacks s ks

-- Where an insertion writes: the whole tree gets a new root, a branch gets a child more, or a branch's child in a slot is replaced. The child is what
-- the new branch displaces.
pub data Site : Type 0 where
  whole : Child → Site
  grows : (number : ℕ) → Site
  under : (number slot : ℕ) → Child → Site

-- the site in a child, seen from the branch above
abbrev pub below : ℕ → ℕ → Site → Site
below n s (whole c) = under n s c
below n s (grows m) = grows m
below n s (under m r c) = under m r c

abbrev mutual
  pub site : New → Tree → Site
  site x (leaf n k v) = whole (to_leaf n)
  site x (branch n p ks) = choose (compare x.place p) (whole (to_branch n p)) (grows n) (site_k x n (nibble x.key p) ks)

  pub site_k : New → ℕ → ℕ → Kids → Site
  site_k x n s end = grows n
  site_k x n s (kid r t ks) = on_equal (compare s r) (below n s (site x t)) (site_k x n s ks)

-- the branch record that is changed
abbrev pub Changes : Site → ℕ → Type 0
Changes (whole c) m = ⊥
Changes (grows n) m = m ≡ n
Changes (under n s c) m = m ≡ n

-- What an insertion has written, from the memory M to N.
abbrev pub Forked : Memory → New → Child → Type 0
Forked N x c = N.Branch x.branch_no (pair_row (new_slot x) (to_leaf x.leaf_no) x.other c)

abbrev pub Written : Memory → Memory → New → Site → Type 0
Written M N x (whole c) = Forked N x c
Written M N x (grows n) = (r : Row) → M.Branch n r → child_at (new_slot x) r ≡ none → N.Branch n (add_row (new_slot x) (to_leaf x.leaf_no) r)
Written M N x (under n s c) = Forked N x c × ((r : Row) (d : Child) → M.Branch n r → child_at s r ≡ some d → N.Branch n (set_row s (to_branch x.branch_no x.place) r))

-- the root's child after it
abbrev pub root_after : New → Site → Child → Child
root_after x (whole c) d = to_branch x.branch_no x.place
root_after x (grows n) d = d
root_after x (under n s c) d = d

-- Where a removal writes: the tree was the leaf itself; its root branch had two children, is freed, and the other child is the new root; a branch loses
-- a slot; or a branch's child in a slot, a branch that had two children, is freed and replaced by its other child.
pub data Cut : Type 0 where
  gone : Cut
  lifts : (freed : ℕ) → Child → Cut
  shrinks : (number slot : ℕ) → Cut
  relinks : (number slot freed : ℕ) → Child → Cut

abbrev pub drop_row : ℕ → Row → Row
drop_row s [] = []
drop_row s (e ∷ cs) = on_equal (compare s e.0) cs (e ∷ drop_row s cs)

-- a branch that is left with these children, having lost a leaf in slot s
abbrev pub cut_leaf : ℕ → ℕ → Row → Cut
cut_leaf n s [] = gone
cut_leaf n s (e ∷ []) = lifts n e.1
cut_leaf n s (e ∷ d ∷ cs) = shrinks n s

-- the cut in the child in slot s, seen from the branch above, whose row is r
abbrev pub cut_above : ℕ → ℕ → Row → Cut → Cut
cut_above n s r gone = cut_leaf n s (drop_row s r)
cut_above n s r (lifts f c) = relinks n s f c
cut_above n s r (shrinks m q) = shrinks m q
cut_above n s r (relinks m q f c) = relinks m q f c

abbrev mutual
  pub cut : List ℕ → Tree → Cut
  cut k (leaf n l v) = gone
  cut k (branch n p ks) = cut_k k n (nibble k p) (row ks) ks

  pub cut_k : List ℕ → ℕ → ℕ → Row → Kids → Cut
  cut_k k n s r end = gone
  cut_k k n s r (kid q t ks) = on_equal (compare s q) (cut_above n s r (cut k t)) (cut_k k n s r ks)

-- the branch records that are changed or freed
abbrev pub Touches : Cut → ℕ → Type 0
Touches gone m = ⊥
Touches (lifts f c) m = m ≡ f
Touches (shrinks n s) m = m ≡ n
Touches (relinks n s f c) m = (m ≡ n) ⊎ (m ≡ f)

-- What a removal has written, from the memory M to N.
abbrev pub Unlinked : Memory → Memory → Cut → Type 0
Unlinked M N gone = Unit {0}
Unlinked M N (lifts f c) = Unit {0}
Unlinked M N (shrinks n s) = (r : Row) (d : Child) → M.Branch n r → child_at s r ≡ some d → N.Branch n (drop_row s r)
Unlinked M N (relinks n s f c) = (r : Row) (d : Child) → M.Branch n r → child_at s r ≡ some d → N.Branch n (set_row s c r)

-- the root's child after it, if anything is left
abbrev pub root_left : Cut → Child → Option Child
root_left gone d = none
root_left (lifts f c) d = some c
root_left (shrinks n s) d = some d
root_left (relinks n s f c) d = some d

abbrev pub root_of : Option Tree → Option Child
root_of none = none
root_of (some t) = some (root t)

abbrev pub HoldsLeft : Memory → Option Tree → Type 0
HoldsLeft M none = Unit {0}
HoldsLeft M (some t) = Holds M t

-- A branch's child in a slot: induction over a tree by its branches' children, and what a call below a branch does at that child. These are the laws that
-- a descent by a loop goes by, one branch a step.
-- Assumes nothing.
use Prim.Native.Nat.{ℕ, suc, compare}
use mathlib.Core.Path.{◌≡◌, refl, sym, ◌∙◌, ap, subst}
use mathlib.Core.Logic.{◌⊎◌, inl, inr}
use mathlib.Core.List.{List, ◌∷◌}
use mathlib.Core.Option.{none, some}
use native.Mathlib.Decide.{ℕ_discrete}
use Rattle.model.specs.Key.{on_equal}
use Rattle.model.specs.Picture.{Tree, leaf, branch, Kids, end, kid, Every, Everys, StartsAt, Below, Picture, Pictures, Descent, closest, closest_k}
use Rattle.model.proofs.Compare.{compare_self, number_other}
use Rattle.pictures.specs.Tree.{get_t, get_k, New, insert_at, insert_k, set_t, set_k}
use Rattle.pictures.specs.Stored.{root, Row, row, child_at, set_row, Memory, Holds, HoldsAll, At, here, there, Lacks, below, site, site_k}

-- Induction: a statement on trees holds of a branch if it holds of the child in each of its slots.
at_end : {s : ℕ} {u : Tree} → At s u end → ⊥
at_end a = elim a [ ]

module _ (P : Tree → Type 0) (at_leaf : (n : ℕ) (k : List ℕ) (v : ℕ) → P (leaf n k v)) (at_branch : (n p : ℕ) (ks : Kids) → ((s : ℕ) (u : Tree) → At s u ks → P u) → P (branch n p ks)) where
  step_ind : {r : ℕ} {t : Tree} {ks : Kids} {s : ℕ} {u : Tree} → P t → (At s u ks → P u) → At s u (kid r t ks) → P u
  step_ind p f here = p
  step_ind p f (there d a) = f a

  mutual
    pub tree_ind : (t : Tree) → P t
    tree_ind (leaf n k v) = at_leaf n k v
    tree_ind (branch n p ks) = at_branch n p ks (λ s u a. kids_ind ks s u a)

    kids_ind : (ks : Kids) (s : ℕ) (u : Tree) → At s u ks → P u
    kids_ind end s u a = absurd (at_end a)
    kids_ind (kid r t ks) s u a = step_ind (tree_ind t) (λ b. kids_ind ks s u b) a

-- Whatever holds of all children holds of the one in a slot.
pub every_at : (P : List ℕ → Type 0) {s : ℕ} {u : Tree} {ks : Kids} → At s u ks → Everys P ks → Every P u
every_at P here h = h.0
every_at P (there d a) h = every_at P a h.1

pub holds_at : (M : Memory) {s : ℕ} {u : Tree} {ks : Kids} → At s u ks → HoldsAll M ks → Holds M u
holds_at M here h = h.0
holds_at M (there d a) h = holds_at M a h.1

pub picture_at : (p : ℕ) (w : List ℕ) {s : ℕ} {u : Tree} {ks : Kids} → At s u ks → Pictures p w ks → Picture u × StartsAt (suc p) u × Every (Below p w s) u
picture_at p w here h = (h.0, h.1, h.2)
picture_at p w (there d a) h = picture_at p w a h.3

-- The child in a slot is the one that the branch's record has there.
pub row_at : {s : ℕ} {u : Tree} {ks : Kids} → At s u ks → child_at s (row ks) ≡ some (root u)
row_at {s} here = rw (compare_self s)
row_at {s} {u} (there {r} {t} {ks} d a) = number_other d (some (root t)) (child_at s (row ks)) ∙ row_at a

pub row_lacks : (s : ℕ) (ks : Kids) → Lacks s ks → child_at s (row ks) ≡ none
row_lacks s end d = refl
row_lacks s (kid r t ks) d = number_other d.0 (some (root t)) (child_at s (row ks)) ∙ row_lacks s ks d.1

-- A slot has a child, or it has none.
pub at_or_lacks : (s : ℕ) (ks : Kids) → ((u : Tree) × At s u ks) ⊎ Lacks s ks
at_or_lacks s end = inr tt
at_or_lacks s (kid r t ks) = go (ℕ_discrete s r) (at_or_lacks s ks)
  where
    go : Dec (s ≡ r) → ((u : Tree) × At s u ks) ⊎ Lacks s ks → ((u : Tree) × At s u (kid r t ks)) ⊎ Lacks s (kid r t ks)
    go (yes e) q = inl (t, subst (λ (z : ℕ). At s t (kid z t ks)) e here)
    go (no d) (inl q) = inl (q.0, there d q.1)
    go (no d) (inr q) = inr (d, q)

-- What a call does below a branch is what it does at that child.
pub get_at : (k : List ℕ) {s : ℕ} {u : Tree} {ks : Kids} → At s u ks → get_k k s ks ≡ get_t k u
get_at k {s} here = rw (compare_self s)
get_at k {s} (there {r} {t} {ks} d a) = number_other d (get_t k t) (get_k k s ks) ∙ get_at k a

pub get_lacks : (k : List ℕ) (s : ℕ) (ks : Kids) → Lacks s ks → get_k k s ks ≡ none
get_lacks k s end d = refl
get_lacks k s (kid r t ks) d = number_other d.0 (get_t k t) (get_k k s ks) ∙ get_lacks k s ks d.1

pub closest_at : (k : List ℕ) (d : Descent) {s : ℕ} {u : Tree} {ks : Kids} → At s u ks → closest_k k s ks d ≡ closest k u
closest_at k d {s} here = rw (compare_self s)
closest_at k d {s} (there {r} {t} {ks} e a) = number_other e (closest k t) (closest_k k s ks d) ∙ closest_at k d a

pub closest_lacks : (k : List ℕ) (d : Descent) (s : ℕ) (ks : Kids) → Lacks s ks → closest_k k s ks d ≡ d
closest_lacks k d s end e = refl
closest_lacks k d s (kid r t ks) e = number_other e.0 (closest k t) (closest_k k s ks d) ∙ closest_lacks k d s ks e.1

pub site_at : (x : New) (n : ℕ) {s : ℕ} {u : Tree} {ks : Kids} → At s u ks → site_k x n s ks ≡ below n s (site x u)
site_at x n {s} here = rw (compare_self s)
site_at x n {s} (there {r} {t} {ks} d a) = number_other d (below n s (site x t)) (site_k x n s ks) ∙ site_at x n a

-- One child is replaced.
abbrev pub replace : ℕ → Tree → Kids → Kids
replace s v end = end
replace s v (kid r t ks) = on_equal (compare s r) (kid r v ks) (kid r t (replace s v ks))

pub insert_at_lem : (x : New) {s : ℕ} {u : Tree} {ks : Kids} → At s u ks → insert_k x s ks ≡ replace s (insert_at x u) ks
insert_at_lem x {s} here = rw (compare_self s)
insert_at_lem x {s} {u} (there {r} {t} {ks} d a) =
    number_other d (kid r (insert_at x t) ks) (kid r t (insert_k x s ks))
    ∙ ap (kid r t) (insert_at_lem x a)
    ∙ sym (number_other d (kid r (insert_at x u) ks) (kid r t (replace s (insert_at x u) ks)))

pub set_at : (k : List ℕ) (v : ℕ) {s : ℕ} {u : Tree} {ks : Kids} → At s u ks → set_k k v s ks ≡ replace s (set_t k v u) ks
set_at k v {s} here = rw (compare_self s)
set_at k v {s} {u} (there {r} {t} {ks} d a) =
    number_other d (kid r (set_t k v t) ks) (kid r t (set_k k v s ks))
    ∙ ap (kid r t) (set_at k v a)
    ∙ sym (number_other d (kid r (set_t k v u) ks) (kid r t (replace s (set_t k v u) ks)))

-- The branch's record then has the new child in that slot, and is the same where the new child has the old one's record.
pub row_replace : (v : Tree) {s : ℕ} {u : Tree} {ks : Kids} → At s u ks → row (replace s v ks) ≡ set_row s (root v) (row ks)
row_replace v {s} here = rw (compare_self s)
row_replace v {s} (there {r} {t} {ks} d a) =
    ap row (number_other d (kid r v ks) (kid r t (replace s v ks)))
    ∙ ap {B = Row} (λ z. (r, root t) ∷ z) (row_replace v a)
    ∙ sym (number_other d ((r, root v) ∷ row ks) ((r, root t) ∷ set_row s (root v) (row ks)))

pub row_same : (v : Tree) {s : ℕ} {u : Tree} {ks : Kids} → At s u ks → root v ≡ root u → row (replace s v ks) ≡ row ks
row_same v {s} (here {ks}) e = rw (compare_self s) (ap {B = Row} (λ z. (s, z) ∷ row ks) e)
row_same v {s} (there {r} {t} {ks} d a) e =
    ap row (number_other d (kid r v ks) (kid r t (replace s v ks))) ∙ ap {B = Row} (λ z. (r, root t) ∷ z) (row_same v a e)

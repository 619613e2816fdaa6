-- What insertion into a stored tree comes to: one new leaf record, at most one new branch record and at most one branch record changed. Whoever writes these, and
-- leaves the tree's other records, has stored the tree with the key inserted.
-- Assumes nothing.
use Prim.Native.Nat.{ℕ, ◌+◌, ◌≤◌, ◌<◌, Ordering}
use mathlib.Core.Path.{◌≡◌, refl, sym, ◌∙◌, ap, subst}
use mathlib.Core.Logic.{◌≢◌}
use mathlib.Core.List.{[], ◌∷◌}
use native.Mathlib.Omega.{arith}
use Rattle.model.specs.Key.{on_equal}
use Rattle.model.specs.Map.{choose}
use Rattle.model.specs.Nibble.{nibble}
use Rattle.model.specs.Picture.{Tree, leaf, branch, Kids, end, kid, Every, Everys, Picture}
use Rattle.model.proofs.Compare.{Said, lower, same, higher, said}
use Rattle.model.proofs.Closest.{Some, Somes, Far}
use Rattle.pictures.specs.Tree.{New, new_slot, new_leaf, pair, fork, add_kid, insert_at, insert_k}
use Rattle.pictures.specs.Records.{tallies, at, leaf_times, branch_times}
use Rattle.pictures.specs.Stored.{Child, to_branch, root, Row, row, set_row, add_row, pair_row, Memory, Holds, HoldsAll, At, Site, whole, grows, under, below, site, site_k, Changes, Forked, Written, root_after}
use Rattle.pictures.proofs.Children.{every_at, row_at, row_lacks, tree_ind, replace, holds_at, picture_at, site_at, insert_at_lem, row_replace, row_same}
use Rattle.pictures.proofs.Insert.{Near, near_slot, slot_free}
use Rattle.pictures.proofs.Frame.{tally_at, at_self, at_same, SameLeaf, SameBranch, frame, frames, replace_holds, child_of}

-- The rows of a fork and of a branch with one child more.
row_pair : (s : ℕ) (t : Tree) (r : ℕ) (u : Tree) → row (pair s t r u) ≡ pair_row s (root t) r (root u)
row_pair s t r u = go (said s r)
  where
    go : {o : Ordering} → Said s r o
        → row (choose o (kid s t (kid r u end)) end (kid r u (kid s t end))) ≡ choose o ((s, root t) ∷ (r, root u) ∷ []) [] ((r, root u) ∷ (s, root t) ∷ [])
    go (lower e) = refl
    go (same e) = refl
    go (higher e) = refl

row_add : (s : ℕ) (u : Tree) (ks : Kids) → row (add_kid s u ks) ≡ add_row s (root u) (row ks)
row_add s u end = refl
row_add s u (kid r t ks) = go (said s r) (row_add s u ks)
  where
    go : {o : Ordering} → Said s r o → row (add_kid s u ks) ≡ add_row s (root u) (row ks)
        → row (choose o (kid s u (kid r t ks)) (kid r t ks) (kid r t (add_kid s u ks))) ≡ choose o ((s, root u) ∷ (r, root t) ∷ row ks) ((r, root t) ∷ row ks) ((r, root t) ∷ add_row s (root u) (row ks))
    go (lower e) ih = refl
    go (same e) ih = refl
    go (higher e) ih = ap {B = Row} (λ z. (r, root t) ∷ z) ih

pair_holds : (N : Memory) (s : ℕ) (t : Tree) (r : ℕ) (u : Tree) → Holds N t → Holds N u → HoldsAll N (pair s t r u)
pair_holds N s t r u a b = go (said s r)
  where
    go : {o : Ordering} → Said s r o → HoldsAll N (choose o (kid s t (kid r u end)) end (kid r u (kid s t end)))
    go (lower e) = (a, (b, tt))
    go (same e) = tt
    go (higher e) = (b, (a, tt))

add_holds : (N : Memory) (s : ℕ) (u : Tree) (ks : Kids) → Holds N u → HoldsAll N ks → HoldsAll N (add_kid s u ks)
add_holds N s u end a b = (a, tt)
add_holds N s u (kid r t ks) a b = go (said s r) (add_holds N s u ks a b.1)
  where
    go : {o : Ordering} → Said s r o → HoldsAll N (add_kid s u ks) → HoldsAll N (choose o (kid s u (kid r t ks)) (kid r t ks) (kid r t (add_kid s u ks)))
    go (lower e) ih = (a, b)
    go (same e) ih = b
    go (higher e) ih = (b.0, ih)

-- The branch that a site changes is one of the tree's.
module _ (x : New) (m : ℕ) where
  step_site : (n p : ℕ) (ks : Kids) (z : Site) → (Changes z m → 1 ≤ at m n + tallies (λ i. 0) (λ i p. at m i) ks)
      → {o : Ordering} → Said x.place p o → Changes (choose o (whole (to_branch n p)) (grows n) z) m → 1 ≤ at m n + tallies (λ i. 0) (λ i p. at m i) ks
  step_site n p ks z f (lower e) c = absurd c
  step_site n p ks z f (same e) c = omega (arith, at_same m n c)
  step_site n p ks z f (higher e) c = f c

  below_site : (n s a : ℕ) (z : Site) → (Changes z m → 1 ≤ a) → Changes (below n s z) m → 1 ≤ at m n + a
  below_site n s a (whole c) f e = omega (arith, at_same m n e)
  below_site n s a (grows k) f e = let i = f e in omega arith
  below_site n s a (under k r c) f e = let i = f e in omega arith

  kid_site : (n s r a b : ℕ) (y z : Site) → (Changes y m → 1 ≤ at m n + a) → (Changes z m → 1 ≤ at m n + b)
      → {o : Ordering} → Said s r o → Changes (on_equal o y z) m → 1 ≤ at m n + (a + b)
  kid_site n s r a b y z f g (lower e) c = let i = g c in omega arith
  kid_site n s r a b y z f g (same e) c = let i = f c in omega arith
  kid_site n s r a b y z f g (higher e) c = let i = g c in omega arith

  mutual
    pub site_within : (t : Tree) → Changes (site x t) m → 1 ≤ branch_times m t
    site_within (leaf n k v) c = absurd c
    site_within (branch n p ks) c = step_site n p ks (site_k x n (nibble x.key p) ks) (λ d. sites_within n (nibble x.key p) ks d) (said x.place p) c

    sites_within : (n s : ℕ) (ks : Kids) → Changes (site_k x n s ks) m → 1 ≤ at m n + tallies (λ i. 0) (λ i p. at m i) ks
    sites_within n s end c = omega (arith, at_same m n c)
    sites_within n s (kid r t ks) c =
        kid_site n s r (branch_times m t) (tallies (λ i. 0) (λ i p. at m i) ks) (below n s (site x t)) (site_k x n s ks)
        (λ d. below_site n s (branch_times m t) (site x t) (λ e. site_within t e) d) (λ d. sites_within n s ks d) (said s r) c

-- A site in a child, seen from the branch above and from the child.
not_below : (n s m : ℕ) (z : Site) → m ≢ n → (Changes z m → ⊥) → Changes (below n s z) m → ⊥
not_below n s m (whole c) d f e = d e
not_below n s m (grows k) d f e = f e
not_below n s m (under k r c) d f e = f e

module _ (M N : Memory) (x : New) where
  written_below : (n s : ℕ) (z : Site) → Written M N x (below n s z) → Written M N x z
  written_below n s (whole c) w = w.0
  written_below n s (grows m) w = w
  written_below n s (under m r c) w = w

  row_after : (n p s : ℕ) (u v : Tree) (ks : Kids) → At s u ks → (z : Site) → root v ≡ root_after x z (root u) → ((Changes (below n s z) n → ⊥) → SameBranch M N n)
      → (Changes z n → ⊥) → Written M N x (below n s z) → M.Branch n (row ks) → N.Branch n (row (replace s v ks))
  row_after n p s u v ks a (whole c) e f g w h =
      subst (N.Branch n) (ap (λ (d : Child). set_row s d (row ks)) (sym e) ∙ sym (row_replace v a)) (w.1 (row ks) (root u) h (row_at a))
  row_after n p s u v ks a (grows m) e f g w h = subst (N.Branch n) (sym (row_same v a e)) (f g (row ks) h)
  row_after n p s u v ks a (under m r c) e f g w h = subst (N.Branch n) (sym (row_same v a e)) (f g (row ks) h)

  -- What is asked of a tree and of the two memories.
  pub record Asked (t : Tree) : Type 0 where
    pub picture : Picture t
    pub near : Some (Near x) t
    pub far : Every (Far x.key x.place) t
    pub once : (n : ℕ) → branch_times n t ≤ 1
    pub held : Holds M t
    pub leaf : N.Leaf x.leaf_no x.key x.value
    pub leaves : (n : ℕ) → 1 ≤ leaf_times n t → SameLeaf M N n
    pub branches : (n : ℕ) → 1 ≤ branch_times n t → (Changes (site x t) n → ⊥) → SameBranch M N n
    pub written : Written M N x (site x t)

  -- What follows.
  pub record Stored (t : Tree) : Type 0 where
    pub held : Holds N (insert_at x t)
    pub child : root (insert_at x t) ≡ root_after x (site x t) (root t)

  fork_holds : (t : Tree) → N.Leaf x.leaf_no x.key x.value → Holds N t → Forked N x (root t) → Holds N (fork x t)
  fork_holds t l h w = (
    subst (N.Branch x.branch_no) (sym (row_pair (new_slot x) (new_leaf x) x.other t)) w,
    pair_holds N (new_slot x) (new_leaf x) x.other t l h,
  )

  -- the child in whose slot the new key is
  descend : (n p s : ℕ) (ks : Kids) (u : Tree) → At s u ks → (Asked u → Stored u) → Picture u → Some (Near x) u → Every (Far x.key x.place) u
      → ((m : ℕ) → branch_times m (branch n p ks) ≤ 1) → Holds M (branch n p ks) → N.Leaf x.leaf_no x.key x.value
      → ((m : ℕ) → 1 ≤ leaf_times m (branch n p ks) → SameLeaf M N m)
      → ((m : ℕ) → 1 ≤ branch_times m (branch n p ks) → (Changes (below n s (site x u)) m → ⊥) → SameBranch M N m)
      → Written M N x (below n s (site x u)) → Holds N (branch n p (replace s (insert_at x u) ks))
  descend n p s ks u a ih pic near far once h l ls bs w = (
    row_after n p s u (insert_at x u) ks a (site x u) i.child (bs n (omega (arith, at_self n))) away w h.0,
    replace_holds M N (insert_at x u) a i.held (λ m q. ls m (omega arith)) (λ m q. bs m (omega arith) (others m q)) h.1,
  )
    where
      in_kids : (m : ℕ) → branch_times m u ≤ tallies (λ j. 0) (λ j q. at m j) ks
      in_kids m = tally_at (λ j. 0) (λ j q. at m j) a

      away : Changes (site x u) n → ⊥
      away c = omega (arith, site_within x n u c, in_kids n, once n, at_self n)

      differs : (m : ℕ) → 1 ≤ branch_times m u → m ≢ n
      differs m q e = omega (arith, in_kids m, once m, at_same m n e)

      others : (m : ℕ) → branch_times m u < tallies (λ j. 0) (λ j q. at m j) ks → Changes (below n s (site x u)) m → ⊥
      others m q =
          not_below n s m (site x u) (λ e. omega (arith, q, once m, at_same m n e)) (λ c. omega (arith, q, once m, site_within x m u c))

      i : Stored u
      i =
          ih (record {
            picture = pic;
            near = near;
            far = far;
            once = λ m. omega (arith, in_kids m, once m);
            held = holds_at M a h.1;
            leaf = l;
            leaves = λ m q. ls m (omega (arith, tally_at (at m) (λ j p. 0) a));
            branches = λ m q c. bs m (omega (arith, in_kids m)) (not_below n s m (site x u) (differs m q) c);
            written = written_below n s (site x u) w;
          })

  -- a branch: the new place is above it, at it or below it
  branch_stored : (n p : ℕ) (ks : Kids) → ((s : ℕ) (u : Tree) → At s u ks → Asked u → Stored u) → (pic : Picture (branch n p ks)) → Somes (Near x) ks → Everys (Far x.key x.place) ks
      → ((m : ℕ) → branch_times m (branch n p ks) ≤ 1) → Holds M (branch n p ks) → N.Leaf x.leaf_no x.key x.value
      → ((m : ℕ) → 1 ≤ leaf_times m (branch n p ks) → SameLeaf M N m)
      → {o : Ordering} → Said x.place p o
      → ((m : ℕ) → 1 ≤ branch_times m (branch n p ks) → (Changes (choose o (whole (to_branch n p)) (grows n) (site_k x n (nibble x.key p) ks)) m → ⊥) → SameBranch M N m)
      → Written M N x (choose o (whole (to_branch n p)) (grows n) (site_k x n (nibble x.key p) ks))
      → Holds N (choose o (fork x (branch n p ks)) (branch n p (add_kid (new_slot x) (new_leaf x) ks)) (branch n p (insert_k x (nibble x.key p) ks)))
  branch_stored n p ks ih pic near far once h l ls (lower e) bs w = fork_holds (branch n p ks) l (frame M N (branch n p ks) ls (λ m q. bs m q (λ c. c)) h) w
  branch_stored n p ks ih pic near far once h l ls (same e) bs w = (
    subst (N.Branch n) (sym (row_add (new_slot x) (new_leaf x) ks)) (w (row ks) h.0 (row_lacks (new_slot x) ks (slot_free x p pic.0 ks pic.1 pic.2 near far e))),
    add_holds N (new_slot x) (new_leaf x) ks l
        (frames M N ks (λ m q. ls m (omega arith)) (λ m q. bs m (omega arith) (λ c. omega (arith, once m, at_same m n c))) h.1),
  )
  branch_stored n p ks ih pic near far once h l ls (higher e) bs w =
      let (u, a, b) = child_of (Near x) p pic.0 (nibble x.key p) ks (λ y q. sym (near_slot x p e y q)) pic.1 pic.2 near in
      let z : site_k x n (nibble x.key p) ks ≡ below n (nibble x.key p) (site x u) = site_at x n a in
      rw (insert_at_lem x a)
      (descend n p (nibble x.key p) ks u a (ih (nibble x.key p) u a) (picture_at p pic.0 a pic.1).0 b (every_at (Far x.key x.place) a far) once h l ls
      (λ m q c. bs m q (λ y. c (rw z at y))) (rw z at w))

  -- below a branch no site replaces the branch itself
  root_below : (n s : ℕ) (z : Site) (d : Child) → root_after x (below n s z) d ≡ d
  root_below n s (whole c) d = refl
  root_below n s (grows m) d = refl
  root_below n s (under m r c) d = refl

  root_kids : (n s : ℕ) (ks : Kids) (d : Child) → root_after x (site_k x n s ks) d ≡ d
  root_kids n s end d = refl
  root_kids n s (kid r t ks) d = go (said s r) (root_kids n s ks d)
    where
      go : {o : Ordering} → Said s r o → root_after x (site_k x n s ks) d ≡ d → root_after x (on_equal o (below n s (site x t)) (site_k x n s ks)) d ≡ d
      go (lower e) ih = ih
      go (same e) ih = root_below n s (site x t) d
      go (higher e) ih = ih

  branch_child : (n p : ℕ) (ks : Kids) → {o : Ordering} → Said x.place p o
      → root (choose o (fork x (branch n p ks)) (branch n p (add_kid (new_slot x) (new_leaf x) ks)) (branch n p (insert_k x (nibble x.key p) ks)))
      ≡ root_after x (choose o (whole (to_branch n p)) (grows n) (site_k x n (nibble x.key p) ks)) (to_branch n p)
  branch_child n p ks (lower e) = refl
  branch_child n p ks (same e) = refl
  branch_child n p ks (higher e) = sym (root_kids n (nibble x.key p) ks (to_branch n p))

  -- Whoever writes what the site asks, and keeps the other records of the tree, has stored the tree with the key inserted.
  pub insert_stored : (t : Tree) → Asked t → Stored t
  insert_stored =
      tree_ind (λ t. Asked t → Stored t)
      (λ n k v q. record { held = fork_holds (leaf n k v) q.leaf (frame M N (leaf n k v) q.leaves (λ m i. q.branches m i (λ c. c)) q.held) q.written; child = refl })
      (λ n p ks ih q. record {
        held = branch_stored n p ks ih q.picture q.near q.far q.once q.held q.leaf q.leaves (said x.place p) q.branches q.written;
        child = branch_child n p ks (said x.place p);
      })

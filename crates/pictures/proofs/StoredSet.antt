-- What overwriting in a stored tree comes to: the value of one leaf record, that of the closest leaf.
-- Assumes nothing.
use Prim.Native.Nat.{ℕ, ◌≤◌}
use mathlib.Core.Path.{◌≡◌, refl, sym, ap, subst}
use mathlib.Core.Logic.{◌≢◌}
use mathlib.Core.List.{List}
use native.Mathlib.Omega.{arith}
use Rattle.model.specs.Nibble.{nibble}
use Rattle.model.specs.Picture.{Tree, leaf, branch, Kids, SlotsRise, Picture, Pictures, closest, closest_k, first}
use Rattle.model.proofs.Closest.{Some, Somes}
use Rattle.pictures.specs.Tree.{set_t}
use Rattle.pictures.specs.Records.{at, leaf_times, branch_times}
use Rattle.pictures.specs.Stored.{root, row, Memory, Holds, At}
use Rattle.pictures.proofs.Children.{tree_ind, holds_at, picture_at, set_at, closest_at, row_same}
use Rattle.pictures.proofs.Frame.{tally_at, at_self, SameLeaf, SameBranch, replace_holds, child_of}

module _ (k : List ℕ) where
  -- the child that has the key
  pub key_child : (p : ℕ) (w : List ℕ) (ks : Kids) → Pictures p w ks → SlotsRise 0 ks → Somes (λ l. k ≡ l) ks → (u : Tree) × At (nibble k p) u ks × Some (λ l. k ≡ l) u
  key_child p w ks h m a = child_of (λ l. k ≡ l) p w (nibble k p) ks (λ l e. ap (λ (z : List ℕ). nibble z p) (sym e)) h m a

  -- the closest leaf of a tree that has the key is one of its leaves
  pub number_within : (t : Tree) → Picture t → Some (λ l. k ≡ l) t → 1 ≤ leaf_times (closest k t).number t
  number_within =
      tree_ind (λ t. Picture t → Some (λ l. k ≡ l) t → 1 ≤ leaf_times (closest k t).number t)
      (λ n l w h a. omega (arith, at_self n))
      (λ n p ks ih h a.
      let (u, z, b) = key_child p h.0 ks h.1 h.2 a in
      rw (closest_at k (first k ks) z)
      (omega (arith, ih (nibble k p) u z (picture_at p h.0 z h.1).0 b, tally_at (at (closest k u).number) (λ j q. 0) z)))

module _ (M N : Memory) (k : List ℕ) (v : ℕ) where
  pub record AskedSet (t : Tree) : Type 0 where
    pub picture : Picture t
    pub stored : Some (λ l. k ≡ l) t
    pub once : (n : ℕ) → leaf_times n t ≤ 1
    pub held : Holds M t
    pub leaf : N.Leaf (closest k t).number k v
    pub leaves : (n : ℕ) → 1 ≤ leaf_times n t → n ≢ (closest k t).number → SameLeaf M N n
    pub branches : (n : ℕ) → 1 ≤ branch_times n t → SameBranch M N n

  set_child_lem : (t : Tree) → root (set_t k v t) ≡ root t
  set_child_lem (leaf n l w) = refl
  set_child_lem (branch n p ks) = refl

  pub set_stored : (t : Tree) → AskedSet t → Holds N (set_t k v t)
  set_stored =
      tree_ind (λ t. AskedSet t → Holds N (set_t k v t))
      (λ n l w q. subst (λ (z : List ℕ). N.Leaf n z v) q.stored q.leaf)
      (λ n p ks ih q.
      let h : Picture (branch n p ks) = q.picture in
      let (u, z, b) = key_child k p h.0 ks h.1 h.2 q.stored in
      let pic : Picture u = (picture_at p h.0 z h.1).0 in
      let e : closest_k k (nibble k p) ks (first k ks) ≡ closest k u = closest_at k (first k ks) z in
      let within : 1 ≤ leaf_times (closest k u).number u = number_within k u pic b in
      let held : Holds N (set_t k v u) =
      ih (nibble k p) u z (record {
        picture = pic;
        stored = b;
        once = λ m. omega (arith, tally_at (at m) (λ j r. 0) z, q.once m);
        held = holds_at M z q.held.1;
        leaf = rw e at q.leaf;
        leaves = λ m i d. q.leaves m (omega (arith, tally_at (at m) (λ j r. 0) z)) (rw e d);
        branches = λ m i. q.branches m (omega (arith, tally_at (λ j. 0) (λ j r. at m j) z));
      }) in
      rw (set_at k v z) (
        subst (N.Branch n) (sym (row_same (set_t k v u) z (set_child_lem u))) (q.branches n (omega (arith, at_self n)) (row ks) q.held.0),
        replace_holds M N (set_t k v u) z held
            (λ m i. q.leaves m (omega arith) (rw e (λ g. omega (arith, i, q.once m, subst (λ (y : ℕ). 1 ≤ leaf_times y u) (sym g) within))))
            (λ m i. q.branches m (omega arith)) q.held.1,
      ))

-- Lookup, insertion, overwriting and removal as functions on trees.
-- Assumes nothing.
use Prim.Native.Nat.{ℕ, compare}
use Rattle.std.specs.Prelude.{List}
use Rattle.std.proofs.Math.Option.{Option, none, some}
use Rattle.model.specs.Key.{order, on_equal}
use Rattle.model.specs.Map.{choose}
use Rattle.model.specs.Nibble.{nibble, critical}
use Rattle.model.specs.Picture.{Tree, leaf, branch, Kids, end, kid, closest, attach}

-- The value of a key: down by the key's nibbles, and the leaf's key compared.
abbrev mutual
  pub get_t : List ℕ → Tree → Option ℕ
  get_t k (leaf n l v) = on_equal (order k l) (some v) none
  get_t k (branch n p ks) = get_k k (nibble k p) ks

  pub get_k : List ℕ → ℕ → Kids → Option ℕ
  get_k k s end = none
  get_k k s (kid r t ks) = on_equal (compare s r) (get_t k t) (get_k k s ks)

-- What is inserted: a key with its value, in the leaf record `leaf_no`, at the critical position `place`, where the closest leaf
-- has the nibble `other`; where a branch is needed it takes the record `branch_no`.
pub record New : Type 0 where
  pub leaf_no : ℕ
  pub branch_no : ℕ
  pub key : List ℕ
  pub value : ℕ
  pub place : ℕ
  pub other : ℕ

abbrev pub new_leaf : New → Tree
new_leaf x = leaf x.leaf_no x.key x.value

-- the slot of the new leaf in a branch at its critical position
abbrev pub new_slot : New → ℕ
new_slot x = nibble x.key x.place

-- two children in the order of their slots, which differ
abbrev pub pair : ℕ → Tree → ℕ → Tree → Kids
pair s t r u = choose (compare s r) (kid s t (kid r u end)) end (kid r u (kid s t end))

-- A branch at the critical position over the new leaf and what stood there.
abbrev pub fork : New → Tree → Tree
fork x t = branch x.branch_no x.place (pair (new_slot x) (new_leaf x) x.other t)

-- one child more, in a slot that is free
abbrev pub add_kid : ℕ → Tree → Kids → Kids
add_kid s u end = kid s u end
add_kid s u (kid r t ks) = choose (compare s r) (kid s u (kid r t ks)) (kid r t ks) (kid r t (add_kid s u ks))

abbrev mutual
  pub insert_at : New → Tree → Tree
  insert_at x (leaf n l w) = fork x (leaf n l w)
  insert_at x (branch n p ks) =
      choose (compare x.place p)
      (fork x (branch n p ks))
      (branch n p (add_kid (new_slot x) (new_leaf x) ks))
      (branch n p (insert_k x (nibble x.key p) ks))

  pub insert_k : New → ℕ → Kids → Kids
  insert_k x s end = end
  insert_k x s (kid r t ks) = on_equal (compare s r) (kid r (insert_at x t) ks) (kid r t (insert_k x s ks))

-- The value of a stored key is replaced.
abbrev mutual
  pub set_t : List ℕ → ℕ → Tree → Tree
  set_t k v (leaf n l w) = leaf n l v
  set_t k v (branch n p ks) = branch n p (set_k k v (nibble k p) ks)

  pub set_k : List ℕ → ℕ → ℕ → Kids → Kids
  set_k k v s end = end
  set_k k v s (kid r t ks) = on_equal (compare s r) (kid r (set_t k v t) ks) (kid r t (set_k k v s ks))

-- what is inserted for a new key, by its closest leaf's key
abbrev pub new_for : ℕ → ℕ → List ℕ → ℕ → List ℕ → New
new_for a b k v q = record { leaf_no = a; branch_no = b; key = k; value = v; place = critical k q; other = nibble q (critical k q) }

abbrev pub insert_t : ℕ → ℕ → List ℕ → ℕ → Tree → Tree
insert_t a b k v t =
    let q = (closest k t).key in
    on_equal (order k q) (set_t k v t) (insert_at (new_for a b k v q) t)

-- Removal: the leaf is taken out, and a branch left with one child is replaced by that child.
abbrev pub join : ℕ → ℕ → Kids → Option Tree
join n p end = none
join n p (kid s t end) = some t
join n p (kid s t (kid r u ks)) = some (branch n p (kid s t (kid r u ks)))

abbrev mutual
  pub remove_t : List ℕ → Tree → Option Tree
  remove_t k (leaf n l v) = on_equal (order k l) none (some (leaf n l v))
  remove_t k (branch n p ks) = join n p (remove_k k (nibble k p) ks)

  pub remove_k : List ℕ → ℕ → Kids → Kids
  remove_k k s end = end
  remove_k k s (kid r t ks) = on_equal (compare s r) (attach r (remove_t k t) ks) (kid r t (remove_k k s ks))

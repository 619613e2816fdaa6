-- The Rust's own text on trees, where document 01 says the same in other words: trie.rs's `insert` with its height rule, and the iterator. RustInsert and
-- RustListing prove that the two are the same.
-- Assumes nothing.
use Prim.Native.Nat.{ℕ, ◌/◌, compare}
use Rattle.std.specs.Prelude.{Bool, true, false, ◌&&◌, ◌||◌, not, List, [], ◌∷◌, ◌++◌, length, leb}
use Rattle.std.proofs.Math.Option.{Option, none, some}
use Rattle.model.specs.Key.{order, on_equal, starts_with}
use Rattle.model.specs.Map.{Entry, pick}
use Rattle.model.specs.Nibble.{nibble}
use Rattle.model.specs.Picture.{Tree, leaf, branch, Kids, end, kid, closest}
use Rattle.model.specs.Page.{Mode, plain, inclusive}
use Rattle.pictures.specs.Tree.{New, new_leaf, new_for, fork, add_kid, set_t}

-- A child that was gone into, refused or not; a child that was passed by.
abbrev pub gone : ℕ → Option Tree → Kids → Option Kids
gone r none ks = none
gone r (some u) ks = some (kid r u ks)

abbrev pub passed : ℕ → Tree → Option (Option Kids) → Option (Option Kids)
passed r t none = none
passed r t (some none) = some none
passed r t (some (some us)) = some (some (kid r t us))

-- `nibbles.get_mut(new_nibble)`: in the child found, go on; if none is found, set the new leaf there.
abbrev pub branched : New → ℕ → ℕ → Kids → Option (Option Kids) → Option Tree
branched x n p ks none = some (branch n p (add_kid (nibble x.key p) (new_leaf x) ks))
branched x n p ks (some none) = none
branched x n p ks (some (some us)) = some (branch n p us)

-- trie.rs's `insert`: the height and the index are worked out by the closest leaf, and then it goes down from the root once more. This is its loop; none where it
-- returns false.
abbrev mutual
  pub loop : ℕ → ℕ → New → Tree → Option Tree
  loop limit height x (leaf n l w) = pick (leb limit height) none (some (fork x (leaf n l w)))
  loop limit height x (branch n p ks) =
      pick (leb p x.place)
      (branched x n p ks (loop_k limit height x (nibble x.key p) ks))
      (pick (leb limit height) none (some (fork x (branch n p ks))))

  pub loop_k : ℕ → ℕ → New → ℕ → Kids → Option (Option Kids)
  loop_k limit height x s end = none
  loop_k limit height x s (kid r t ks) = on_equal (compare s r) (some (gone r (loop limit height x t) ks)) (passed r t (loop_k limit height x s ks))

-- An insertion into a trie that is not empty: the tree after it, or none where it is refused.
abbrev pub rust_insert : ℕ → ℕ → ℕ → List ℕ → ℕ → Tree → Option Tree
rust_insert limit a b k v t =
    let d = closest k t in
    on_equal (order k d.key) (some (set_t k v t)) (loop limit (length d.path) (new_for a b k v d.key) t)

-- iterator.rs and trie.rs's `prefix_find_next`: the leaves met, in the order in which the `todo` list gives them out (it is a stack of what a recursion has
-- yet to visit; the children are put on it last first).
abbrev mutual
  pub visit : List ℕ → Tree → List Entry
  visit q (leaf n k v) = (k, v) ∷ []
  visit q (branch n p ks) = pick (leb (length q) (p / 2)) (visits q ks) (visit_at q (nibble q p) ks)

  pub visits : List ℕ → Kids → List Entry
  visits q end = []
  visits q (kid s t ks) = visit q t ++ visits q ks

  pub visit_at : List ℕ → ℕ → Kids → List Entry
  visit_at q s end = []
  visit_at q s (kid r t ks) = on_equal (compare s r) (visit q t) (visit_at q s ks)

-- A key equals the prefix.
abbrev pub is_prefix : List ℕ → List ℕ → Bool
is_prefix q k = on_equal (order q k) true false

-- What `next` gives of them: `include_prefix` holds until a leaf is given.
abbrev pub gives : List ℕ → Bool → List Entry → List Entry
gives q include [] = []
gives q include (e ∷ m) = pick (starts_with q e.0 && (include || not (is_prefix q e.0))) (e ∷ gives q false m) (gives q include m)

-- `include_prefix` was called, or not.
abbrev pub included : Mode → Bool
included plain = false
included inclusive = true

-- The listing that the iterator gives.
abbrev pub rust_listing : Mode → List ℕ → Tree → List Entry
rust_listing mode q t = gives q (included mode) (visit q t)

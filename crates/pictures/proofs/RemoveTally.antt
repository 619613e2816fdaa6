-- What removal takes from the sums over a tree's records: the leaf, and the branch that is freed.
-- Assumes nothing.
use Prim.Native.Nat.{ℕ, suc, ◌+◌, ◌≤◌}
use mathlib.Core.Path.{◌≡◌, refl, ap}
use mathlib.Core.List.{List}
use mathlib.Core.Option.{Option, none, some}
use native.Mathlib.Omega.{arith}
use Rattle.model.specs.Nibble.{nibble}
use Rattle.model.specs.Picture.{Tree, branch, Kids, end, kid, count, Picture, closest, first}
use Rattle.model.proofs.Compare.{compare_self, number_other}
use Rattle.model.proofs.KeyLaws.{order_eq}
use Rattle.model.proofs.Closest.{Some, Somes}
use Rattle.pictures.specs.Tree.{join, remove_t, remove_k}
use Rattle.pictures.specs.Records.{tally, tallies}
use Rattle.pictures.specs.Stored.{root, row, At, here, there, Cut, gone, lifts, shrinks, relinks, cut_leaf, cut_above, cut, root_left, root_of}
use Rattle.pictures.proofs.Children.{tree_ind, replace, picture_at, closest_at}
use Rattle.pictures.proofs.StoredSet.{key_child}
use Rattle.pictures.proofs.StoredRemove.{drop, row_drop, count_replace, remove_none, remove_some, cut_at, join_some}

count_drop : {s : ℕ} {u : Tree} {ks : Kids} → At s u ks → suc (count (drop s ks)) ≡ count ks
count_drop {s} here = rw (compare_self s)
count_drop {s} (there {r} {t} {ks} d a) = rw (number_other d ks (kid r t (drop s ks))) (ap suc (count_drop a))

module _ (f g : ℕ → ℕ) (k : List ℕ) where
  abbrev pub freed : Cut → ℕ
  freed gone = 0
  freed (lifts n c) = g n
  freed (shrinks n s) = 0
  freed (relinks n s m c) = g m

  abbrev pub tally_left : Option Tree → ℕ
  tally_left none = 0
  tally_left (some t) = tally f (λ n p. g n) t

  tally_replace : (v : Tree) {s : ℕ} {u : Tree} {ks : Kids} → At s u ks
      → tallies f (λ n p. g n) (replace s v ks) + tally f (λ n p. g n) u ≡ tallies f (λ n p. g n) ks + tally f (λ n p. g n) v
  tally_replace v {s} here = rw (compare_self s) (omega arith)
  tally_replace v {s} (there {r} {t} {ks} d a) = let i = tally_replace v a in rw (number_other d (kid r v ks) (kid r t (replace s v ks))) (omega arith)

  tally_drop : {s : ℕ} {u : Tree} {ks : Kids} → At s u ks → tallies f (λ n p. g n) (drop s ks) + tally f (λ n p. g n) u ≡ tallies f (λ n p. g n) ks
  tally_drop {s} here = rw (compare_self s) (omega arith)
  tally_drop {s} (there {r} {t} {ks} d a) = let i = tally_drop a in rw (number_other d ks (kid r t (drop s ks))) (omega arith)

  -- a branch that lost a leaf, with at least one child left
  lost : (n p s : ℕ) (ds : Kids) → 1 ≤ count ds → tally_left (join n p ds) + freed (cut_leaf n s (row ds)) ≡ g n + tallies f (λ n p. g n) ds
  lost n p s end c = absurd (omega arith)
  lost n p s (kid q t end) c = omega arith
  lost n p s (kid q t (kid r u ds)) c = omega arith

  -- a is what the leaf taken out counts for
  finish : (n p s a : ℕ) (ks : Kids) (u : Tree) → At s u ks → 2 ≤ count ks
      → (z : Cut) (o : Option Tree) → remove_t k u ≡ o → root_of o ≡ root_left z (root u) → tally_left o + (a + freed z) ≡ tally f (λ n p. g n) u
      → tally_left (join n p (remove_k k s ks)) + (a + freed (cut_above n s (row ks) z)) ≡ g n + tallies f (λ n p. g n) ks
  finish n p s a ks u q c gone none e r i =
      rw (remove_none k q e, ← row_drop q) (omega (arith, lost n p s (drop s ks) (omega (arith, count_drop q)), tally_drop q))
  finish n p s a ks u q c gone (some v) e r i = absurd (let y : ◌≡◌ {A = ℕ} 0 1 = cc in omega arith)
  finish n p s a ks u q c (lifts m x) none e r i = absurd (let y : ◌≡◌ {A = ℕ} 0 1 = cc in omega arith)
  finish n p s a ks u q c (lifts m x) (some v) e r i =
      rw (remove_some k v q e, join_some n p (replace s v ks) (omega (arith, count_replace v s ks))) (omega (arith, tally_replace v q))
  finish n p s a ks u q c (shrinks m x) none e r i = absurd (let y : ◌≡◌ {A = ℕ} 0 1 = cc in omega arith)
  finish n p s a ks u q c (shrinks m x) (some v) e r i =
      rw (remove_some k v q e, join_some n p (replace s v ks) (omega (arith, count_replace v s ks))) (omega (arith, tally_replace v q))
  finish n p s a ks u q c (relinks m x y z) none e r i = absurd (let w : ◌≡◌ {A = ℕ} 0 1 = cc in omega arith)
  finish n p s a ks u q c (relinks m x y z) (some v) e r i =
      rw (remove_some k v q e, join_some n p (replace s v ks) (omega (arith, count_replace v s ks))) (omega (arith, tally_replace v q))

  pub record Tallied (t : Tree) : Type 0 where
    pub child : root_of (remove_t k t) ≡ root_left (cut k t) (root t)
    pub sum : tally_left (remove_t k t) + (f (closest k t).number + freed (cut k t)) ≡ tally f (λ n p. g n) t

  lost_child : (n p s : ℕ) (ds : Kids) → root_of (join n p ds) ≡ root_left (cut_leaf n s (row ds)) (root (branch n p ds))
  lost_child n p s end = refl
  lost_child n p s (kid q t end) = refl
  lost_child n p s (kid q t (kid r u ds)) = refl

  finish_child : (n p s : ℕ) (ks : Kids) (u : Tree) → At s u ks → 2 ≤ count ks → (z : Cut) (o : Option Tree) → remove_t k u ≡ o → root_of o ≡ root_left z (root u)
      → root_of (join n p (remove_k k s ks)) ≡ root_left (cut_above n s (row ks) z) (root (branch n p ks))
  finish_child n p s ks u q c gone none e r = rw (remove_none k q e, ← row_drop q) (lost_child n p s (drop s ks))
  finish_child n p s ks u q c gone (some v) e r = absurd (let y : ◌≡◌ {A = ℕ} 0 1 = cc in omega arith)
  finish_child n p s ks u q c (lifts m x) none e r = absurd (let y : ◌≡◌ {A = ℕ} 0 1 = cc in omega arith)
  finish_child n p s ks u q c (lifts m x) (some v) e r = rw (remove_some k v q e, join_some n p (replace s v ks) (omega (arith, count_replace v s ks)))
  finish_child n p s ks u q c (shrinks m x) none e r = absurd (let y : ◌≡◌ {A = ℕ} 0 1 = cc in omega arith)
  finish_child n p s ks u q c (shrinks m x) (some v) e r = rw (remove_some k v q e, join_some n p (replace s v ks) (omega (arith, count_replace v s ks)))
  finish_child n p s ks u q c (relinks m x y z) none e r = absurd (let w : ◌≡◌ {A = ℕ} 0 1 = cc in omega arith)
  finish_child n p s ks u q c (relinks m x y z) (some v) e r = rw (remove_some k v q e, join_some n p (replace s v ks) (omega (arith, count_replace v s ks)))

  at_branch : (n p : ℕ) (ks : Kids) → ((s : ℕ) (u : Tree) → At s u ks → Picture u → Some (λ l. k ≡ l) u → Tallied u)
      → Picture (branch n p ks) → Somes (λ l. k ≡ l) ks → Tallied (branch n p ks)
  at_branch n p ks ih h a =
      let (u, q, b) = key_child k p h.0 ks h.1 h.2 a in
      let i = ih (nibble k p) u q (picture_at p h.0 q h.1).0 b in
      record {
        child = rw (cut_at k n (row ks) q) (finish_child n p (nibble k p) ks u q h.3 (cut k u) (remove_t k u) refl i.child);
        sum =
            rw (cut_at k n (row ks) q, closest_at k (first k ks) q)
            (finish n p (nibble k p) (f (closest k u).number) ks u q h.3 (cut k u) (remove_t k u) refl i.child i.sum);
      }

  pub remove_tally : (t : Tree) → Picture t → Some (λ l. k ≡ l) t → Tallied t
  remove_tally =
      tree_ind (λ t. Picture t → Some (λ l. k ≡ l) t → Tallied t)
      (λ n l v h a. record { child = rw (order_eq a); sum = rw (order_eq a) (omega arith) }) at_branch

-- Sums over the records of a tree: what insertion adds to them. From this come the stored count, that a new record is reached once and every other
-- as often as before, and that a branch record is there whenever a leaf record is.
-- Assumes nothing.
use Prim.Native.Nat.{ℕ, suc, ◌+◌, ◌≤◌, ◌<◌, Ordering}
use mathlib.Core.Path.{◌≡◌, refl}
use mathlib.Core.Logic.{◌≢◌}
use mathlib.Core.Bool.{Bool, true, false, ◌||◌}
use mathlib.Core.List.{List}
use native.Mathlib.Omega.{arith}
use lib.ListN.{length, length-append}
use lib.Dec.{compare_is_eq}
use Rattle.model.specs.Key.{on_equal}
use Rattle.model.specs.Map.{pick, choose}
use Rattle.model.specs.Nibble.{nibble}
use Rattle.model.specs.Picture.{Tree, leaf, branch, Kids, end, kid, listing, listings, Every, Everys, SlotsRise, Picture, Pictures, count, Descent, closest, closest_k, first, member}
use Rattle.model.proofs.Compare.{Said, lower, same, higher, said}
use Rattle.model.proofs.Closest.{Some, Somes, Far}
use Rattle.model.proofs.Bounds.{Rises, path_rises, place_bound, member_low}
use Rattle.pictures.specs.Tree.{New, new_leaf, new_slot, fork, add_kid, insert_at, insert_k}
use Rattle.pictures.specs.Records.{tally, tallies, at, leaves, branches, leaf_times, branch_times}
use Rattle.pictures.specs.Stored.{Lacks}
use Rattle.pictures.proofs.Put.{Turn, here, onward, turn}
use Rattle.pictures.proofs.Insert.{Near, near_slot, slot_free}

-- The leaves are the entries.
mutual
  pub leaves_length : (t : Tree) → leaves t ≡ length (listing t)
  leaves_length (leaf n k v) = refl
  leaves_length (branch n p ks) = let i = leaves_lengths ks in omega arith

  leaves_lengths : (ks : Kids) → tallies (λ n. 1) (λ n p. 0) ks ≡ length (listings ks)
  leaves_lengths end = refl
  leaves_lengths (kid s t ks) =
      let a = leaves_length t in
      let b = leaves_lengths ks in
      omega (arith, length-append (listing t) (listings ks))

-- A picture has fewer branches than leaves: where a leaf record is free, a branch record is.
mutual
  pub fewer_branches : (t : Tree) → Picture t → branches t < leaves t
  fewer_branches (leaf n k v) h = omega arith
  fewer_branches (branch n p ks) h = let i = fewer_branches_below p h.0 ks h.1 in omega arith

  fewer_branches_below : (p : ℕ) (w : List ℕ) (ks : Kids) → Pictures p w ks → tallies (λ n. 0) (λ n p. 1) ks + count ks ≤ tallies (λ n. 1) (λ n p. 0) ks
  fewer_branches_below p w end h = omega arith
  fewer_branches_below p w (kid s t ks) h =
      let a = fewer_branches t h.0 in
      let b = fewer_branches_below p w ks h.3 in
      omega arith

-- Insertion adds the new leaf, and the new branch unless the way to the closest leaf passes a branch at the new place.
module _ (f : ℕ → ℕ) (g : ℕ → ℕ → ℕ) (x : New) (differs : new_slot x ≢ x.other) where
  abbrev pub added : Bool → ℕ
  added passed = f x.leaf_no + pick passed 0 (g x.branch_no x.place)

  fork_tally : (t : Tree) → tally f g (fork x t) ≡ tally f g t + added false
  fork_tally t = go (said (new_slot x) x.other)
    where
      go : {o : Ordering} → Said (new_slot x) x.other o
          → g x.branch_no x.place + tallies f g (choose o (kid (new_slot x) (new_leaf x) (kid x.other t end)) end (kid x.other t (kid (new_slot x) (new_leaf x) end)))
          ≡ tally f g t + added false
      go (lower h) = omega arith
      go (same h) = absurd (differs h)
      go (higher h) = omega arith

  add_tally : (s : ℕ) (ks : Kids) → Lacks s ks → tallies f g (add_kid s (new_leaf x) ks) ≡ tallies f g ks + added true
  add_tally s end a = omega arith
  add_tally s (kid r t ks) a = go (said s r) (add_tally s ks a.1)
    where
      go : {o : Ordering} → Said s r o → tallies f g (add_kid s (new_leaf x) ks) ≡ tallies f g ks + added true
          → tallies f g (choose o (kid s (new_leaf x) (kid r t ks)) (kid r t ks) (kid r t (add_kid s (new_leaf x) ks))) ≡ tally f g t + tallies f g ks + added true
      go (lower h) ih = omega arith
      go (same h) ih = absurd (a.0 h)
      go (higher h) ih = omega arith

  step_tally : (n p : ℕ) (ks : Kids) (ps : List ℕ) (h : Picture (branch n p ks)) → Somes (Near x) ks → Everys (Far x.key x.place) ks → Rises (suc p) ps
      → (p < x.place → tallies f g (insert_k x (nibble x.key p) ks) ≡ tallies f g ks + added (member x.place ps))
      → {o : Ordering} → Said x.place p o
      → tally f g (choose o (fork x (branch n p ks)) (branch n p (add_kid (new_slot x) (new_leaf x) ks)) (branch n p (insert_k x (nibble x.key p) ks)))
      ≡ g n p + tallies f g ks + added (compare_is_eq o || member x.place ps)
  step_tally n p ks ps h a b r e (lower q) = rw (member_low x.place (suc p) ps (omega arith) r) (fork_tally (branch n p ks))
  step_tally n p ks ps h a b r e (same q) = let i = add_tally (new_slot x) ks (slot_free x p h.0 ks h.1 h.2 a b q) in omega arith
  step_tally n p ks ps h a b r e (higher q) = let i = e q in omega arith

  kid_tally : (p : ℕ) (w : List ℕ) (past : p < x.place) (r : ℕ) (t : Tree) (ks us : Kids) (d e : Descent)
      → (Some (Near x) t → tally f g (insert_at x t) ≡ tally f g t + added (member x.place d.path))
      → (Somes (Near x) ks → tallies f g us ≡ tallies f g ks + added (member x.place e.path))
      → {o : Ordering} → Turn x.key (Near x) p w (near_slot x p past) r t ks o
      → tallies f g (on_equal o (kid r (insert_at x t) ks) (kid r t us)) ≡ tally f g t + tallies f g ks + added (member x.place (on_equal o d e).path)
  kid_tally p w past r t ks us d e i j (here q a) = let y = i a in omega arith
  kid_tally p w past r t ks us d e i j (onward q a) = let y = j a in omega arith

  mutual
    pub insert_tally : (t : Tree) → Picture t → Some (Near x) t → Every (Far x.key x.place) t
        → tally f g (insert_at x t) ≡ tally f g t + added (member x.place (closest x.key t).path)
    insert_tally (leaf n l v) h a b = fork_tally (leaf n l v)
    insert_tally (branch n p ks) h a b =
        step_tally n p ks (closest_k x.key (nibble x.key p) ks (first x.key ks)).path h a b
        (path_rises x.key p (branch n p ks) (omega (arith, place_bound n p ks h)) h (omega arith)).2
        (λ past. inserts_tally p h.0 past 0 ks (first x.key ks) h.1 h.2 a b) (said x.place p)

    inserts_tally : (p : ℕ) (w : List ℕ) → p < x.place → (low : ℕ) (ks : Kids) (d : Descent) → Pictures p w ks → SlotsRise low ks
        → Somes (Near x) ks → Everys (Far x.key x.place) ks
        → tallies f g (insert_k x (nibble x.key p) ks) ≡ tallies f g ks + added (member x.place (closest_k x.key (nibble x.key p) ks d).path)
    inserts_tally p w past low end d h m a b = absurd a
    inserts_tally p w past low (kid r t ks) d h m a b =
        kid_tally p w past r t ks (insert_k x (nibble x.key p) ks) (closest x.key t) (closest_k x.key (nibble x.key p) ks d)
        (λ y. insert_tally t h.0 y b.0) (λ y. inserts_tally p w past (suc r) ks d h.3 m.1 y b.1)
        (turn x.key (Near x) p w (near_slot x p past) low r t ks h m (said (nibble x.key p) r) a)

-- Of single records: the new leaf is reached once more, the new branch once more where it is used, every other record as often as before.
module _ (x : New) (differs : new_slot x ≢ x.other) (t : Tree) (h : Picture t) (near : Some (Near x) t) (far : Every (Far x.key x.place) t) where
  abbrev passed : Bool
  passed = member x.place (closest x.key t).path

  pub insert_leaf_times : (r : ℕ) → leaf_times r (insert_at x t) ≡ leaf_times r t + at r x.leaf_no
  insert_leaf_times r = go passed (insert_tally (at r) (λ n p. 0) x differs t h near far)
    where
      go : (b : Bool) → leaf_times r (insert_at x t) ≡ leaf_times r t + added (at r) (λ n p. 0) x differs b → leaf_times r (insert_at x t) ≡ leaf_times r t + at r x.leaf_no
      go true e = omega arith
      go false e = omega arith

  pub insert_branch_times : (r : ℕ) → branch_times r (insert_at x t) ≡ branch_times r t + pick passed 0 (at r x.branch_no)
  insert_branch_times r = let i = insert_tally (λ n. 0) (λ n p. at r n) x differs t h near far in omega arith

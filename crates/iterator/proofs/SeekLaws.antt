-- The way down by a prefix in a tree that the records hold: it ends where the tree's own does. Assumes nothing.
use Prim.Native.Nat.{ℕ, zero, suc, ◌+◌, ◌*◌, ◌≤◌, ◌<◌, Ordering}
use mathlib.Core.Path.{◌≡◌, refl, sym, subst, ◌∙◌}
use mathlib.Core.Logic.{◌⊎◌, inl, inr}
use mathlib.Core.List.{List}
use mathlib.Core.Option.{Option, none, some}
use native.Mathlib.Omega.{arith}
use lib.ListN.{length}
use Rattle.model.specs.Key.{key_limit}
use Rattle.model.specs.Map.{choose}
use Rattle.model.specs.Nibble.{nibble}
use Rattle.model.specs.Numbers.{most}
use Rattle.model.specs.Picture.{Tree, leaf, branch, Kids, end, kid, StartsAt, Picture}
use Rattle.model.proofs.Bounds.{place_bound}
use Rattle.model.proofs.Compare.{Said, lower, same, higher, said, compare_self, number_other}
use Rattle.pictures.specs.Prefix.{seek, seek_k}
use Rattle.pictures.specs.Stored.{to_leaf, to_branch, root, Holds, At, here, there, Lacks}
use Rattle.pictures.proofs.Children.{tree_ind, holds_at, picture_at, at_or_lacks}
use Rattle.node.specs.declared.child.BranchNo.{BranchNo}
use Rattle.trie_spec.specs.Accepted.{link_to, memory_of}
use Rattle.trie_spec.specs.Walk.{step, walk}
use Rattle.trie_spec.specs.declared.descent.Spot.{Spot}
use Rattle.trie_spec.specs.declared.descent.Spot.TheVariants.{Under}
use Rattle.trie_spec.specs.declared.descent.Walked.{Walked}
use Rattle.trie_spec.specs.declared.descent.Walked.TheVariants.{At as Reached, Missing}
use Rattle.trie_spec.proofs.WalkLaws.{walk_leaf, walk_stop, walk_step}
use Rattle.trie_spec.proofs.HeldLaws.{Inside, inside_at, link_at, link_lacks}
use Rattle.std.specs.Prelude.{Result, Ok, Some, None}
use Rattle.node.specs.declared.NotAStore.{NotAStore}

module _ (q : List ℕ) where
  seek_at : {s : ℕ} {u : Tree} {ks : Kids} → At s u ks → seek_k q s ks ≡ seek q u
  seek_at {s} here = rw (compare_self s)
  seek_at {s} {u} (there {r} {t} {ks} d a) = number_other d (seek q t) (seek_k q s ks) ∙ seek_at a

  seek_lacks : (s : ℕ) (ks : Kids) → Lacks s ks → seek_k q s ks ≡ none
  seek_lacks s end d = refl
  seek_lacks s (kid r t ks) d = number_other d.0 (seek q t) (seek_k q s ks) ∙ seek_lacks s ks d.1

module _ (st : List ℕ) (cap : ℕ) (few : cap ≤ most) (q : List ℕ) where
  abbrev stop : ℕ
  stop = 2 * length q

  -- where the way down ends: at a missing slot, or at the subtree, which the records hold
  abbrev pub Ends : Option Tree → Result Walked NotAStore → Type 0
  Ends none w = (m : BranchNo) × (s : ℕ) × (w ≡ Ok (Missing m s))
  Ends (some u) w = (at : Spot) × (above : Spot) × (w ≡ Ok (Reached (link_to (root u)).child (step (link_to (root u)) at above))) × Holds (memory_of st) u × Inside st cap few u

  abbrev Goes : Tree → Type 0
  Goes t = Holds (memory_of st) t → Picture t → Inside st cap few t → (low f : ℕ) → StartsAt low t → low ≤ 2 * key_limit → 2 * key_limit < f + low → (at above : Spot)
      → Ends (seek q t) (walk st cap q stop f (step (link_to (root t)) at above))

  module _ (n p : ℕ) (ks : Kids) (h : Holds (memory_of st) (branch n p ks)) (pic : Picture (branch n p ks)) (i : Inside st cap few (branch n p ks))
      (ih : (s : ℕ) (u : Tree) → At s u ks → Goes u) where
    stops : (f : ℕ) (at above : Spot) → stop ≤ p → Ends (some (branch n p ks)) (walk st cap q stop (suc f) (step (link_to (to_branch n p)) at above))
    stops f at above g = (at, above, walk_stop st cap q stop (step (link_to (to_branch n p)) at above) f (record { 0 = n }) refl g, h, i)

    goes : (f : ℕ) → 2 * key_limit < suc f + p → (at above : Spot) → p < stop → ((u : Tree) × At (nibble q p) u ks) ⊎ Lacks (nibble q p) ks
        → Ends (seek_k q (nibble q p) ks) (walk st cap q stop (suc f) (step (link_to (to_branch n p)) at above))
    goes f b at above g (inl (u, a)) =
        let pu : Picture u = (picture_at p pic.0 a pic.1).0 in
        let iu : Inside st cap few u = inside_at st cap few a i in
        let found = link_at st cap few n p (nibble q p) ks u h a pu iu in
        let w = walk_step st cap q stop (step (link_to (to_branch n p)) at above) f (record { 0 = n }) refl g (Ok (Some (link_to (root u)))) (sym found) in
        rw (seek_at q a)
        (subst (Ends (seek q u)) (sym w)
        (ih (nibble q p) u a (holds_at (memory_of st) a h.1) pu iu (suc p) f (picture_at p pic.0 a pic.1).1 (omega (arith, place_bound n p ks pic)) (omega arith) (Under (record { 0 = n }) (nibble q p)) at))
    goes f b at above g (inr d) =
        let absent = link_lacks st cap few n p (nibble q p) ks h d in
        rw (seek_lacks q (nibble q p) ks d)
        (record { 0 = n }, nibble q p, walk_step st cap q stop (step (link_to (to_branch n p)) at above) f (record { 0 = n }) refl g (Ok None) (sym absent))

    go_branch : (low f : ℕ) → low ≤ p → 2 * key_limit < f + low → (at above : Spot) → {o : Ordering} → Said p stop o
        → Ends (choose o (seek_k q (nibble q p) ks) (some (branch n p ks)) (some (branch n p ks))) (walk st cap q stop f (step (link_to (to_branch n p)) at above))
    go_branch low zero l b at above s = absurd (omega (arith, place_bound n p ks pic))
    go_branch low (suc f) l b at above (lower s) = goes f (omega arith) at above s (at_or_lacks (nibble q p) ks)
    go_branch low (suc f) l b at above (same s) = stops f at above (omega arith)
    go_branch low (suc f) l b at above (higher s) = stops f at above (omega arith)

  at_leaf : (n : ℕ) (k : List ℕ) (v : ℕ) → Goes (leaf n k v)
  at_leaf n k v h pic i low zero s l b at above = absurd (omega arith)
  at_leaf n k v h pic i low (suc f) s l b at above = (at, above, walk_leaf st cap q stop (step (link_to (to_leaf n)) at above) f (record { 0 = n }) refl, h, i)

  pub seek_ends : (t : Tree) → Goes t
  seek_ends = tree_ind Goes at_leaf (λ n p ks ih h pic i low f s l b at above. go_branch n p ks h pic i ih low f s b at above (said p stop))

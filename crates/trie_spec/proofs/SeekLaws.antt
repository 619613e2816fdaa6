-- The descent to where an insertion writes, over a held tree: it ends where the tree's own insertion does. Assumes nothing.
use Prim.Native.Nat.{ℕ, zero, suc, ◌+◌, ◌*◌, ◌≤◌, ◌<◌, Ordering}
use mathlib.Core.Path.{◌≡◌, refl, sym, ap, subst, ◌∙◌}
use mathlib.Core.List.{List}
use native.Mathlib.Omega.{arith}
use Rattle.model.specs.Key.{key_limit}
use Rattle.model.specs.Numbers.{most}
use Rattle.model.specs.Nibble.{nibble}
use Rattle.model.specs.Map.{choose}
use Rattle.model.specs.Picture.{Tree, branch, Kids, Every, Everys, StartsAt, Picture}
use Rattle.model.proofs.Compare.{Said, lower, same, higher, said}
use Rattle.model.proofs.Bounds.{place_bound}
use Rattle.model.proofs.Closest.{Some, Somes, Far}
use Rattle.pictures.specs.Tree.{New, new_slot}
use Rattle.pictures.specs.Stored.{to_leaf, to_branch, root, Holds, At, Site, whole, grows, under, below, site, site_k}
use Rattle.pictures.proofs.Children.{tree_ind, every_at, holds_at, picture_at, site_at}
use Rattle.pictures.proofs.Frame.{child_of}
use Rattle.pictures.proofs.Insert.{Near, near_slot, slot_free}
use Rattle.node.specs.Branch.{children_in, linked_in}
use Rattle.trie_spec.specs.Accepted.{link_to, memory_of}
use Rattle.trie_spec.specs.Walk.{step, walk}
use Rattle.trie_spec.specs.declared.descent.Spot.{Spot}
use Rattle.trie_spec.specs.declared.descent.Spot.TheVariants.{Under}
use Rattle.trie_spec.specs.declared.descent.Walked.{Walked}
use Rattle.trie_spec.specs.declared.descent.Walked.TheVariants.{At as Reached, Missing}
use Rattle.trie_spec.proofs.WalkLaws.{walk_leaf, walk_stop, walk_step}
use Rattle.trie_spec.proofs.HeldLaws.{Inside, inside_at, link_at, link_lacks}
use Rattle.std.specs.Prelude.{Result, Ok, Some as SomeLink, None}
use Rattle.node.specs.declared.NotAStore.{NotAStore}

-- what a descent that began at the spot `at` ends at, by where the insertion writes
abbrev pub Ends : New → Spot → Site → Result Walked NotAStore → Type 0
Ends x at (whole c) w = (above : Spot) × (w ≡ Ok (Reached (link_to c).child (step (link_to c) at above)))
Ends x at (grows n) w = w ≡ Ok (Missing (record { 0 = n }) (new_slot x))
Ends x at (under n s c) w = (above : Spot) × (w ≡ Ok (Reached (link_to c).child (step (link_to c) (Under (record { 0 = n }) s) above)))

module _ (st : List ℕ) (cap : ℕ) (few : cap ≤ most) (x : New) where
  abbrev I : Tree → Type 0
  I t = Inside st cap few t

  abbrev Seeks : Tree → Type 0
  Seeks t = Holds (memory_of st) t → Picture t → I t → Some (Near x) t → Every (Far x.key x.place) t → (low f : ℕ) → StartsAt low t → low ≤ 2 * key_limit → 2 * key_limit < f + low
      → (at above : Spot) → Ends x at (site x t) (walk st cap x.key (x.place + 1) f (step (link_to (root t)) at above))

  -- a site below a branch, seen from it
  ends_below : (n s : ℕ) (at : Spot) (u : Tree) (z : Site) (w : Result Walked NotAStore) → Ends x (Under (record { 0 = n }) s) z w → Ends x at (below n s z) w
  ends_below n s at u (whole c) w e = e
  ends_below n s at u (grows m) w e = e
  ends_below n s at u (under m r c) w e = e

  module _ (n p : ℕ) (ks : Kids) (h : Holds (memory_of st) (branch n p ks)) (pic : Picture (branch n p ks)) (i : I (branch n p ks)) (near : Somes (Near x) ks)
      (far : Everys (Far x.key x.place) ks) (ih : (s : ℕ) (u : Tree) → At s u ks → Seeks u) where
    go_branch : (low f : ℕ) → low ≤ p → 2 * key_limit < f + low → (at above : Spot) → {o : Ordering} → Said x.place p o
        → Ends x at (choose o (whole (to_branch n p)) (grows n) (site_k x n (nibble x.key p) ks)) (walk st cap x.key (x.place + 1) f (step (link_to (to_branch n p)) at above))
    go_branch low zero g e at above q = absurd (omega (arith, place_bound n p ks pic))
    go_branch low (suc f) g e at above (lower q) =
        (above, walk_stop st cap x.key (x.place + 1) (step (link_to (to_branch n p)) at above) f (record { 0 = n }) refl (omega arith))
    go_branch low (suc f) g e at above (same q) =
        let lacks = slot_free x p pic.0 ks pic.1 pic.2 near far q in
        let absent : Ok None ≡ linked_in cap (nibble x.key p) (children_in st n) = sym (rw (← q) (link_lacks st cap few n p (new_slot x) ks h lacks)) in
        walk_step st cap x.key (x.place + 1) (step (link_to (to_branch n p)) at above) f (record { 0 = n }) refl (omega arith) (Ok None) absent
        ∙ ap (λ (z : ℕ). Ok (Missing (record { 0 = n }) z)) (ap (nibble x.key) (sym q))
    go_branch low (suc f) g e at above (higher q) =
        let (u, a, b) = child_of (Near x) p pic.0 (nibble x.key p) ks (λ y r. sym (near_slot x p q y r)) pic.1 pic.2 near in
        let pu : Picture u = (picture_at p pic.0 a pic.1).0 in
        let iu : I u = inside_at st cap few a i in
        let found = link_at st cap few n p (nibble x.key p) ks u h a pu iu in
        let w = walk_step st cap x.key (x.place + 1) (step (link_to (to_branch n p)) at above) f (record { 0 = n }) refl (omega arith) (Ok (SomeLink (link_to (root u)))) (sym found) in
        let s : ℕ = nibble x.key p in
        rw (site_at x n a)
        (subst (Ends x at (below n s (site x u))) (sym w)
        (ends_below n s at u (site x u) (walk st cap x.key (x.place + 1) f (step (link_to (root u)) (Under (record { 0 = n }) s) at))
        (ih s u a (holds_at (memory_of st) a h.1) pu iu b (every_at (Far x.key x.place) a far) (suc p) f (picture_at p pic.0 a pic.1).1 (omega (arith, place_bound n p ks pic)) (omega arith)
        (Under (record { 0 = n }) s) at)))

  pub seeks : (t : Tree) → Seeks t
  seeks =
      tree_ind Seeks
      (λ n k v h pic i near far low f s l e at above. at_leaf n low f l e at above)
      (λ n p ks ih h pic i near far low f s l e at above. go_branch n p ks h pic i near far ih low f s e at above (said x.place p))
    where
      at_leaf : (n low f : ℕ) → low ≤ 2 * key_limit → 2 * key_limit < f + low → (at above : Spot)
          → (b : Spot) × (walk st cap x.key (x.place + 1) f (step (link_to (to_leaf n)) at above) ≡ Ok (Reached (link_to (to_leaf n)).child (step (link_to (to_leaf n)) at b)))
      at_leaf n low zero l e at above = absurd (omega arith)
      at_leaf n low (suc f) l e at above = (above, walk_leaf st cap x.key (x.place + 1) (step (link_to (to_leaf n)) at above) f (record { 0 = n }) refl)

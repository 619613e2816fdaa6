-- Where an insertion writes: it makes a new branch unless the way to the closest leaf passes one at the new place.
-- Assumes nothing.
use Prim.Native.Nat.{ℕ, suc, ◌<◌, Ordering}
use mathlib.Core.Path.{◌≡◌, refl, sym, ◌∙◌}
use mathlib.Core.Bool.{Bool, true, false, ◌||◌}
use mathlib.Core.List.{List}
use native.Mathlib.Omega.{arith}
use lib.Dec.{compare_is_eq}
use Rattle.model.specs.Map.{choose}
use Rattle.model.specs.Nibble.{nibble}
use Rattle.model.specs.Picture.{Tree, branch, Kids, Picture, closest, closest_k, first, member}
use Rattle.model.proofs.Compare.{Said, lower, same, higher, said}
use Rattle.model.proofs.Closest.{Some}
use Rattle.model.proofs.Bounds.{Rises, path_rises, place_bound, member_low}
use Rattle.pictures.specs.Tree.{New}
use Rattle.pictures.specs.Stored.{to_branch, Site, whole, grows, under, below, site, site_k}
use Rattle.pictures.proofs.Children.{tree_ind, picture_at, closest_at, site_at}
use Rattle.pictures.proofs.Insert.{Near, near_slot}
use Rattle.pictures.proofs.Frame.{child_of}

-- a branch gets a child more, and no new branch is made
abbrev pub is_grow : Site → Bool
is_grow (whole c) = false
is_grow (grows n) = true
is_grow (under n s c) = false

grow_below : (n s : ℕ) (z : Site) → is_grow (below n s z) ≡ is_grow z
grow_below n s (whole c) = refl
grow_below n s (grows m) = refl
grow_below n s (under m r c) = refl

module _ (x : New) where
  pub grows_passed : (t : Tree) → Picture t → Some (Near x) t → is_grow (site x t) ≡ member x.place (closest x.key t).path
  grows_passed =
      tree_ind (λ t. Picture t → Some (Near x) t → is_grow (site x t) ≡ member x.place (closest x.key t).path)
      (λ n l v h a. refl)
      (λ n p ks ih h a.
      step n p ks (closest_k x.key (nibble x.key p) ks (first x.key ks)).path
      (path_rises x.key p (branch n p ks) (omega (arith, place_bound n p ks h)) h (omega arith)).2
      (λ past.
      let (u, z, b) = child_of (Near x) p h.0 (nibble x.key p) ks (λ y q. sym (near_slot x p past y q)) h.1 h.2 a in
      rw (site_at x n z, closest_at x.key (first x.key ks) z)
      (grow_below n (nibble x.key p) (site x u) ∙ ih (nibble x.key p) u z (picture_at p h.0 z h.1).0 b))
      (said x.place p))
    where
      step : (n p : ℕ) (ks : Kids) (ps : List ℕ) → Rises (suc p) ps → (p < x.place → is_grow (site_k x n (nibble x.key p) ks) ≡ member x.place ps)
          → {o : Ordering} → Said x.place p o
          → is_grow (choose o (whole (to_branch n p)) (grows n) (site_k x n (nibble x.key p) ks)) ≡ (compare_is_eq o || member x.place ps)
      step n p ks ps r f (lower q) = sym (member_low x.place (suc p) ps (omega arith) r)
      step n p ks ps r f (same q) = refl
      step n p ks ps r f (higher q) = f q

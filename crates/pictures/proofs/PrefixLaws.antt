-- The entries under a prefix are those of the subtree that the prefix leads to, or none.
-- Assumes nothing.
use Prim.Native.Nat.{ℕ, suc, ◌*◌, ◌≤◌, ◌<◌, Ordering}
use mathlib.Core.Path.{◌≡◌, refl, ◌∙◌, ap}
use mathlib.Core.Logic.{◌≢◌}
use mathlib.Core.Bool.{false}
use mathlib.Core.List.{List, [], ◌++◌, append-nil}
use mathlib.Core.Option.{some}
use native.Mathlib.Omega.{arith}
use lib.ListN.{length}
use Rattle.model.specs.Key.{on_equal, starts_with}
use Rattle.model.specs.Map.{Entry, keep, choose}
use Rattle.model.specs.Nibble.{nibble}
use Rattle.model.specs.Picture.{Tree, leaf, branch, Kids, end, kid, listing, listings, Everys, SlotsRise, Picture, Pictures, closest}
use Rattle.model.proofs.Compare.{Said, lower, same, higher, said}
use Rattle.model.proofs.KeyLaws.{agree_sym, agree_trans, agree_less}
use Rattle.model.proofs.StartsLaws.{starts_same, starts_not}
use Rattle.model.proofs.Keep.{keep_one, keep_append}
use Rattle.model.proofs.TreeLaws.{From, kids_from, every_map, everys_map, all_listing, all_listings}
use Rattle.model.proofs.Closest.{closest_every}
use Rattle.pictures.specs.Prefix.{seek, seek_k, found}

module _ (q : List ℕ) where
  -- a branch past the prefix
  past : (n p : ℕ) (ks : Kids) (h : Picture (branch n p ks)) → 2 * length q ≤ p → keep (starts_with q) (listings ks) ≡ found q (some (branch n p ks))
  past n p ks h l =
      let k : List ℕ = (closest [] (branch n p ks)).key in
      let all : Everys (From p h.0 0) ks = kids_from p h.0 0 ks h.1 h.2 in
      let one : From p h.0 0 k = closest_every (From p h.0 0) [] (branch n p ks) h all in
      keep_one (starts_with q) (starts_with q k) (listings ks)
      (all_listings (λ x. starts_with q x ≡ starts_with q k) ks
      (everys_map (λ x f. starts_same q x k (agree_less l (agree_trans (agree_sym f.agree) one.agree))) ks all))

  step_prefix : (n p : ℕ) (ks : Kids) → Picture (branch n p ks) → (p < 2 * length q → keep (starts_with q) (listings ks) ≡ found q (seek_k q (nibble q p) ks))
      → {o : Ordering} → Said p (2 * length q) o
      → keep (starts_with q) (listings ks) ≡ found q (choose o (seek_k q (nibble q p) ks) (some (branch n p ks)) (some (branch n p ks)))
  step_prefix n p ks h f (lower e) = f e
  step_prefix n p ks h f (same e) = past n p ks h (omega arith)
  step_prefix n p ks h f (higher e) = past n p ks h (omega arith)

  -- one child and the others: those in another slot than the prefix's nibble have nothing
  kid_prefix : (p : ℕ) (w : List ℕ) (low r : ℕ) (t : Tree) (ks : Kids) → p < 2 * length q → Pictures p w (kid r t ks) → SlotsRise low (kid r t ks)
      → keep (starts_with q) (listing t) ≡ found q (seek q t) → keep (starts_with q) (listings ks) ≡ found q (seek_k q (nibble q p) ks)
      → {o : Ordering} → Said (nibble q p) r o → keep (starts_with q) (listing t ++ listings ks) ≡ found q (on_equal o (seek q t) (seek_k q (nibble q p) ks))
  kid_prefix p w low r t ks l h m f g e = keep_append (starts_with q) (listing t) (listings ks) ∙ go e
    where
      passed : nibble q p ≢ r → keep (starts_with q) (listing t) ++ keep (starts_with q) (listings ks) ≡ found q (seek_k q (nibble q p) ks)
      passed d =
          ap (λ (z : List Entry). z ++ keep (starts_with q) (listings ks))
          (keep_one (starts_with q) false (listing t)
          (all_listing (λ x. starts_with q x ≡ false) t (every_map (λ x b. starts_not q x p l (λ z. d (z ∙ b.slot))) t h.2)))
          ∙ g

      go : {o : Ordering} → Said (nibble q p) r o
          → keep (starts_with q) (listing t) ++ keep (starts_with q) (listings ks) ≡ found q (on_equal o (seek q t) (seek_k q (nibble q p) ks))
      go (lower z) = passed (omega arith)
      go (same z) =
          ap (λ (y : List Entry). keep (starts_with q) (listing t) ++ y)
          (keep_one (starts_with q) false (listings ks)
          (all_listings (λ x. starts_with q x ≡ false) ks
          (everys_map (λ x b. starts_not q x p l (omega (arith, b.slot))) ks (kids_from p w (suc r) ks h.3 m.1))))
          ∙ append-nil (keep (starts_with q) (listing t)) ∙ f
      go (higher z) = passed (omega arith)

  mutual
    pub prefix_found : (t : Tree) → Picture t → keep (starts_with q) (listing t) ≡ found q (seek q t)
    prefix_found (leaf n k v) h = refl
    prefix_found (branch n p ks) h = step_prefix n p ks h (λ l. prefixes_found p h.0 l 0 ks h.1 h.2) (said p (2 * length q))

    prefixes_found : (p : ℕ) (w : List ℕ) → p < 2 * length q → (low : ℕ) (ks : Kids) → Pictures p w ks → SlotsRise low ks
        → keep (starts_with q) (listings ks) ≡ found q (seek_k q (nibble q p) ks)
    prefixes_found p w l low end h m = refl
    prefixes_found p w l low (kid r t ks) h m =
        kid_prefix p w low r t ks l h m (prefix_found t h.0) (prefixes_found p w l (suc r) ks h.3 m.1) (said (nibble q p) r)

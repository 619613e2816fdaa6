-- A lookup by the key's nibbles, down a picture, is the map's lookup.
-- Assumes nothing.
use Prim.Native.Nat.{ℕ, suc, Ordering}
use mathlib.Core.Path.{◌≡◌, refl, sym}
use mathlib.Core.Logic.{◌≢◌}
use mathlib.Core.List.{List, ◌++◌}
use native.Mathlib.Omega.{arith}
use Rattle.model.specs.Key.{on_equal}
use Rattle.model.specs.Map.{lookup}
use Rattle.model.specs.Nibble.{nibble}
use Rattle.model.specs.Picture.{Tree, leaf, branch, Kids, end, kid, listing, listings, Every, Everys, SlotsRise, Below, Picture, Pictures}
use Rattle.model.proofs.Compare.{Said, lower, same, higher, said}
use Rattle.model.proofs.MapLaws.{lookup_left, lookup_right}
use Rattle.model.proofs.TreeLaws.{From, kids_from, every_map, everys_map, all_listing, all_listings, slot_differs, slot_above}
use Rattle.pictures.specs.Tree.{get_t, get_k}

get_step : (k : List ℕ) (p : ℕ) (w : List ℕ) (s : ℕ) (t : Tree) (ks : Kids) → Every (Below p w s) t → Everys (From p w (suc s)) ks
    → {o : Ordering} → Said (nibble k p) s o → on_equal o (lookup k (listing t)) (lookup k (listings ks)) ≡ lookup k (listing t ++ listings ks)
get_step k p w s t ks a b q = go q
  where
    right : nibble k p ≢ s → lookup k (listings ks) ≡ lookup k (listing t ++ listings ks)
    right d = sym (lookup_right k (listing t) (listings ks) (all_listing (λ l. k ≢ l) t (every_map (λ l x. slot_differs d x) t a)))

    go : {o : Ordering} → Said (nibble k p) s o → on_equal o (lookup k (listing t)) (lookup k (listings ks)) ≡ lookup k (listing t ++ listings ks)
    go (lower h) = right (omega arith)
    go (same h) = sym (lookup_left k (listing t) (listings ks) (all_listings (λ l. k ≢ l) ks (everys_map (λ l x. slot_above h x) ks b)))
    go (higher h) = right (omega arith)

mutual
  pub get_lookup : (k : List ℕ) (t : Tree) → Picture t → get_t k t ≡ lookup k (listing t)
  get_lookup k (leaf n l v) h = refl
  get_lookup k (branch n p ks) h = get_lookups k p h.0 0 ks h.1 h.2

  get_lookups : (k : List ℕ) (p : ℕ) (w : List ℕ) (low : ℕ) (ks : Kids) → Pictures p w ks → SlotsRise low ks → get_k k (nibble k p) ks ≡ lookup k (listings ks)
  get_lookups k p w low end h r = refl
  get_lookups k p w low (kid s t ks) h r =
      rw (get_lookup k t h.0, get_lookups k p w (suc s) ks h.3 r.1)
      (get_step k p w s t ks h.2 (kids_from p w (suc s) ks h.3 r.1) (said (nibble k p) s))

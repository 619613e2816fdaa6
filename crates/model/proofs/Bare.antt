-- A tree without its record numbers: the same way down, the same listing, and a picture still.
-- Assumes nothing.
use Prim.Native.Nat.{ℕ, Ordering, suc}
use mathlib.Core.Path.{◌≡◌, refl, ap, ap₂}
use mathlib.Core.List.{List, ◌++◌}
use mathlib.Core.Option.{Option, none, some}
use native.Mathlib.Omega.{arith}
use Rattle.model.specs.Key.{on_equal}
use Rattle.model.specs.Map.{Entry}
use Rattle.model.specs.Nibble.{nibble}
use Rattle.model.specs.Picture.{Tree, leaf, branch, Kids, end, kid, listing, listings, Descent, closest, closest_k, first, pass, bare, bares, Every, Everys, StartsAt, SlotsRise, count, Below, Picture, Pictures, Pictured, entries, bare_root}
use Rattle.model.proofs.Compare.{Said, lower, same, higher, said}

-- The way down without the leaf's number.
abbrev unnumbered : Descent → Descent
unnumbered d = record { path = d.path; number = 0; key = d.key }

step_bare : (d e d' e' : Descent) → d' ≡ unnumbered d → e' ≡ unnumbered e → {m n : ℕ} {o : Ordering} → Said m n o → on_equal o d' e' ≡ unnumbered (on_equal o d e)
step_bare d e d' e' a b (lower h) = b
step_bare d e d' e' a b (same h) = a
step_bare d e d' e' a b (higher h) = b

mutual
  pub closest_bare : (k : List ℕ) (t : Tree) → closest k (bare t) ≡ unnumbered (closest k t)
  closest_bare k (leaf n l v) = refl
  closest_bare k (branch n p ks) = ap (pass p) (closests_bare k (nibble k p) ks (first k ks) (first k (bares ks)) (first_bare k ks))

  closests_bare : (k : List ℕ) (s : ℕ) (ks : Kids) (d e : Descent) → e ≡ unnumbered d → closest_k k s (bares ks) e ≡ unnumbered (closest_k k s ks d)
  closests_bare k s end d e a = a
  closests_bare k s (kid r t ks) d e a =
      step_bare (closest k t) (closest_k k s ks d) (closest k (bare t)) (closest_k k s (bares ks) e) (closest_bare k t) (closests_bare k s ks d e a) (said s r)

  first_bare : (k : List ℕ) (ks : Kids) → first k (bares ks) ≡ unnumbered (first k ks)
  first_bare k end = refl
  first_bare k (kid r t ks) = closest_bare k t

mutual
  pub listing_bare : (t : Tree) → listing (bare t) ≡ listing t
  listing_bare (leaf n k v) = refl
  listing_bare (branch n p ks) = listings_bare ks

  listings_bare : (ks : Kids) → listings (bares ks) ≡ listings ks
  listings_bare end = refl
  listings_bare (kid s t ks) = ap₂ (λ (x y : List Entry). x ++ y) (listing_bare t) (listings_bare ks)

-- A picture is one without its record numbers too.
mutual
  every_bare : (P : List ℕ → Type 0) (t : Tree) → Every P t → Every P (bare t)
  every_bare P (leaf n k v) a = a
  every_bare P (branch n p ks) a = everys_bare P ks a

  everys_bare : (P : List ℕ → Type 0) (ks : Kids) → Everys P ks → Everys P (bares ks)
  everys_bare P end a = tt
  everys_bare P (kid s t ks) a = (every_bare P t a.0, everys_bare P ks a.1)

starts_bare : (low : ℕ) (t : Tree) → StartsAt low t → StartsAt low (bare t)
starts_bare low (leaf n k v) a = tt
starts_bare low (branch n p ks) a = a

rise_bare : (low : ℕ) (ks : Kids) → SlotsRise low ks → SlotsRise low (bares ks)
rise_bare low end r = tt
rise_bare low (kid s t ks) r = (r.0, rise_bare (suc s) ks r.1)

count_bare : (ks : Kids) → count (bares ks) ≡ count ks
count_bare end = refl
count_bare (kid s t ks) = ap suc (count_bare ks)

mutual
  pub picture_bare : (t : Tree) → Picture t → Picture (bare t)
  picture_bare (leaf n k v) h = h
  picture_bare (branch n p ks) h = (h.0, pictures_bare p h.0 ks h.1, rise_bare 0 ks h.2, omega (arith, count_bare ks, h.3))

  pictures_bare : (p : ℕ) (w : List ℕ) (ks : Kids) → Pictures p w ks → Pictures p w (bares ks)
  pictures_bare p w end h = tt
  pictures_bare p w (kid s t ks) h = (picture_bare t h.0, starts_bare (suc p) t h.1, every_bare (Below p w s) t h.2, pictures_bare p w ks h.3)

-- The same of a store's whole content.
pub pictured_bare : (o : Option Tree) → Pictured o → Pictured (bare_root o)
pictured_bare none h = tt
pictured_bare (some t) h = picture_bare t h

pub entries_bare : (o : Option Tree) → entries (bare_root o) ≡ entries o
entries_bare none = refl
entries_bare (some t) = listing_bare t

-- The Rust's iterator gives document 01's listing, in both modes.
-- Assumes nothing.
use Prim.Native.Nat.{ℕ, suc, ◌*◌, ◌/◌, ◌<◌, Ordering}
use mathlib.Core.Path.{◌≡◌, refl, sym, ◌∙◌, ap, ap₂}
use mathlib.Core.Logic.{◌≢◌}
use mathlib.Core.Bool.{Bool, true, false, ◌&&◌, ◌||◌, not}
use mathlib.Core.List.{List, [], ◌∷◌, ◌++◌, append-nil}
use native.Mathlib.Omega.{arith}
use lib.ListN.{length}
use lib.Dec.{is_le}
use Rattle.model.specs.Key.{order, on_equal, starts_with}
use Rattle.model.specs.Map.{Entry, All, keep, pick}
use Rattle.model.specs.Nibble.{nibble}
use Rattle.model.specs.Picture.{Tree, leaf, branch, Kids, end, kid, listing, listings, Picture, Pictures, SlotsRise}
use Rattle.model.specs.Page.{Mode, plain, inclusive, matches, under}
use Rattle.model.proofs.Compare.{Said, lower, same, higher, said}
use Rattle.model.proofs.Less.{Sorted}
use Rattle.model.proofs.KeyLaws.{Ordered, before, equal, after, ordered}
use Rattle.model.proofs.StartsLaws.{starts_not, starts_below}
use Rattle.model.proofs.MapLaws.{all_map}
use Rattle.model.proofs.Keep.{keep_append, keep_one}
use Rattle.model.proofs.TreeLaws.{all_listing, all_listings, every_map, everys_map, kids_from, listing_sorted}
use Rattle.promises.specs.Rust.{visit, visits, visit_at, is_prefix, gives, rust_listing}

-- The leaves that start with the prefix are among those met.
module _ (q : List ℕ) where
  abbrev f : List ℕ → Bool
  f = starts_with q

  step : (p : ℕ) (ks : Kids) → keep f (visits q ks) ≡ keep f (listings ks) → (p < 2 * length q → keep f (visit_at q (nibble q p) ks) ≡ keep f (listings ks))
      → {o : Ordering} → Said (length q) (p / 2) o → keep f (pick (is_le o) (visits q ks) (visit_at q (nibble q p) ks)) ≡ keep f (listings ks)
  step p ks a b (lower h) = a
  step p ks a b (same h) = a
  step p ks a b (higher h) = b (omega arith)

  mutual
    met : (t : Tree) → Picture t → keep f (visit q t) ≡ keep f (listing t)
    met (leaf n k v) h = refl
    met (branch n p ks) h = step p ks (mets ks p h.0 h.1) (λ l. met_at ks p h.0 0 l h.1 h.2) (said (length q) (p / 2))

    mets : (ks : Kids) (p : ℕ) (w : List ℕ) → Pictures p w ks → keep f (visits q ks) ≡ keep f (listings ks)
    mets end p w h = refl
    mets (kid s t ks) p w h =
        keep_append f (visit q t) (visits q ks) ∙ ap₂ (λ (x y : List Entry). x ++ y) (met t h.0) (mets ks p w h.3) ∙ sym (keep_append f (listing t) (listings ks))

    met_at : (ks : Kids) (p : ℕ) (w : List ℕ) (low : ℕ) → p < 2 * length q → Pictures p w ks → SlotsRise low ks → keep f (visit_at q (nibble q p) ks) ≡ keep f (listings ks)
    met_at end p w low l h r = refl
    met_at (kid s t ks) p w low l h r = go (said (nibble q p) s) (met t h.0) (met_at ks p w (suc s) l h.3 r.1) ∙ sym (keep_append f (listing t) (listings ks))
      where
        other : nibble q p ≢ s → keep f (visit_at q (nibble q p) ks) ≡ keep f (listings ks) → keep f (visit_at q (nibble q p) ks) ≡ keep f (listing t) ++ keep f (listings ks)
        other d j =
            j
            ∙ sym (ap (λ (z : List Entry). z ++ keep f (listings ks))
            (keep_one f false (listing t) (all_listing (λ x. f x ≡ false) t (every_map (λ x b. starts_not q x p l (λ z. d (z ∙ b.slot))) t h.2))))

        go : {o : Ordering} → Said (nibble q p) s o → keep f (visit q t) ≡ keep f (listing t) → keep f (visit_at q (nibble q p) ks) ≡ keep f (listings ks)
            → keep f (on_equal o (visit q t) (visit_at q (nibble q p) ks)) ≡ keep f (listing t) ++ keep f (listings ks)
        go (lower e) i j = other (λ z. omega arith) j
        go (higher e) i j = other (λ z. omega arith) j
        go (same e) i j =
            i
            ∙ sym (append-nil (keep f (listing t)))
            ∙ ap (λ (z : List Entry). keep f (listing t) ++ z)
            (sym (keep_one f false (listings ks)
            (all_listings (λ x. f x ≡ false) ks
            (everys_map (λ x b. starts_not q x p l (λ z. omega (arith, b.slot))) ks (kids_from p w (suc s) ks h.3 r.1)))))

  -- What is given depends on those alone.
  gives_keep : (include : Bool) (m : List Entry) → gives q include m ≡ gives q include (keep f m)
  gives_keep include [] = refl
  gives_keep include (e ∷ m) = go (f e.0) refl (gives_keep include m) (gives_keep false m)
    where
      go : (b : Bool) → f e.0 ≡ b → gives q include m ≡ gives q include (keep f m) → gives q false m ≡ gives q false (keep f m)
          → pick (b && (include || not (is_prefix q e.0))) (e ∷ gives q false m) (gives q include m) ≡ gives q include (pick b (e ∷ keep f m) (keep f m))
      go false h i j = i
      go true h i j =
          ap₂ (λ (x y : List Entry). pick (include || not (is_prefix q e.0)) (e ∷ x) y) j i
          ∙ ap (λ (b : Bool). pick (b && (include || not (is_prefix q e.0))) (e ∷ gives q false (keep f m)) (gives q include (keep f m))) (sym h)

  gives_met : (include : Bool) (t : Tree) → Picture t → gives q include (visit q t) ≡ gives q include (listing t)
  gives_met include t h = gives_keep include (visit q t) ∙ ap (gives q include) (met t h) ∙ sym (gives_keep include (listing t))

  -- Without the prefix: the plain listing.
  gives_plain : (m : List Entry) → gives q false m ≡ keep (matches plain q) m
  gives_plain [] = refl
  gives_plain (e ∷ m) = go (order q e.0) (f e.0) (gives_plain m)
    where
      go : (o : Ordering) (b : Bool) → gives q false m ≡ keep (matches plain q) m
          → pick (b && not (on_equal o true false)) (e ∷ gives q false m) (gives q false m) ≡ pick (on_equal o false b) (e ∷ keep (matches plain q) m) (keep (matches plain q) m)
      go Ordering.lt true i = ap {B = List Entry} (λ z. e ∷ z) i
      go Ordering.lt false i = i
      go Ordering.eq true i = i
      go Ordering.eq false i = i
      go Ordering.gt true i = ap {B = List Entry} (λ z. e ∷ z) i
      go Ordering.gt false i = i

  -- Once a key is given, the prefix itself, which comes before all others that start with it, does not come any more.
  plain_same : (m : List Entry) → All (λ l. q ≢ l) m → keep (matches plain q) m ≡ keep f m
  plain_same [] a = refl
  plain_same (e ∷ m) a = go (ordered q e.0) (plain_same m a.1)
    where
      go : {o : Ordering} → Ordered q e.0 o → keep (matches plain q) m ≡ keep f m
          → pick (on_equal o false (f e.0)) (e ∷ keep (matches plain q) m) (keep (matches plain q) m) ≡ pick (f e.0) (e ∷ keep f m) (keep f m)
      go (before l) i = ap (λ (z : List Entry). pick (f e.0) (e ∷ z) z) i
      go (equal l) i = absurd (a.0 l)
      go (after l) i = ap (λ (z : List Entry). pick (f e.0) (e ∷ z) z) i

gives_inclusive : (q : List ℕ) (m : List Entry) → Sorted m → gives q true m ≡ keep (starts_with q) m
gives_inclusive q [] s = refl
gives_inclusive q (e ∷ m) s = go (starts_with q e.0) refl (gives_inclusive q m s.1)
  where
    go : (b : Bool) → starts_with q e.0 ≡ b → gives q true m ≡ keep (starts_with q) m
        → pick (b && true) (e ∷ gives q false m) (gives q true m) ≡ pick b (e ∷ keep (starts_with q) m) (keep (starts_with q) m)
    go false h i = i
    go true h i =
        ap {B = List Entry} (λ z. e ∷ z) (gives_plain q m ∙ plain_same q m (all_map (λ l g. starts_below q e.0 l h g) m s.0))

pub rust_listing_lem : (mode : Mode) (q : List ℕ) (t : Tree) → Picture t → rust_listing mode q t ≡ under mode q (listing t)
rust_listing_lem plain q t h = gives_met q false t h ∙ gives_plain q (listing t)
rust_listing_lem inclusive q t h = gives_met q true t h ∙ gives_inclusive q (listing t) (listing_sorted t h)

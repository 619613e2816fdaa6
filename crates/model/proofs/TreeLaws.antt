-- Laws of pictures: the listing is sorted, and what holds of every leaf holds of every entry.
-- Assumes nothing.
use Prim.Native.Nat.{ℕ, suc, ◌≤◌}
use mathlib.Core.Path.{◌≡◌, ◌∙◌, ap}
use mathlib.Core.Logic.{◌≢◌}
use mathlib.Core.List.{List}
use native.Mathlib.Omega.{arith}
use mathlib.Core.Option.{Option, none, some}
use Rattle.model.specs.Map.{All}
use Rattle.model.specs.Nibble.{nibble, Agree}
use Rattle.model.specs.Picture.{Tree, leaf, branch, Kids, end, kid, listing, listings, Every, Everys, SlotsRise, Below, Picture, Pictures, entries, Pictured}
use Rattle.model.proofs.Less.{Less, Sorted}
use Rattle.model.proofs.KeyLaws.{agree_sym, agree_trans}
use Rattle.model.proofs.MapLaws.{all_append, sorted_append}

-- Every
mutual
  pub every_map : {P Q : List ℕ → Type 0} → ((k : List ℕ) → P k → Q k) → (t : Tree) → Every P t → Every Q t
  every_map f (leaf n k v) a = f k a
  every_map f (branch n p ks) a = everys_map f ks a

  pub everys_map : {P Q : List ℕ → Type 0} → ((k : List ℕ) → P k → Q k) → (ks : Kids) → Everys P ks → Everys Q ks
  everys_map f end a = tt
  everys_map f (kid s t ks) a = (every_map f t a.0, everys_map f ks a.1)

mutual
  pub every_both : (P Q : List ℕ → Type 0) (t : Tree) → Every P t → Every Q t → Every (λ l. P l × Q l) t
  every_both P Q (leaf n k v) a b = (a, b)
  every_both P Q (branch n p ks) a b = everys_both P Q ks a b

  pub everys_both : (P Q : List ℕ → Type 0) (ks : Kids) → Everys P ks → Everys Q ks → Everys (λ l. P l × Q l) ks
  everys_both P Q end a b = tt
  everys_both P Q (kid s t ks) a b = (every_both P Q t a.0 b.0, everys_both P Q ks a.1 b.1)

mutual
  pub all_listing : (P : List ℕ → Type 0) (t : Tree) → Every P t → All P (listing t)
  all_listing P (leaf n k v) a = (a, tt)
  all_listing P (branch n p ks) a = all_listings P ks a

  pub all_listings : (P : List ℕ → Type 0) (ks : Kids) → Everys P ks → All P (listings ks)
  all_listings P end a = tt
  all_listings P (kid s t ks) a = all_append P (listing t) (listings ks) (all_listing P t a.0) (all_listings P ks a.1)

-- What holds of the keys of the children of a branch: the agreement, and a slot from the lowest one on.
pub record From (p : ℕ) (w : List ℕ) (low : ℕ) (k : List ℕ) : Type 0 where
  pub agree : Agree p w k
  pub slot : low ≤ nibble k p

pub kids_from : (p : ℕ) (w : List ℕ) (low : ℕ) (ks : Kids) → Pictures p w ks → SlotsRise low ks → Everys (From p w low) ks
kids_from p w low end h r = tt
kids_from p w low (kid s t ks) h r = (
  every_map (λ k b. record { agree = b.agree; slot = omega arith }) t h.2,
  everys_map (λ k b. record { agree = b.agree; slot = omega arith }) ks (kids_from p w (suc s) ks h.3 r.1),
)

-- a key in a slot is less than one in a higher slot
pub below_from : {p : ℕ} {w : List ℕ} {s : ℕ} {k l : List ℕ} → Below p w s k → From p w (suc s) l → Less k l
below_from {p} b f = record { place = p; agree = agree_trans (agree_sym b.agree) f.agree; rises = omega arith }

mutual
  pub listing_sorted : (t : Tree) → Picture t → Sorted (listing t)
  listing_sorted (leaf n k v) h = (tt, tt)
  listing_sorted (branch n p ks) h = listings_sorted p h.0 0 ks h.1 h.2

  listings_sorted : (p : ℕ) (w : List ℕ) (low : ℕ) (ks : Kids) → Pictures p w ks → SlotsRise low ks → Sorted (listings ks)
  listings_sorted p w low end h r = tt
  listings_sorted p w low (kid s t ks) h r =
      sorted_append (listing t) (listings ks) (listing_sorted t h.0) (listings_sorted p w (suc s) ks h.3 r.1)
      (all_listing (λ k. All (Less k) (listings ks)) t
      (every_map (λ k b. all_listings (Less k) ks (everys_map (λ l f. below_from b f) ks (kids_from p w (suc s) ks h.3 r.1))) t h.2))

-- A lookup in the tree is one in the listing. One child and the others: the slot decides which of them can have the key.
pub slot_differs : {p : ℕ} {w : List ℕ} {s : ℕ} {k l : List ℕ} → nibble k p ≢ s → Below p w s l → k ≢ l
slot_differs {p} d b e = d (ap (λ (z : List ℕ). nibble z p) e ∙ b.slot)

pub slot_above : {p : ℕ} {w : List ℕ} {s : ℕ} {k l : List ℕ} → nibble k p ≡ s → From p w (suc s) l → k ≢ l
slot_above {p} h f e = omega (arith, ap (λ (z : List ℕ). nibble z p) e)

-- The map is sorted, and a lookup reads it.
pub entries_sorted : (o : Option Tree) → Pictured o → Sorted (entries o)
entries_sorted none h = tt
entries_sorted (some t) h = listing_sorted t h

-- Two pictures with the same listing are the same tree but for the record numbers.
-- Assumes nothing.
use Prim.Native.Nat.{ℕ, suc, ◌≤◌, ◌<◌, Ordering}
use mathlib.Core.Path.{◌≡◌, refl, sym, ◌∙◌, ap, ap₂, subst}
use mathlib.Core.List.{List, [], ◌∷◌, ◌++◌}
use native.Mathlib.Omega.{arith}
use lib.ListN.{length, length-append}
use Rattle.model.specs.Map.{Entry, All}
use Rattle.model.specs.Nibble.{nibble}
use Rattle.model.specs.Picture.{Tree, leaf, branch, Kids, end, kid, listing, listings, Every, Everys, SlotsRise, Below, Picture, Pictures, count, bare, bares}
use Rattle.model.proofs.Compare.{Said, lower, same, higher, said}
use Rattle.model.proofs.MapLaws.{all_left, all_right}
use Rattle.model.proofs.TreeLaws.{kids_from, every_map, everys_map, all_listing, all_listings}
use Rattle.model.proofs.Closest.{closest_every}

mutual
  pub listing_every : (P : List ℕ → Type 0) (t : Tree) → All P (listing t) → Every P t
  listing_every P (leaf n k v) a = a.0
  listing_every P (branch n p ks) a = listings_everys P ks a

  pub listings_everys : (P : List ℕ → Type 0) (ks : Kids) → All P (listings ks) → Everys P ks
  listings_everys P end a = tt
  listings_everys P (kid s t ks) a = (listing_every P t (all_left P (listing t) (listings ks) a), listings_everys P ks (all_right P (listing t) (listings ks) a))

-- No tree is empty.
mutual
  pub listing_some : (t : Tree) → Picture t → 1 ≤ length (listing t)
  listing_some (leaf n k v) h = omega arith
  listing_some (branch n p ks) h = let i = listings_some p h.0 ks h.1 in omega arith

  pub listings_some : (p : ℕ) (w : List ℕ) (ks : Kids) → Pictures p w ks → count ks ≤ length (listings ks)
  listings_some p w end h = omega arith
  listings_some p w (kid s t ks) h =
      let a = listing_some t h.0 in
      let b = listings_some p w ks h.3 in
      omega (arith, length-append (listing t) (listings ks))

-- The keys of a branch do not all have one nibble at its position.
pub two_slots_lem : (p : ℕ) (w : List ℕ) (ks : Kids) (x : ℕ) → Pictures p w ks → SlotsRise 0 ks → 2 ≤ count ks → Everys (λ l. nibble l p ≡ x) ks → ⊥
two_slots_lem p w end x h r c a = omega arith
two_slots_lem p w (kid s t end) x h r c a = omega arith
two_slots_lem p w (kid s t (kid q u ks)) x h r c a =
    omega (
      arith,
      closest_every (λ l. nibble l p ≡ x) [] t h.0 a.0,
      (closest_every (Below p w s) [] t h.0 h.2).slot,
      closest_every (λ l. nibble l p ≡ x) [] u h.3.0 a.1.0,
      (closest_every (Below p w q) [] u h.3.0 h.3.2).slot,
    )

-- So of two branches with the same listing neither stands above the other.
not_above : (p q : ℕ) (w v : List ℕ) (ks us : Kids) → Pictures p w ks → SlotsRise 0 ks → 2 ≤ count ks → Pictures q v us → SlotsRise 0 us
    → listings ks ≡ listings us → p < q → ⊥
not_above p q w v ks us h r c g m e l =
    two_slots_lem p w ks (nibble v p) h r c
    (listings_everys (λ x. nibble x p ≡ nibble v p) ks
    (rw e (all_listings (λ x. nibble x p ≡ nibble v p) us (everys_map (λ x f. sym (f.agree.on p l)) us (kids_from q v 0 us g m)))))

same_place : (p q : ℕ) (w v : List ℕ) (ks us : Kids) → Pictures p w ks → SlotsRise 0 ks → 2 ≤ count ks → Pictures q v us → SlotsRise 0 us → 2 ≤ count us
    → listings ks ≡ listings us → p ≡ q
same_place p q w v ks us h r c g m d e = go (said p q)
  where
    go : {o : Ordering} → Said p q o → p ≡ q
    go (lower l) = absurd (not_above p q w v ks us h r c g m e l)
    go (same l) = l
    go (higher l) = absurd (not_above q p v w us ks g m d h r (sym e) l)

-- The first child's slot is the lowest nibble of all.
not_lower : (p : ℕ) (w v : List ℕ) (low s r : ℕ) (t u : Tree) (ks us : Kids) → Pictures p w (kid s t ks) → Pictures p v (kid r u us) → SlotsRise low (kid r u us)
    → listings (kid s t ks) ≡ listings (kid r u us) → s < r → ⊥
not_lower p w v low s r t u ks us h g m e l =
    omega (
      arith,
      (closest_every (Below p w s) [] t h.0 h.2).slot,
      closest_every (λ x. suc s ≤ nibble x p) [] t h.0
          (listing_every (λ x. suc s ≤ nibble x p) t (all_left (λ x. suc s ≤ nibble x p) (listing t) (listings ks)
          (rw e (all_listings (λ x. suc s ≤ nibble x p) (kid r u us) (everys_map (λ x f. f.slot) (kid r u us) (kids_from p v (suc s) (kid r u us) g (l, m.1))))))),
    )

-- Two lists of entries that are split where P ends and Q begins.
module _ (P Q : List ℕ → Type 0) (apart : (l : List ℕ) → P l → Q l → ⊥) where
  split : (m n a b : List Entry) → All P m → All Q n → All P a → All Q b → m ++ n ≡ a ++ b → (m ≡ a) × (n ≡ b)
  split [] n [] b pm qn pa qb e = (refl, e)
  split [] n (x ∷ a) b pm qn pa qb e = let q : All Q (x ∷ (a ++ b)) = subst (All Q) e qn in absurd (apart x.0 pa.0 q.0)
  split (y ∷ m) n [] b pm qn pa qb e = let q : All Q (y ∷ (m ++ n)) = subst (All Q) (sym e) qb in absurd (apart y.0 pm.0 q.0)
  split (y ∷ m) n (x ∷ a) b pm qn pa qb e =
      let f : y ≡ x = cc in
      let g : m ++ n ≡ a ++ b = cc in
      let r = split m n a b pm.1 qn pa.1 qb g in
      (ap₂ {C = List Entry} (λ i j. i ∷ j) f r.0, r.1)

-- Two rows of children: the first child's slot, its listing and the rest's.
record Matched (s r : ℕ) (t u : Tree) (ks us : Kids) : Type 0 where
  pub slots : s ≡ r
  pub firsts : listing t ≡ listing u
  pub rests : listings ks ≡ listings us

matched : (p : ℕ) (w v : List ℕ) (low s r : ℕ) (t u : Tree) (ks us : Kids) → Pictures p w (kid s t ks) → SlotsRise low (kid s t ks)
    → Pictures p v (kid r u us) → SlotsRise low (kid r u us) → listings (kid s t ks) ≡ listings (kid r u us) → Matched s r t u ks us
matched p w v low s r t u ks us h m g n e = go (said s r)
  where
    at_slot : s ≡ r → (listing t ≡ listing u) × (listings ks ≡ listings us)
    at_slot q =
        split (λ l. nibble l p ≡ s) (λ l. suc s ≤ nibble l p) (λ l a b. omega arith) (listing t) (listings ks) (listing u) (listings us)
        (all_listing (λ l. nibble l p ≡ s) t (every_map (λ l b. b.slot) t h.2))
        (all_listings (λ l. suc s ≤ nibble l p) ks (everys_map (λ l f. f.slot) ks (kids_from p w (suc s) ks h.3 m.1)))
        (all_listing (λ l. nibble l p ≡ s) u (every_map (λ l b. b.slot ∙ sym q) u g.2))
        (all_listings (λ l. suc s ≤ nibble l p) us (everys_map (λ l f. omega (arith, f.slot)) us (kids_from p v (suc r) us g.3 n.1)))
        e

    go : {o : Ordering} → Said s r o → Matched s r t u ks us
    go (lower q) = absurd (not_lower p w v low s r t u ks us h g n e q)
    go (same q) = record { slots = q; firsts = (at_slot q).0; rests = (at_slot q).1 }
    go (higher q) = absurd (not_lower p v w low r s u t us ks g h m (sym e) q)

-- a leaf and a branch never list the same
leaf_branch : (k : List ℕ) (x p : ℕ) (w : List ℕ) (ks : Kids) → Pictures p w ks → 2 ≤ count ks → (k, x) ∷ [] ≡ listings ks → ⊥
leaf_branch k x p w ks h c e = omega (arith, listings_some p w ks h, ap (length {A = Entry}) e)

mutual
  pub unique : (t u : Tree) → Picture t → Picture u → listing t ≡ listing u → bare t ≡ bare u
  unique (leaf n k x) (leaf m l y) h g e =
      let f : ◌≡◌ {A = Entry} (k, x) (l, y) = cc in
      let a : k ≡ l = ap (λ (z : Entry). z.0) f in
      let b : x ≡ y = ap (λ (z : Entry). z.1) f in
      cc
  unique (leaf n k x) (branch m q us) h g e = absurd (leaf_branch k x q g.0 us g.1 g.3 e)
  unique (branch n p ks) (leaf m l y) h g e = absurd (leaf_branch l y p h.0 ks h.1 h.3 (sym e))
  unique (branch n p ks) (branch m q us) h g e =
      let a : p ≡ q = same_place p q h.0 g.0 ks us h.1 h.2 h.3 g.1 g.2 g.3 e in
      let b : bares ks ≡ bares us = uniques p h.0 g.0 0 ks us h.1 h.2 (subst (λ (z : ℕ). Pictures z g.0 us) (sym a) g.1) g.2 e in
      cc

  uniques : (p : ℕ) (w v : List ℕ) (low : ℕ) (ks us : Kids) → Pictures p w ks → SlotsRise low ks → Pictures p v us → SlotsRise low us
      → listings ks ≡ listings us → bares ks ≡ bares us
  uniques p w v low end end h m g n e = refl
  uniques p w v low end (kid r u us) h m g n e = absurd (omega (arith, listings_some p v (kid r u us) g, ap (length {A = Entry}) e))
  uniques p w v low (kid s t ks) end h m g n e = absurd (omega (arith, listings_some p w (kid s t ks) h, ap (length {A = Entry}) e))
  uniques p w v low (kid s t ks) (kid r u us) h m g n e =
      let i = matched p w v low s r t u ks us h m g n e in
      let a : s ≡ r = i.slots in
      let b : bare t ≡ bare u = unique t u h.0 g.0 i.firsts in
      let c : bares ks ≡ bares us = uniques p w v (suc s) ks us h.3 m.1 g.3 (subst (λ (z : ℕ). SlotsRise (suc z) us) (sym a) n.1) i.rests in
      cc

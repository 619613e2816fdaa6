-- A tree that is a picture is the picture of its keys, but for the record numbers: what `Picture` says of a tree, and document 01's words, are the same.
-- Assumes nothing.
use Prim.Native.Nat.{ℕ, zero, suc, ◌+◌, ◌≤◌, ◌<◌, compare, Ordering}
use mathlib.Core.Path.{◌≡◌, refl, sym, ◌∙◌, ap, subst}
use mathlib.Core.Logic.{◌≢◌}
use mathlib.Core.Bool.{Bool, false}
use mathlib.Core.List.{List, [], ◌∷◌, ◌++◌, append-nil}
use mathlib.Core.Option.{Option, none, some}
use native.Mathlib.Omega.{arith}
use native.Mathlib.Decide.{dec_lt}
use lib.ListN.{length, length-append}
use lib.Dec.{compare_is_eq, eqb}
use Rattle.model.specs.Key.{on_equal}
use Rattle.model.specs.Map.{Entry, All, pick}
use Rattle.model.specs.Nibble.{nibble, critical, Agree}
use Rattle.model.specs.Picture.{Tree, leaf, branch, Kids, end, kid, listing, listings, count, SlotsRise, Picture, Pictures, Pictured, entries, attach, bare, bares, first_differ, group, children, pictured, picture_of, bare_root}
use Rattle.model.proofs.Compare.{Said, lower, same, higher, said, number_other}
use Rattle.model.proofs.Less.{Sorted}
use Rattle.model.proofs.KeyLaws.{agree_sym, agree_trans, critical_agree, critical_differs}
use Rattle.model.proofs.MapLaws.{all_map, all_not_below}
use Rattle.model.proofs.Keep.{keep_append, keep_one}
use Rattle.model.proofs.TreeLaws.{all_listing, all_listings, every_map, everys_map, listing_sorted, kids_from}
use Rattle.model.proofs.Bounds.{slot_bound}
use Rattle.model.proofs.Unique.{listing_some, listings_some, listings_everys, two_slots_lem}

-- The first position where two keys of a branch differ is the branch's.
critical_from : (p : ℕ) (k l : List ℕ) → Agree p k l → k ≢ l → p ≤ critical k l
critical_from p k l a d = go (dec_lt (critical k l) p)
  where
    go : Dec (critical k l < p) → p ≤ critical k l
    go (yes h) = absurd (critical_differs k l d (a.on (critical k l) h))
    go (no h) = omega arith

differ_from : (p : ℕ) (k : List ℕ) (e : Entry) (m : List Entry) → All (Agree p k) (e ∷ m) → All (λ l. k ≢ l) (e ∷ m) → p ≤ first_differ k e m
differ_from p k e [] a d = critical_from p k e.0 a.0 d.0
differ_from p k e (c ∷ m) a d =
    let i = critical_from p k e.0 a.0 d.0 in
    let j = differ_from p k c m a.1 d.1 in
    omega arith

differ_past : (p : ℕ) (k : List ℕ) (e : Entry) (m : List Entry) → p < first_differ k e m → All (λ l. nibble l p ≡ nibble k p) (e ∷ m)
differ_past p k e [] h = (sym ((critical_agree k e.0).on p h), tt)
differ_past p k e (c ∷ m) h = (sym ((critical_agree k e.0).on p (omega arith)), differ_past p k c m (omega arith))

branch_place : (n p : ℕ) (ks : Kids) (e d : Entry) (m : List Entry) → Picture (branch n p ks) → listings ks ≡ e ∷ d ∷ m → first_differ e.0 d m ≡ p
branch_place n p ks e d m h q = go (dec_lt p (first_differ e.0 d m))
  where
    agree : All (λ l. Agree p h.0 l) (e ∷ d ∷ m)
    agree = subst (All (λ l. Agree p h.0 l)) q (all_listings (λ l. Agree p h.0 l) ks (everys_map (λ l f. f.agree) ks (kids_from p h.0 0 ks h.1 h.2)))

    sorted : Sorted (e ∷ d ∷ m)
    sorted = subst Sorted q (listing_sorted (branch n p ks) h)

    above : p ≤ first_differ e.0 d m
    above =
        differ_from p e.0 d m (all_map (λ l f. agree_trans (agree_sym agree.0) f) (d ∷ m) agree.1) (all_not_below e.0 (d ∷ m) sorted.0)

    go : Dec (p < first_differ e.0 d m) → first_differ e.0 d m ≡ p
    go (yes l) =
        let one : All (λ x. nibble x p ≡ nibble e.0 p) (e ∷ d ∷ m) = (refl, differ_past p e.0 d m l) in
        absurd (two_slots_lem p h.0 ks (nibble e.0 p) h.1 h.2 h.3
        (listings_everys (λ x. nibble x p ≡ nibble e.0 p) ks (subst (All (λ x. nibble x p ≡ nibble e.0 p)) (sym q) one)))
    go (no l) = omega (arith, above)

-- The keys of a group are those of the child in that slot.
group_kid : (p : ℕ) (w : List ℕ) (s r : ℕ) (t : Tree) (ks : Kids) → Pictures p w (kid r t ks)
    → group p s (listings (kid r t ks)) ≡ pick (eqb r s) (listing t) [] ++ group p s (listings ks)
group_kid p w s r t ks h =
    keep_append (λ k. eqb (nibble k p) s) (listing t) (listings ks)
    ∙ ap (λ (z : List Entry). z ++ group p s (listings ks))
    (keep_one (λ k. eqb (nibble k p) s) (eqb r s) (listing t)
    (all_listing (λ k. eqb (nibble k p) s ≡ eqb r s) t (every_map (λ k b. ap (λ (z : ℕ). eqb z s) b.slot) t h.2)))

other_slot : (r s : ℕ) → r ≢ s → eqb r s ≡ false
other_slot r s d = go (said r s)
  where
    go : {o : Ordering} → Said r s o → compare_is_eq o ≡ false
    go (lower h) = refl
    go (same h) = absurd (d h)
    go (higher h) = refl

group_none : (p : ℕ) (w : List ℕ) (s : ℕ) (ks : Kids) → Pictures p w ks → SlotsRise (suc s) ks → group p s (listings ks) ≡ []
group_none p w s end h r = refl
group_none p w s (kid q t ks) h r =
    group_kid p w s q t ks h
    ∙ ap (λ (b : Bool). pick b (listing t) [] ++ group p s (listings ks)) (other_slot q s (λ e. omega (arith, r.0)))
    ∙ group_none p w s ks h.3 (higher_slots q ks r.0 r.1)
  where
    higher_slots : (x : ℕ) (us : Kids) → suc s ≤ x → SlotsRise (suc x) us → SlotsRise (suc s) us
    higher_slots x end l a = tt
    higher_slots x (kid y u us) l a = (omega (arith, a.0), a.1)

-- The child in a slot, bare.
abbrev child_bare : ℕ → Kids → Option Tree
child_bare s end = none
child_bare s (kid r t ks) = on_equal (compare r s) (some (bare t)) (child_bare s ks)

-- Children that are given slot by slot are all children.
child_bare_none : (s : ℕ) (ks : Kids) → SlotsRise (suc s) ks → child_bare s ks ≡ none
child_bare_none s ks r = go s ks (suc s) (omega arith) r
  where
    go : (x : ℕ) (us : Kids) (low : ℕ) → x < low → SlotsRise low us → child_bare x us ≡ none
    go x end low l a = refl
    go x (kid y u us) low l a = number_other {m = y} {n = x} (λ e. omega (arith, a.0)) (some (bare u)) (child_bare x us) ∙ go x us (suc y) (omega (arith, a.0)) a.1

abbrev Slots : Kids → Type 0
Slots end = Unit {0}
Slots (kid r t ks) = (r < 17) × Slots ks

children_all : (g : ℕ → Option Tree) (n low : ℕ) (ks : Kids) → low + n ≡ 17 → SlotsRise low ks → Slots ks → ((s : ℕ) → low ≤ s → g s ≡ child_bare s ks)
    → children g low n ≡ bares ks
children_all g zero low end e r b h = refl
children_all g zero low (kid q t ks) e r b h = absurd (omega (arith, r.0, b.0))
children_all g (suc n) low end e r b h =
    ap (λ (z : Option Tree). attach low z (children g (suc low) n)) (h low (omega arith))
    ∙ children_all g n (suc low) end (omega arith) tt tt (λ s l. h s (omega arith))
children_all g (suc n) low (kid q t ks) e r b h =
    go (said q low)
    (children_all g n (suc low) (kid q t ks) (omega arith))
    (children_all g n (suc low) ks (omega arith))
  where
    go : {o : Ordering} → Said q low o
        → (SlotsRise (suc low) (kid q t ks) → Slots (kid q t ks) → ((s : ℕ) → suc low ≤ s → g s ≡ child_bare s (kid q t ks)) → children g (suc low) n ≡ bares (kid q t ks))
        → (SlotsRise (suc low) ks → Slots ks → ((s : ℕ) → suc low ≤ s → g s ≡ child_bare s ks) → children g (suc low) n ≡ bares ks)
        → attach low (g low) (children g (suc low) n) ≡ kid q (bare t) (bares ks)
    go (lower l) i j = absurd (omega (arith, r.0))
    go (same l) i j =
        let here : g low ≡ some (bare t) = h low (omega arith) ∙ at_slot (said q low) in
        let later : children g (suc low) n ≡ bares ks =
        j (subst (λ (x : ℕ). SlotsRise (suc x) ks) l r.1) b.1 (λ s m. h s (omega arith) ∙ number_other {m = q} {n = s} (λ z. omega arith) (some (bare t)) (child_bare s ks)) in
        ap (λ (z : Option Tree). attach low z (children g (suc low) n)) here ∙ (λ x. kid (sym l x) (bare t) (later x))
      where
        at_slot : {o : Ordering} → Said q low o → on_equal o (some (bare t)) (child_bare low ks) ≡ some (bare t)
        at_slot (lower z) = absurd (omega arith)
        at_slot (same z) = refl
        at_slot (higher z) = absurd (omega arith)
    go (higher l) i j =
        let none_here : g low ≡ none = h low (omega arith) ∙ child_bare_none low (kid q t ks) (l, r.1) in
        ap (λ (z : Option Tree). attach low z (children g (suc low) n)) none_here ∙ i (l, r.1) b (λ s m. h s (omega arith))

slots : (p : ℕ) (w : List ℕ) (ks : Kids) → Pictures p w ks → Slots ks
slots p w end h = tt
slots p w (kid r t ks) h = (slot_bound p w r t ks h, slots p w ks h.3)

-- Each child of a branch has fewer keys.
abbrev Fit : ℕ → Kids → Type 0
Fit n end = Unit {0}
Fit n (kid r t ks) = (length (listing t) ≤ n) × Fit n ks

fit : (n x p : ℕ) (w : List ℕ) (ks : Kids) → Pictures p w ks → 2 ≤ x + count ks → x + length (listings ks) ≤ suc n → Fit n ks
fit n x p w end h c l = tt
fit n x p w (kid r t ks) h c l =
    let a = listing_some t h.0 in
    let b = listings_some p w ks h.3 in
    let e = length-append (listing t) (listings ks) in
    (omega arith, fit n (x + length (listing t)) p w ks h.3 (omega arith) (omega arith))

pictured_none : (n : ℕ) → pictured n [] ≡ none
pictured_none zero = refl
pictured_none (suc n) = refl

mutual
  pub pictured_bare : (t : Tree) (n : ℕ) → Picture t → length (listing t) ≤ n → pictured n (listing t) ≡ some (bare t)
  pictured_bare (leaf i k v) zero h l = absurd (omega arith)
  pictured_bare (leaf i k v) (suc n) h l = refl
  pictured_bare (branch i p ks) zero h l = absurd (let a = listings_some p h.0 ks h.1 in omega (arith, h.3))
  pictured_bare (branch i p ks) (suc n) h l =
      go (listings ks) refl
      (λ s. pictured_group ks n p h.0 s 0 h.1 h.2 (fit n 0 p h.0 ks h.1 (omega (arith, h.3)) (omega arith)))
    where
      go : (m : List Entry) → listings ks ≡ m → ((s : ℕ) → pictured n (group p s (listings ks)) ≡ child_bare s ks) → pictured (suc n) m ≡ some (branch 0 p (bares ks))
      go [] q f = absurd (let a = listings_some p h.0 ks h.1 in omega (arith, h.3, ap (length {A = Entry}) q))
      go (e ∷ []) q f = absurd (let a = listings_some p h.0 ks h.1 in omega (arith, h.3, ap (length {A = Entry}) q))
      go (e ∷ d ∷ m) q f =
          let place : first_differ e.0 d m ≡ p = branch_place i p ks e d m h q in
          ap (λ (x : ℕ). some (branch 0 x (children (λ s. pictured n (group x s (e ∷ d ∷ m))) 0 17))) place
          ∙ ap (λ (z : Kids). some (branch 0 p z))
          (children_all (λ s. pictured n (group p s (e ∷ d ∷ m))) 17 0 ks (omega arith) h.2 (slots p h.0 ks h.1)
          (λ s a. ap (λ (z : List Entry). pictured n (group p s z)) (sym q) ∙ f s))

  pictured_group : (ks : Kids) (n p : ℕ) (w : List ℕ) (s low : ℕ) → Pictures p w ks → SlotsRise low ks → Fit n ks → pictured n (group p s (listings ks)) ≡ child_bare s ks
  pictured_group end n p w s low h r f = pictured_none n
  pictured_group (kid q t ks) n p w s low h r f =
      ap (pictured n) (group_kid p w s q t ks h) ∙ go (said q s) (pictured_bare t n h.0 f.0) (pictured_group ks n p w s (suc q) h.3 r.1 f.1)
    where
      go : {o : Ordering} → Said q s o → pictured n (listing t) ≡ some (bare t) → pictured n (group p s (listings ks)) ≡ child_bare s ks
          → pictured n (pick (compare_is_eq o) (listing t) [] ++ group p s (listings ks)) ≡ on_equal o (some (bare t)) (child_bare s ks)
      go (lower l) i j = j
      go (same l) i j =
          ap (λ (z : List Entry). pictured n (listing t ++ z)) (group_none p w s ks h.3 (subst (λ (x : ℕ). SlotsRise (suc x) ks) l r.1))
          ∙ ap (pictured n) (append-nil (listing t))
          ∙ i
      go (higher l) i j = j

pub picture_is : (o : Option Tree) → Pictured o → picture_of (entries o) ≡ bare_root o
picture_is none h = refl
picture_is (some t) h = pictured_bare t (length (listing t)) h (omega arith)

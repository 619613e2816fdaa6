-- The walk of a page over a tree that the records hold: what is met is the tree's listing, and past a key what the tree has past it.
-- Assumes nothing.
use Prim.Native.Nat.{ℕ, zero, suc, ◌+◌, ◌-◌, ◌*◌, ◌≤◌, ◌<◌, Ordering}
use mathlib.Core.Path.{◌≡◌, refl, sym, ap, ap₂, ◌∙◌}
use mathlib.Core.Bool.{Bool, true, false, cond}
use mathlib.Core.List.{List, [], ◌∷◌, ◌++◌, map, map-append}
use mathlib.Core.Option.{none, some}
use native.Mathlib.Omega.{arith}
use native.Mathlib.Decide.{dec_lt}
use lib.Dec.{leb}
use lib.ListN.{length, drop}
use borrow.Author.Tests.{le-leb, lt-leb, lt-ltb, le-ltb, eq-eqb, ne_eqb}
use Rattle.model.specs.Key.{key_limit}
use Rattle.model.specs.Map.{Entry, pick, choose}
use Rattle.model.specs.Nibble.{nibble}
use Rattle.model.specs.Numbers.{most}
use Rattle.model.specs.Picture.{Tree, leaf, branch, Kids, end, kid, listing, listings, count, SlotsRise, StartsAt, Picture, Pictures}
use Rattle.model.proofs.Bounds.{place_bound}
use Rattle.model.proofs.Compare.{Said, lower, same, higher, said}
use Rattle.pictures.specs.After.{after_t, after_k}
use Rattle.pictures.specs.Stored.{to_leaf, to_branch, root, row, Holds, HoldsAll, here}
use Rattle.bitmap.specs.Entries.{Entry as Item, lookup, below as place_of}
use Rattle.node.specs.Child.{item_of, link_of}
use Rattle.node.specs.Leaf.{leaf_in, Is}
use Rattle.node.specs.Branch.{linked_in}
use Rattle.node.specs.declared.child.Link.{Link}
use Rattle.trie_spec.specs.Accepted.{link_to, codes, memory_of}
use Rattle.trie_spec.specs.Walk.{on_linked, on_root}
use Rattle.trie_spec.proofs.HeldLaws.{Inside, inside_at, link_back}
use Rattle.walk.specs.Walk.{entry_in, Met, nothing_right, kids, below, after}
use Rattle.walk.proofs.WalkLaws.{below_leaf, below_kids}
use Rattle.walk.proofs.AfterLaws.{after_leaf, after_past, after_in_lem}
use Rattle.std.specs.Prelude.{Ok}

-- the entries as they are met
abbrev pub given : List Entry → List Met
given es = map some es

given_append : (xs ys : List Entry) → given xs ++ given ys ≡ given (xs ++ ys)
given_append xs ys = sym (map-append some xs ys)

-- ---- the items of a row, in rising slots

length_codes : (ks : Kids) → length (codes (row ks)) ≡ count ks
length_codes end = refl
length_codes (kid s t ks) = ap suc (length_codes ks)

place_low : (s low : ℕ) (ks : Kids) → SlotsRise low ks → s ≤ low → place_of s (codes (row ks)) ≡ 0
unfolding place_of
place_low s low end r h = refl
place_low s low (kid q t ks) r h = rw (le-ltb q s (omega (arith, r.0))) (place_low s (suc q) ks r.1 (omega (arith, r.0)))

lookup_low : (s low : ℕ) (ks : Kids) → SlotsRise low ks → s < low → lookup s (codes (row ks)) ≡ none
unfolding lookup
lookup_low s low end r h = refl
lookup_low s low (kid q t ks) r h = rw (ne_eqb s q (λ e. omega (arith, r.0))) (lookup_low s (suc q) ks r.1 (omega (arith, r.0)))

module _ (st : List ℕ) (cap : ℕ) (few : cap ≤ most) where
  abbrev I : Tree → Type 0
  I t = Inside st cap few t

  inside_rest : (n p s : ℕ) (t : Tree) (ks : Kids) → I (branch n p (kid s t ks)) → I (branch n p ks)
  inside_rest n p s t ks i = record { leaves = λ m h. i.leaves m (omega arith); branches = λ m h. i.branches m (omega arith) }

  entry_is : (n : ℕ) (k : List ℕ) (v : ℕ) → Is (leaf_in st n) k v → entry_in st n ≡ (k, v)
  entry_is n k v h = ap₂ (λ (x : List ℕ) (y : ℕ). (x, y)) h.key h.value

  less : (f : ℕ) → suc f - 1 ≡ f
  less f = omega arith

  -- ---- all of it

  mutual
    unfolding kids

    pub below_tree : (t : Tree) → Holds (memory_of st) t → Picture t → I t → (f low : ℕ) → StartsAt low t → 2 * key_limit ≤ f + low → below st cap f 0 (link_to (root t)) ≡ given (listing t)
    below_tree (leaf n k v) h pic i f low s b = below_leaf st cap f 0 (link_to (to_leaf n)) (record { 0 = n }) refl ∙ ap (λ (e : Entry). some e ∷ []) (entry_is n k v h)
    below_tree (branch n p ks) h pic i zero low s b = absurd (omega (arith, place_bound n p ks pic))
    below_tree (branch n p ks) h pic i (suc f) low s b =
        below_kids st cap (suc f) 0 (link_to (to_branch n p)) (record { 0 = n }) refl (λ z. omega arith) (λ z. omega (arith, ap length h.0, length_codes ks, pic.3))
        ∙ ap₂ (λ (g : ℕ) (es : List Item). kids cap (λ m. below st cap g 0 m) es) (less f) h.0
        ∙ kids_tree ks n p pic.0 h.1 pic.1 i f (omega arith)

    pub kids_tree : (ks : Kids) (n p : ℕ) (w : List ℕ) → HoldsAll (memory_of st) ks → Pictures p w ks → I (branch n p ks) → (f : ℕ) → 2 * key_limit ≤ f + suc p
        → kids cap (λ m. below st cap f 0 m) (codes (row ks)) ≡ given (listings ks)
    kids_tree end n p w h pic i f b = refl
    kids_tree (kid s t ks) n p w h pic i f b =
        ap₂ (λ (x : List Met) (y : List Met). x ++ y)
        (ap (on_root (λ m. below st cap f 0 m) nothing_right) (link_back st cap few t pic.0 (inside_at st cap few here i)) ∙ below_tree t h.0 pic.0 (inside_at st cap few here i) f (suc p) pic.1 b)
        (kids_tree ks n p w h.1 pic.3 (inside_rest n p s t ks i) f b)
        ∙ given_append (listing t) (listings ks)

  -- ---- from a key on

  module _ (b : List ℕ) (c : ℕ) (up : Bool) where
    -- the children of a branch, by the slot of the key's nibble
    abbrev on_slot : (f s : ℕ) → List Item → List Met
    on_slot f s es =
        on_linked (λ m. after st cap b c up f m ++ kids cap (λ x. below st cap f 0 x) (drop (place_of s es + 1) es)) (kids cap (λ x. below st cap f 0 x) (drop (place_of s es) es)) nothing_right
        (linked_in cap s es)

    -- one child more: in a slot below the key's nibble, in that slot, and above it
    module _ (f s r : ℕ) (t : Tree) (ks : Kids) (low : ℕ) (rise : SlotsRise (suc r) ks) where
      abbrev es : List Item
      es = codes (row ks)

      abbrev e : Item
      e = (r, item_of (link_to (root t)))

      slot_skip : r < s → on_slot f s (e ∷ es) ≡ on_slot f s es
      unfolding lookup place_of
      slot_skip h = let z : suc (place_of s es) + 1 ≡ suc (place_of s es + 1) = omega arith in rw (ne_eqb s r (λ q. omega arith), lt-ltb r s h, z)

      slot_here : r ≡ s → link_of cap (item_of (link_to (root t))) ≡ Ok (link_to (root t)) → on_slot f s (e ∷ es) ≡ after st cap b c up f (link_to (root t)) ++ kids cap (λ x. below st cap f 0 x) es
      unfolding lookup place_of
      slot_here h l = rw (eq-eqb s r (sym h), l, le-ltb r s (omega arith), place_low s (suc r) ks rise (omega arith))

      slot_above : s < r → on_slot f s (e ∷ es) ≡ kids cap (λ x. below st cap f 0 x) (e ∷ es)
      unfolding lookup place_of
      slot_above h = rw (ne_eqb s r (λ q. omega arith), lookup_low s (suc r) ks rise (omega arith), le-ltb r s (omega arith), place_low s (suc r) ks rise (omega arith))

      -- what the child gives and what the others give
      one_slot : on_slot f s es ≡ given (after_k b c up s ks) → after st cap b c up f (link_to (root t)) ≡ given (after_t b c up t) → kids cap (λ x. below st cap f 0 x) es ≡ given (listings ks)
          → kids cap (λ x. below st cap f 0 x) (e ∷ es) ≡ given (listing t ++ listings ks) → link_of cap (item_of (link_to (root t))) ≡ Ok (link_to (root t)) → {o : Ordering} → Said r s o
          → on_slot f s (e ∷ es) ≡ given (choose o (after_k b c up s ks) (after_t b c up t ++ listings ks) (listing t ++ listings ks))
      one_slot rest own others all l (lower h) = slot_skip h ∙ rest
      one_slot rest own others all l (same h) = slot_here h l ∙ ap₂ (λ (x : List Met) (y : List Met). x ++ y) own others ∙ given_append (after_t b c up t) (listings ks)
      one_slot rest own others all l (higher h) = slot_above h ∙ all

    nothing_there : (f s : ℕ) → on_slot f s [] ≡ []
    unfolding lookup place_of kids
    nothing_there f s = refl

    -- a branch, by whether it stands past the critical position
    at_branch : (n p : ℕ) (ks : Kids) → Holds (memory_of st) (branch n p ks) → Picture (branch n p ks) → (f : ℕ) → on_slot f (nibble b p) (codes (row ks)) ≡ given (after_k b c up (nibble b p) ks)
        → below st cap (suc f) 0 (link_to (to_branch n p)) ≡ given (listings ks) → Dec (c < p)
        → after st cap b c up (suc f) (link_to (to_branch n p)) ≡ given (pick (leb p c) (after_k b c up (nibble b p) ks) (pick up (listings ks) []))
    at_branch n p ks h pic f slots all (yes q) =
        after_past st cap b c up (suc f) (link_to (to_branch n p)) (record { 0 = n }) refl (λ z. omega arith) q
        ∙ rw (lt-leb p c q) (by up)
      where
        by : (u : Bool) → cond u (below st cap (suc f) 0 (link_to (to_branch n p))) [] ≡ given (pick u (listings ks) [])
        by true = all
        by false = refl
    at_branch n p ks h pic f slots all (no q) =
        after_in_lem st cap b c up (suc f) (link_to (to_branch n p)) (record { 0 = n }) refl (λ z. omega arith) (omega arith)
        ∙ ap (λ (es : List Item). on_linked (λ m. after st cap b c up (suc f - 1) m ++ below st cap (suc f) (place_of s es + 1) l) (below st cap (suc f) (place_of s es) l) nothing_right (linked_in cap s es)) h.0
        ∙ ap₂ (λ (x : List Met) (y : List Met). on_linked (λ m. after st cap b c up (suc f - 1) m ++ x) y nothing_right (linked_in cap s cs)) (from (place_of s cs + 1)) (from (place_of s cs))
        ∙ ap (λ (g : ℕ). on_linked (λ m. after st cap b c up g m ++ kids cap (λ x. below st cap f 0 x) (drop (place_of s cs + 1) cs)) (kids cap (λ x. below st cap f 0 x) (drop (place_of s cs) cs)) nothing_right (linked_in cap s cs)) (less f)
        ∙ rw (le-leb p c (omega arith)) slots
      where
        s : ℕ
        s = nibble b p

        l : Link
        l = link_to (to_branch n p)

        cs : List Item
        cs = codes (row ks)

        from : (i : ℕ) → below st cap (suc f) i (link_to (to_branch n p)) ≡ kids cap (λ x. below st cap f 0 x) (drop i (codes (row ks)))
        from i =
            below_kids st cap (suc f) i (link_to (to_branch n p)) (record { 0 = n }) refl (λ z. omega arith) (λ z. omega (arith, ap length h.0, length_codes ks, pic.3))
            ∙ ap₂ (λ (g : ℕ) (es : List Item). kids cap (λ m. below st cap g 0 m) (drop i es)) (less f) h.0

    mutual
      pub after_tree : (t : Tree) → Holds (memory_of st) t → Picture t → I t → (f low : ℕ) → StartsAt low t → 2 * key_limit ≤ f + low
          → after st cap b c up f (link_to (root t)) ≡ given (after_t b c up t)
      after_tree (leaf n k v) h pic i f low s g =
          after_leaf st cap b c up f (link_to (to_leaf n)) (record { 0 = n }) refl
          ∙ ap (λ (d : Entry). cond up (some d ∷ []) []) (entry_is n k v h)
          ∙ by up
        where
          by : (u : Bool) → cond u (some (k, v) ∷ []) [] ≡ given (pick u ((k, v) ∷ []) [])
          by true = refl
          by false = refl
      after_tree (branch n p ks) h pic i zero low s g = absurd (omega (arith, place_bound n p ks pic))
      after_tree (branch n p ks) h pic i (suc f) low s g =
          at_branch n p ks h pic f (after_kids ks n p pic.0 h.1 pic.1 i 0 pic.2 f (omega arith)) (below_tree (branch n p ks) h pic i (suc f) low s g) (dec_lt c p)

      after_kids : (ks : Kids) (n p : ℕ) (w : List ℕ) → HoldsAll (memory_of st) ks → Pictures p w ks → I (branch n p ks) → (low : ℕ) → SlotsRise low ks → (f : ℕ) → 2 * key_limit ≤ f + suc p
          → on_slot f (nibble b p) (codes (row ks)) ≡ given (after_k b c up (nibble b p) ks)
      after_kids end n p w h pic i low rise f g = nothing_there f (nibble b p)
      after_kids (kid r t ks) n p w h pic i low rise f g =
          one_slot f (nibble b p) r t ks low rise.1
          (after_kids ks n p w h.1 pic.3 (inside_rest n p r t ks i) (suc r) rise.1 f g)
          (after_tree t h.0 pic.0 (inside_at st cap few here i) f (suc p) pic.1 g)
          (kids_tree ks n p w h.1 pic.3 (inside_rest n p r t ks i) f g)
          (kids_tree (kid r t ks) n p w h pic i f g)
          (link_back st cap few t pic.0 (inside_at st cap few here i))
          (said r (nibble b p))

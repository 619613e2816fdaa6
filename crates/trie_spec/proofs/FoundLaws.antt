-- Exact lookup in an accepted store: it finds the leaf that the tree has for the key, and stands where the key's removal cuts. Assumes nothing.
use Prim.Native.Nat.{ℕ, zero, suc, ◌+◌, ◌*◌, ◌≤◌, ◌<◌, Ordering}
use mathlib.Core.Path.{◌≡◌, refl, sym, ap, subst, ◌∙◌}
use mathlib.Core.Logic.{◌≢◌, ◌⊎◌, inl, inr}
use mathlib.Core.List.{List}
use mathlib.Core.Option.{Option, none, some}
use native.Mathlib.Omega.{arith}
use lib.ListN.{length}
use borrow.Author.Tests.{eq-eqb, ne_eqb}
use Rattle.model.specs.Key.{key_limit, on_equal}
use Rattle.model.specs.Numbers.{most}
use Rattle.model.specs.Nibble.{nibble}
use Rattle.model.specs.Picture.{Tree, leaf, branch, Kids, end, kid, count, StartsAt, Picture, Pictures, closest, closest_k, first as first_leaf}
use Rattle.model.proofs.Compare.{Said, lower, same, higher, said, compare_self, number_other}
use Rattle.model.proofs.Bounds.{place_bound}
use Rattle.model.proofs.KeyLaws.{Ordered, before, equal, after, ordered}
use Rattle.model.proofs.Unique.{listing_some}
use Rattle.pictures.specs.Tree.{get_t}
use Rattle.pictures.specs.Records.{at, tallies, branch_times}
use Rattle.pictures.specs.Stored.{Child, to_leaf, to_branch, root, row, Holds, At, here, there, Lacks, Cut, gone, lifts, shrinks, relinks, cut_leaf, cut_above, cut, Touches}
use Rattle.pictures.proofs.Children.{tree_ind, at_or_lacks, holds_at, picture_at, get_at, get_lacks, closest_at, row_at}
use Rattle.pictures.proofs.StoredRemove.{cut_at, cut_within, drop, row_drop}
use Rattle.pictures.proofs.Frame.{tally_at, at_self}
use Rattle.pictures.proofs.Tally.{leaves_length}
use Rattle.bitmap.specs.Entries.{erase, Rising}
use Rattle.sparse_array.proofs.ArrayLaws.{rising}
use Rattle.node.specs.Child.{link_of, item_of}
use Rattle.node.specs.Header.{head_in}
use Rattle.node.specs.Leaf.{Is, leaf_in}
use Rattle.node.specs.Branch.{array_in, children_in, some_link, head_link}
use Rattle.trie_spec.specs.Accepted.{link_to, codes, memory_of, Accepted}
use Rattle.trie_spec.specs.Walk.{steps, step, walk}
use Rattle.trie_spec.specs.Find.{no_stop, on_walked, find_in, Exact}
use Rattle.trie_spec.specs.declared.descent.Spot.{Spot}
use Rattle.trie_spec.specs.declared.descent.Spot.TheVariants.{Root, Under}
use Rattle.trie_spec.specs.declared.descent.Step.{Step}
use Rattle.trie_spec.proofs.WalkLaws.{walk_leaf, walk_step}
use Rattle.trie_spec.proofs.RowCodes.{codes_drop, codes_high, length_codes}
use Rattle.trie_spec.proofs.HeldLaws.{Linkable, linkable, Inside, inside_at, link_at, link_lacks, link_back}
use Rattle.trie_spec.proofs.AcceptedLaws.{few, inside, no_leaves, leaf_count_lem, root_link}
use Rattle.std.specs.Prelude.{Ok, Some, None}

-- a row with one child less
drop_length : {s : ℕ} {u : Tree} {ks : Kids} → At s u ks → suc (length (row (drop s ks))) ≡ length (row ks)
drop_length {s} here = rw (compare_self s)
drop_length {s} (there {r} {t} {ks} d a) = rw (number_other d ks (kid r t (drop s ks))) (ap suc (drop_length a))

row_count : (ks : Kids) → length (row ks) ≡ count ks
row_count end = refl
row_count (kid s t ks) = ap suc (row_count ks)

module _ (st : List ℕ) (cap : ℕ) (few : cap ≤ most) (k : List ℕ) where
  abbrev I : Tree → Type 0
  I t = Inside st cap few t

  -- branch f has two children, and c is left of them without slot s
  pub record Pair (f s : ℕ) (c : Child) : Type 0 where
    pub two : length (children_in st f) ≡ 2
    pub other : head_link cap (erase s (children_in st f)) ≡ Ok (Some (link_to c))
    pub fits : Linkable (link_to c)

  -- Where the descent stands that began at the spot `at`, below the spot `above`, by what the removal cuts.
  abbrev pub Stood : Cut → (at above : Spot) → Step → Type 0
  Stood gone at above s = (s.at ≡ at) × (s.above ≡ above)
  Stood (lifts f c) at above s = (q : ℕ) × (s.at ≡ Under (record { 0 = f }) q) × (s.above ≡ at) × Pair f q c
  Stood (shrinks n q) at above s = (s.at ≡ Under (record { 0 = n }) q) × (3 ≤ length (children_in st n))
  Stood (relinks n q f c) at above s = (r : ℕ) × (s.at ≡ Under (record { 0 = f }) r) × (s.above ≡ Under (record { 0 = n }) q) × Pair f r c × (q ≤ 16) × (n ≢ f)

  -- What is found, by the value that the tree has for the key.
  abbrev pub Found : (t : Tree) (at above : Spot) → Option ℕ → Exact → Type 0
  Found t at above none e = e ≡ Ok None
  Found t at above (some v) e = (s : Step) × (e ≡ Ok (Some (record { 0 = (closest k t).number }, s))) × Is (leaf_in st (closest k t).number) k v × Stood (cut k t) at above s

  -- every child's link is read back
  abbrev Backs : Kids → Type 0
  Backs end = Unit {0}
  Backs (kid s t ks) = (link_of cap (item_of (link_to (root t))) ≡ Ok (link_to (root t))) × Linkable (link_to (root t)) × Backs ks

  backs : (p : ℕ) (w : List ℕ) (ks : Kids) → Pictures p w ks → ((m : ℕ) → 1 ≤ tallies (at m) (λ j q. 0) ks → m < cap) → ((m : ℕ) → 1 ≤ tallies (λ j. 0) (λ j q. at m j) ks → m < cap) → Backs ks
  backs p w end h l b = tt
  backs p w (kid s t ks) h l b = (
    link_back st cap few t h.0 (record { leaves = λ m q. l m (omega arith); branches = λ m q. b m (omega arith) }),
    linkable st cap few t h.0 (record { leaves = λ m q. l m (omega arith); branches = λ m q. b m (omega arith) }),
    backs p w ks h.3 (λ m q. l m (omega arith)) (λ m q. b m (omega arith)),
  )

  drop_backs : (s : ℕ) (ks : Kids) → Backs ks → Backs (drop s ks)
  drop_backs s end h = tt
  drop_backs s (kid r t ks) h = go (said s r) (drop_backs s ks h.2)
    where
      go : {o : Ordering} → Said s r o → Backs (drop s ks) → Backs (on_equal o ks (kid r t (drop s ks)))
      go (lower q) ih = (h.0, h.1, ih)
      go (same q) ih = h.2
      go (higher q) ih = (h.0, h.1, ih)

  -- the same one step higher, for a child in slot s of branch n
  module _ (n p s : ℕ) (ks : Kids) (u : Tree) (h : Holds (memory_of st) (branch n p ks)) (pic : Picture (branch n p ks)) (i : I (branch n p ks)) (a : At s u ks) where
    left : erase s (children_in st n) ≡ codes (row (drop s ks))
    left = ap (erase s) h.0 ∙ codes_drop s (row ks) ∙ ap codes (sym (row_drop a))

    size : length (children_in st n) ≡ suc (length (row (drop s ks)))
    size = ap length h.0 ∙ length_codes (row ks) ∙ sym (drop_length a)

    last_link : (t : Tree) (o : ℕ) → drop s ks ≡ kid o t end → Pair n s (root t)
    last_link t o e =
        let b = subst Backs e (drop_backs s ks (backs p pic.0 ks pic.1 (λ m q. i.leaves m (omega arith)) (λ m q. i.branches m (omega (arith, q))))) in
        record {
          two = size ∙ ap (λ (d : Kids). suc (length (row d))) e;
          other = ap (head_link cap) (left ∙ ap (λ (d : Kids). codes (row d)) e) ∙ ap some_link b.0;
          fits = b.1;
        }

    -- what is left of a picture's children
    cut_here : (at above : Spot) (z : Step) (ds : Kids) → drop s ks ≡ ds → z.at ≡ Under (record { 0 = n }) s → z.above ≡ at → Stood (cut_leaf n s (row ds)) at above z
    cut_here at above z end e q r = absurd (omega (arith, pic.3, row_count ks, drop_length a, ap (λ (d : Kids). length (row d)) e))
    cut_here at above z (kid o t end) e q r = (s, q, r, last_link t o e)
    cut_here at above z (kid o t (kid o' t' ds)) e q r = (q, omega (arith, size, ap (λ (d : Kids). length (row d)) e))

    slot_fits : s ≤ 16
    slot_fits = omega (arith, codes_high s 0 17 (row ks) (root u) (subst (Rising 0 17) h.0 (rising (array_in st n))) (row_at a))

    above_here : (at above : Spot) (z : Step) (c : Cut) → ((m : ℕ) → Touches c m → n ≢ m) → Stood c (Under (record { 0 = n }) s) at z → Stood (cut_above n s (row ks) c) at above z
    above_here at above z gone away (q, r) = rw (← row_drop a) (cut_here at above z (drop s ks) refl q r)
    above_here at above z (lifts f c) away (o, q, r, w) = (o, q, r, w, slot_fits, away f refl)
    above_here at above z (shrinks m o) away w = w
    above_here at above z (relinks m o f c) away w = w

    step_found : ((m : ℕ) → branch_times m (branch n p ks) ≤ 1) → (at above : Spot) (o : Option ℕ) (e : Exact) → Found u (Under (record { 0 = n }) s) at o e → closest_k k s ks (first_leaf k ks) ≡ closest k u → nibble k p ≡ s
        → Found (branch n p ks) at above o e
    step_found once at above none e f c q = f
    step_found once spot above (some v) e (z, f, is, w) c q =
        rw (q, c) (z, f, is, rw (cut_at k n (row ks) a) (above_here spot above z (cut k u) away w))
      where
        away : (m : ℕ) → Touches (cut k u) m → n ≢ m
        away m y e = omega (arith, once n, at_self n, tally_at (λ j. 0) (λ j r. at n j) a, subst (λ (j : ℕ). 1 ≤ branch_times j u) (sym e) (cut_within k m u y))

  abbrev Finds : Tree → Type 0
  Finds t = Holds (memory_of st) t → Picture t → I t → ((m : ℕ) → branch_times m t ≤ 1) → (low f : ℕ) → StartsAt low t → low ≤ 2 * key_limit → 2 * key_limit < f + low
      → (at above : Spot) → Found t at above (get_t k t) (on_walked st k (walk st cap k no_stop f (step (link_to (root t)) at above)))

  at_branch : (n p : ℕ) (ks : Kids) → ((s : ℕ) (u : Tree) → At s u ks → Finds u) → Holds (memory_of st) (branch n p ks) → (pic : Picture (branch n p ks)) → I (branch n p ks) → ((m : ℕ) → branch_times m (branch n p ks) ≤ 1)
      → (low f : ℕ) → low ≤ p → 2 * key_limit < f + low → (at above : Spot) → ((u : Tree) × At (nibble k p) u ks) ⊎ Lacks (nibble k p) ks
      → Found (branch n p ks) at above (get_t k (branch n p ks)) (on_walked st k (walk st cap k no_stop f (step (link_to (to_branch n p)) at above)))
  at_branch n p ks ih h pic i once low zero l e at above q = absurd (omega (arith, place_bound n p ks pic))
  at_branch n p ks ih h pic i once low (suc f) l e spot above (inl (u, a)) =
      let s : ℕ = nibble k p in
      let pu : Picture u = (picture_at p pic.0 a pic.1).0 in
      let iu : I u = inside_at st cap few a i in
      let found = link_at st cap few n p s ks u h a pu iu in
      let w = walk_step st cap k no_stop (step (link_to (to_branch n p)) spot above) f (record { 0 = n }) refl (omega (arith, place_bound n p ks pic)) (Ok (Some (link_to (root u)))) (sym found) in
      rw (get_at k a, w)
      (step_found n p s ks u h pic i a once spot above (get_t k u) (on_walked st k (walk st cap k no_stop f (step (link_to (root u)) (Under (record { 0 = n }) s) spot)))
      (ih s u a (holds_at (memory_of st) a h.1) pu iu (λ m. omega (arith, once m, tally_at (λ j. 0) (λ j r. at m j) a)) (suc p) f (picture_at p pic.0 a pic.1).1 (omega (arith, place_bound n p ks pic)) (omega arith) (Under (record { 0 = n }) s) spot)
      (closest_at k (first_leaf k ks) a) refl)
  at_branch n p ks ih h pic i once low (suc f) l e at above (inr d) =
      let absent = link_lacks st cap few n p (nibble k p) ks h d in
      let w = walk_step st cap k no_stop (step (link_to (to_branch n p)) at above) f (record { 0 = n }) refl (omega (arith, place_bound n p ks pic)) (Ok None) (sym absent) in
      rw (get_lacks k (nibble k p) ks d, w)

  at_leaf : (n : ℕ) (l : List ℕ) (v : ℕ) → Is (leaf_in st n) l v → (low f : ℕ) → low ≤ 2 * key_limit → 2 * key_limit < f + low → (at above : Spot)
      → Found (leaf n l v) at above (get_t k (leaf n l v)) (on_walked st k (walk st cap k no_stop f (step (link_to (to_leaf n)) at above)))
  at_leaf n l v i low zero g e at above = absurd (omega arith)
  at_leaf n l v i low (suc f) g e at above =
      let z : Step = step (link_to (to_leaf n)) at above in
      let w = walk_leaf st cap k no_stop z f (record { 0 = n }) refl in
      rw (w, i.key) (go (ordered k l))
    where
      go : {o : Ordering} → Ordered k l o → Found (leaf n l v) at above (on_equal o (some v) none) (on_equal o (Ok (Some (record { 0 = n }, step (link_to (to_leaf n)) at above))) (Ok None))
      go (before q) = refl
      go (equal q) = (step (link_to (to_leaf n)) at above, refl, subst (λ (z : List ℕ). Is (leaf_in st n) z v) (sym q) i, (refl, refl))
      go (after q) = refl

  pub finds : (t : Tree) → Finds t
  finds =
      tree_ind Finds
      (λ n l v h pic i once low f s g e at above. at_leaf n l v h low f g e at above)
      (λ n p ks ih h pic i once low f s g e at above. at_branch n p ks ih h pic i once low f s e at above (at_or_lacks (nibble k p) ks))

-- In an accepted store.
module _ (st : List ℕ) (k : List ℕ) where
  abbrev pub FoundIn : (o : Option Tree) → Accepted st o → Exact → Type 0
  FoundIn none acc e = e ≡ Ok None
  FoundIn (some t) acc e = Found st (head_in st).capacity (few st (some t) acc) k t Root Root (get_t k t) e

  starts : (t : Tree) → StartsAt 0 t
  starts (leaf n l v) = tt
  starts (branch n p ks) = omega arith

  pub find_means : (o : Option Tree) (acc : Accepted st o) → FoundIn o acc (find_in st (head_in st) k)
  find_means none acc = rw (eq-eqb (head_in st).leaves 0 (no_leaves st acc))
  find_means (some t) acc =
      rw (ne_eqb (head_in st).leaves 0 (λ e. omega (arith, leaf_count_lem st t acc, leaves_length t, listing_some t acc.picture)), root_link st t acc)
      (finds st (head_in st).capacity (few st (some t) acc) k t acc.held acc.picture (inside st t acc) acc.branches.once 0 steps (starts t) (omega arith) (omega arith) Root Root)

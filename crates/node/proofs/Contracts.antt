-- A law for each way out of a function: from its callees' contracts to its own. Assumes nothing.
use mathlib.Core.Path.{◌≡◌, refl, sym, ap, ◌∙◌}
use mathlib.Core.Bool.{true}
use Rattle.std.specs.Prelude.{Option as CodeOption, Some, Result, IsSome}
use mathlib.Core.List.{List, [], ◌∷◌, ◌++◌}
use mathlib.Core.Option.{Option, none, some}
use Prim.Native.Nat.{ℕ, min, ◌+◌, ◌-◌, ◌≤◌, ◌<◌}
use native.Mathlib.Omega.{arith}
use lib.Dec.{leb, eqb}
use lib.ListN.{length, get_or, take, drop, length-take}
use borrow.Author.Tests.{lt-ltb, le-ltb, le-leb, lt-leb, eq-eqb, ne_eqb}
use Rattle.model.specs.Key.{key_limit}
use Rattle.model.specs.Numbers.{most, least_size, capacity_of}
use Rattle.fields.specs.Part.{splice}
use Rattle.fields.specs.Number.{little, little_bytes}
use Rattle.fields.proofs.PartLaws.{lent, lent_back, length_part, length_splice}
use Rattle.bitmap.specs.Entries.{below}
use Rattle.sparse_array.specs.Array.{size, entries, with_slot, without_slot, cleared}
use Rattle.sparse_array.specs.Answers.{got, placed, WasSet, WasRemoved}
use Rattle.sparse_array.specs.declared.NoSlot.{NoSlot}
use Rattle.sparse_array.specs.declared.Put.{Put}
use Rattle.sparse_array.proofs.ItemLaws.{length_bitmap}
use Rattle.sparse_array.proofs.ArrayLaws.{below_bound, length_set_bytes, length_remove_bytes}
use Rattle.node.specs.Layout.{start, array_at, size_at, value_at, Room}
use Rattle.node.specs.Child.{to_leaf, to_branch, decoded, item_of}
use Rattle.node.specs.Leaf.{key_size, leaf_in, set_leaf, set_value}
use Rattle.node.specs.Branch.{array_in, children_in, linked, linked_got, set_array, set_child, remove_child, two_slots, make_branch}
use Rattle.node.specs.Header.{magic, mark_in, header, head_in, head_of, set_head, set_mark}
use Rattle.node.specs.declared.child.Link.{Link}
use Rattle.node.specs.declared.header.Header.{Header}
use Rattle.std.specs.Prelude.{Ok, Err}
use Rattle.node.specs.NotAStore.{not_a_store}

-- ---- links: the code of each kind of record, and a code that names none

module _ (cap code p : ℕ) where
  pub is_leaf : code < cap → Ok (to_leaf code p) ≡ decoded cap code p
  is_leaf h = rw (lt-ltb code cap h)

  pub is_between : cap ≤ code → code < most → Err not_a_store ≡ decoded cap code p
  is_between h k = rw (le-ltb code cap h, lt-ltb code most k)

  pub is_branch : cap ≤ code → most ≤ code → code - most < cap → Ok (to_branch (code - most) p) ≡ decoded cap code p
  is_branch h k l = rw (le-ltb code cap h, le-ltb code most k, lt-ltb (code - most) cap l)

  pub is_past : cap ≤ code → most ≤ code → cap ≤ code - most → Err not_a_store ≡ decoded cap code p
  is_past h k l = rw (le-ltb code cap h, le-ltb code most k, le-ltb (code - most) cap l)

-- ---- the header

-- what fails, in the order of the tests
module _ (st : List ℕ) where
  pub bad_short : length st < least_size → Err not_a_store ≡ head_of st
  unfolding head_of
  bad_short h = rw (lt-leb least_size (length st) h)

  pub bad_mark : least_size ≤ length st → (m : ℕ) → m ≡ little 4 st 0 → (m ≡ magic → ⊥) → Err not_a_store ≡ head_of st
  unfolding head_of mark_in
  bad_mark h m e ne = rw (le-leb least_size (length st) h, ← e, ne_eqb m magic ne)

  module _ (h : least_size ≤ length st) (m : ℕ) (e : m ≡ little 4 st 0) (is : m ≡ magic) (k : Header) (q : k ≡ head_in st) where
    marked : eqb (mark_in st) magic ≡ true
    unfolding mark_in
    marked = eq-eqb (little 4 st 0) magic (sym e ∙ is)

    pub bad_capacity : (n : ℕ) → n ≡ capacity_of (length st) → (k.capacity ≡ n → ⊥) → Err not_a_store ≡ head_of st
    unfolding head_of
    bad_capacity n r ne = rw (le-leb least_size (length st) h, marked, ← q, ← r, ne_eqb k.capacity n ne)

    module _ (n : ℕ) (r : n ≡ capacity_of (length st)) (c : k.capacity ≡ n) where
      pub bad_leaves : k.capacity < k.leaves → Err not_a_store ≡ head_of st
      unfolding head_of
      bad_leaves l = rw (le-leb least_size (length st) h, marked, ← q, eq-eqb k.capacity (capacity_of (length st)) (c ∙ r), lt-leb k.leaves k.capacity l)

      pub bad_branches : k.leaves ≤ k.capacity → k.capacity < k.branches → Err not_a_store ≡ head_of st
      unfolding head_of
      bad_branches l b =
          rw (le-leb least_size (length st) h, marked, ← q, eq-eqb k.capacity (capacity_of (length st)) (c ∙ r), le-leb k.leaves k.capacity l, lt-leb k.branches k.capacity b)

      pub good_head : k.leaves ≤ k.capacity → k.branches ≤ k.capacity → Ok k ≡ head_of st
      unfolding head_of
      good_head l b =
          rw (le-leb least_size (length st) h, marked, ← q, eq-eqb k.capacity (capacity_of (length st)) (c ∙ r), le-leb k.leaves k.capacity l, le-leb k.branches k.capacity b)

pub numbers_read : (st : List ℕ) (c l u b r f g : ℕ) → c ≡ little 2 st 4 → l ≡ little 2 st 6 → u ≡ little 2 st 8 → b ≡ little 2 st 10 → r ≡ little 3 st 12 → f ≡ little 2 st 15 → g ≡ little 2 st 17
    → header c l u b r f g ≡ head_in st
unfolding head_in
numbers_read st c l u b r f g e₀ e₁ e₂ e₃ e₄ e₅ e₆ = rw (e₀, e₁, e₂, e₃, e₄, e₅, e₆)

pub numbers_written : (st s₁ s₂ s₃ s₄ s₅ s₆ s₇ : List ℕ) (c l u b r f g : ℕ) → s₁ ≡ splice st 4 (little_bytes 2 c) → s₂ ≡ splice s₁ 6 (little_bytes 2 l) → s₃ ≡ splice s₂ 8 (little_bytes 2 u)
    → s₄ ≡ splice s₃ 10 (little_bytes 2 b) → s₅ ≡ splice s₄ 12 (little_bytes 3 r) → s₆ ≡ splice s₅ 15 (little_bytes 2 f) → s₇ ≡ splice s₆ 17 (little_bytes 2 g)
    → s₇ ≡ set_head st (header c l u b r f g)
unfolding set_head splice little_bytes
numbers_written st s₁ s₂ s₃ s₄ s₅ s₆ s₇ c l u b r f g e₁ e₂ e₃ e₄ e₅ e₆ e₇ = rw (e₇, e₆, e₅, e₄, e₃, e₂, e₁)

pub mark_written : (st s : List ℕ) → s ≡ splice st 0 (little_bytes 4 magic) → s ≡ set_mark st
unfolding set_mark
mark_written st s e = e

-- ---- leaf records

module _ (st : List ℕ) (n a : ℕ) where
  pub key_capped : (x : ℕ) → a ≡ size_at n → x ≡ min (get_or st a 0) key_limit → (x ≡ key_size (leaf_in st n).size) × (x ≤ key_limit)
  unfolding leaf_in
  key_capped x p q = (rw (← p) q, omega arith)

  pub size_fits : (x : ℕ) → a ≡ size_at n → x ≡ get_or st a 0 → leb x key_limit ≡ leb (leaf_in st n).size key_limit
  unfolding leaf_in
  size_fits x p q = rw (← p, ← q)

  module _ (x : ℕ) (p : a ≡ start n) (q : x ≡ key_size (leaf_in st n).size) where
    pub key_is : take (a + x - a) (drop a st) ≡ (leaf_in st n).key
    unfolding leaf_in
    key_is = lent st a x ∙ rw (q, p)

    pub key_fits : x ≤ key_limit → length (take (a + x - a) (drop a st)) ≤ key_limit
    key_fits h = simp length-take (omega arith)

  pub value_is : (x : ℕ) → a ≡ value_at n → x ≡ little 4 st a → x ≡ (leaf_in st n).value
  unfolding leaf_in
  value_is x p q = rw (← p) q

  pub value_written : (s : List ℕ) (v : ℕ) → a ≡ value_at n → s ≡ splice st a (little_bytes 4 v) → s ≡ set_value st n v
  unfolding set_value
  value_written s v p q = rw (← p) q

  pub leaf_written : (k s₁ s₂ p : List ℕ) (t u v : ℕ) → Room st n → length k ≤ key_limit → t ≡ size_at n → u ≡ value_at n → a ≡ start n
      → s₁ ≡ splice st t (length k ∷ []) → s₂ ≡ splice s₁ u (little_bytes 4 v) → p ≡ k
      → take a s₂ ++ (p ++ drop (a + length k - a) (drop a s₂)) ≡ set_leaf st n k v
  unfolding set_leaf
  leaf_written k s₁ s₂ p t u v room h et eu ea e₁ e₂ ep =
      let l : length s₂ ≡ length st =
      ap length e₂ ∙ length_splice s₁ u (little_bytes 4 v) ∙ ap length e₁ ∙ length_splice st t (length k ∷ []) in
      lent_back s₂ a (length k) p (omega arith) (ap length ep) ∙ rw (ep, e₂, e₁, et, eu, ea)

-- ---- branch records

length_two : (s x r y : ℕ) (a : List ℕ) → length (two_slots s x r y a) ≡ length a
unfolding cleared
length_two s x r y a = length_set_bytes r y (with_slot s x (cleared a)) ∙ length_set_bytes s x (cleared a) ∙ length_bitmap a 0

module _ (st : List ℕ) (n a : ℕ) (is : a ≡ array_at n) where
  pub array_is : take (a + size - a) (drop a st) ≡ array_in st n
  unfolding array_in
  array_is = lent st a size ∙ rw is

  pub array_size_lem : Room st n → length (take (a + size - a) (drop a st)) ≡ size
  array_size_lem room = rw (lent st a size) (length_part st a size (omega arith))

  -- the whole store once the array has come back
  pub back : (p : List ℕ) → Room st n → length p ≡ size → take a st ++ (p ++ drop (a + size - a) (drop a st)) ≡ set_array st n p
  back p room l = lent_back st a size p (omega arith) l ∙ rw is

  pub child_set : (p : List ℕ) (r : Result Put NoSlot) (slot item : ℕ) (l : Link) → Room st n → item ≡ item_of l → WasSet slot item (take (a + size - a) (drop a st)) p r
      → take a st ++ (p ++ drop (a + size - a) (drop a st)) ≡ set_child st n slot l
  unfolding set_child
  child_set p r slot item l room e w =
      let q : p ≡ with_slot slot (item_of l) (array_in st n) = w.bytes ∙ rw (array_is, e) in
      back p room (ap length w.bytes ∙ length_set_bytes slot item (take (a + size - a) (drop a st)) ∙ array_size_lem room) ∙ rw q

  pub child_removed : (p : List ℕ) (r : Result (Unit {0}) NoSlot) (slot : ℕ) → Room st n → WasRemoved slot (take (a + size - a) (drop a st)) p r
      → take a st ++ (p ++ drop (a + size - a) (drop a st)) ≡ remove_child st n slot
  unfolding remove_child
  child_removed p r slot room w =
      let q : p ≡ without_slot slot (array_in st n) = w.bytes ∙ rw array_is in
      back p room (ap length w.bytes ∙ length_remove_bytes slot (take (a + size - a) (drop a st)) ∙ array_size_lem room) ∙ rw q

  pub branch_made : (p : List ℕ) (s x r y : ℕ) (l k : Link) → Room st n → x ≡ item_of l → y ≡ item_of k → p ≡ two_slots s x r y (take (a + size - a) (drop a st))
      → take a st ++ (p ++ drop (a + size - a) (drop a st)) ≡ make_branch st n s l r k
  unfolding make_branch
  branch_made p s x r y l k room e f w =
      let q : p ≡ two_slots s (item_of l) r (item_of k) (array_in st n) = w ∙ rw (array_is, e, f) in
      back p room (ap length w ∙ length_two s x r y (take (a + size - a) (drop a st)) ∙ array_size_lem room) ∙ rw q

pub two_made : (a b c d : List ℕ) (s x r y : ℕ) (t u : Result Put NoSlot) → b ≡ cleared a → WasSet s x b c t → WasSet r y c d u → d ≡ two_slots s x r y a
two_made a b c d s x r y t u e v w = w.bytes ∙ rw (v.bytes, e)

-- an answer of the array as a link
linked_got_lem : (cap : ℕ) (o : Option ℕ) → linked_got cap (got o) ≡ linked cap o
linked_got_lem cap none = refl
linked_got_lem cap (some x) = refl

-- the place of a slot of a record
module _ (a : List ℕ) (slot : ℕ) (r : CodeOption ℕ) (st : List ℕ) (n : ℕ) (p : a ≡ array_in st n) (q : r ≡ placed slot (entries a)) (h : slot ≤ 16) where
  its_place : r ≡ Some (below slot (children_in st n))
  its_place = q ∙ rw (p, le-leb slot 16 h)

  pub has_place : IsSome r
  has_place = rw its_place

  pub place_is : (i : ℕ) → r ≡ Some i → i ≡ below slot (children_in st n)
  place_is i e = let w : Some i ≡ Some (below slot (children_in st n)) = sym e ∙ its_place in cc w

  pub place_small : (i : ℕ) → r ≡ Some i → i ≤ 17
  place_small i e = omega (arith, place_is i e, below_bound slot (array_in st n))

pub count_is : (a st : List ℕ) (n r : ℕ) → a ≡ array_in st n → r ≡ length (entries a) → r ≡ length (children_in st n)
count_is a st n r p q = q ∙ rw p

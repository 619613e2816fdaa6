-- What stands in a record once it is written, and what its write leaves. Assumes nothing.
use mathlib.Core.Path.{◌≡◌, refl, ap, sym, ◌∙◌}
use mathlib.Core.Logic.{inl, inr}
use mathlib.Core.List.{List, [], ◌∷◌}
use Prim.Native.Nat.{ℕ, ◌+◌, ◌%◌, ◌≤◌, ◌<◌, min}
use native.Mathlib.Decide.{ℕ_discrete}
use native.Mathlib.Omega.{arith}
use borrow.Author.Tests.{le-leb, le-ltb, ne_eqb}
use lib.ListN.{length, get_or}
use Rattle.model.specs.Key.{key_limit}
use Rattle.model.specs.Numbers.{value_bound, most}
use Rattle.fields.specs.Part.{splice}
use Rattle.fields.specs.Number.{little, little_bytes}
use Rattle.fields.proofs.PartLaws.{length_splice, get_or_splice_below, get_or_splice_above, get_or_splice_in, part_splice_same, part_splice_apart, length_part}
use Rattle.fields.proofs.NumberLaws.{length_little, little_same, little_apart}
use Rattle.bitmap.specs.Entries.{insert, erase}
use Rattle.bitmap.specs.Bits.{bits_of}
use Rattle.sparse_array.specs.Array.{size, bitmap_of, entries, with_slot, without_slot, cleared}
use Rattle.sparse_array.proofs.ItemLaws.{length_bitmap, bitmap_new}
use Rattle.sparse_array.proofs.ArrayLaws.{set_means, remove_means, clear_means, empty, length_set_bytes, length_remove_bytes}
use Rattle.node.specs.Layout.{start, array_at, size_at, value_at, free_size, Room}
use Rattle.node.specs.Child.{item_of, number_in}
use Rattle.node.specs.Leaf.{Is, key_size, leaf_in, set_leaf, set_value, free_leaf}
use Rattle.node.specs.Branch.{array_in, children_in, after_in, set_array, set_child, remove_child, two_slots, make_branch, free_branch}
use Rattle.node.specs.declared.child.Link.{Link}
use Rattle.node.proofs.ChildLaws.{item_fits}
use Rattle.node.proofs.Frames.{OtherBlocks, others, others_then, leaf_kept, array_kept}

-- ---- leaf records

-- of a write into leaf record n
pub record LeafWritten (n : ℕ) (st st' : List ℕ) : Type 0 where
  pub others : OtherBlocks n st st'
  pub array : array_in st' n ≡ array_in st n

written_then : {n : ℕ} {st st' st'' : List ℕ} → LeafWritten n st st' → LeafWritten n st' st'' → LeafWritten n st st''
written_then k l = record { others = others_then k.others l.others; array = l.array ∙ k.array }

-- a write into its key bytes, or into its length and value
in_key : (st : List ℕ) (n : ℕ) (ys : List ℕ) → length ys ≤ key_limit → LeafWritten n st (splice st (start n) ys)
in_key st n ys h = record { others = others st (start n) ys n (omega arith) (omega arith); array = array_kept st (start n) ys n (inl (omega arith)) }

in_tail : (st : List ℕ) (n a : ℕ) (ys : List ℕ) → size_at n ≤ a → a + length ys ≤ size_at n + 5 → LeafWritten n st (splice st a ys)
in_tail st n a ys h k = record { others = others st a ys n (omega arith) (omega arith); array = array_kept st a ys n (inr (omega arith)) }

module _ (st : List ℕ) (n : ℕ) where
  pub leaf_written : (k : List ℕ) (v : ℕ) → length k ≤ key_limit → LeafWritten n st (set_leaf st n k v)
  unfolding set_leaf
  leaf_written k v h =
      let s₁ = splice st (size_at n) (length k ∷ []) in
      let s₂ = splice s₁ (value_at n) (little_bytes 4 v) in
      written_then (in_tail st n (size_at n) (length k ∷ []) (omega arith) (omega arith))
      (written_then (in_tail s₁ n (value_at n) (little_bytes 4 v) (omega arith) (omega (arith, length_little 4 v))) (in_key s₂ n k h))

  pub value_written : (v : ℕ) → LeafWritten n st (set_value st n v)
  unfolding set_value
  value_written v = in_tail st n (value_at n) (little_bytes 4 v) (omega arith) (omega (arith, length_little 4 v))

  pub leaf_freed : (x : ℕ) → LeafWritten n st (free_leaf st n x)
  unfolding free_leaf
  leaf_freed x =
      written_then (in_tail st n (size_at n) (free_size ∷ []) (omega arith) (omega arith))
      (in_tail (splice st (size_at n) (free_size ∷ [])) n (value_at n) (little_bytes 2 x) (omega arith) (omega (arith, length_little 2 x)))

-- what is there once it is written, where the block lies in the store
module _ (st : List ℕ) (n : ℕ) (room : Room st n) where
  -- a byte, of which a later write leaves nothing but that byte
  size_byte : (x : ℕ) → get_or (splice st (size_at n) (x ∷ [])) (size_at n) 0 ≡ x
  size_byte x = let e : size_at n + 0 ≡ size_at n = omega arith in rw e at (get_or_splice_in st (size_at n) (x ∷ []) 0 (omega arith) (omega arith))

  pub leaf_is : (k : List ℕ) (v : ℕ) → length k ≤ key_limit → v < value_bound → Is (leaf_in (set_leaf st n k v) n) k v
  unfolding set_leaf leaf_in
  leaf_is k v h f =
      let s₁ = splice st (size_at n) (length k ∷ []) in
      let s₂ = splice s₁ (value_at n) (little_bytes 4 v) in
      let s₃ = splice s₂ (start n) k in
      let l₁ : length s₁ ≡ length st = length_splice st (size_at n) (length k ∷ []) in
      let l₂ : length s₂ ≡ length st = length_splice s₁ (value_at n) (little_bytes 4 v) ∙ l₁ in
      let z : get_or s₃ (size_at n) 0 ≡ length k =
      get_or_splice_above s₂ (start n) k (size_at n) (omega arith) ∙ get_or_splice_below s₁ (value_at n) (little_bytes 4 v) (size_at n) (omega arith) ∙ size_byte (length k) in
      let m : min (length k) key_limit ≡ length k = omega arith in
      record {
        fits = h;
        size = z;
        key = rw (z, m) (part_splice_same s₂ (start n) k (length k) refl (omega arith));
        value = little_apart 4 s₂ (start n) k (value_at n) (inl (omega arith)) ∙ little_same 4 s₁ (value_at n) v (omega arith) f;
      }

  pub value_is : (v : ℕ) (k : List ℕ) (w : ℕ) → v < value_bound → Is (leaf_in st n) k w → Is (leaf_in (set_value st n v) n) k v
  unfolding set_value leaf_in
  value_is v k w f i =
      let s = splice st (value_at n) (little_bytes 4 v) in
      let z : get_or s (size_at n) 0 ≡ get_or st (size_at n) 0 = get_or_splice_below st (value_at n) (little_bytes 4 v) (size_at n) (omega arith) in
      let y : ℕ = key_size (get_or st (size_at n) 0) in
      record {
        fits = i.fits;
        size = z ∙ i.size;
        key = rw z (part_splice_apart st (value_at n) (little_bytes 4 v) (start n) y (inr (omega arith)) ∙ i.key);
        value = little_same 4 st (value_at n) v (omega arith) f;
      }

  pub freed_size : (x : ℕ) → (leaf_in (free_leaf st n x) n).size ≡ free_size
  unfolding free_leaf leaf_in
  freed_size x = get_or_splice_below (splice st (size_at n) (free_size ∷ [])) (value_at n) (little_bytes 2 x) (size_at n) (omega arith) ∙ size_byte free_size

  pub freed_next : (x : ℕ) → x < 65536 → (leaf_in (free_leaf st n x) n).next ≡ x
  unfolding free_leaf leaf_in
  freed_next x f =
      let s = splice st (size_at n) (free_size ∷ []) in
      little_same 2 s (value_at n) x (omega (arith, length_splice st (size_at n) (free_size ∷ []))) f

-- ---- branch records

-- of a write of another array into branch record n
pub record ArrayWritten (n : ℕ) (b st st' : List ℕ) : Type 0 where
  pub others : OtherBlocks n st st'
  pub leaf : leaf_in st' n ≡ leaf_in st n
  pub array : array_in st' n ≡ b

pub length_array : (st : List ℕ) (n : ℕ) → Room st n → length (array_in st n) ≡ size
unfolding array_in
length_array st n room = length_part st (array_at n) size (omega arith)

module _ (st : List ℕ) (n : ℕ) (room : Room st n) where
  pub array_written : (b : List ℕ) → length b ≡ size → ArrayWritten n b st (set_array st n b)
  unfolding array_in
  array_written b l = record {
    others = others st (array_at n) b n (omega arith) (omega arith);
    leaf = leaf_kept st (array_at n) b n (inr (omega arith)) (inl (omega arith));
    array = part_splice_same st (array_at n) b size l (omega arith);
  }

  pub child_written : (slot : ℕ) (l : Link) → ArrayWritten n (with_slot slot (item_of l) (array_in st n)) st (set_child st n slot l)
  unfolding set_child
  child_written slot l = array_written (with_slot slot (item_of l) (array_in st n)) (length_set_bytes slot (item_of l) (array_in st n) ∙ length_array st n room)

  pub removal_written : (slot : ℕ) → ArrayWritten n (without_slot slot (array_in st n)) st (remove_child st n slot)
  unfolding remove_child
  removal_written slot = array_written (without_slot slot (array_in st n)) (length_remove_bytes slot (array_in st n) ∙ length_array st n room)

  length_cleared : length (cleared (array_in st n)) ≡ size
  unfolding cleared
  length_cleared = length_bitmap (array_in st n) 0 ∙ length_array st n room

  pub branch_written : (s : ℕ) (l : Link) (r : ℕ) (k : Link) → ArrayWritten n (two_slots s (item_of l) r (item_of k) (array_in st n)) st (make_branch st n s l r k)
  unfolding make_branch
  branch_written s l r k =
      array_written (two_slots s (item_of l) r (item_of k) (array_in st n))
      (length_set_bytes r (item_of k) (with_slot s (item_of l) (cleared (array_in st n))) ∙ length_set_bytes s (item_of l) (cleared (array_in st n)) ∙ length_cleared)

  pub branch_freed : (x : ℕ) → ArrayWritten n (splice (cleared (array_in st n)) 4 (little_bytes 2 x)) st (free_branch st n x)
  unfolding free_branch
  branch_freed x =
      array_written (splice (cleared (array_in st n)) 4 (little_bytes 2 x)) (length_splice (cleared (array_in st n)) 4 (little_bytes 2 x) ∙ length_cleared)

  -- what its children are then
  pub child_set : (slot : ℕ) (l : Link) → slot ≤ 16 → number_in l.child < most → l.position < 256
      → children_in (set_child st n slot l) n ≡ insert slot (item_of l) (children_in st n)
  child_set slot l h i p =
      ap entries (child_written slot l).array
      ∙ set_means (array_in st n) (length_array st n room) slot (item_of l) (item_fits l i p)
      ∙ rw (le-leb slot 16 h)

  pub child_removed : (slot : ℕ) → children_in (remove_child st n slot) n ≡ erase slot (children_in st n)
  child_removed slot = ap entries (removal_written slot).array ∙ remove_means (array_in st n) (length_array st n room) slot

  pub children_made : (s : ℕ) (l : Link) (r : ℕ) (k : Link) → s < r → r ≤ 16 → number_in l.child < most → l.position < 256 → number_in k.child < most → k.position < 256
      → children_in (make_branch st n s l r k) n ≡ (s, item_of l) ∷ (r, item_of k) ∷ []
  unfolding insert
  children_made s l r k h i lf lp kf kp =
      let a = array_in st n in
      let b = with_slot s (item_of l) (cleared a) in
      let lb : length b ≡ size = length_set_bytes s (item_of l) (cleared a) ∙ length_cleared in
      let one : entries b ≡ (s, item_of l) ∷ [] =
      set_means (cleared a) length_cleared s (item_of l) (item_fits l lf lp)
      ∙ rw (le-leb s 16 (omega arith), clear_means a (length_array st n room)) in
      ap entries (branch_written s l r k).array
      ∙ set_means b lb r (item_of k) (item_fits k kf kp)
      ∙ rw (le-leb r 16 i, one, le-ltb r s (omega arith), ne_eqb r s (λ e. omega arith))

  pub children_freed : (x : ℕ) → children_in (free_branch st n x) n ≡ []
  unfolding cleared bits_of
  children_freed x =
      let a = cleared (array_in st n) in
      let b = splice a 4 (little_bytes 2 x) in
      let z : 0 ≡ bitmap_of b =
      sym (ap (λ (i : ℕ). i % 131072) (little_apart 4 a 4 (little_bytes 2 x) 0 (inr (omega arith))) ∙ bitmap_new (array_in st n) 0 (length_array st n room) (omega arith)) in
      ap entries (branch_freed x).array ∙ empty b 0 z refl

  pub after_freed : (x : ℕ) → x < 65536 → after_in (free_branch st n x) n ≡ x
  after_freed x f = ap (λ (b : List ℕ). little 2 b 4) (branch_freed x).array ∙ little_same 2 (cleared (array_in st n)) 4 x (omega (arith, length_cleared)) f

-- ---- every record of the other kind, and what is past the last block, stays

pub leaf_arrays : {n : ℕ} {st st' : List ℕ} → LeafWritten n st st' → (m : ℕ) → array_in st' m ≡ array_in st m
leaf_arrays {n} {st} {st'} w m = go (ℕ_discrete m n)
  where
    go : Dec (m ≡ n) → array_in st' m ≡ array_in st m
    go (yes e) = rw e w.array
    go (no ne) = w.others.arrays m ne

pub array_leaves : {n : ℕ} {b st st' : List ℕ} → ArrayWritten n b st st' → (m : ℕ) → leaf_in st' m ≡ leaf_in st m
array_leaves {n} {b} {st} {st'} w m = go (ℕ_discrete m n)
  where
    go : Dec (m ≡ n) → leaf_in st' m ≡ leaf_in st m
    go (yes e) = rw e w.leaf
    go (no ne) = w.others.leaves m ne

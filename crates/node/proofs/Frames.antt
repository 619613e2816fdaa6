-- What a write leaves: the header, the records of other blocks, the other record of its own block, and all past the last block are as they were.
-- Assumes nothing.
use mathlib.Core.Path.{◌≡◌, ◌∙◌}
use mathlib.Core.Logic.{◌≢◌, inl, inr}
use mathlib.Core.List.{List}
use Prim.Native.Nat.{ℕ, ◌+◌, ◌≤◌, ◌<◌}
use native.Mathlib.Decide.{dec_lt}
use native.Mathlib.Omega.{arith}
use lib.ListN.{length, get_or, drop}
use Rattle.model.specs.Key.{key_limit}
use Rattle.model.specs.Numbers.{header_size, block_size}
use Rattle.fields.specs.Part.{splice, Apart}
use Rattle.fields.proofs.PartLaws.{length_splice, get_or_splice_below, get_or_splice_above, part_splice_apart, drop_splice}
use Rattle.fields.proofs.NumberLaws.{little_apart}
use Rattle.sparse_array.specs.Array.{size}
use Rattle.node.specs.Layout.{start, array_at, size_at, value_at}
use Rattle.node.specs.Header.{mark_in, head_in}
use Rattle.node.specs.Leaf.{key_size, leaf_in}
use Rattle.node.specs.Branch.{array_in}

-- What a write within block n leaves of the rest.
pub record OtherBlocks (n : ℕ) (st st' : List ℕ) : Type 0 where
  pub size : length st' ≡ length st
  pub mark : mark_in st' ≡ mark_in st
  pub head : head_in st' ≡ head_in st
  pub leaves : (m : ℕ) → m ≢ n → leaf_in st' m ≡ leaf_in st m
  pub arrays : (m : ℕ) → m ≢ n → array_in st' m ≡ array_in st m
  pub past : (cap : ℕ) → n < cap → drop (start cap) st' ≡ drop (start cap) st

pub others_then : {n : ℕ} {st st' st'' : List ℕ} → OtherBlocks n st st' → OtherBlocks n st' st'' → OtherBlocks n st st''
others_then k l = record {
  size = l.size ∙ k.size;
  mark = l.mark ∙ k.mark;
  head = l.head ∙ k.head;
  leaves = λ m ne. l.leaves m ne ∙ k.leaves m ne;
  arrays = λ m ne. l.arrays m ne ∙ k.arrays m ne;
  past = λ cap h. l.past cap h ∙ k.past cap h;
}

narrow : (a n b m c : ℕ) → c ≤ m → Apart a n b m → Apart a n b c
narrow a n b m c h (inl l) = inl l
narrow a n b m c h (inr l) = inr (omega arith)

-- One splice.
module _ (st : List ℕ) (a : ℕ) (ys : List ℕ) where
  byte_kept : (b : ℕ) → Apart a (length ys) b 1 → get_or (splice st a ys) b 0 ≡ get_or st b 0
  byte_kept b (inl h) = get_or_splice_above st a ys b h
  byte_kept b (inr h) = get_or_splice_below st a ys b (omega arith)

  -- a leaf whose key bytes, length and value lie apart
  pub leaf_kept : (m : ℕ) → Apart a (length ys) (start m) key_limit → Apart a (length ys) (size_at m) 5 → leaf_in (splice st a ys) m ≡ leaf_in st m
  unfolding leaf_in
  leaf_kept m h k =
      let s : get_or (splice st a ys) (size_at m) 0 ≡ get_or st (size_at m) 0 = byte_kept (size_at m) (narrow a (length ys) (size_at m) 5 1 (omega arith) k) in
      let z : ℕ = key_size (get_or st (size_at m) 0) in
      let p = part_splice_apart st a ys (start m) z (narrow a (length ys) (start m) key_limit z (omega arith) h) in
      let v = little_apart 4 st a ys (value_at m) (later 4 (omega arith) k) in
      let x = little_apart 2 st a ys (value_at m) (later 2 (omega arith) k) in
      rw (s, p, v, x)
    where
      later : (w : ℕ) → w ≤ 4 → Apart a (length ys) (size_at m) 5 → Apart a (length ys) (value_at m) w
      later w l (inl h) = inl (omega arith)
      later w l (inr h) = inr (omega arith)

  pub array_kept : (m : ℕ) → Apart a (length ys) (array_at m) size → array_in (splice st a ys) m ≡ array_in st m
  unfolding array_in
  array_kept m h = part_splice_apart st a ys (array_at m) size h

  -- past the header
  module _ (h : header_size ≤ a) where
    pub mark_kept : mark_in (splice st a ys) ≡ mark_in st
    unfolding mark_in
    mark_kept = little_apart 4 st a ys 0 (inr (omega arith))

    pub head_kept : head_in (splice st a ys) ≡ head_in st
    unfolding head_in
    head_kept =
        rw (
          little_apart 2 st a ys 4 (inr (omega arith)),
          little_apart 2 st a ys 6 (inr (omega arith)),
          little_apart 2 st a ys 8 (inr (omega arith)),
          little_apart 2 st a ys 10 (inr (omega arith)),
          little_apart 3 st a ys 12 (inr (omega arith)),
          little_apart 2 st a ys 15 (inr (omega arith)),
          little_apart 2 st a ys 17 (inr (omega arith)),
        )

  -- within block n
  module _ (n : ℕ) (low : start n ≤ a) (high : a + length ys ≤ start n + block_size) where
    elsewhere : (m b w : ℕ) → m ≢ n → start m ≤ b → b + w ≤ start m + block_size → Apart a (length ys) b w
    elsewhere m b w ne l u = go (dec_lt m n) (dec_lt n m)
      where
        go : Dec (m < n) → Dec (n < m) → Apart a (length ys) b w
        go (yes h) k = inr (omega arith)
        go (no h) (yes k) = inl (omega arith)
        go (no h) (no k) = absurd (ne (omega arith))

    pub others : OtherBlocks n st (splice st a ys)
    others = record {
      size = length_splice st a ys;
      mark = mark_kept (omega arith);
      head = head_kept (omega arith);
      leaves = λ m ne. leaf_kept m (elsewhere m (start m) key_limit ne (omega arith) (omega arith)) (elsewhere m (size_at m) 5 ne (omega arith) (omega arith));
      arrays = λ m ne. array_kept m (elsewhere m (array_at m) size ne (omega arith) (omega arith));
      past = λ cap h. drop_splice st a ys (start cap) (omega arith);
    }

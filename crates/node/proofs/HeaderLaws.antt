-- The header's numbers once they are written, and what that leaves. Assumes nothing.
use mathlib.Core.Path.{◌≡◌, refl, sym}
use mathlib.Core.Logic.{inl, inr}
use mathlib.Core.Bool.{Bool, true, false, cond, ◌&&◌, true≢false}
use mathlib.Core.List.{List}
use Prim.Native.Nat.{ℕ, ◌+◌, ◌^◌, ◌≤◌, ◌<◌}
use native.Mathlib.Omega.{arith}
use lib.Dec.{leb, eqb}
use lib.ListN.{length, drop}
use borrow.Author.Tests.{le-leb, eq-eqb, leb-true, eqb-true}
use Rattle.model.specs.Numbers.{header_size, least_size, capacity_of, most}
use Rattle.fields.specs.Number.{bytes_at, little, little_bytes}
use Rattle.fields.proofs.PartLaws.{length_splice, drop_splice}
use Rattle.fields.proofs.NumberLaws.{value_little, length_little, bytes_in, little_same, little_apart}
use Rattle.node.specs.Layout.{start, Room}
use Rattle.node.specs.Header.{magic, mark_in, head_in, right, head_of, head_bytes, set_head, set_mark}
use Rattle.node.specs.Leaf.{leaf_in}
use Rattle.node.specs.Branch.{array_in}
use Rattle.node.specs.declared.header.Header.{Header}
use Rattle.std.specs.Prelude.{Ok, Err}
use Rattle.node.specs.NotAStore.{not_a_store}
use Rattle.node.proofs.Frames.{leaf_kept, array_kept}

-- numbers that fit their bytes
pub record Fits (h : Header) : Type 0 where
  pub capacity : h.capacity < 65536
  pub limit : h.limit < 65536
  pub leaves : h.leaves < 65536
  pub branches : h.branches < 65536
  pub root : h.root < 16777216
  pub leaf : h.leaf < 65536
  pub branch : h.branch < 65536

length_numbers : (h : Header) → length (head_bytes h) ≡ 15
unfolding little_bytes
length_numbers h = refl

module _ (st : List ℕ) (h : Header) where
  pub length_head : length (set_head st h) ≡ length st
  unfolding set_head
  length_head = length_splice st 4 (head_bytes h)

  -- the mark, the records and all past the header stay
  pub mark_stays : mark_in (set_head st h) ≡ mark_in st
  unfolding set_head mark_in
  mark_stays = little_apart 4 st 4 (head_bytes h) 0 (inr (omega arith))

  pub leaf_stays : (m : ℕ) → leaf_in (set_head st h) m ≡ leaf_in st m
  unfolding set_head
  leaf_stays m = leaf_kept st 4 (head_bytes h) m (inl (omega (arith, length_numbers h))) (inl (omega (arith, length_numbers h)))

  pub array_stays : (m : ℕ) → array_in (set_head st h) m ≡ array_in st m
  unfolding set_head
  array_stays m = array_kept st 4 (head_bytes h) m (inl (omega (arith, length_numbers h)))

  pub past_stays : (cap : ℕ) → drop (start cap) (set_head st h) ≡ drop (start cap) st
  unfolding set_head
  past_stays cap = drop_splice st 4 (head_bytes h) (start cap) (omega (arith, length_numbers h))

  module _ (long : header_size ≤ length st) where
    -- the number of w bytes at o of those written
    number_in : (w o v : ℕ) → o + w ≤ 15 → bytes_at w (head_bytes h) o ≡ little_bytes w v → v < 256 ^ w → little w (set_head st h) (4 + o) ≡ v
    unfolding set_head little
    number_in w o v k e f =
        rw (bytes_in w st 4 (head_bytes h) o (omega (arith, length_numbers h)) (omega (arith, length_numbers h)), e) (value_little w v f)

    pub head_back : Fits h → head_in (set_head st h) ≡ h
    unfolding head_in bytes_at little_bytes
    head_back f =
        rw (
          number_in 2 0 h.capacity (omega arith) refl f.capacity,
          number_in 2 2 h.limit (omega arith) refl f.limit,
          number_in 2 4 h.leaves (omega arith) refl f.leaves,
          number_in 2 6 h.branches (omega arith) refl f.branches,
          number_in 3 8 h.root (omega arith) refl f.root,
          number_in 2 11 h.leaf (omega arith) refl f.leaf,
          number_in 2 13 h.branch (omega arith) refl f.branch,
        )

-- ---- the mark

module _ (st : List ℕ) where
  pub length_mark : length (set_mark st) ≡ length st
  unfolding set_mark
  length_mark = length_splice st 0 (little_bytes 4 magic)

  pub mark_back : header_size ≤ length st → mark_in (set_mark st) ≡ magic
  unfolding set_mark mark_in
  mark_back h = little_same 4 st 0 magic (omega arith) (omega arith)

  pub leaf_past_mark : (m : ℕ) → leaf_in (set_mark st) m ≡ leaf_in st m
  unfolding set_mark
  leaf_past_mark m = leaf_kept st 0 (little_bytes 4 magic) m (inl (omega (arith, length_little 4 magic))) (inl (omega (arith, length_little 4 magic)))

  pub array_past_mark : (m : ℕ) → array_in (set_mark st) m ≡ array_in st m
  unfolding set_mark
  array_past_mark m = array_kept st 0 (little_bytes 4 magic) m (inl (omega (arith, length_little 4 magic)))

  pub past_mark : (cap : ℕ) → drop (start cap) (set_mark st) ≡ drop (start cap) st
  unfolding set_mark
  past_mark cap = drop_splice st 0 (little_bytes 4 magic) (start cap) (omega (arith, length_little 4 magic))

-- ---- what a right header is

pub record Right (st : List ℕ) (h : Header) : Type 0 where
  pub is : h ≡ head_in st
  pub long : least_size ≤ length st
  pub mark : mark_in st ≡ magic
  pub capacity : h.capacity ≡ capacity_of (length st)
  pub leaves : h.leaves ≤ h.capacity
  pub branches : h.branches ≤ h.capacity

-- by the test, in both directions
pub and_left : (s t : Bool) → (s && t) ≡ true → s ≡ true
and_left true t e = refl
and_left false t e = e

pub and_right : (s t : Bool) → (s && t) ≡ true → t ≡ true
and_right true t e = e
and_right false t e = absurd (true≢false (sym e))

pub right_good : (st : List ℕ) (h : Header) → Right st h → head_of st ≡ Ok h
unfolding head_of
right_good st h r =
    rw (
      le-leb least_size (length st) r.long,
      r.mark,
      ← r.is,
      eq-eqb h.capacity (capacity_of (length st)) r.capacity,
      le-leb h.leaves h.capacity r.leaves,
      le-leb h.branches h.capacity r.branches,
    )

pub good_right : (st : List ℕ) (h : Header) → head_of st ≡ Ok h → Right st h
unfolding head_of
good_right st h e = go (right st) refl e
  where
    numbers : Bool
    numbers = eqb (head_in st).capacity (capacity_of (length st)) && (leb (head_in st).leaves (head_in st).capacity && leb (head_in st).branches (head_in st).capacity)

    go : (b : Bool) → right st ≡ b → cond b (Ok (head_in st)) (Err not_a_store) ≡ Ok h → Right st h
    go false q e = absurd (let z : ◌≡◌ {A = ℕ} 0 1 = cc in omega arith)
    go true q e =
        let i : h ≡ head_in st = cc in
        let a = and_right (leb least_size (length st)) (eqb (mark_in st) magic && numbers) q in
        let b = and_right (eqb (mark_in st) magic) numbers a in
        let c = and_right (eqb (head_in st).capacity (capacity_of (length st))) (leb (head_in st).leaves (head_in st).capacity && leb (head_in st).branches (head_in st).capacity) b in
        record {
          is = i;
          long = leb-true least_size (length st) (and_left (leb least_size (length st)) (eqb (mark_in st) magic && numbers) q);
          mark = eqb-true (mark_in st) magic (and_left (eqb (mark_in st) magic) numbers a);
          capacity = rw i (eqb-true (head_in st).capacity (capacity_of (length st)) (and_left (eqb (head_in st).capacity (capacity_of (length st))) (leb (head_in st).leaves (head_in st).capacity && leb (head_in st).branches (head_in st).capacity) b));
          leaves = rw i (leb-true (head_in st).leaves (head_in st).capacity (and_left (leb (head_in st).leaves (head_in st).capacity) (leb (head_in st).branches (head_in st).capacity) c));
          branches = rw i (leb-true (head_in st).branches (head_in st).capacity (and_right (leb (head_in st).leaves (head_in st).capacity) (leb (head_in st).branches (head_in st).capacity) c));
        }

-- the blocks of a right store lie in it, and a record number below the capacity is one of `most`
pub blocks_fit : (size : ℕ) → least_size ≤ size → start (capacity_of size) ≤ size
blocks_fit size h = omega arith

pub block_in : (st : List ℕ) (cap n : ℕ) → start cap ≤ length st → n < cap → Room st n
block_in st cap n fits h = omega arith

pub few : (size : ℕ) → capacity_of size ≤ most
few size = omega arith

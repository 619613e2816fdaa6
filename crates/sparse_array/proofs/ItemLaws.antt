-- The laws of one write into the 55 bytes: what is written is there, and the rest is as it was. Assumes nothing.
use mathlib.Core.Path.{◌≡◌, ap, ◌∙◌}
use mathlib.Core.Logic.{inl, inr}
use mathlib.Core.List.{List}
use Prim.Native.Nat.{ℕ, suc, ◌+◌, ◌-◌, ◌*◌, ◌%◌, ◌≤◌, ◌<◌}
use native.Mathlib.Decide.{dec_lt}
use native.Mathlib.Omega.{arith}
use lib.ListN.{length}
use Rattle.fields.specs.Part.{part, splice}
use Rattle.fields.specs.Number.{little, little_bytes}
use Rattle.fields.proofs.PartLaws.{length_part, get_d_part, length_splice, get_or_splice_in}
use Rattle.fields.proofs.NumberLaws.{length_little, little_same, little_apart, little_agree}
use Rattle.sparse_array.specs.Array.{size, bitmap_of, item_at, with_item, with_bitmap, opened, closed}

-- ---- lengths

pub length_item : (a : List ℕ) (at v : ℕ) → length (with_item a at v) ≡ length a
length_item a at v = length_splice a (4 + 3 * at) (little_bytes 3 v)

pub length_bitmap : (a : List ℕ) (v : ℕ) → length (with_bitmap a v) ≡ length a
length_bitmap a v = length_splice a 0 (little_bytes 4 v)

pub length_opened : (at n : ℕ) (a : List ℕ) → length (opened at n a) ≡ length a
unfolding opened
length_opened at n a = length_splice a (4 + 3 * at + 3) (part a (4 + 3 * at) (3 * (n - at)))

pub length_closed : (at n : ℕ) (a : List ℕ) → length (closed at n a) ≡ length a
unfolding closed
length_closed at n a = length_splice a (4 + 3 * at) (part a (4 + 3 * at + 3) (3 * (n - at - 1)))

-- ---- an item, the bitmap

pub item_same : (a : List ℕ) (at v : ℕ) → length a ≡ size → at ≤ 16 → v < 16777216 → item_at (with_item a at v) at ≡ v
item_same a at v l h m = little_same 3 a (4 + 3 * at) v (omega arith) m

pub item_other : (a : List ℕ) (at v i : ℕ) → (i ≡ at → ⊥) → item_at (with_item a at v) i ≡ item_at a i
item_other a at v i ne = go (dec_lt i at)
  where
    go : Dec (i < at) → item_at (with_item a at v) i ≡ item_at a i
    go (yes h) = little_apart 3 a (4 + 3 * at) (little_bytes 3 v) (4 + 3 * i) (inr (omega arith))
    go (no h) = little_apart 3 a (4 + 3 * at) (little_bytes 3 v) (4 + 3 * i) (inl (omega (arith, length_little 3 v)))

pub bitmap_kept : (a : List ℕ) (at v : ℕ) → bitmap_of (with_item a at v) ≡ bitmap_of a
bitmap_kept a at v = ap (λ (x : ℕ). x % 131072) (little_apart 4 a (4 + 3 * at) (little_bytes 3 v) 0 (inr (omega arith)))

pub bitmap_new : (a : List ℕ) (v : ℕ) → length a ≡ size → v < 131072 → bitmap_of (with_bitmap a v) ≡ v
bitmap_new a v l h = let e = little_same 4 a 0 v (omega arith) (omega arith) in omega arith

pub item_kept : (a : List ℕ) (v i : ℕ) → item_at (with_bitmap a v) i ≡ item_at a i
item_kept a v i = little_apart 3 a 0 (little_bytes 4 v) (4 + 3 * i) (inl (omega (arith, length_little 4 v)))

-- ---- bytes moved: the items before stay, and the others stand one place on

moved_in : (a : List ℕ) (to from n i j : ℕ) → to + n ≤ length a → from + n ≤ length a → i * 3 + 3 ≤ n → j ≡ from + i * 3
    → little 3 (splice a to (part a from n)) (to + i * 3) ≡ little 3 a j
moved_in a to from n i j f g h e =
    let l : length (part a from n) ≡ n = length_part a from n g in
    little_agree 3 (splice a to (part a from n)) a (to + i * 3) j
    (λ k m.
    let p : to + i * 3 + k ≡ to + (i * 3 + k) = omega arith in
    let q : j + k ≡ from + (i * 3 + k) = omega arith in
    rw (p, q) (get_or_splice_in a to (part a from n) (i * 3 + k) (omega arith) (omega arith) ∙ get_d_part a from n (i * 3 + k) (omega arith)))

module _ (at n : ℕ) (a : List ℕ) (l : length a ≡ size) (h : at ≤ n) (u : n ≤ 16) where
  pub opened_below : (i : ℕ) → i < at → item_at (opened at n a) i ≡ item_at a i
  unfolding opened
  opened_below i k = little_apart 3 a (4 + 3 * at + 3) (part a (4 + 3 * at) (3 * (n - at))) (4 + 3 * i) (inr (omega arith))

  pub opened_above : (i : ℕ) → at ≤ i → i < n → item_at (opened at n a) (suc i) ≡ item_at a i
  unfolding opened
  opened_above i k m =
      let e : 4 + 3 * suc i ≡ 4 + 3 * at + 3 + (i - at) * 3 = omega arith in
      rw e (moved_in a (4 + 3 * at + 3) (4 + 3 * at) (3 * (n - at)) (i - at) (4 + 3 * i) (omega arith) (omega arith) (omega arith) (omega arith))

module _ (at n : ℕ) (a : List ℕ) (l : length a ≡ size) (h : at < n) (u : n ≤ 17) where
  pub closed_below : (i : ℕ) → i < at → item_at (closed at n a) i ≡ item_at a i
  unfolding closed
  closed_below i k = little_apart 3 a (4 + 3 * at) (part a (4 + 3 * at + 3) (3 * (n - at - 1))) (4 + 3 * i) (inr (omega arith))

  pub closed_above : (i : ℕ) → at ≤ i → suc i < n → item_at (closed at n a) i ≡ item_at a (suc i)
  unfolding closed
  closed_above i k m =
      let e : 4 + 3 * i ≡ 4 + 3 * at + (i - at) * 3 = omega arith in
      rw e (moved_in a (4 + 3 * at) (4 + 3 * at + 3) (3 * (n - at - 1)) (i - at) (4 + 3 * suc i) (omega arith) (omega arith) (omega arith) (omega arith))

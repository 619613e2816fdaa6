-- What follows from a store's bytes being bytes: its keys are of bytes, and an item is that of the link it stands for. Assumes nothing.
use Prim.Native.Nat.{ℕ, zero, suc, ◌+◌, ◌-◌, ◌*◌, ◌/◌, ◌%◌, ◌≤◌, ◌<◌}
use mathlib.Core.Path.{◌≡◌, refl}
use mathlib.Core.Bool.{Bool, true, false, cond}
use mathlib.Core.List.{List, [], ◌∷◌, map}
use native.Mathlib.Omega.{arith}
use lib.Dec.{ltb}
use lib.ListN.{get_or, take, drop}
use borrow.Author.Tests.{ltb-false}
use Rattle.model.specs.Key.{Bytes}
use Rattle.model.specs.Numbers.{most}
use Rattle.fields.specs.Part.{part}
use Rattle.fields.proofs.NumberLaws.{little_below}
use Rattle.bitmap.specs.Entries.{Entry, up, pack}
use Rattle.bitmap.specs.Bits.{present}
use Rattle.sparse_array.specs.Array.{size, entries, bitmap_of, item_at}
use Rattle.node.specs.Layout.{array_at}
use Rattle.node.specs.Child.{to_leaf, to_branch, link_of, item_of}
use Rattle.node.specs.Branch.{array_in, children_in}
use Rattle.node.specs.declared.child.Link.{Link}
use Rattle.std.specs.Prelude.{Ok, Err}
use Rattle.node.specs.NotAStore.{not_a_store}

-- ---- bytes of a part

pub bytes_get : (k : List ℕ) → Bytes k → (i : ℕ) → get_or k i 0 < 256
bytes_get [] h i = omega arith
bytes_get (b ∷ k) h zero = h.0
bytes_get (b ∷ k) h (suc i) = bytes_get k h.1 i

bytes_take : (n : ℕ) (k : List ℕ) → Bytes k → Bytes (take n k)
bytes_take zero k h = tt
bytes_take (suc n) [] h = tt
bytes_take (suc n) (b ∷ k) h = (h.0, bytes_take n k h.1)

bytes_drop : (n : ℕ) (k : List ℕ) → Bytes k → Bytes (drop n k)
bytes_drop zero k h = h
bytes_drop (suc n) [] h = tt
bytes_drop (suc n) (b ∷ k) h = bytes_drop n k h.1

pub bytes_part : (k : List ℕ) (a n : ℕ) → Bytes k → Bytes (part k a n)
unfolding part
bytes_part k a n h = bytes_take n (drop a k) (bytes_drop a k h)

-- ---- items

-- every item is a number of 3 bytes
abbrev pub Small : List Entry → Type 0
Small [] = Unit {0}
Small (e ∷ es) = (e.1 < 16777216) × Small es

small_up : (es : List Entry) → Small es → Small (map up es)
small_up [] h = tt
small_up (e ∷ es) h = (h.0, small_up es h.1)

small_pack : (bs : List Bool) (f : ℕ → ℕ) → ((i : ℕ) → f i < 16777216) → Small (pack bs f)
unfolding pack
small_pack [] f h = tt
small_pack (false ∷ bs) f h = small_up (pack bs f) (small_pack bs f h)
small_pack (true ∷ bs) f h = (h 0, small_up (pack bs (λ i. f (suc i))) (small_pack bs (λ i. f (suc i)) (λ i. h (suc i))))

pub children_small : (st : List ℕ) (n : ℕ) → Bytes st → Small (children_in st n)
unfolding entries array_in
children_small st n h =
    small_pack (present (bitmap_of (array_in st n))) (item_at (array_in st n))
    (λ i. little_below 3 (part st (array_at n) size) (4 + 3 * i) (λ j l m. bytes_get (part st (array_at n) size) (bytes_part st (array_at n) size h) j))

-- An item that stands for a link is the link's.
pub item_back : (cap item : ℕ) (l : Link) → item < 16777216 → link_of cap item ≡ Ok l → item_of l ≡ item
item_back cap item l h e = go (ltb code cap) (ltb code most) (ltb-false code most) (ltb (code - most) cap) e
  where
    code : ℕ
    code = item % 65536

    p : ℕ
    p = item / 65536 % 256

    go : (s t : Bool) → (t ≡ false → most ≤ code) → (u : Bool)
        → cond s (Ok (to_leaf code p)) (cond t (Err not_a_store) (cond u (Ok (to_branch (code - most) p)) (Err not_a_store))) ≡ Ok l → item_of l ≡ item
    go true t i u e = let q : to_leaf code p ≡ l = cc in rw (← q) (omega arith)
    go false true i u e = absurd (let z : ◌≡◌ {A = ℕ} 0 1 = cc in omega arith)
    go false false i true e = let q : to_branch (code - most) p ≡ l = cc in rw (← q) (omega (arith, i refl))
    go false false i false e = absurd (let z : ◌≡◌ {A = ℕ} 0 1 = cc in omega arith)

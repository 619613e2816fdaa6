-- A sparse array in 55 bytes: a bitmap of 4 bytes, then room for 17 items of 3 bytes, of which the first stand packed.
-- Only the 17 low digits of the bitmap count: the others mean nothing, and a store of a new bitmap makes them 0.
-- `entries` is what the bytes mean. Below it stands what each writing function leaves, byte by byte, on any bytes.
-- Assumes nothing.
use Rattle.std.specs.Prelude.{ℕ, ◌+◌, ◌-◌, ◌*◌, ◌%◌, Bool, true, false, cond, List, leb, get_or, set, take}
use Rattle.fields.specs.Part.{part, splice}
use Rattle.fields.specs.Number.{little, little_bytes}
use Rattle.bitmap.specs.Bits.{number_of, count, lowest, present}
use Rattle.bitmap.specs.Entries.{Entry, pack}

abbrev pub size : ℕ
size = 55

abbrev pub bitmap_of : List ℕ → ℕ
bitmap_of a = little 4 a 0 % 131072

-- the item at a place
abbrev pub item_at : List ℕ → ℕ → ℕ
item_at a i = little 3 a (4 + 3 * i)

-- the (slot, item) pairs, slots rising
unfoldable pub entries : List ℕ → List Entry
entries a = pack (present (bitmap_of a)) (item_at a)

-- ---- one part of the bytes written

abbrev pub with_bitmap : List ℕ → ℕ → List ℕ
with_bitmap a bits = splice a 0 (little_bytes 4 bits)

abbrev pub with_item : List ℕ → ℕ → ℕ → List ℕ
with_item a at v = splice a (4 + 3 * at) (little_bytes 3 v)

-- the items from place `at` on, of n, stand one place higher, or those after place `at` one place lower
unfoldable pub opened : ℕ → ℕ → List ℕ → List ℕ
opened at n a = splice a (4 + 3 * at + 3) (part a (4 + 3 * at) (3 * (n - at)))

unfoldable pub closed : ℕ → ℕ → List ℕ → List ℕ
closed at n a = splice a (4 + 3 * at) (part a (4 + 3 * at + 3) (3 * (n - at - 1)))

-- ---- a slot's item stored, a slot taken out, all slots taken out

-- the bitmap with a slot's digit set or cleared, and the place of a slot
abbrev pub turned : List ℕ → ℕ → Bool → ℕ
turned a slot b = number_of (set (present (bitmap_of a)) slot b)

abbrev pub place_in : List ℕ → ℕ → ℕ
place_in a slot = count (take slot (present (bitmap_of a)))

abbrev pub count_in : List ℕ → ℕ
count_in a = count (present (bitmap_of a))

abbrev pub is_in : List ℕ → ℕ → Bool
is_in a slot = get_or (present (bitmap_of a)) slot false

unfoldable pub with_slot : ℕ → ℕ → List ℕ → List ℕ
with_slot slot v a =
    cond (leb slot 16)
    (cond (is_in a slot)
    (with_item a (place_in a slot) v)
    (with_bitmap (with_item (opened (place_in a slot) (count_in a) a) (place_in a slot) v) (turned a slot true)))
    a

unfoldable pub without_slot : ℕ → List ℕ → List ℕ
without_slot slot a = cond (is_in a slot) (with_bitmap (closed (place_in a slot) (count_in a) a) (turned a slot false)) a

unfoldable pub without_lowest : List ℕ → List ℕ
without_lowest a = without_slot (lowest (present (bitmap_of a))) a

unfoldable pub cleared : List ℕ → List ℕ
cleared a = with_bitmap a 0

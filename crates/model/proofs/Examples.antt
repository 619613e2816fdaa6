-- The reader's definitions, tried on worked examples: each equation is computed.
-- Assumes nothing.
use Prim.Native.Nat.{Ordering}
use Prim.Native.Nat.{ℕ, ◌+◌, ◌*◌, ◌≤◌}
use mathlib.Core.Path.{◌≡◌, refl}
use mathlib.Core.Bool.{true, false}
use mathlib.Core.List.{List, [], ◌∷◌, map}
use mathlib.Core.Option.{none, some}
use lib.ListN.{replicate, length}
use native.Mathlib.Omega.{arith}
use Rattle.model.specs.Key.{key_limit, order, starts_with, Bytes, IsKey}
use Rattle.model.specs.Numbers.{value_bound, capacity_of, least_size, block_size, limit_bound, page_limit, entry_limit, used}
use Rattle.model.specs.Answers.{DONE, REPLACED, STORE, KEY, HEIGHT, FULL, ABSENT, COUNT, ROOM, number}
use Rattle.model.specs.Map.{Entry, lookup, put, del, Rising}
use Rattle.model.specs.Nibble.{nibble, critical, Agree}
use Rattle.model.specs.Picture.{Tree, leaf, branch, end, kid, entries, picture_of, bare_root, closest, depth, refuses_height, too_long, Kids, Below, Picture}
use Rattle.model.specs.Page.{plain, inclusive, under, start, after_key, above, page}
use Rattle.model.specs.Entry.{entry_bytes, entries_bytes}
use Rattle.model.proofs.KeyLaws.{agree_refl, agree_less, critical_agree}

-- `a`, `b`, `ab`, `ac` and the bytes 61 00
abbrev a : List ℕ
a = 0x61 ∷ []

abbrev b : List ℕ
b = 0x62 ∷ []

abbrev ab : List ℕ
ab = 0x61 ∷ 0x62 ∷ []

abbrev ac : List ℕ
ac = 0x61 ∷ 0x63 ∷ []

abbrev a0 : List ℕ
a0 = 0x61 ∷ 0x00 ∷ []

-- "lexicographic, a proper prefix first"; "A trailing zero byte counts."
pub order_tried :
    (order [] a ≡ Ordering.lt) × (order a ab ≡ Ordering.lt) × (order a a0 ≡ Ordering.lt) × (order ab ac ≡ Ordering.lt) × (order b ac ≡ Ordering.gt) × (order ac ac ≡ Ordering.eq)
unfolding order
order_tried = (refl, refl, refl, refl, refl, refl)

pub starts_tried :
    (starts_with [] [] ≡ true) × (starts_with [] ab ≡ true) × (starts_with a a ≡ true) × (starts_with a ab ≡ true) × (starts_with ab a ≡ false) × (starts_with ab ac ≡ false) × (starts_with b ab ≡ false)
starts_tried = (refl, refl, refl, refl, refl, refl, refl)

-- The table's column "No."
pub numbers_tried : map number (DONE ∷ REPLACED ∷ STORE ∷ KEY ∷ HEIGHT ∷ FULL ∷ ABSENT ∷ COUNT ∷ ROOM ∷ []) ≡ 0 ∷ 1 ∷ 10 ∷ 11 ∷ 12 ∷ 13 ∷ 14 ∷ 15 ∷ 16 ∷ []
numbers_tried = refl

-- Document 01's numbers that hang on the longest key: "0 to 64 bytes", "capacity (L - 128) / 128, rounded down, at most 16,384 keys", "Under 256 bytes",
-- "128 x (capacity + 1)", "at least 74 bytes per entry", "128 or more never refuses".
pub sizes_tried :
    (key_limit ≡ 64) × (block_size ≡ 128) × (least_size ≡ 256) × (entry_limit ≡ 74) × (2 * key_limit ≡ 128)
    × (map capacity_of (255 ∷ 256 ∷ 383 ∷ 384 ∷ 65536 ∷ 2097280 ∷ 9999999 ∷ []) ≡ 0 ∷ 1 ∷ 1 ∷ 2 ∷ 511 ∷ 16384 ∷ 16384 ∷ []) × (used (replicate 400 0) ≡ 128 * 3)
sizes_tried = (refl, refl, refl, refl, refl, refl, refl)

-- "Value: any unsigned 32-bit number", "Height limit: 0 to 65,535", "Page: 1 to 256 entries", "any bytes": the greatest of each is in, and the next is not.
pub bounds_tried : (value_bound ≡ 4294967295 + 1) × (limit_bound ≡ 65535 + 1) × (page_limit ≡ 256) × Bytes (0 ∷ 255 ∷ []) × (Bytes (256 ∷ []) → ⊥)
bounds_tried = (refl, refl, refl, (omega arith, (omega arith, tt)), λ h. omega (arith, h.0))

-- A map of `a`, `ab` and `b`.
abbrev m : List Entry
m = (a, 1) ∷ (ab, 2) ∷ (b, 3) ∷ []

-- "in rising order": this map rises; one with a key twice, or with a lower key later, does not.
pub rising_tried : Rising m
unfolding order
rising_tried = ((refl, (refl, tt)), ((refl, tt), (tt, tt)))

pub twice_tried : Rising ((a, 1) ∷ (a, 2) ∷ []) → ⊥
unfolding order
twice_tried h = let e : Ordering.eq ≡ Ordering.lt = h.0.0 in let z : ◌≡◌ {A = ℕ} 0 1 = cc in omega arith

pub falling_tried : Rising ((b, 1) ∷ (ac, 2) ∷ []) → ⊥
unfolding order
falling_tried h = let e : Ordering.gt ≡ Ordering.lt = h.0.0 in let z : ◌≡◌ {A = ℕ} 0 1 = cc in omega arith

pub lookup_tried : (lookup ab m ≡ some 2) × (lookup ac m ≡ none) × (lookup [] m ≡ none)
unfolding order
lookup_tried = (refl, refl, refl)

-- first, between, last, and in a stored key's place
pub put_tried :
    (put [] 9 m ≡ ([], 9) ∷ (a, 1) ∷ (ab, 2) ∷ (b, 3) ∷ []) × (put ac 9 m ≡ (a, 1) ∷ (ab, 2) ∷ (ac, 9) ∷ (b, 3) ∷ [])
    × (put (0x63 ∷ []) 9 m ≡ (a, 1) ∷ (ab, 2) ∷ (b, 3) ∷ (0x63 ∷ [], 9) ∷ []) × (put ab 9 m ≡ (a, 1) ∷ (ab, 9) ∷ (b, 3) ∷ [])
unfolding order
put_tried = (refl, refl, refl, refl)

pub del_tried : (del ab m ≡ (a, 1) ∷ (b, 3) ∷ []) × (del ac m ≡ (a, 1) ∷ (ab, 2) ∷ (b, 3) ∷ [])
unfolding order
del_tried = (refl, refl)

-- "Position 2i is the high half of byte i plus 1, position 2i+1 the low half plus 1; at or past the end the nibble is 0."
pub nibble_tried : map (nibble (0x41 ∷ 0x0F ∷ [])) (0 ∷ 1 ∷ 2 ∷ 3 ∷ 4 ∷ 5 ∷ []) ≡ 5 ∷ 2 ∷ 1 ∷ 16 ∷ 0 ∷ 0 ∷ []
unfolding nibble
nibble_tried = refl

-- a high half, a low half, a second byte's, and "For a proper prefix it is 2 x the shorter length."
pub critical_tried : (critical a (0x51 ∷ []) ≡ 0) × (critical a b ≡ 1) × (critical ab (0x61 ∷ 0x72 ∷ []) ≡ 2) × (critical ab ac ≡ 3) × (critical a ab ≡ 2) × (critical [] a ≡ 0)
unfolding critical
critical_tried = (refl, refl, refl, refl, refl, refl)

-- "No key: empty. One key: a leaf." `a` and 61 00: "position 2, slots 0 and 1, `a` first". `a` and `ac`: "one branch at 2, slot 0 `a`, slot 7 `ac`".
pub picture_tried :
    (picture_of [] ≡ none) × (picture_of ((a, 1) ∷ []) ≡ some (leaf 0 a 1))
    × (picture_of ((a, 1) ∷ (a0, 2) ∷ []) ≡ some (branch 0 2 (kid 0 (leaf 0 a 1) (kid 1 (leaf 0 a0 2) end))))
    × (picture_of ((a, 1) ∷ (ac, 3) ∷ []) ≡ some (branch 0 2 (kid 0 (leaf 0 a 1) (kid 7 (leaf 0 ac 3) end))))
    × (picture_of m ≡ some (branch 0 1 (kid 2 (branch 0 2 (kid 0 (leaf 0 a 1) (kid 7 (leaf 0 ab 2) end))) (kid 3 (leaf 0 b 3) end))))
unfolding nibble critical
picture_tried = (refl, refl, refl, refl, refl)

-- The picture of `m`, in records 5, 6 and 7 of leaves, 8 and 9 of branches.
abbrev t : Tree
t = branch 8 1 (kid 2 (branch 9 2 (kid 0 (leaf 5 a 1) (kid 7 (leaf 6 ab 2) end))) (kid 3 (leaf 7 b 3) end))

pub tree_tried : (entries (some t) ≡ m) × (bare_root (some t) ≡ picture_of m)
unfolding nibble critical
tree_tried = (refl, refl)

-- "It holds a picture": this tree is one.
pub pictured_tried : Picture t
unfolding nibble critical
pictured_tried =
    (a, (inner, omega arith, (below 1 a 2 a (agree_refl 1 a) refl, (below 1 a 2 ab (critical_less a ab 1 (omega arith)) refl, tt)), (short b (omega arith) (omega arith, tt), tt, below 1 a 3 b (critical_agree a b) refl, tt)), (omega arith, (omega arith, tt)), omega arith)
  where
    short : (k : List ℕ) → length k ≤ 2 → Bytes k → IsKey k
    short k h b = record { fits = omega arith; bytes = b }

    below : (p : ℕ) (w : List ℕ) (s : ℕ) (k : List ℕ) → Agree p w k → nibble k p ≡ s → Below p w s k
    below p w s k g e = record { agree = g; slot = e }

    critical_less : (k l : List ℕ) (p : ℕ) → p ≤ critical k l → Agree p k l
    critical_less k l p h = agree_less h (critical_agree k l)

    inner : Picture (branch 9 2 (kid 0 (leaf 5 a 1) (kid 7 (leaf 6 ab 2) end)))
    inner =
        (a, (short a (omega arith) (omega arith, tt), tt, below 2 a 0 a (agree_refl 2 a) refl, (short ab (omega arith) (omega arith, (omega arith, tt)), tt, below 2 a 7 ab (critical_agree a ab) refl, tt)), (omega arith, (omega arith, tt)), omega arith)

-- "a branch has 2 to 17 children": not one.
pub one_child_tried : Picture (branch 8 2 (kid 7 (leaf 5 ab 1) end)) → ⊥
one_child_tried h = omega (arith, h.3)

-- "positions rise along every path": no branch at 1 below one at 2, whatever stands in them.
pub position_tried : (k l : Kids) → Picture (branch 8 2 (kid 7 (branch 9 1 k) l)) → ⊥
position_tried k l h = omega (arith, h.1.1)

-- "all leaves under a branch at position p agree on nibbles before p": `ab` and the bytes 62 63 do not before 3.
pub agree_tried : Picture (branch 8 3 (kid 3 (leaf 5 ab 1) (kid 4 (leaf 6 (0x62 ∷ 0x63 ∷ []) 2) end))) → ⊥
unfolding nibble
agree_tried h =
    let e : nibble h.0 1 ≡ 2 = h.1.2.agree.on 1 (omega arith) in
    let f : nibble h.0 1 ≡ 3 = h.1.3.2.agree.on 1 (omega arith) in
    omega arith

-- "those under a child have that child's slot as nibble p": not `ab` in slot 0.
pub slot_tried : (l : Kids) → Picture (branch 8 2 (kid 0 (leaf 5 ab 1) l)) → ⊥
unfolding nibble
slot_tried l h = let e : ◌≡◌ {A = ℕ} 7 0 = h.1.2.slot in omega arith

-- "in rising slot order"
pub slots_tried : (s u : Tree) → Picture (branch 8 2 (kid 7 s (kid 0 u end))) → ⊥
slots_tried s u h = omega (arith, h.2.1.0)

-- "go down by the key's nibble, or by the lowest present slot where it is missing": of `ab`, of `b`, of `ac`, of the byte 64
pub closest_tried :
    (closest ab t ≡ record { path = 1 ∷ 2 ∷ []; number = 6; key = ab }) × (closest b t ≡ record { path = 1 ∷ []; number = 7; key = b })
    × (closest ac t ≡ record { path = 1 ∷ 2 ∷ []; number = 6; key = ab }) × (closest (0x64 ∷ []) t ≡ record { path = 1 ∷ 2 ∷ []; number = 5; key = a })
unfolding nibble
closest_tried = (refl, refl, refl, refl)

pub depth_tried : (depth ab (some t) ≡ 2) × (depth b (some t) ≡ 1) × (depth ab none ≡ 0)
unfolding nibble
depth_tried = (refl, refl, refl)

-- the byte 64 goes into the branch at 1 under any limit; `ac` would make a branch at 3 below the leaf at depth 2; an empty store takes any key
pub height_tried :
    (refuses_height 0 (0x64 ∷ []) (some t) ≡ false) × (refuses_height 2 ac (some t) ≡ true) × (refuses_height 3 ac (some t) ≡ false) × (refuses_height 0 ac none ≡ false)
unfolding nibble critical
height_tried = (refl, refl, refl, refl)

pub long_tried : (too_long [] ≡ false) × (too_long (replicate key_limit 0) ≡ false) × (too_long (0 ∷ replicate key_limit 0) ≡ true)
long_tried = (refl, refl, refl)

-- "A plain listing gives the stored keys that start with the prefix and aren't equal to it; an inclusive one gives the equal key too."
pub under_tried : (under plain a m ≡ (ab, 2) ∷ []) × (under inclusive a m ≡ (a, 1) ∷ (ab, 2) ∷ []) × (under plain [] m ≡ m) × (under inclusive ac m ≡ [])
unfolding order
under_tried = (refl, refl, refl, refl)

-- "strictly above the after-key", stored or not; ""From the start" isn't "after the empty key""
pub above_tried :
    (above (after_key a) m ≡ (ab, 2) ∷ (b, 3) ∷ []) × (above (after_key ac) m ≡ (b, 3) ∷ []) × (above start (([], 9) ∷ m) ≡ ([], 9) ∷ m) × (above (after_key []) (([], 9) ∷ m) ≡ m)
unfolding order
above_tried = (refl, refl, refl, refl)

-- "the first n matching keys that are strictly above the after-key, and says end exactly if no further one is stored"; "Nothing matching: no entries, end."
pub page_tried :
    (page inclusive [] start 2 m ≡ record { entries = (a, 1) ∷ (ab, 2) ∷ []; end = false })
    × (page inclusive [] (after_key ab) 2 m ≡ record { entries = (b, 3) ∷ []; end = true })
    × (page inclusive a start 2 m ≡ record { entries = (a, 1) ∷ (ab, 2) ∷ []; end = true })
    × (page plain b start 2 m ≡ record { entries = []; end = true })
unfolding order
page_tried = (refl, refl, refl, refl)

-- "Key `1.2`, value 7, whole: `01 00 03 31 2E 32 02 00 04 00 00 00 07`."
pub entry_tried :
    (entry_bytes (0x31 ∷ 0x2E ∷ 0x32 ∷ [], 7) ≡ 0x01 ∷ 0x00 ∷ 0x03 ∷ 0x31 ∷ 0x2E ∷ 0x32 ∷ 0x02 ∷ 0x00 ∷ 0x04 ∷ 0x00 ∷ 0x00 ∷ 0x00 ∷ 0x07 ∷ [])
    × (entries_bytes (([], 0x01020304) ∷ (a, 0xFFFFFFFF) ∷ [])
    ≡ 1 ∷ 0 ∷ 0 ∷ 2 ∷ 0 ∷ 4 ∷ 1 ∷ 2 ∷ 3 ∷ 4 ∷ 1 ∷ 0 ∷ 1 ∷ 0x61 ∷ 2 ∷ 0 ∷ 4 ∷ 0xFF ∷ 0xFF ∷ 0xFF ∷ 0xFF ∷ [])
entry_tried = (refl, refl)

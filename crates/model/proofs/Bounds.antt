-- What a picture bounds: a branch's position, its slots and their number, the depth of a leaf, the branches by the leaves.
-- Assumes nothing.
use Prim.Native.Nat.{ℕ, suc, ◌+◌, ◌*◌, ◌≤◌, ◌<◌, Ordering}
use mathlib.Core.List.{List, [], ◌∷◌}
use native.Mathlib.Omega.{arith}
use native.Mathlib.Decide.{dec_lt}
use lib.ListN.{length}
use mathlib.Core.Path.{◌≡◌, refl}
use mathlib.Core.Bool.{false}
use mathlib.Core.Option.{Option, none, some}
use Rattle.model.specs.Key.{key_limit, on_equal, IsKey}
use Rattle.model.specs.Map.{All}
use Rattle.model.specs.Nibble.{nibble, slot_count}
use Rattle.model.specs.Picture.{Tree, leaf, branch, Kids, end, kid, Every, Everys, SlotsRise, StartsAt, Below, Picture, Pictures, count, Descent, closest, closest_k, first, member, entries, Pictured, depth}
use Rattle.model.proofs.Compare.{Said, lower, same, higher, said, compare_lt}
use Rattle.model.proofs.NibbleAt.{nibble_past, nibble_slot}
use Rattle.model.proofs.TreeLaws.{all_listing}
use Rattle.model.proofs.Closest.{closest_every}

-- Every key of a picture is a key.
mutual
  pub picture_keys : (t : Tree) → Picture t → Every IsKey t
  picture_keys (leaf n k v) h = h
  picture_keys (branch n p ks) h = pictures_keys p h.0 ks h.1

  pub pictures_keys : (p : ℕ) (w : List ℕ) (ks : Kids) → Pictures p w ks → Everys IsKey ks
  pictures_keys p w end h = tt
  pictures_keys p w (kid s t ks) h = (picture_keys t h.0, pictures_keys p w ks h.3)

-- A child's slot is some key's nibble.
pub slot_bound : (p : ℕ) (w : List ℕ) (s : ℕ) (t : Tree) (ks : Kids) → Pictures p w (kid s t ks) → s < slot_count
slot_bound p w s t ks h =
    let k : List ℕ = (closest [] t).key in
    let a : IsKey k = closest_every IsKey [] t h.0 (picture_keys t h.0) in
    let b : Below p w s k = closest_every (Below p w s) [] t h.0 h.2 in
    omega (arith, nibble_slot k p a.bytes)

pub count_bound : (p : ℕ) (w : List ℕ) (low : ℕ) (ks : Kids) → Pictures p w ks → SlotsRise low ks → low ≤ slot_count → low + count ks ≤ slot_count
count_bound p w low end h r l = omega arith
count_bound p w low (kid s t ks) h r l = let i = count_bound p w (suc s) ks h.3 r.1 (slot_bound p w s t ks h) in omega arith

-- "a branch has 2 to 17 children"
pub kids_bound : (n p : ℕ) (ks : Kids) → Picture (branch n p ks) → count ks ≤ slot_count
kids_bound n p ks h = omega (arith, count_bound p h.0 0 ks h.1 h.2 (omega arith))

-- Two children, so at the branch's position some key has not ended.
pub place_bound : (n p : ℕ) (ks : Kids) → Picture (branch n p ks) → p < 2 * key_limit
place_bound n p end h = absurd (omega arith)
place_bound n p (kid s t end) h = absurd (omega arith)
place_bound n p (kid s t (kid r u ks)) h = go (dec_lt p (2 * key_limit))
  where
    w : List ℕ
    w = h.0

    pic : Picture u
    pic = h.1.3.0

    k : List ℕ
    k = (closest [] u).key

    a : IsKey k
    a = closest_every IsKey [] u pic (picture_keys u pic)

    b : Below p w r k
    b = closest_every (Below p w r) [] u pic h.1.3.2

    go : Dec (p < 2 * key_limit) → p < 2 * key_limit
    go (yes q) = q
    go (no q) = absurd (omega (arith, nibble_past k p (omega (arith, a.fits)), b.slot))

-- The positions on a way down rise, from `low` on, and stay below a key's nibbles.
abbrev pub Rises : ℕ → List ℕ → Type 0
Rises low [] = low ≤ 2 * key_limit
Rises low (p ∷ ps) = (low ≤ p) × (p < 2 * key_limit) × Rises (suc p) ps

step_rises : (p : ℕ) (d e : Descent) → Rises (suc p) d.path → Rises (suc p) e.path → {m n : ℕ} {o : Ordering} → Said m n o → Rises (suc p) (on_equal o d e).path
step_rises p d e a b (lower h) = b
step_rises p d e a b (same h) = a
step_rises p d e a b (higher h) = b

pub starts_zero : (t : Tree) → StartsAt 0 t
starts_zero (leaf n k v) = tt
starts_zero (branch n p ks) = omega arith

mutual
  pub path_rises : (k : List ℕ) (low : ℕ) (t : Tree) → low ≤ 2 * key_limit → Picture t → StartsAt low t → Rises low (closest k t).path
  path_rises k low (leaf n l v) b h s = b
  path_rises k low (branch n p ks) b h s =
      (s, place_bound n p ks h, paths_rise k p (nibble k p) h.0 ks (first k ks) (place_bound n p ks h) h.1 (first_rises k p h.0 ks (place_bound n p ks h) h.1))

  paths_rise : (k : List ℕ) (p s : ℕ) (w : List ℕ) (ks : Kids) (d : Descent) → p < 2 * key_limit → Pictures p w ks → Rises (suc p) d.path → Rises (suc p) (closest_k k s ks d).path
  paths_rise k p s w end d b h a = a
  paths_rise k p s w (kid r t ks) d b h a =
      step_rises p (closest k t) (closest_k k s ks d) (path_rises k (suc p) t b h.0 h.1) (paths_rise k p s w ks d b h.3 a) (said s r)

  first_rises : (k : List ℕ) (p : ℕ) (w : List ℕ) (ks : Kids) → p < 2 * key_limit → Pictures p w ks → Rises (suc p) (first k ks).path
  first_rises k p w end b h = b
  first_rises k p w (kid r t ks) b h = path_rises k (suc p) t b h.0 h.1

-- "Depth of a leaf: the branches above it, at most 128": two for each byte of the longest key.
pub rises_length : (low : ℕ) (ps : List ℕ) → Rises low ps → low + length ps ≤ 2 * key_limit
rises_length low [] r = omega arith
rises_length low (p ∷ ps) r = let i = rises_length (suc p) ps r.2 in omega arith

pub depth_bound : (k : List ℕ) (t : Tree) → Picture t → depth k (some t) ≤ 2 * key_limit
depth_bound k t h = let i = rises_length 0 (closest k t).path (path_rises k 0 t (omega arith) h (starts_zero t)) in omega arith

-- No position on the way down is below its first one.
pub member_low : (c low : ℕ) (ps : List ℕ) → c < low → Rises low ps → member c ps ≡ false
member_low c low [] l r = refl
member_low c low (p ∷ ps) l r = let q : c < p = omega arith in rw (compare_lt q) (member_low c (suc p) ps (omega arith) r.2)

-- Every key of a store that holds a picture is a key.
pub entries_keys : (o : Option Tree) → Pictured o → All IsKey (entries o)
entries_keys none h = tt
entries_keys (some t) h = all_listing IsKey t (picture_keys t h)

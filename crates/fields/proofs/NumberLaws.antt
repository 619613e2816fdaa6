-- Numbers in bytes: what is written is read back, a number that lies apart from a write is as it was, a number of a part is one of the whole.
-- Each law holds for every width and place, and for both orders of the bytes. Assumes nothing.
use mathlib.Core.Path.{◌≡◌, refl, sym, ap, ap₂, ◌∙◌}
use mathlib.Core.List.{List, [], ◌∷◌, ◌++◌, reverse, reverse-reverse}
use mathlib.Core.Logic.{⊎_elim}
use Prim.Native.Nat.{ℕ, zero, suc, ◌+◌, ◌-◌, ◌*◌, ◌/◌, ◌%◌, ◌^◌, ◌≤◌, ◌<◌}
use native.Mathlib.Nat.{pow-suc}
use Rattle.std.proofs.Math.Nat.{pow-le-pow_right}
use Rattle.std.proofs.lemmas.List.{reverse-append}
use native.Mathlib.Numerals.{add-one, add-two, add-three}
use native.Mathlib.Decide.{dec_lt}
use native.Mathlib.Omega.{arith}
use lib.ListN.{length, get_or, set, length-reverse}
use mir.Val.{Fits}
use mir.Syntax.{w8}
use Rattle.fields.specs.Part.{part, splice, Apart}
use Rattle.fields.specs.Common.{Agree}
use Rattle.fields.specs.Number.{value, bytes_at, little, little_bytes, big, big_bytes}
use Rattle.fields.proofs.PartLaws.{splice_nil, splice_cons, splice_last, get_d_part, get_or_splice_below, get_or_splice_above, get_or_splice_in}

-- ---- a number and its bytes

pub length_little : (w v : ℕ) → length (little_bytes w v) ≡ w
unfolding little_bytes
length_little zero v = refl
length_little (suc w) v = ap suc (length_little w (v / 256))

pub length_big : (w v : ℕ) → length (big_bytes w v) ≡ w
unfolding big_bytes
length_big w v = length-reverse (little_bytes w v) ∙ length_little w v

pub value_little : (w v : ℕ) → v < 256 ^ w → value (little_bytes w v) ≡ v
unfolding value little_bytes
value_little zero v h = omega arith
value_little (suc w) v h =
    let q : v / 256 < 256 ^ w = omega (arith, rw pow-suc at h) in
    rw (value_little w (v / 256) q) (omega arith)

pub value_below : (w : ℕ) (xs : List ℕ) (at : ℕ) → ((i : ℕ) → at ≤ i → i < at + w → get_or xs i 0 < 256) → value (bytes_at w xs at) < 256 ^ w
unfolding value bytes_at
value_below zero xs at h = omega arith
value_below (suc w) xs at h =
    rw pow-suc (omega (arith, value_below w xs (suc at) (λ i l m. h i (omega arith) (omega arith)), h at (omega arith) (omega arith)))

-- ---- the bytes at a place

pub bytes_agree : (w : ℕ) (xs ys : List ℕ) (a b : ℕ) → ((i : ℕ) → i < w → get_or xs (a + i) 0 ≡ get_or ys (b + i) 0) → bytes_at w xs a ≡ bytes_at w ys b
unfolding bytes_at
bytes_agree zero xs ys a b h = refl
bytes_agree (suc w) xs ys a b h =
    let e : a + 0 ≡ a = omega arith in
    let f : b + 0 ≡ b = omega arith in
    let first : get_or xs a 0 ≡ get_or ys b 0 = rw (e, f) at (h 0 (omega arith)) in
    ap₂ (λ (x : ℕ) (zs : List ℕ). x ∷ zs) first
    (bytes_agree w xs ys (suc a) (suc b)
    (λ i l.
    let p : suc a + i ≡ a + suc i = omega arith in
    let q : suc b + i ≡ b + suc i = omega arith in
    rw (p, q) (h (suc i) (omega arith))))

pub bytes_apart : (w : ℕ) (xs : List ℕ) (a : ℕ) (ys : List ℕ) (at : ℕ) → Apart a (length ys) at w → bytes_at w (splice xs a ys) at ≡ bytes_at w xs at
bytes_apart w xs a ys at h =
    bytes_agree w (splice xs a ys) xs at at
    (λ i l. ⊎_elim (λ k. get_or_splice_above xs a ys (at + i) (omega arith)) (λ k. get_or_splice_below xs a ys (at + i) (omega arith)) h)

pub bytes_all : (w : ℕ) (ys : List ℕ) → length ys ≡ w → bytes_at w ys 0 ≡ ys
unfolding bytes_at
bytes_all zero [] e = refl
bytes_all (suc w) [] e = absurd (omega arith)
bytes_all zero (y ∷ ys) e = absurd (omega arith)
bytes_all (suc w) (y ∷ ys) e =
    ap (λ (zs : List ℕ). y ∷ zs)
    (bytes_agree w (y ∷ ys) ys 1 0 (λ i l. let p : 1 + i ≡ suc i = omega arith in let q : 0 + i ≡ i = omega arith in rw (p, q)) ∙ bytes_all w ys (omega arith))

pub bytes_same : (xs : List ℕ) (at : ℕ) (ys : List ℕ) (w : ℕ) → length ys ≡ w → at + w ≤ length xs → bytes_at w (splice xs at ys) at ≡ ys
bytes_same xs at ys w e h =
    bytes_agree w (splice xs at ys) ys at 0 (λ i l. get_or_splice_in xs at ys i (omega arith) (omega arith) ∙ (let q : 0 + i ≡ i = omega arith in rw q))
    ∙ bytes_all w ys e

-- within what was put in
pub bytes_in : (w : ℕ) (xs : List ℕ) (a : ℕ) (ys : List ℕ) (o : ℕ) → a + length ys ≤ length xs → o + w ≤ length ys → bytes_at w (splice xs a ys) (a + o) ≡ bytes_at w ys o
bytes_in w xs a ys o f h =
    bytes_agree w (splice xs a ys) ys (a + o) o
    (λ i l. let p : a + o + i ≡ a + (o + i) = omega arith in rw p (get_or_splice_in xs a ys (o + i) f (omega arith)))

pub bytes_part : (w : ℕ) (xs : List ℕ) (a m at : ℕ) → at + w ≤ m → bytes_at w (part xs a m) at ≡ bytes_at w xs (a + at)
bytes_part w xs a m at h =
    bytes_agree w (part xs a m) xs at (a + at) (λ i l. get_d_part xs a m (at + i) (omega arith) ∙ (let p : a + (at + i) ≡ a + at + i = omega arith in rw p))

-- ---- the number there, low byte first and high byte first

pub little_same : (w : ℕ) (xs : List ℕ) (at v : ℕ) → at + w ≤ length xs → v < 256 ^ w → little w (splice xs at (little_bytes w v)) at ≡ v
unfolding little
little_same w xs at v h f = rw (bytes_same xs at (little_bytes w v) w (length_little w v) h) (value_little w v f)

pub big_same : (w : ℕ) (xs : List ℕ) (at v : ℕ) → at + w ≤ length xs → v < 256 ^ w → big w (splice xs at (big_bytes w v)) at ≡ v
unfolding big big_bytes
big_same w xs at v h f =
    rw (bytes_same xs at (reverse (little_bytes w v)) w (length-reverse (little_bytes w v) ∙ length_little w v) h, reverse-reverse) (value_little w v f)

pub little_apart : (w : ℕ) (xs : List ℕ) (a : ℕ) (ys : List ℕ) (at : ℕ) → Apart a (length ys) at w → little w (splice xs a ys) at ≡ little w xs at
unfolding little
little_apart w xs a ys at h = rw (bytes_apart w xs a ys at h)

pub big_apart : (w : ℕ) (xs : List ℕ) (a : ℕ) (ys : List ℕ) (at : ℕ) → Apart a (length ys) at w → big w (splice xs a ys) at ≡ big w xs at
unfolding big
big_apart w xs a ys at h = rw (bytes_apart w xs a ys at h)

pub little_part : (w : ℕ) (xs : List ℕ) (a m at : ℕ) → at + w ≤ m → little w (part xs a m) at ≡ little w xs (a + at)
unfolding little
little_part w xs a m at h = rw (bytes_part w xs a m at h)

pub little_agree : (w : ℕ) (xs ys : List ℕ) (a b : ℕ) → ((i : ℕ) → i < w → get_or xs (a + i) 0 ≡ get_or ys (b + i) 0) → little w xs a ≡ little w ys b
unfolding little
little_agree w xs ys a b h = rw (bytes_agree w xs ys a b h)

pub little_below : (w : ℕ) (xs : List ℕ) (at : ℕ) → ((i : ℕ) → at ≤ i → i < at + w → get_or xs i 0 < 256) → little w xs at < 256 ^ w
unfolding little
little_below w xs at h = value_below w xs at h

-- ---- the loops of `read` and `write`: one byte more

-- a number of one byte more, at its start or at its end
little_more : (w : ℕ) (xs : List ℕ) (at : ℕ) → little (suc w) xs at ≡ get_or xs at 0 + little w xs (suc at) * 256
unfolding little value bytes_at
little_more w xs at = refl

bytes_snoc : (w : ℕ) (xs : List ℕ) (at : ℕ) → bytes_at (suc w) xs at ≡ bytes_at w xs at ++ get_or xs (at + w) 0 ∷ []
unfolding bytes_at
bytes_snoc zero xs at = let e : at + 0 ≡ at = omega arith in rw e
bytes_snoc (suc w) xs at = let e : at + suc w ≡ suc at + w = omega arith in rw e (ap (λ (zs : List ℕ). get_or xs at 0 ∷ zs) (bytes_snoc w xs (suc at)))

big_more : (w : ℕ) (xs : List ℕ) (at : ℕ) → big (suc w) xs at ≡ get_or xs (at + w) 0 + big w xs at * 256
unfolding big value
big_more w xs at = rw (bytes_snoc w xs at, reverse-append) refl

pub big_below : (w : ℕ) (xs : List ℕ) (at : ℕ) → ((i : ℕ) → get_or xs i 0 < 256) → big w xs at < 256 ^ w
unfolding big value bytes_at
big_below zero xs at h = omega arith
big_below (suc w) xs at h = rw (pow-suc, big_more w xs at) (omega (arith, big_below w xs at h, h (at + w)))

-- a read: bytes from the first one to the last
module _ (xs : List ℕ) (at n number : ℕ) (bytes : (i : ℕ) → Fits w8 (get_or xs i 0)) (most : n ≤ 4) where
  narrow : (w : ℕ) → w ≤ 3 → number < 256 ^ w → number < 16777216
  narrow w h f = let p : 256 ^ w ≤ 256 ^ 3 = pow-le-pow_right (omega arith) h in omega arith

  -- there is room for a byte more
  pub big_narrow : (i j : ℕ) → i < n → number ≡ big i xs at → number * 256 + get_or xs j 0 < 4294967296
  big_narrow i j h e = omega (arith, narrow i (omega arith) (rw e (big_below i xs at (λ k. (bytes k).fits))), (bytes j).fits)

  pub big_end : (i : ℕ) → n ≤ i → i ≤ n → number ≡ big i xs at → (number ≡ big n xs at) × (number < 256 ^ n)
  big_end i h k e =
      let p : i ≡ n = omega arith in
      let f : number ≡ big n xs at = rw p at e in
      (f, rw f (big_below n xs at (λ j. (bytes j).fits)))

pub big_start : (xs : List ℕ) (at : ℕ) → 0 ≡ big 0 xs at
unfolding big value bytes_at
big_start xs at = refl

pub big_turn : (xs : List ℕ) (at i number : ℕ) → number ≡ big i xs at → number * 256 + get_or xs (at + i) 0 ≡ big (i + 1) xs at
big_turn xs at i number e = rw (add-one, big_more, ← e) (omega arith)

-- a write, with what is left of the number: from the first byte to the last, or from the last one to the first
module _ (start : List ℕ) (at n value : ℕ) where
  -- what the bytes are once the rest is stored from place i on
  abbrev pub Onward : ℕ → ℕ → List ℕ → Type 0
  Onward i rest s = splice s (at + i) (little_bytes (n - i) rest) ≡ splice start at (little_bytes n value)

  -- or before it
  abbrev pub Before : ℕ → ℕ → List ℕ → Type 0
  Before i rest s = splice s at (big_bytes i rest) ≡ splice start at (big_bytes n value)

  pub onward_turn : (i rest : ℕ) (s : List ℕ) → i < n → Onward i rest s → Onward (i + 1) (rest / 256) (set s (at + i) (rest % 256))
  unfolding little_bytes
  onward_turn i rest s h o =
      let e : n - i ≡ suc (n - (i + 1)) = omega arith in
      let f : at + (i + 1) ≡ suc (at + i) = omega arith in
      rw f (sym (splice_cons s (at + i) (rest % 256) (little_bytes (n - (i + 1)) (rest / 256))) ∙ rw e at o)

  pub onward_end : (i rest : ℕ) (s : List ℕ) → n ≤ i → Onward i rest s → s ≡ splice start at (little_bytes n value)
  unfolding little_bytes
  onward_end i rest s h o = let e : n - i ≡ 0 = omega arith in rw (e, splice_nil) at o

  pub before_turn : (i rest : ℕ) (s : List ℕ) → 0 < i → Before i rest s → Before (i - 1) (rest / 256) (set s (at + (i - 1)) (rest % 256))
  unfolding big_bytes little_bytes
  before_turn i rest s h o =
      let e : i ≡ suc (i - 1) = omega arith in
      let low : List ℕ = little_bytes (i - 1) (rest / 256) in
      let q : big_bytes i rest ≡ reverse low ++ rest % 256 ∷ [] = ap (λ (k : ℕ). big_bytes k rest) e ∙ reverse-append (rest % 256 ∷ []) low in
      splice_last s at (reverse low) (rest % 256) (i - 1) (sym (length_big (i - 1) (rest / 256))) ∙ rw q at o

  pub before_end : (i rest : ℕ) (s : List ℕ) → i ≤ 0 → Before i rest s → s ≡ splice start at (big_bytes n value)
  unfolding big_bytes little_bytes
  before_end i rest s h o = let e : i ≡ 0 = omega arith in rw (e, splice_nil) at o

-- ---- bytes by their number: no other bytes have it

value_one : (w : ℕ) (xs ys : List ℕ) (at : ℕ) → ((i : ℕ) → get_or xs i 0 < 256) → ((i : ℕ) → get_or ys i 0 < 256) → value (bytes_at w xs at) ≡ value (bytes_at w ys at) → Agree xs ys at w
unfolding value bytes_at
value_one zero xs ys at f g e i h k = absurd (omega arith)
value_one (suc w) xs ys at f g e i h k = go (value_one w xs ys (suc at) f g (omega (arith, e, f at, g at))) (dec_lt at i)
  where
    go : Agree xs ys (suc at) w → Dec (at < i) → get_or xs i 0 ≡ get_or ys i 0
    go rest (yes l) = rest i (omega arith) (omega arith)
    go rest (no l) = let q : i ≡ at = omega arith in rw q (omega (arith, e, f at, g at))

pub little_one : (w : ℕ) (xs ys : List ℕ) (at : ℕ) → ((i : ℕ) → Fits w8 (get_or xs i 0)) → ((i : ℕ) → Fits w8 (get_or ys i 0)) → little w xs at ≡ little w ys at → Agree xs ys at w
unfolding little
little_one w xs ys at f g e = value_one w xs ys at (λ i. (f i).fits) (λ i. (g i).fits) e

pub little_alike : (w : ℕ) (xs ys : List ℕ) (at : ℕ) → Agree xs ys at w → little w xs at ≡ little w ys at
little_alike w xs ys at a = little_agree w xs ys at at (λ i l. a (at + i) (omega arith) (omega arith))

-- ---- the widths in use: what a read computes from the bytes

module _ (xs : List ℕ) (at : ℕ) where
  pub little_two : little 2 xs at ≡ get_or xs at 0 + get_or xs (at + 1) 0 * 256
  unfolding little value bytes_at
  little_two = rw add-one (omega arith)

  pub little_three : little 3 xs at ≡ get_or xs at 0 + get_or xs (at + 1) 0 * 256 + get_or xs (at + 2) 0 * 65536
  unfolding little value bytes_at
  little_three = rw (add-one, add-two) (omega arith)

  pub little_four : little 4 xs at ≡ get_or xs at 0 + get_or xs (at + 1) 0 * 256 + get_or xs (at + 2) 0 * 65536 + get_or xs (at + 3) 0 * 16777216
  unfolding little value bytes_at
  little_four = rw (add-one, add-two, add-three) (omega arith)

  pub little_eight : little 8 xs at ≡ little 4 xs at + little 4 xs (at + 4) * 4294967296
  unfolding little value bytes_at
  little_eight = let e : at + 4 ≡ suc (suc (suc (suc at))) = omega arith in rw e (omega arith)

-- ---- and what four stores store

module _ (xs : List ℕ) (at v : ℕ) where
  pub stored_four : v < 4294967296
      → splice xs at (little_bytes 4 v) ≡ set (set (set (set xs at (v % 256)) (at + 1) (v / 256 % 256)) (at + 2) (v / 65536 % 256)) (at + 3) (v / 16777216)
  unfolding splice little_bytes
  stored_four h =
      let d : v / 256 / 256 % 256 ≡ v / 65536 % 256 = omega arith in
      let e : v / 256 / 256 / 256 % 256 ≡ v / 16777216 = omega arith in
      rw (add-one, add-two, add-three, d, e)

-- The laws of a bitmap: what `&`, `|`, `!`, `count_ones` and `trailing_zeros` do to the list of its digits.
-- Each is one induction over the digits. Assumes nothing.
use mathlib.Core.Path.{◌≡◌, refl, sym, ap, ap₂, ◌∙◌}
use mathlib.Core.Bool.{Bool, true, false}
use mathlib.Core.List.{List, [], ◌∷◌}
use Prim.Native.Nat.{ℕ, zero, suc, ◌+◌, ◌-◌, ◌*◌, ◌/◌, ◌%◌, ◌^◌, ◌≤◌, ◌<◌, min, max}
use native.Mathlib.Nat.{pow-suc, mod-one, div-one, mod-lt, div-div-eq-div-mul, mul_comm, zero-lt-suc, not-suc-le-zero, le_of_suc-le-suc, max-zero, min-zero, min-eq_left}
use native.Mathlib.Omega.{arith}
use lib.ListN.{length, get_or, set, take}
use lib.Count.{ones, ones_step, count_trailing_zeros, under}
use native.Mathlib.Numerals.{one-add}
use lib.Bits.{bit_and, bit_or, and_step, or_step, or_zero_r, and_mask, and_high}
use lib.Arith.{mod-mul}
use lib.Pow.{pow_pos, pow_mono}
use Rattle.bitmap.specs.Bits.{is_one, bits_of, count, lowest, number_of}

pub length_bits : (d n : ℕ) → length (bits_of d n) ≡ d
unfolding bits_of
length_bits zero n = refl
length_bits (suc d) n = ap suc (length_bits d (n / 2))

-- `n >> k & 1`: the other spelling of the test of a digit
pub bit_at : (d n k : ℕ) → k < d → get_or (bits_of d n) k false ≡ is_one (n / 2 ^ k % 2)
unfolding bits_of
bit_at zero n k h = absurd (not-suc-le-zero h)
bit_at (suc d) n zero h = ap (λ (x : ℕ). is_one (x % 2)) (sym (div-one n))
bit_at (suc d) n (suc k) h =
    bit_at d (n / 2) k (le_of_suc-le-suc h)
    ∙ ap (λ (x : ℕ). is_one (x % 2)) (div-div-eq-div-mul n 2 (2 ^ k) ∙ ap (λ (x : ℕ). n / x) (mul_comm 2 (2 ^ k) ∙ sym (pow-suc 2 k)))

count_cons : (n : ℕ) (bs : List Bool) → n < 2 → count (is_one n ∷ bs) ≡ n + count bs
count_cons zero bs h = omega arith
count_cons (suc zero) bs h = omega arith
count_cons (suc (suc n)) bs h = absurd (not-suc-le-zero (le_of_suc-le-suc (le_of_suc-le-suc h)))

-- the digits below k + 1, as a number: those below k of the half, and the lowest
pub low_step : (n k : ℕ) → n % 2 ^ suc k ≡ n / 2 % 2 ^ k * 2 + n % 2
low_step n k = rw pow-suc (mod-mul n (pow_pos k) (zero-lt-suc 1))

-- `count_ones(n % (1 << k))`: the place of slot k
pub count_below : (d n k : ℕ) → k ≤ d → count (take k (bits_of d n)) ≡ ones (n % 2 ^ k)
unfolding bits_of ones
count_below d n zero h = rw mod-one
count_below zero n (suc k) h = absurd (not-suc-le-zero h)
count_below (suc d) n (suc k) h =
    let e = low_step n k in
    let odd : n % 2 ≡ n % 2 ^ suc k % 2 = omega arith in
    let half : n / 2 % 2 ^ k ≡ n % 2 ^ suc k / 2 = omega arith in
    count_cons (n % 2) (take k (bits_of d (n / 2))) (mod-lt n (zero-lt-suc 1))
    ∙ ap₂ (λ (x y : ℕ). x + y) odd (count_below d (n / 2) k (le_of_suc-le-suc h) ∙ ap ones half)
    ∙ sym (ones_step (n % 2 ^ suc k))

-- `count_ones(n)`, of a number of d digits
pub count_all : (d n : ℕ) → n < 2 ^ d → count (bits_of d n) ≡ ones n
unfolding bits_of ones
count_all zero n h = let e : n ≡ 0 = omega arith in rw e
count_all (suc d) n h =
    let p = pow-suc 2 d in
    count_cons (n % 2) (bits_of d (n / 2)) (mod-lt n (zero-lt-suc 1))
    ∙ ap (λ (x : ℕ). n % 2 + x) (count_all d (n / 2) (omega arith))
    ∙ sym (ones_step n)

-- `trailing_zeros(n)`: the lowest set digit, where one of the e lowest is set
pub trailing_lowest : (d e n : ℕ) → e ≤ d → 0 < count (bits_of e n) → count_trailing_zeros d n ≡ lowest (bits_of e n)
unfolding bits_of count_trailing_zeros
trailing_lowest d zero n h p = absurd (not-suc-le-zero p)
trailing_lowest zero (suc e) n h p = absurd (not-suc-le-zero h)
trailing_lowest (suc d) (suc e) n h p = go (trailing_lowest d e (n / 2) (le_of_suc-le-suc h)) (n % 2) p
  where
    go : (0 < count (bits_of e (n / 2)) → count_trailing_zeros d (n / 2) ≡ lowest (bits_of e (n / 2)))
        → (r : ℕ) → 0 < count (is_one r ∷ bits_of e (n / 2)) → under r (count_trailing_zeros d (n / 2)) ≡ lowest (is_one r ∷ bits_of e (n / 2))
    go rest zero q = ap suc (rest q)
    go rest (suc r) q = refl

-- ---- `|` and `&` with one bit

-- a number made of a digit and the rest
pub bits_cons : (d q r n : ℕ) → n ≡ q * 2 + r → r < 2 → bits_of (suc d) n ≡ is_one r ∷ bits_of d q
unfolding bits_of
bits_cons d q r n e h =
    let low : n % 2 ≡ r = omega arith in
    let high : n / 2 ≡ q = omega arith in
    rw (low, high)

pub half_pow : (k : ℕ) → 2 ^ suc k / 2 ≡ 2 ^ k
half_pow k = let p = pow-suc 2 k in omega arith

pub even_pow : (k : ℕ) → 2 ^ suc k % 2 ≡ 0
even_pow k = let p = pow-suc 2 k in omega arith

-- `n | 1 << k`: digit k is set, the others stay
pub or_bit : (d n k : ℕ) → k < d → bits_of d (bit_or n (2 ^ k)) ≡ set (bits_of d n) k true
unfolding bits_of
or_bit zero n k h = absurd (not-suc-le-zero h)
or_bit (suc d) n zero h =
    bits_cons d (n / 2) 1 (bit_or n 1)
    (or_step n 1 ∙ ap₂ (λ (x y : ℕ). x * 2 + y) (or_zero_r (n / 2)) (omega arith)) (omega arith)
or_bit (suc d) n (suc k) h =
    bits_cons d (bit_or (n / 2) (2 ^ k)) (n % 2) (bit_or n (2 ^ suc k))
    (or_step n (2 ^ suc k) ∙ ap₂ (λ (x y : ℕ). bit_or (n / 2) x * 2 + max (n % 2) y) (half_pow k) (even_pow k)
    ∙ ap (λ (x : ℕ). bit_or (n / 2) (2 ^ k) * 2 + x) (max-zero (n % 2)))
    (omega arith)
    ∙ ap (λ (bs : List Bool). is_one (n % 2) ∷ bs) (or_bit d (n / 2) k (le_of_suc-le-suc h))

-- `n & 1 << k`
pub and_bit : (n k : ℕ) → bit_and n (2 ^ k) ≡ n / 2 ^ k % 2 * 2 ^ k
and_bit n k =
    let p : 2 ^ (1 + k) - 2 ^ k ≡ 2 ^ k = rw one-add (let q = pow-suc 2 k in omega arith) in
    ap (bit_and n) (sym p) ∙ and_high n 1 k

-- the digits of the d lowest are those of any longer end
bits_low : (d w n : ℕ) → d ≤ w → bits_of d (n % 2 ^ w) ≡ bits_of d n
unfolding bits_of
bits_low zero w n h = refl
bits_low (suc d) zero n h = absurd (not-suc-le-zero h)
bits_low (suc d) (suc w) n h =
    bits_cons d (n / 2 % 2 ^ w) (n % 2) (n % 2 ^ suc w) (low_step n w) (mod-lt n (zero-lt-suc 1))
    ∙ ap (λ (bs : List Bool). is_one (n % 2) ∷ bs) (bits_low d w (n / 2) (le_of_suc-le-suc h))

-- `n & !(1 << k)`: digit k is cleared, the others stay. `!x` is `2 ^ w - 1 - x`
pub and_not_bit : (d w n k : ℕ) → d ≤ w → k < d → bits_of d (bit_and n (2 ^ w - 1 - 2 ^ k)) ≡ set (bits_of d n) k false
unfolding bits_of
and_not_bit zero w n k h l = absurd (not-suc-le-zero l)
and_not_bit (suc d) zero n k h l = absurd (not-suc-le-zero h)
and_not_bit (suc d) (suc w) n zero h l =
    let p = pow-suc 2 w in
    let x : ℕ = 2 ^ suc w - 1 - 1 in
    let half : x / 2 ≡ 2 ^ w - 1 = omega (arith, pow_pos w) in
    let odd : x % 2 ≡ 0 = omega (arith, pow_pos w) in
    bits_cons d (n / 2 % 2 ^ w) 0 (bit_and n x)
    (and_step n x ∙ ap₂ (λ (y z : ℕ). bit_and (n / 2) y * 2 + min (n % 2) z) half odd
    ∙ ap₂ (λ (y z : ℕ). y * 2 + z) (and_mask (n / 2) w) (min-zero (n % 2))) (omega arith)
    ∙ ap (λ (bs : List Bool). false ∷ bs) (bits_low d w (n / 2) (le_of_suc-le-suc h))
and_not_bit (suc d) (suc w) n (suc k) h l =
    let p = pow-suc 2 w in
    let q = pow-suc 2 k in
    let x : ℕ = 2 ^ suc w - 1 - 2 ^ suc k in
    let m : 2 ^ suc k ≤ 2 ^ w = pow_mono (omega arith) in
    let half : x / 2 ≡ 2 ^ w - 1 - 2 ^ k = omega (arith, pow_pos w) in
    let odd : x % 2 ≡ 1 = omega (arith, pow_pos w) in
    bits_cons d (bit_and (n / 2) (2 ^ w - 1 - 2 ^ k)) (n % 2) (bit_and n x)
    (and_step n x ∙ ap₂ (λ (y z : ℕ). bit_and (n / 2) y * 2 + min (n % 2) z) half odd
    ∙ ap (λ (z : ℕ). bit_and (n / 2) (2 ^ w - 1 - 2 ^ k) * 2 + z) (min-eq_left (omega arith))) (mod-lt n (zero-lt-suc 1))
    ∙ ap (λ (bs : List Bool). is_one (n % 2) ∷ bs) (and_not_bit d w (n / 2) k (le_of_suc-le-suc h) (le_of_suc-le-suc l))

-- ---- a number and its digits

pub number_bits : (d n : ℕ) → n < 2 ^ d → number_of (bits_of d n) ≡ n
unfolding bits_of number_of
number_bits zero n h = omega arith
number_bits (suc d) n h =
    let q = pow-suc 2 d in
    go (n % 2) refl (number_bits d (n / 2) (omega arith))
  where
    go : (r : ℕ) → n % 2 ≡ r → number_of (bits_of d (n / 2)) ≡ n / 2 → number_of (is_one r ∷ bits_of d (n / 2)) ≡ n
    go zero e ih = omega arith
    go (suc zero) e ih = omega arith
    go (suc (suc r)) e ih = absurd (omega (arith, mod-lt n (zero-lt-suc 1)))

pub bits_number : (bs : List Bool) → bits_of (length bs) (number_of bs) ≡ bs
unfolding bits_of number_of
bits_number [] = refl
bits_number (false ∷ bs) = bits_cons (length bs) (number_of bs) 0 (number_of bs * 2) (omega arith) (omega arith) ∙ ap (λ (cs : List Bool). false ∷ cs) (bits_number bs)
bits_number (true ∷ bs) = bits_cons (length bs) (number_of bs) 1 (suc (number_of bs * 2)) (omega arith) (omega arith) ∙ ap (λ (cs : List Bool). true ∷ cs) (bits_number bs)

pub number_lt : (bs : List Bool) → number_of bs < 2 ^ length bs
unfolding number_of
number_lt [] = omega arith
number_lt (false ∷ bs) = let q = pow-suc 2 (length bs) in omega (arith, number_lt bs)
number_lt (true ∷ bs) = let q = pow-suc 2 (length bs) in omega (arith, number_lt bs)

-- the number with these digits
pub number_is : (d n : ℕ) (bs : List Bool) → n < 2 ^ d → bits_of d n ≡ bs → n ≡ number_of bs
number_is d n bs h e = sym (number_bits d n h) ∙ ap number_of e

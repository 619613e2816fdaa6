-- What the functions of `bits` compute, in the machine's own terms, is what their contracts say. `1 << slot` is `1 * 2 ^ slot % 2 ^ 32` there.
-- Assumes nothing.
use mathlib.Core.Path.{◌≡◌, sym, ◌∙◌}
use mathlib.Core.Bool.{true, false, not}
use Prim.Native.Nat.{ℕ, zero, suc, ◌-◌, ◌*◌, ◌/◌, ◌%◌, ◌^◌, ◌≤◌, ◌<◌, suc-le-suc}
use native.Mathlib.Nat.{mod-lt, one-mul, zero-lt-suc, le_trans, lt_of_le_of_lt, zero-mul, not-suc-le-zero, le_of_suc-le-suc}
use native.Mathlib.Omega.{arith}
use lib.ListN.{get_or, set, take}
use lib.Dec.{eqb}
use borrow.Author.Tests.{ne_eqb}
use lib.Pow.{shl_exact, pow-lt, pow_pos}
use lib.Bits.{bit_and, bit_or, or_lt, and_le_l, and_mask}
use lib.Count.{ones, count_trailing_zeros}
use Rattle.bitmap.specs.Bits.{is_one, bits_of, count, lowest}
use Rattle.bitmap.proofs.BitLaws.{bit_at, count_below, count_all, trailing_lowest, and_bit, or_bit, and_not_bit, length_bits}
use Rattle.bitmap.proofs.EntryLaws.{count_take, count_le, lowest_lt}

abbrev pub bit : ℕ → ℕ
bit k = 1 * 2 ^ k % 4294967296

pub bit_is : (k : ℕ) → k ≤ 16 → bit k ≡ 2 ^ k
bit_is k h = shl_exact 1 k 32 (omega arith) (omega arith) ∙ one-mul (2 ^ k)

tested : (r p : ℕ) → r < 2 → 0 < p → not (eqb (r * p) 0) ≡ is_one r
tested zero p h l = rw zero-mul
tested (suc zero) p h l = rw (one-mul, ne_eqb p 0 (λ e. omega arith))
tested (suc (suc r)) p h l = absurd (not-suc-le-zero (le_of_suc-le-suc (le_of_suc-le-suc h)))

pub present_is : (n k : ℕ) → k ≤ 16 → not (eqb (bit_and n (bit k)) 0) ≡ get_or (bits_of 17 n) k false
present_is n k h =
    rw (bit_is k h, and_bit)
    (tested (n / 2 ^ k % 2) (2 ^ k) (mod-lt (n / 2 ^ k) (zero-lt-suc 1)) (pow_pos k) ∙ sym (bit_at 17 n k (omega arith)))

pub place_is : (n k : ℕ) → k ≤ 16 → (ones (bit_and n (bit k - 1)) ≡ count (take k (bits_of 17 n))) × (ones (bit_and n (bit k - 1)) ≤ 16)
place_is n k h =
    let e : ones (bit_and n (bit k - 1)) ≡ count (take k (bits_of 17 n)) = rw (bit_is k h, and_mask) (sym (count_below 17 n k (omega arith))) in
    (e, rw e (le_trans (count_take (bits_of 17 n) k) h))

pub count_is : (n : ℕ) → n < 131072 → (ones n ≡ count (bits_of 17 n)) × (ones n ≤ 17)
count_is n h =
    let e = sym (count_all 17 n h) in
    (e, omega (arith, count_le (bits_of 17 n), length_bits 17 n))

pub lowest_is : (n : ℕ) → 0 < count (bits_of 17 n) → (count_trailing_zeros 32 n ≡ lowest (bits_of 17 n)) × (count_trailing_zeros 32 n ≤ 16)
lowest_is n h =
    let e = trailing_lowest 32 17 n (omega arith) h in
    (e, omega (arith, lowest_lt (bits_of 17 n) h, length_bits 17 n))

pub with_is : (n k : ℕ) → n < 131072 → k ≤ 16 → (bits_of 17 (bit_or n (bit k)) ≡ set (bits_of 17 n) k true) × (bit_or n (bit k) < 131072)
with_is n k l h = rw (bit_is k h) (or_bit 17 n k (omega arith), or_lt 17 n (2 ^ k) l (pow-lt (suc-le-suc h)))

pub without_is : (n k : ℕ) → n < 131072 → k ≤ 16
    → (bits_of 17 (bit_and n (4294967295 - bit k)) ≡ set (bits_of 17 n) k false) × (bit_and n (4294967295 - bit k) < 131072)
without_is n k l h = rw (bit_is k h) (and_not_bit 17 32 n k (omega arith) (omega arith), lt_of_le_of_lt (and_le_l n (4294967295 - 2 ^ k)) l)

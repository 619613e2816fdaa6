-- The nibble at a position by the byte that code reads: half p % 2 of byte p / 2.
-- Assumes nothing.
use Prim.Native.Nat.{ℕ, zero, suc, ◌+◌, ◌/◌, ◌%◌, ◌≤◌, ◌<◌}
use mathlib.Core.Path.{◌≡◌, refl, sym, ◌∙◌, ap}
use mathlib.Core.List.{List, [], ◌∷◌}
use native.Mathlib.Omega.{arith}
use lib.ListN.{length, get_or}
use Rattle.model.specs.Key.{Bytes}
use Rattle.model.specs.Nibble.{nibble, slot_count}

pub nibble_high : (k : List ℕ) (p : ℕ) → p / 2 < length k → p % 2 ≡ 0 → nibble k p ≡ get_or k (p / 2) 0 / 16 + 1
unfolding nibble
nibble_high [] p h e = absurd (omega arith)
nibble_high (b ∷ k) zero h e = omega arith
nibble_high (b ∷ k) (suc zero) h e = absurd (omega arith)
nibble_high (b ∷ k) (suc (suc p)) h e =
    let q : suc (suc p) / 2 ≡ suc (p / 2) = omega arith in
    nibble_high k p (omega arith) (omega arith) ∙ ap (λ (i : ℕ). get_or (b ∷ k) i 0 / 16 + 1) (sym q)

pub nibble_low : (k : List ℕ) (p : ℕ) → p / 2 < length k → p % 2 ≡ 1 → nibble k p ≡ get_or k (p / 2) 0 % 16 + 1
unfolding nibble
nibble_low [] p h e = absurd (omega arith)
nibble_low (b ∷ k) zero h e = absurd (omega arith)
nibble_low (b ∷ k) (suc zero) h e = omega arith
nibble_low (b ∷ k) (suc (suc p)) h e =
    let q : suc (suc p) / 2 ≡ suc (p / 2) = omega arith in
    nibble_low k p (omega arith) (omega arith) ∙ ap (λ (i : ℕ). get_or (b ∷ k) i 0 % 16 + 1) (sym q)

pub nibble_past : (k : List ℕ) (p : ℕ) → length k ≤ p / 2 → nibble k p ≡ 0
unfolding nibble
nibble_past [] p h = refl
nibble_past (b ∷ k) zero h = absurd (omega arith)
nibble_past (b ∷ k) (suc zero) h = absurd (omega arith)
nibble_past (b ∷ k) (suc (suc p)) h = nibble_past k p (omega arith)

-- Within the key a nibble is never 0, and a nibble of bytes is a slot.
pub nibble_within : (k : List ℕ) (p : ℕ) → p / 2 < length k → 1 ≤ nibble k p
unfolding nibble
nibble_within [] p h = absurd (omega arith)
nibble_within (b ∷ k) zero h = omega arith
nibble_within (b ∷ k) (suc zero) h = omega arith
nibble_within (b ∷ k) (suc (suc p)) h = nibble_within k p (omega arith)

pub nibble_slot : (k : List ℕ) (p : ℕ) → Bytes k → nibble k p < slot_count
unfolding nibble
nibble_slot [] p h = omega arith
nibble_slot (b ∷ k) zero h = omega arith
nibble_slot (b ∷ k) (suc zero) h = omega arith
nibble_slot (b ∷ k) (suc (suc p)) h = nibble_slot k p h.1

-- The critical position by the bytes that code compares: the first that differ, or the shorter key's end.
-- Assumes nothing.
use Prim.Native.Nat.{ℕ, zero, suc, ◌+◌, ◌*◌, ◌/◌, ◌%◌, ◌≤◌, ◌<◌}
use mathlib.Core.Path.{◌≡◌, refl, sym, ◌∙◌, ap}
use mathlib.Core.Logic.{◌≢◌}
use mathlib.Core.List.{List, [], ◌∷◌, ◌++◌}
use native.Mathlib.Omega.{arith}
use lib.ListN.{length, get_or}
use Rattle.model.specs.Nibble.{nibble, critical, Agree}
use Rattle.model.proofs.Compare.{compare_self}
use Rattle.model.proofs.KeyLaws.{agree_zero, agree_cons, agree_less, agree_more, critical_only}
use Rattle.model.proofs.NibbleAt.{nibble_high, nibble_low}

-- Keys that have i bytes and the same ones agree on the nibbles of these.
pub agree_bytes : (k l : List ℕ) (i : ℕ) → i ≤ length k → i ≤ length l → ((j : ℕ) → j < i → get_or k j 0 ≡ get_or l j 0) → Agree (2 * i) k l
agree_bytes k l zero a b h = agree_zero k l
agree_bytes [] l (suc i) a b h = absurd (omega arith)
agree_bytes (x ∷ k) [] (suc i) a b h = absurd (omega arith)
agree_bytes (x ∷ k) (y ∷ l) (suc i) a b h =
    let e : x ≡ y = h 0 (omega arith) in
    agree_less {p = suc (suc (2 * i))} (omega arith) (rw e (agree_cons y (agree_bytes k l i (omega arith) (omega arith) (λ j z. h (suc j) (omega arith)))))

module _ (k l : List ℕ) (i : ℕ) (h : (j : ℕ) → j < i → get_or k j 0 ≡ get_or l j 0) where
  high : (m : List ℕ) → i < length m → nibble m (2 * i) ≡ get_or m i 0 / 16 + 1
  high m a = nibble_high m (2 * i) (omega arith) (omega arith) ∙ ap (λ (j : ℕ). get_or m j 0 / 16 + 1) (omega arith)

  low : (m : List ℕ) → i < length m → nibble m (suc (2 * i)) ≡ get_or m i 0 % 16 + 1
  low m a = nibble_low m (suc (2 * i)) (omega arith) (omega arith) ∙ ap (λ (j : ℕ). get_or m j 0 % 16 + 1) (omega arith)

  -- Byte i differs: in its high half, or only in its low half.
  pub critical_high : i < length k → i < length l → get_or k i 0 / 16 ≢ get_or l i 0 / 16 → critical k l ≡ 2 * i
  critical_high a b d =
      sym (critical_only k l (2 * i) (agree_bytes k l i (omega arith) (omega arith) h) (λ e. d (omega (arith, high k a, high l b))))

  pub critical_low : i < length k → i < length l → get_or k i 0 / 16 ≡ get_or l i 0 / 16 → get_or k i 0 % 16 ≢ get_or l i 0 % 16 → critical k l ≡ 2 * i + 1
  critical_low a b e d =
      omega (
        arith,
        critical_only k l (suc (2 * i)) (agree_more (agree_bytes k l i (omega arith) (omega arith) h) (omega (arith, high k a, high l b)))
            (λ z. d (omega (arith, low k a, low l b))),
      )

-- One key ends where they have not differed: at the end of either, also where both end there.
critical_cons : (b : ℕ) (k l : List ℕ) → critical (b ∷ k) (b ∷ l) ≡ suc (suc (critical k l))
unfolding critical
critical_cons b k l = rw (compare_self (b / 16), compare_self (b % 16))

pub critical_left : (k l : List ℕ) → length k ≤ length l → ((j : ℕ) → j < length k → get_or k j 0 ≡ get_or l j 0) → critical k l ≡ 2 * length k
critical_left [] l a h = unfold critical in refl
critical_left (x ∷ k) [] a h = absurd (omega arith)
critical_left (x ∷ k) (y ∷ l) a h =
    let e : x ≡ y = h 0 (omega arith) in
    let i = critical_left k l (omega arith) (λ j z. h (suc j) (omega arith)) in
    rw e (omega (arith, critical_cons y k l))

pub critical_right : (k l : List ℕ) → length l ≤ length k → ((j : ℕ) → j < length l → get_or k j 0 ≡ get_or l j 0) → critical k l ≡ 2 * length l
critical_right [] [] a h = unfold critical in refl
critical_right [] (y ∷ l) a h = absurd (omega arith)
critical_right (x ∷ k) [] a h = unfold critical in refl
critical_right (x ∷ k) (y ∷ l) a h =
    let e : x ≡ y = h 0 (omega arith) in
    let i = critical_right k l (omega arith) (λ j z. h (suc j) (omega arith)) in
    rw e (omega (arith, critical_cons y k l))

-- "For a proper prefix it is 2 x the shorter length."
pub critical_prefix : (k l : List ℕ) → critical k (k ++ l) ≡ 2 * length k
critical_prefix [] l = unfold critical in refl
critical_prefix (b ∷ k) l = omega (arith, critical_cons b k (k ++ l), critical_prefix k l)

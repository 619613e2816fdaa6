-- Nibbles and critical positions as code works them out, by the bytes. Assumes nothing.
use Prim.Native.Nat.{ℕ, ◌+◌, ◌*◌, ◌/◌, ◌≤◌, ◌<◌}
use mathlib.Core.Path.{◌≡◌, sym, ap, subst, ◌∙◌}
use mathlib.Core.List.{List}
use native.Mathlib.Omega.{arith}
use lib.ListN.{length, get_or}
use mir.Syntax.{w64}
use mir.Val.{Fits}
use Rattle.model.specs.Key.{key_limit}
use Rattle.model.specs.Nibble.{critical}
use Rattle.model.proofs.CriticalAt.{critical_high, critical_low, critical_left, critical_right}
use Rattle.fields.specs.Common.{common}
use Rattle.fields.proofs.CommonLaws.{common_first, common_second, common_agree, common_differ}

module _ (k l : List ℕ) (n : ℕ) (is : n ≡ common k l) where
  agree : (j : ℕ) → j < n → get_or k j 0 ≡ get_or l j 0
  agree j h = common_agree k l j (omega arith)

  pub doubled_fits : length k ≤ key_limit → Fits w64 (2 * n)
  doubled_fits h = record { fits = omega (arith, common_first k l) }

  pub first_ended : length k ≤ n → 2 * n ≡ critical k l
  first_ended h =
      let e : n ≡ length k = omega (arith, common_first k l) in
      ap (λ (z : ℕ). 2 * z) e ∙ sym (critical_left k l (omega (arith, common_second k l)) (λ j m. agree j (omega arith)))

  pub second_ended : length l ≤ n → 2 * n ≡ critical k l
  second_ended h =
      let e : n ≡ length l = omega (arith, common_second k l) in
      ap (λ (z : ℕ). 2 * z) e ∙ sym (critical_right k l (omega (arith, common_first k l)) (λ j m. agree j (omega arith)))

  module _ (h : n < length k) (m : n < length l) where
    pub halves_differ : (get_or k n 0 / 16 ≡ get_or l n 0 / 16 → ⊥) → 2 * n ≡ critical k l
    halves_differ ne = sym (critical_high k l n agree h m ne)

    pub lows_differ : get_or k n 0 / 16 ≡ get_or l n 0 / 16 → 2 * n + 1 ≡ critical k l
    lows_differ e = sym (critical_low k l n agree h m e (λ q. other (omega arith)))
      where
        other : get_or k n 0 ≡ get_or l n 0 → ⊥
        other q = common_differ k l (omega arith) (omega arith) (subst (λ (z : ℕ). get_or k z 0 ≡ get_or l z 0) is q)

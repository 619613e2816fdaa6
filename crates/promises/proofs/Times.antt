-- A key that is found in a sorted list stands in it once.
-- Assumes nothing.
use Prim.Native.Nat.{ℕ, ◌+◌, Ordering}
use mathlib.Core.Path.{◌≡◌, refl}
use mathlib.Core.Logic.{◌≢◌}
use mathlib.Core.List.{List, [], ◌∷◌}
use mathlib.Core.Option.{none, some}
use native.Mathlib.Omega.{arith}
use Rattle.model.specs.Key.{on_equal}
use Rattle.model.specs.Map.{Entry, All, lookup}
use Rattle.model.proofs.Less.{Sorted}
use Rattle.model.proofs.KeyLaws.{Ordered, before, equal, after, ordered, key_other}
use Rattle.model.proofs.MapLaws.{all_not_below}
use Rattle.promises.specs.Moments.{times}

-- A key that is not in a list stands in it no time, and one that is found in a sorted list once.
times_none : (k : List ℕ) (m : List Entry) → All (λ l. k ≢ l) m → times k m ≡ 0
times_none k [] a = refl
times_none k (e ∷ m) a = let h = key_other {A = ℕ} a.0 1 0 in let i = times_none k m a.1 in omega arith

pub times_once : (k : List ℕ) (m : List Entry) → Sorted m → lookup k m ≢ none → times k m ≡ 1
times_once k [] s h = absurd (h refl)
times_once k (e ∷ m) s h = go (ordered k e.0) h (times_once k m s.1)
  where
    go : {o : Ordering} → Ordered k e.0 o → on_equal o (some e.1) (lookup k m) ≢ none → (lookup k m ≢ none → times k m ≡ 1)
        → on_equal o 1 0 + times k m ≡ 1
    go (before a) g ih = omega (arith, ih g)
    go (equal a) g ih = omega (arith, times_none k m (rw a (all_not_below e.0 m s.0)))
    go (after a) g ih = omega (arith, ih g)

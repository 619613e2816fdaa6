-- The functions of a page: a law for each way out. Assumes nothing.
use Prim.Native.Nat.{ℕ, suc, ◌≤◌, ◌<◌, compare, Ordering}
use mathlib.Core.Path.{◌≡◌, refl, sym, ap, ◌∙◌}
use mathlib.Core.Bool.{Bool, true, false, cond}
use mathlib.Core.List.{List, [], ◌∷◌}
use mathlib.Core.Option.{none, some}
use native.Mathlib.Omega.{arith}
use native.Mathlib.Decide.{ℕ_discrete}
use lib.Dec.{eqb}
use lib.ListN.{length}
use borrow.Author.Tests.{eq-eqb, ne_eqb}
use Rattle.model.specs.Key.{order, on_equal, starts_with}
use Rattle.model.specs.Nibble.{nibble, critical}
use Rattle.model.proofs.Compare.{Said, lower, same, higher, said, compare_lt, compare_eq, compare_gt}
use Rattle.model.proofs.KeyLaws.{critical_order}
use Rattle.fields.specs.Common.{common}
use Rattle.pictures.specs.After.{passes}
use Rattle.walk.specs.Walk.{Met, Sheet, sheet, is_stopped, add, put, puts}
use Rattle.iterator.specs.Page.{blank}
use Rattle.walk.specs.declared.walk.Progress.{Progress}

-- ---- keys

common_prefix : (q k : List ℕ) → eqb (common q k) (length q) ≡ starts_with q k
unfolding common
common_prefix [] k = eq-eqb 0 0 refl
common_prefix (x ∷ q) [] = ne_eqb 0 (suc (length q)) (λ e. omega arith)
common_prefix (x ∷ q) (y ∷ k) = go (common_prefix q k) (said x y)
  where
    go : eqb (common q k) (length q) ≡ starts_with q k → {o : Ordering} → Said x y o → eqb (cond (eqb x y) (suc (common q k)) 0) (suc (length q)) ≡ on_equal o (starts_with q k) false
    go ih (lower h) = rw (ne_eqb x y (λ e. omega arith)) (ne_eqb 0 (suc (length q)) (λ e. omega arith))
    go ih (same h) = rw (eq-eqb x y h) (shift (common q k) (length q) ∙ ih)
      where
        shift : (a b : ℕ) → eqb (suc a) (suc b) ≡ eqb a b
        shift a b = by (ℕ_discrete a b)
          where
            by : Dec (a ≡ b) → eqb (suc a) (suc b) ≡ eqb a b
            by (yes e) = eq-eqb (suc a) (suc b) (ap suc e) ∙ sym (eq-eqb a b e)
            by (no d) = ne_eqb (suc a) (suc b) (λ e. d (omega arith)) ∙ sym (ne_eqb a b d)
    go ih (higher h) = rw (ne_eqb x y (λ e. omega arith)) (ne_eqb 0 (suc (length q)) (λ e. omega arith))

pub starts_is : (q k : List ℕ) (i : ℕ) → i ≡ common q k → eqb i (length q) ≡ starts_with q k
starts_is q k i e = rw e (common_prefix q k)

-- the order of two keys by their nibbles at the critical position
module _ (too : Bool) (b k : List ℕ) (c x y : ℕ) (is : c ≡ critical b k) (ex : x ≡ nibble b c) (ey : y ≡ nibble k c) where
  by_nibbles : order b k ≡ compare x y
  by_nibbles = rw (ex, ey, is) (critical_order b k)

  pub past_higher : x < y → true ≡ passes too b k
  past_higher h = rw (by_nibbles, compare_lt h)

  pub past_lower : y < x → false ≡ passes too b k
  past_lower h = rw (by_nibbles, compare_gt h)

  pub past_equal : y ≤ x → x ≤ y → too ≡ passes too b k
  past_equal h g = let e : x ≡ y = omega arith in rw (by_nibbles, compare_eq e)

-- ---- what a walk comes to

-- no entry more is left than there was
put_left : (x : Met) (s : Sheet) → (put x s).left ≤ s.left
put_left x s = go (is_stopped s.stop) x (eqb s.left 0)
  where
    some_left : (e : Bool) (a b : Sheet) → a.left ≤ s.left → b.left ≤ s.left → (cond e a b).left ≤ s.left
    some_left true a b h g = h
    some_left false a b h g = g

    go : (b : Bool) (y : Met) (e : Bool) → (cond b s (add y s)).left ≤ s.left
    go true y e = omega arith
    go false none e = omega arith
    go false (some d) e = some_left (eqb s.left 0) _ _ (omega arith) (omega arith)

pub puts_left : (xs : List Met) (s : Sheet) → (puts xs s).left ≤ s.left
unfolding puts
puts_left [] s = omega arith
puts_left (x ∷ xs) s = omega (arith, puts_left xs (put x s), put_left x s)

pub left_below : (xs : List Met) (out out' : List ℕ) (p : Progress) (n : ℕ) → sheet out' p ≡ puts xs (blank out n) → p.left ≤ n
left_below xs out out' p n e = omega (arith, puts_left xs (blank out n), ap (λ (s : Sheet). s.left) e)

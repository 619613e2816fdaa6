-- Laws of "starts with".
-- Assumes nothing.
use Prim.Native.Nat.{ℕ, zero, suc, ◌*◌, ◌/◌, ◌%◌, ◌<◌, compare, Ordering}
use mathlib.Core.Path.{◌≡◌, refl, ◌∙◌, ap, ap₂, sym}
use mathlib.Core.Logic.{◌≢◌}
use mathlib.Core.Bool.{Bool, true, false}
use mathlib.Core.List.{List, [], ◌∷◌, ◌++◌}
use native.Mathlib.Omega.{arith}
use lib.ListN.{length}
use Rattle.model.specs.Key.{on_equal, starts_with, order, and_then}
use Rattle.model.specs.Nibble.{nibble, Agree}
use Rattle.model.proofs.Compare.{Said, lower, same, higher, said, compare_self}
use Rattle.model.proofs.Less.{Less}
use Rattle.model.proofs.KeyLaws.{agree_less, Ordered, before, equal, after, ordered, less_trans, less_differs}

-- A key starts with a prefix exactly if it is the prefix and a rest.
pub starts_append : (q l : List ℕ) → starts_with q (q ++ l) ≡ true
starts_append [] l = refl
starts_append (x ∷ q) l = rw (compare_self x) (starts_append q l)

pub starts_split : (q k : List ℕ) → starts_with q k ≡ true → (l : List ℕ) × (k ≡ q ++ l)
starts_split [] k h = (k, refl)
starts_split (x ∷ q) [] h = absurd (let z : ◌≡◌ {A = ℕ} 0 1 = cc in omega arith)
starts_split (x ∷ q) (y ∷ k) h = go (said x y) h (starts_split q k)
  where
    go : {o : Ordering} → Said x y o → on_equal o (starts_with q k) false ≡ true → (starts_with q k ≡ true → (l : List ℕ) × (k ≡ q ++ l))
        → (l : List ℕ) × (y ∷ k ≡ x ∷ (q ++ l))
    go (lower e) a ih = absurd (let z : ◌≡◌ {A = ℕ} 0 1 = cc in omega arith)
    go (same e) a ih = let i = ih a in (i.0, λ j. sym e j ∷ i.1 j)
    go (higher e) a ih = absurd (let z : ◌≡◌ {A = ℕ} 0 1 = cc in omega arith)

-- Keys that agree as far as a prefix reaches start with it both or neither.
agree_tail : {p x y : ℕ} {k l : List ℕ} → Agree (suc (suc p)) (x ∷ k) (y ∷ l) → Agree p k l
unfolding nibble
agree_tail a = record { on = λ i h. a.on (suc (suc i)) (omega arith) }

agree_head : {p x y : ℕ} {k l : List ℕ} → Agree (suc (suc p)) (x ∷ k) (y ∷ l) → x ≡ y
unfolding nibble
agree_head {p} {x} {y} a =
    let h : suc (x / 16) ≡ suc (y / 16) = a.on 0 (omega arith) in
    let l : suc (x % 16) ≡ suc (y % 16) = a.on 1 (omega arith) in
    omega arith

pub starts_same : (q k l : List ℕ) → Agree (2 * length q) k l → starts_with q k ≡ starts_with q l
starts_same [] k l a = refl
starts_same (x ∷ q) [] [] a = refl
starts_same (x ∷ q) [] (z ∷ l) a = absurd (let e : 0 ≡ suc (z / 16) = unfold nibble in a.on 0 (omega arith) in omega arith)
starts_same (x ∷ q) (y ∷ k) [] a = absurd (let e : suc (y / 16) ≡ 0 = unfold nibble in a.on 0 (omega arith) in omega arith)
starts_same (x ∷ q) (y ∷ k) (z ∷ l) a =
    let b : Agree (suc (suc (2 * length q))) (y ∷ k) (z ∷ l) = agree_less (omega arith) a in
    ap₂ (λ (i : ℕ) (j : Bool). on_equal (compare x i) j false) (agree_head b) (starts_same q k l (agree_tail b))

-- A key that differs from the prefix within it does not start with it.
pub starts_not : (q k : List ℕ) (p : ℕ) → p < 2 * length q → nibble q p ≢ nibble k p → starts_with q k ≡ false
unfolding nibble
starts_not [] k p h d = absurd (omega arith)
starts_not (x ∷ q) [] p h d = refl
starts_not (x ∷ q) (y ∷ k) zero h d = go (said x y)
  where
    go : {o : Ordering} → Said x y o → on_equal o (starts_with q k) false ≡ false
    go (lower e) = refl
    go (same e) = absurd (d (ap (λ (z : ℕ). suc (z / 16)) e))
    go (higher e) = refl
starts_not (x ∷ q) (y ∷ k) (suc zero) h d = go (said x y)
  where
    go : {o : Ordering} → Said x y o → on_equal o (starts_with q k) false ≡ false
    go (lower e) = refl
    go (same e) = absurd (d (ap (λ (z : ℕ). suc (z % 16)) e))
    go (higher e) = refl
starts_not (x ∷ q) (y ∷ k) (suc (suc p)) h d = go (said x y) (starts_not q k p (omega arith) d)
  where
    go : {o : Ordering} → Said x y o → starts_with q k ≡ false → on_equal o (starts_with q k) false ≡ false
    go (lower e) ih = refl
    go (same e) ih = ih
    go (higher e) ih = refl

starts_order : (q k : List ℕ) → starts_with q k ≡ true → order q k ≡ Ordering.gt → ⊥
unfolding order
starts_order [] [] s e = let z : ◌≡◌ {A = ℕ} 0 1 = cc in omega arith
starts_order [] (y ∷ k) s e = let z : ◌≡◌ {A = ℕ} 0 1 = cc in omega arith
starts_order (x ∷ q) [] s e = let z : ◌≡◌ {A = ℕ} 0 1 = cc in omega arith
starts_order (x ∷ q) (y ∷ k) s e = go (said x y) s e (starts_order q k)
  where
    go : {o : Ordering} → Said x y o → on_equal o (starts_with q k) false ≡ true → and_then o (order q k) ≡ Ordering.gt → (starts_with q k ≡ true → order q k ≡ Ordering.gt → ⊥) → ⊥
    go (lower h) a b ih = let z : ◌≡◌ {A = ℕ} 0 1 = cc in omega arith
    go (same h) a b ih = ih a b
    go (higher h) a b ih = let z : ◌≡◌ {A = ℕ} 0 1 = cc in omega arith

pub starts_below : (q k l : List ℕ) → starts_with q k ≡ true → Less k l → q ≢ l
starts_below q k l s h = go (ordered q k) refl
  where
    go : {o : Ordering} → Ordered q k o → order q k ≡ o → q ≢ l
    go (before a) e = less_differs (less_trans a h)
    go (equal a) e = λ z. less_differs h (sym a ∙ z)
    go (after a) e = absurd (starts_order q k s e)

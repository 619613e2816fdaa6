-- What two byte strings have in common from the front: they agree up to there, differ there, and are equal exactly if it is all of both.
-- Assumes nothing.
use mathlib.Core.Path.{◌≡◌, refl, ap, sym, ◌∙◌}
use mathlib.Core.Bool.{Bool, true, false, cond, false≢true}
use mathlib.Core.List.{List, [], ◌∷◌}
use Prim.Native.Nat.{ℕ, min, zero, suc, ◌+◌, ◌≤◌, ◌<◌}
use native.Mathlib.Nat.{le_of_suc-le-suc}
use native.Mathlib.Omega.{arith}
use lib.Dec.{eqb}
use native.Mathlib.Decide.{dec_lt}
use mir.Val.{Fits}
use mir.Syntax.{w8}
use lib.ListN.{length, get_or}
use lib.Seq.{ext_get_or}
use borrow.Author.Tests.{eqb-true, eqb-false, eq-eqb, ne_eqb}
use Rattle.fields.specs.Common.{common, Says, Agree}
use Rattle.fields.specs.Number.{little}
use Rattle.fields.proofs.NumberLaws.{little_one, little_alike}

pub common_first : (xs ys : List ℕ) → common xs ys ≤ length xs
unfolding common
common_first [] ys = omega arith
common_first (x ∷ xs) [] = omega arith
common_first (x ∷ xs) (y ∷ ys) = go (eqb x y) (common_first xs ys)
  where
    go : (t : Bool) → common xs ys ≤ length xs → cond t (suc (common xs ys)) 0 ≤ suc (length xs)
    go true h = omega arith
    go false h = omega arith

pub common_second : (xs ys : List ℕ) → common xs ys ≤ length ys
unfolding common
common_second [] ys = omega arith
common_second (x ∷ xs) [] = omega arith
common_second (x ∷ xs) (y ∷ ys) = go (eqb x y) (common_second xs ys)
  where
    go : (t : Bool) → common xs ys ≤ length ys → cond t (suc (common xs ys)) 0 ≤ suc (length ys)
    go true h = omega arith
    go false h = omega arith

pub common_agree : (xs ys : List ℕ) (i : ℕ) → i < common xs ys → get_or xs i 0 ≡ get_or ys i 0
unfolding common
common_agree [] ys i h = omega arith
common_agree (x ∷ xs) [] i h = omega arith
common_agree (x ∷ xs) (y ∷ ys) i h = go (eqb x y) refl i (λ j. common_agree xs ys j) h
  where
    go : (t : Bool) → eqb x y ≡ t → (i : ℕ) → ((j : ℕ) → j < common xs ys → get_or xs j 0 ≡ get_or ys j 0) → i < cond t (suc (common xs ys)) 0
        → get_or (x ∷ xs) i 0 ≡ get_or (y ∷ ys) i 0
    go true e zero rest h = eqb-true x y e
    go true e (suc i) rest h = rest i (le_of_suc-le-suc h)
    go false e i rest h = omega arith

-- where neither has ended, they differ
pub common_differ : (xs ys : List ℕ) → common xs ys < length xs → common xs ys < length ys → get_or xs (common xs ys) 0 ≡ get_or ys (common xs ys) 0 → ⊥
unfolding common
common_differ [] ys h k e = omega arith
common_differ (x ∷ xs) [] h k e = omega arith
common_differ (x ∷ xs) (y ∷ ys) h k e = go (eqb x y) refl (common_differ xs ys) h k e
  where
    go : (t : Bool) → eqb x y ≡ t → (common xs ys < length xs → common xs ys < length ys → get_or xs (common xs ys) 0 ≡ get_or ys (common xs ys) 0 → ⊥)
        → cond t (suc (common xs ys)) 0 < suc (length xs) → cond t (suc (common xs ys)) 0 < suc (length ys)
        → get_or (x ∷ xs) (cond t (suc (common xs ys)) 0) 0 ≡ get_or (y ∷ ys) (cond t (suc (common xs ys)) 0) 0 → ⊥
    go true q rest h k e = rest (le_of_suc-le-suc h) (le_of_suc-le-suc k) e
    go false q rest h k e = eqb-false x y q e

-- n is what they have in common if they agree before n, and at n one has ended or they differ
pub common_is : (xs ys : List ℕ) (n : ℕ) → n ≤ length xs → n ≤ length ys → ((i : ℕ) → i < n → get_or xs i 0 ≡ get_or ys i 0)
    → (n < length xs → n < length ys → get_or xs n 0 ≡ get_or ys n 0 → ⊥) → n ≡ common xs ys
unfolding common
common_is [] ys n h k a d = omega arith
common_is (x ∷ xs) [] n h k a d = omega arith
common_is (x ∷ xs) (y ∷ ys) zero h k a d = rw (ne_eqb x y (d (omega arith) (omega arith)))
common_is (x ∷ xs) (y ∷ ys) (suc n) h k a d =
    rw (eq-eqb x y (a 0 (omega arith)))
    (ap suc (common_is xs ys n (le_of_suc-le-suc h) (le_of_suc-le-suc k) (λ i l. a (suc i) (omega arith)) (λ l m. d (omega arith) (omega arith))))

-- equal byte strings have all in common, and only they
pub common_self : (xs : List ℕ) → common xs xs ≡ length xs
common_self xs = sym (common_is xs xs (length xs) (omega arith) (omega arith) (λ i h. refl) (λ h k e. omega arith))

pub common_all : (xs ys : List ℕ) → length xs ≡ length ys → common xs ys ≡ length xs → xs ≡ ys
common_all xs ys l e = ext_get_or 0 xs ys l (λ i h. common_agree xs ys i (omega arith))

-- ---- the loop of `first_difference`: the invariant, and the two ways out

abbrev pub AgreeBelow : List ℕ → List ℕ → ℕ → Type 0
AgreeBelow xs ys n = (i : ℕ) → i < n → get_or xs i 0 ≡ get_or ys i 0

module _ (xs ys : List ℕ) (i : ℕ) (a : AgreeBelow xs ys i) where
  pub differ_here : i < length xs → i < length ys → (get_or xs i 0 ≡ get_or ys i 0 → ⊥) → i ≡ common xs ys
  differ_here h k d = common_is xs ys i (omega arith) (omega arith) a (λ m n e. d e)

  pub one_ended : i ≡ min (length xs) (length ys) → i ≡ common xs ys
  one_ended e = common_is xs ys i (omega arith) (omega arith) a (λ m n f. omega arith)

-- ---- the comparisons for equality: bytes one by one, and eight as one number

module _ (xs ys : List ℕ) where
  pub agree_none : AgreeBelow xs ys 0
  agree_none i h = absurd (omega arith)

  pub byte_differs : (i : ℕ) → (get_or xs i 0 ≡ get_or ys i 0 → ⊥) → xs ≡ ys → ⊥
  byte_differs i d q = d (ap (λ (zs : List ℕ). get_or zs i 0) q)

  pub agree_all : (i : ℕ) → length xs ≡ length ys → length xs ≤ i → AgreeBelow xs ys i → xs ≡ ys
  agree_all i l k a = ext_get_or 0 xs ys l (λ j m. a j (omega arith))

  pub eight_says : (at x y : ℕ) (r : Bool) → x ≡ little 8 xs at → y ≡ little 8 ys at → ((i : ℕ) → Fits w8 (get_or xs i 0)) → ((i : ℕ) → Fits w8 (get_or ys i 0)) → r ≡ eqb x y
      → Says r (Agree xs ys at 8)
  eight_says at x y true p q f g e = little_one 8 xs ys at f g (sym p ∙ eqb-true x y (sym e) ∙ q)
  eight_says at x y false p q f g e = λ a. eqb-false x y (sym e) (p ∙ little_alike 8 xs ys at a ∙ sym q)

  pub eight_differs : (at : ℕ) (f : Bool) → Says f (Agree xs ys at 8) → f ≡ false → xs ≡ ys → ⊥
  eight_differs at true d e q = absurd (false≢true (sym e))
  eight_differs at false d e q = d (λ i h k. ap (λ (zs : List ℕ). get_or zs i 0) q)

  pub eight_more : (i : ℕ) (f : Bool) → AgreeBelow xs ys i → Says f (Agree xs ys i 8) → f ≡ true → AgreeBelow xs ys (i + 8)
  eight_more i true a b e j h = go (dec_lt j i)
    where
      go : Dec (j < i) → get_or xs j 0 ≡ get_or ys j 0
      go (yes l) = a j l
      go (no l) = b j (omega arith) h
  eight_more i false a b e j h = absurd (false≢true e)

  -- the last eight may overlap with those before them
  pub eight_last : (last i : ℕ) (f : Bool) → length xs ≡ last + 8 → length ys ≡ length xs → last ≤ i → AgreeBelow xs ys i → Says f (Agree xs ys last 8) → Says f (xs ≡ ys)
  eight_last last i true e l h a b = ext_get_or 0 xs ys (sym l) (λ j m. go j m (dec_lt j i))
    where
      go : (j : ℕ) → j < length xs → Dec (j < i) → get_or xs j 0 ≡ get_or ys j 0
      go j m (yes k) = a j k
      go j m (no k) = b j (omega arith) (omega arith)
  eight_last last i false e l h a b = eight_differs last false b refl

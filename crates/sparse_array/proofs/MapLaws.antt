-- The (slot, item) list as a map: what is looked up after an insertion and an erasure, and the lengths. Assumes nothing.
use mathlib.Core.Path.{◌≡◌, refl, sym, ap, ◌∙◌}
use mathlib.Core.Bool.{Bool, true, false, cond}
use mathlib.Core.Option.{Option, none, some}
use mathlib.Core.List.{List, [], ◌∷◌}
use Prim.Native.Nat.{ℕ, suc, ◌≤◌, ◌<◌}
use native.Mathlib.Omega.{arith}
use lib.ListN.{length}
use lib.Dec.{eqb, ltb}
use borrow.Author.Tests.{eq-eqb, ne_eqb, eqb-true, le-ltb, ltb-false}
use Rattle.bitmap.specs.Entries.{Entry, lookup, head, nth, insert, erase, below, Rising}

never : (x : ℕ) → ◌≡◌ {A = Option ℕ} (some x) none → ⊥
never x e = let z : ◌≡◌ {A = ℕ} 0 1 = cc in omega arith

-- an insertion, by the two tests at the first entry
module _ (k x : ℕ) where
  step : Bool → Bool → Entry → List Entry → List Entry
  step t u e es = cond t ((k, x) ∷ e ∷ es) (cond u ((k, x) ∷ es) (e ∷ insert k x es))

  pub lookup_insert_same : (es : List Entry) → lookup k (insert k x es) ≡ some x
  unfolding lookup insert step
  lookup_insert_same [] = rw (eq-eqb k k refl)
  lookup_insert_same (e ∷ es) = go (ltb k e.0) (eqb k e.0) refl (lookup_insert_same es)
    where
      go : (t u : Bool) → eqb k e.0 ≡ u → lookup k (insert k x es) ≡ some x → lookup k (step t u e es) ≡ some x
      go true u q ih = rw (eq-eqb k k refl)
      go false true q ih = rw (eq-eqb k k refl)
      go false false q ih = rw q ih

  pub lookup_insert_other : (j : ℕ) → (j ≡ k → ⊥) → (es : List Entry) → lookup j (insert k x es) ≡ lookup j es
  unfolding lookup insert step
  lookup_insert_other j ne [] = rw (ne_eqb j k ne)
  lookup_insert_other j ne (e ∷ es) = go (ltb k e.0) (eqb k e.0) refl (lookup_insert_other j ne es)
    where
      go : (t u : Bool) → eqb k e.0 ≡ u → lookup j (insert k x es) ≡ lookup j es → lookup j (step t u e es) ≡ lookup j (e ∷ es)
      go true u q ih = rw (ne_eqb j k ne)
      go false true q ih = rw (ne_eqb j k ne, ne_eqb j e.0 (λ r. ne (r ∙ sym (eqb-true k e.0 q))))
      go false false q ih = ap (cond (eqb j e.0) (some e.1)) ih

  pub length_insert : (es : List Entry) → lookup k es ≡ none → length (insert k x es) ≡ suc (length es)
  unfolding lookup insert step
  length_insert [] h = refl
  length_insert (e ∷ es) h = go (ltb k e.0) (eqb k e.0) (length_insert es) h
    where
      go : (t u : Bool) → (lookup k es ≡ none → length (insert k x es) ≡ suc (length es)) → cond u (some e.1) (lookup k es) ≡ none
          → length (step t u e es) ≡ suc (suc (length es))
      go true u ih q = refl
      go false true ih q = absurd (never e.1 q)
      go false false ih q = ap suc (ih q)

-- an erasure
module _ (k : ℕ) where
  pub lookup_erase_other : (j : ℕ) → (j ≡ k → ⊥) → (es : List Entry) → lookup j (erase k es) ≡ lookup j es
  unfolding lookup erase
  lookup_erase_other j ne [] = refl
  lookup_erase_other j ne (e ∷ es) = go (eqb k e.0) refl (lookup_erase_other j ne es)
    where
      go : (u : Bool) → eqb k e.0 ≡ u → lookup j (erase k es) ≡ lookup j es → lookup j (cond u es (e ∷ erase k es)) ≡ lookup j (e ∷ es)
      go true q ih = rw (ne_eqb j e.0 (λ r. ne (r ∙ sym (eqb-true k e.0 q))))
      go false q ih = ap (cond (eqb j e.0) (some e.1)) ih

  lookup_low : (low high : ℕ) (es : List Entry) → Rising low high es → k < low → lookup k es ≡ none
  unfolding lookup
  lookup_low low high [] r h = refl
  lookup_low low high (e ∷ es) r h =
      let l : low ≤ e.0 = r.0 in
      rw (ne_eqb k e.0 (λ q. omega arith)) (lookup_low (suc e.0) high es r.2 (omega arith))

  pub lookup_erase_same : (low high : ℕ) (es : List Entry) → Rising low high es → lookup k (erase k es) ≡ none
  unfolding lookup erase
  lookup_erase_same low high [] r = refl
  lookup_erase_same low high (e ∷ es) r = go (eqb k e.0) refl (lookup_erase_same (suc e.0) high es r.2)
    where
      go : (u : Bool) → eqb k e.0 ≡ u → lookup k (erase k es) ≡ none → lookup k (cond u es (e ∷ erase k es)) ≡ none
      go true q ih = let f = eqb-true k e.0 q in lookup_low (suc e.0) high es r.2 (omega arith)
      go false q ih = rw q ih

  pub length_erase : (x : ℕ) (es : List Entry) → lookup k es ≡ some x → suc (length (erase k es)) ≡ length es
  unfolding lookup erase
  length_erase x [] h = absurd (never x (sym h))
  length_erase x (e ∷ es) h = go (eqb k e.0) (length_erase x es) h
    where
      go : (u : Bool) → (lookup k es ≡ some x → suc (length (erase k es)) ≡ length es) → cond u (some e.1) (lookup k es) ≡ some x
          → suc (length (cond u es (e ∷ erase k es))) ≡ suc (length es)
      go true ih q = refl
      go false ih q = ap suc (ih q)

-- the item at place 0 is that of the lowest slot
pub nth_head : (es : List Entry) → nth 0 es ≡ head es
unfolding nth
nth_head [] = refl
nth_head (e ∷ es) = refl

-- what is lowest once a slot is taken out: the second item where the slot is the lowest one, and the first where it is not
module _ (k : ℕ) where
  below_low : (low high : ℕ) (es : List Entry) → Rising low high es → k ≤ low → below k es ≡ 0
  unfolding below
  below_low low high [] r h = refl
  below_low low high (e ∷ es) r h =
      let l : low ≤ e.0 = r.0 in
      rw (le-ltb e.0 k (omega arith)) (below_low (suc e.0) high es r.2 (omega arith))

  pub lowest_out : (low high x : ℕ) (es : List Entry) → Rising low high es → lookup k es ≡ some x → below k es ≡ 0 → nth 1 es ≡ head (erase k es)
  unfolding lookup nth erase below
  lowest_out low high x [] r h z = absurd (never x (sym h))
  lowest_out low high x (e ∷ es) r h z = go (eqb k e.0) (ltb e.0 k) refl refl h z
    where
      go : (u t : Bool) → eqb k e.0 ≡ u → ltb e.0 k ≡ t → cond u (some e.1) (lookup k es) ≡ some x → cond t (suc (below k es)) (below k es) ≡ 0
          → nth 0 es ≡ head (cond u es (e ∷ erase k es))
      go true t q p f y = nth_head es
      go false true q p f y = absurd (omega arith)
      go false false q p f y = absurd (never x (sym f ∙ lookup_low k (suc e.0) high es r.2 (omega (arith, ltb-false e.0 k p))))

  pub other_out : (low high : ℕ) (es : List Entry) → Rising low high es → (below k es ≡ 0 → ⊥) → head es ≡ head (erase k es)
  unfolding erase below
  other_out low high [] r z = refl
  other_out low high (e ∷ es) r z = go (eqb k e.0) refl
    where
      go : (u : Bool) → eqb k e.0 ≡ u → some e.1 ≡ head (cond u es (e ∷ erase k es))
      go true q = let f = eqb-true k e.0 q in absurd (z (rw (le-ltb e.0 k (omega arith)) (below_low (suc e.0) high es r.2 (omega arith))))
      go false q = refl

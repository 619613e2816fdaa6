-- What stands in each slot of a branch's row after a child is set, added or dropped. A layout that knows its rows by their slots goes by these.
-- Assumes nothing.
use Prim.Native.Nat.{ℕ, suc, ◌≤◌, ◌<◌, compare, Ordering}
use mathlib.Core.Path.{◌≡◌, refl, sym, ◌∙◌, ap}
use mathlib.Core.Logic.{◌≢◌}
use mathlib.Core.List.{[], ◌∷◌}
use mathlib.Core.Option.{none, some}
use native.Mathlib.Omega.{arith}
use native.Mathlib.Decide.{ℕ_discrete}
use Rattle.model.specs.Key.{on_equal}
use Rattle.model.specs.Map.{choose}
use Rattle.model.proofs.Compare.{Said, lower, same, higher, said, compare_lt, compare_eq, compare_self, number_other}
use Rattle.pictures.specs.Stored.{Child, Row, child_at, set_row, add_row, drop_row}

-- The slots rise from `low` on.
abbrev pub RisingRow : ℕ → Row → Type 0
RisingRow low [] = Unit {0}
RisingRow low (e ∷ cs) = (low ≤ e.0) × RisingRow (suc e.0) cs

-- below the lowest slot there is nothing
pub child_low : (s low : ℕ) (r : Row) → s < low → RisingRow low r → child_at s r ≡ none
child_low s low [] l h = refl
child_low s low (e ∷ cs) l h = rw (compare_lt {m = s} {n = e.0} (omega arith)) (child_low s (suc e.0) cs (omega arith) h.1)

-- Other slots keep their child.
pub set_other : (q s : ℕ) (c : Child) (r : Row) → q ≢ s → child_at q (set_row s c r) ≡ child_at q r
set_other q s c [] d = refl
set_other q s c (e ∷ cs) d = go (said s e.0) (set_other q s c cs d)
  where
    go : {o : Ordering} → Said s e.0 o → child_at q (set_row s c cs) ≡ child_at q cs → child_at q (on_equal o ((e.0, c) ∷ cs) (e ∷ set_row s c cs)) ≡ child_at q (e ∷ cs)
    go (lower h) ih = ap (on_equal (compare q e.0) (some e.1)) ih
    go (same h) ih = number_other (λ z. d (z ∙ sym h)) (some c) (child_at q cs) ∙ sym (number_other (λ z. d (z ∙ sym h)) (some e.1) (child_at q cs))
    go (higher h) ih = ap (on_equal (compare q e.0) (some e.1)) ih

pub add_other : (q s : ℕ) (c : Child) (r : Row) → q ≢ s → child_at q (add_row s c r) ≡ child_at q r
add_other q s c [] d = number_other d (some c) none
add_other q s c (e ∷ cs) d = go (said s e.0) (add_other q s c cs d)
  where
    go : {o : Ordering} → Said s e.0 o → child_at q (add_row s c cs) ≡ child_at q cs
        → child_at q (choose o ((s, c) ∷ e ∷ cs) (e ∷ cs) (e ∷ add_row s c cs)) ≡ child_at q (e ∷ cs)
    go (lower h) ih = number_other d (some c) (child_at q (e ∷ cs))
    go (same h) ih = refl
    go (higher h) ih = ap (on_equal (compare q e.0) (some e.1)) ih

pub drop_other : (q s : ℕ) (r : Row) → q ≢ s → child_at q (drop_row s r) ≡ child_at q r
drop_other q s [] d = refl
drop_other q s (e ∷ cs) d = go (said s e.0) (drop_other q s cs d)
  where
    go : {o : Ordering} → Said s e.0 o → child_at q (drop_row s cs) ≡ child_at q cs → child_at q (on_equal o cs (e ∷ drop_row s cs)) ≡ child_at q (e ∷ cs)
    go (lower h) ih = ap (on_equal (compare q e.0) (some e.1)) ih
    go (same h) ih = sym (number_other (λ z. d (z ∙ sym h)) (some e.1) (child_at q cs))
    go (higher h) ih = ap (on_equal (compare q e.0) (some e.1)) ih

-- The slot itself: a child set where there was one, added where there was none, dropped.
pub set_same : (s : ℕ) (c d : Child) (r : Row) → child_at s r ≡ some d → child_at s (set_row s c r) ≡ some c
set_same s c d [] h = absurd (let z : ◌≡◌ {A = ℕ} 0 1 = cc in omega arith)
set_same s c d (e ∷ cs) h = go (said s e.0) h (λ z. set_same s c d cs z)
  where
    go : {o : Ordering} → Said s e.0 o → on_equal o (some e.1) (child_at s cs) ≡ some d → (child_at s cs ≡ some d → child_at s (set_row s c cs) ≡ some c)
        → child_at s (on_equal o ((e.0, c) ∷ cs) (e ∷ set_row s c cs)) ≡ some c
    go (lower q) z ih = number_other {m = s} {n = e.0} (omega arith) (some e.1) (child_at s (set_row s c cs)) ∙ ih z
    go (same q) z ih = rw (compare_eq q)
    go (higher q) z ih = number_other {m = s} {n = e.0} (omega arith) (some e.1) (child_at s (set_row s c cs)) ∙ ih z

pub add_same : (s : ℕ) (c : Child) (r : Row) → child_at s r ≡ none → child_at s (add_row s c r) ≡ some c
add_same s c [] h = rw (compare_self s)
add_same s c (e ∷ cs) h = go (said s e.0) h (λ z. add_same s c cs z)
  where
    go : {o : Ordering} → Said s e.0 o → on_equal o (some e.1) (child_at s cs) ≡ none → (child_at s cs ≡ none → child_at s (add_row s c cs) ≡ some c)
        → child_at s (choose o ((s, c) ∷ e ∷ cs) (e ∷ cs) (e ∷ add_row s c cs)) ≡ some c
    go (lower q) z ih = rw (compare_self s)
    go (same q) z ih = absurd (let y : ◌≡◌ {A = ℕ} 0 1 = cc in omega arith)
    go (higher q) z ih = number_other {m = s} {n = e.0} (omega arith) (some e.1) (child_at s (add_row s c cs)) ∙ ih z

pub drop_same : (s low : ℕ) (r : Row) → RisingRow low r → child_at s (drop_row s r) ≡ none
drop_same s low [] h = refl
drop_same s low (e ∷ cs) h = go (said s e.0) (drop_same s (suc e.0) cs h.1)
  where
    go : {o : Ordering} → Said s e.0 o → child_at s (drop_row s cs) ≡ none → child_at s (on_equal o cs (e ∷ drop_row s cs)) ≡ none
    go (lower q) ih = number_other {m = s} {n = e.0} (omega arith) (some e.1) (child_at s (drop_row s cs)) ∙ ih
    go (same q) ih = child_low s (suc e.0) cs (omega arith) h.1
    go (higher q) ih = number_other {m = s} {n = e.0} (omega arith) (some e.1) (child_at s (drop_row s cs)) ∙ ih

-- Two rows with rising slots that have the same in every slot are one.
pub row_ext : (low : ℕ) (r t : Row) → RisingRow low r → RisingRow low t → ((s : ℕ) → child_at s r ≡ child_at s t) → r ≡ t
row_ext low [] [] h g f = refl
row_ext low [] (d ∷ t) h g f = absurd (let y = f d.0 in let x : child_at d.0 (d ∷ t) ≡ some d.1 = rw (compare_self d.0) in let z : ◌≡◌ {A = ℕ} 0 1 = cc in omega arith)
row_ext low (e ∷ r) [] h g f = absurd (let y = f e.0 in let x : child_at e.0 (e ∷ r) ≡ some e.1 = rw (compare_self e.0) in let z : ◌≡◌ {A = ℕ} 0 1 = cc in omega arith)
row_ext low (e ∷ r) (d ∷ t) h g f = go (said e.0 d.0) (row_ext (suc e.0) r t h.1)
  where
    left : child_at e.0 (e ∷ r) ≡ some e.1
    left = rw (compare_self e.0)

    right : child_at d.0 (d ∷ t) ≡ some d.1
    right = rw (compare_self d.0)

    go : {o : Ordering} → Said e.0 d.0 o → (RisingRow (suc e.0) t → ((s : ℕ) → child_at s r ≡ child_at s t) → r ≡ t) → e ∷ r ≡ d ∷ t
    go (lower q) ih =
        absurd (let y = f e.0 in let l = left in let x = child_low e.0 d.0 (d ∷ t) q (omega arith, g.1) in let z : ◌≡◌ {A = ℕ} 0 1 = cc in omega arith)
    go (higher q) ih =
        absurd (let y = f d.0 in let l = right in let x = child_low d.0 e.0 (e ∷ r) q (omega arith, h.1) in let z : ◌≡◌ {A = ℕ} 0 1 = cc in omega arith)
    go (same q) ih = λ i. (q i, heads i) ∷ tails i
      where
        heads : e.1 ≡ d.1
        heads = let a = f e.0 in let b = left in let c : child_at e.0 (d ∷ t) ≡ some d.1 = rw (compare_eq q) in cc

        rest : (s : ℕ) → child_at s r ≡ child_at s t
        rest s = by (ℕ_discrete s e.0)
          where
            by : Dec (s ≡ e.0) → child_at s r ≡ child_at s t
            by (yes y) = child_low s (suc e.0) r (omega arith) h.1 ∙ sym (child_low s (suc d.0) t (omega arith) g.1)
            by (no y) = sym (number_other y (some e.1) (child_at s r)) ∙ f s ∙ number_other (λ x. y (x ∙ sym q)) (some d.1) (child_at s t)

        tails : r ≡ t
        tails = ih (rw q g.1) rest

-- The entries of a sparse array from a slot on: what a loop over the slots has yet to meet. Assumes nothing.
use Prim.Native.Nat.{ℕ, suc, ◌+◌, ◌≤◌, ◌<◌, Ordering}
use mathlib.Core.Path.{◌≡◌, refl}
use mathlib.Core.Bool.{cond}
use mathlib.Core.List.{List, [], ◌∷◌}
use mathlib.Core.Option.{none, some}
use native.Mathlib.Omega.{arith}
use lib.Dec.{ltb}
use borrow.Author.Tests.{eq-eqb, ne_eqb, lt-ltb, le-ltb}
use Rattle.model.specs.Nibble.{slot_count}
use Rattle.model.proofs.Compare.{Said, lower, same, higher, said}
use Rattle.bitmap.specs.Entries.{Entry, lookup, Rising}
use Rattle.bitmap.specs.Bits.{bits_of, present}
use Rattle.sparse_array.specs.Array.{entries, bitmap_of, item_at}
use Rattle.bitmap.proofs.EntryLaws.{pack_rising}
use Rattle.node.specs.Branch.{array_in, children_in}

unfoldable pub from : ℕ → List Entry → List Entry
from s [] = []
from s (e ∷ es) = cond (ltb e.0 s) (from s es) (e ∷ es)

pub from_low : (low high s : ℕ) (es : List Entry) → Rising low high es → s ≤ low → from s es ≡ es
unfolding from
from_low low high s [] r h = refl
from_low low high s (e ∷ es) r h = rw (le-ltb e.0 s (omega arith))

pub from_end : (low high s : ℕ) (es : List Entry) → Rising low high es → high ≤ s → from s es ≡ []
unfolding from
from_end low high s [] r h = refl
from_end low high s (e ∷ es) r h = rw (lt-ltb e.0 s (omega arith)) (from_end (suc e.0) high s es r.2 h)

lookup_low : (low high s : ℕ) (es : List Entry) → Rising low high es → s < low → lookup s es ≡ none
unfolding lookup
lookup_low low high s [] r h = refl
lookup_low low high s (e ∷ es) r h = rw (ne_eqb s e.0 (λ q. omega arith)) (lookup_low (suc e.0) high s es r.2 (omega arith))

-- a present slot comes first, then those past it
pub at_slot : (low high s x : ℕ) (es : List Entry) → Rising low high es → lookup s es ≡ some x → from s es ≡ (s, x) ∷ from (s + 1) es
unfolding from lookup
at_slot low high s x [] r h = absurd (let z : ◌≡◌ {A = ℕ} 0 1 = cc in omega arith)
at_slot low high s x (e ∷ es) r h = go (said s e.0) (λ q. at_slot (suc e.0) high s x es r.2 q)
  where
    go : {o : Ordering} → Said s e.0 o → (lookup s es ≡ some x → from s es ≡ (s, x) ∷ from (s + 1) es)
        → cond (ltb e.0 s) (from s es) (e ∷ es) ≡ (s, x) ∷ cond (ltb e.0 (s + 1)) (from (s + 1) es) (e ∷ es)
    go (lower q) ih =
        let g : lookup s es ≡ some x = (rw (ne_eqb s e.0 (λ z. omega arith)) at h) in
        let n : lookup s es ≡ none = lookup_low (suc e.0) high s es r.2 (omega arith) in
        absurd (let z : ◌≡◌ {A = ℕ} 0 1 = cc in omega arith)
    go (same q) ih =
        let g : some e.1 ≡ some x = (rw (eq-eqb s e.0 q) at h) in
        let i : e.1 ≡ x = cc in
        rw (le-ltb e.0 s (omega arith), lt-ltb e.0 (s + 1) (omega arith), from_low (suc e.0) high (s + 1) es r.2 (omega arith), ← i, q)
    go (higher q) ih =
        rw (lt-ltb e.0 s q, lt-ltb e.0 (s + 1) (omega arith)) (ih (rw (ne_eqb s e.0 (λ z. omega arith)) at h))

-- a missing one changes nothing
pub no_slot : (s : ℕ) (es : List Entry) → lookup s es ≡ none → from s es ≡ from (s + 1) es
unfolding from lookup
no_slot s [] h = refl
no_slot s (e ∷ es) h = go (said s e.0) (λ q. no_slot s es q)
  where
    go : {o : Ordering} → Said s e.0 o → (lookup s es ≡ none → from s es ≡ from (s + 1) es)
        → cond (ltb e.0 s) (from s es) (e ∷ es) ≡ cond (ltb e.0 (s + 1)) (from (s + 1) es) (e ∷ es)
    go (lower q) ih = rw (le-ltb e.0 s (omega arith), le-ltb e.0 (s + 1) (omega arith))
    go (same q) ih =
        let g : some e.1 ≡ none = (rw (eq-eqb s e.0 q) at h) in
        absurd (let z : ◌≡◌ {A = ℕ} 0 1 = cc in omega arith)
    go (higher q) ih =
        rw (lt-ltb e.0 s q, lt-ltb e.0 (s + 1) (omega arith)) (ih (rw (ne_eqb s e.0 (λ z. omega arith)) at h))

-- The slots of a branch record rise, and there are 17.
pub children_rise : (st : List ℕ) (n : ℕ) → Rising 0 slot_count (children_in st n)
unfolding entries bits_of
children_rise st n = pack_rising (present (bitmap_of (array_in st n))) (item_at (array_in st n))

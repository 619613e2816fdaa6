-- A branch record's items and the row of children that they stand for, after a child is added, set or dropped. Assumes nothing.
use Prim.Native.Nat.{ℕ, suc, ◌≤◌, ◌<◌, Ordering, compare}
use mathlib.Core.Path.{◌≡◌, refl, ap}
use mathlib.Core.Logic.{◌≢◌}
use mathlib.Core.Bool.{Bool, true, false, cond}
use mathlib.Core.List.{List, [], ◌∷◌}
use mathlib.Core.Option.{none, some}
use native.Mathlib.Omega.{arith}
use lib.Dec.{compare_is_eq, ltb, eqb}
use lib.ListN.{length}
use borrow.Author.Tests.{lt-ltb, le-ltb}
use Rattle.model.specs.Key.{on_equal}
use Rattle.model.specs.Map.{choose}
use Rattle.model.proofs.Compare.{Said, lower, same, higher, said}
use Rattle.pictures.specs.Stored.{Child, Row, child_at, set_row, add_row, pair_row, drop_row}
use Rattle.bitmap.specs.Entries.{Entry, insert, erase, Rising}
use Rattle.node.specs.Child.{item_of}
use Rattle.trie_spec.specs.Accepted.{link_to, codes}

-- the item of a child's link
abbrev pub item_to : Child → ℕ
item_to c = item_of (link_to c)

-- two entries in the order of their slots
abbrev pub pair_of : ℕ → ℕ → ℕ → ℕ → List Entry
pair_of s x r y = choose (compare s r) ((s, x) ∷ (r, y) ∷ []) [] ((r, y) ∷ (s, x) ∷ [])

pub codes_add : (s : ℕ) (c : Child) (r : Row) → child_at s r ≡ none → insert s (item_to c) (codes r) ≡ codes (add_row s c r)
unfolding insert
codes_add s c [] h = refl
codes_add s c (e ∷ r) h = go (said s e.0) h (λ q. codes_add s c r q)
  where
    go : {o : Ordering} → Said s e.0 o → on_equal o (some e.1) (child_at s r) ≡ none → (child_at s r ≡ none → insert s (item_to c) (codes r) ≡ codes (add_row s c r))
        → cond (ltb s e.0) ((s, item_to c) ∷ codes (e ∷ r)) (cond (compare_is_eq o) ((s, item_to c) ∷ codes r) ((e.0, item_to e.1) ∷ insert s (item_to c) (codes r)))
        ≡ codes (choose o ((s, c) ∷ e ∷ r) (e ∷ r) (e ∷ add_row s c r))
    go (lower q) h ih = rw (lt-ltb s e.0 q)
    go (same q) h ih = absurd (let z : ◌≡◌ {A = ℕ} 0 1 = cc in omega arith)
    go (higher q) h ih = rw (le-ltb s e.0 (omega arith)) (ap {B = List Entry} (λ z. (e.0, item_to e.1) ∷ z) (ih h))

-- below the lowest slot there is nothing
codes_low : (s low high : ℕ) (r : Row) (d : Child) → s < low → Rising low high (codes r) → child_at s r ≡ some d → ⊥
codes_low s low high [] d l g h = let z : ◌≡◌ {A = ℕ} 0 1 = cc in omega arith
codes_low s low high (e ∷ r) d l g h = go (said s e.0) h (λ q. codes_low s (suc e.0) high r d (omega (arith, g.0)) g.2 q)
  where
    go : {o : Ordering} → Said s e.0 o → on_equal o (some e.1) (child_at s r) ≡ some d → (child_at s r ≡ some d → ⊥) → ⊥
    go (lower q) h f = f h
    go (same q) h f = omega (arith, g.0)
    go (higher q) h f = f h

-- a slot that has something is below the bound
pub codes_high : (s low high : ℕ) (r : Row) (d : Child) → Rising low high (codes r) → child_at s r ≡ some d → s < high
codes_high s low high [] d g h = absurd (let z : ◌≡◌ {A = ℕ} 0 1 = cc in omega arith)
codes_high s low high (e ∷ r) d g h = go (said s e.0) h (λ q. codes_high s (suc e.0) high r d g.2 q)
  where
    go : {o : Ordering} → Said s e.0 o → on_equal o (some e.1) (child_at s r) ≡ some d → (child_at s r ≡ some d → s < high) → s < high
    go (lower q) h f = f h
    go (same q) h f = omega (arith, g.1)
    go (higher q) h f = f h

pub codes_set : (s low high : ℕ) (c d : Child) (r : Row) → Rising low high (codes r) → child_at s r ≡ some d → insert s (item_to c) (codes r) ≡ codes (set_row s c r)
unfolding insert
codes_set s low high c d [] g h = absurd (let z : ◌≡◌ {A = ℕ} 0 1 = cc in omega arith)
codes_set s low high c d (e ∷ r) g h = go (said s e.0) h (λ q. codes_set s (suc e.0) high c d r g.2 q)
  where
    go : {o : Ordering} → Said s e.0 o → on_equal o (some e.1) (child_at s r) ≡ some d → (child_at s r ≡ some d → insert s (item_to c) (codes r) ≡ codes (set_row s c r))
        → cond (ltb s e.0) ((s, item_to c) ∷ codes (e ∷ r)) (cond (compare_is_eq o) ((s, item_to c) ∷ codes r) ((e.0, item_to e.1) ∷ insert s (item_to c) (codes r)))
        ≡ codes (on_equal o ((e.0, c) ∷ r) (e ∷ set_row s c r))
    go (lower q) h ih = absurd (codes_low s (suc e.0) high r d (omega arith) g.2 h)
    go (same q) h ih = rw (le-ltb s e.0 (omega arith)) (ap {B = List Entry} (λ z. (z, item_to c) ∷ codes r) q)
    go (higher q) h ih = rw (le-ltb s e.0 (omega arith)) (ap {B = List Entry} (λ z. (e.0, item_to e.1) ∷ z) (ih h))

pub codes_pair : (s : ℕ) (c : Child) (r : ℕ) (d : Child) → pair_of s (item_to c) r (item_to d) ≡ codes (pair_row s c r d)
codes_pair s c r d = go (said s r)
  where
    go : {o : Ordering} → Said s r o → choose o ((s, item_to c) ∷ (r, item_to d) ∷ []) [] ((r, item_to d) ∷ (s, item_to c) ∷ []) ≡ codes (choose o ((s, c) ∷ (r, d) ∷ []) [] ((r, d) ∷ (s, c) ∷ []))
    go (lower h) = refl
    go (same h) = refl
    go (higher h) = refl

pub codes_drop : (s : ℕ) (r : Row) → erase s (codes r) ≡ codes (drop_row s r)
unfolding erase
codes_drop s [] = refl
codes_drop s (e ∷ r) = go (said s e.0) (codes_drop s r)
  where
    go : {o : Ordering} → Said s e.0 o → erase s (codes r) ≡ codes (drop_row s r)
        → cond (compare_is_eq o) (codes r) ((e.0, item_to e.1) ∷ erase s (codes r)) ≡ codes (on_equal o r (e ∷ drop_row s r))
    go (lower h) ih = ap {B = List Entry} (λ z. (e.0, item_to e.1) ∷ z) ih
    go (same h) ih = refl
    go (higher h) ih = ap {B = List Entry} (λ z. (e.0, item_to e.1) ∷ z) ih

pub length_codes : (r : Row) → length (codes r) ≡ length r
length_codes [] = refl
length_codes (e ∷ r) = ap suc (length_codes r)

pub insert_some : (s y : ℕ) (es : List Entry) → insert s y es ≡ [] → ⊥
unfolding insert
insert_some s y [] h = let z : ◌≡◌ {A = ℕ} 0 1 = cc in omega arith
insert_some s y (e ∷ es) h = go (ltb s e.0) (eqb s e.0) h
  where
    go : (a b : Bool) → cond a ((s, y) ∷ e ∷ es) (cond b ((s, y) ∷ es) (e ∷ insert s y es)) ≡ [] → ⊥
    go true b h = let z : ◌≡◌ {A = ℕ} 0 1 = cc in omega arith
    go false true h = let z : ◌≡◌ {A = ℕ} 0 1 = cc in omega arith
    go false false h = let z : ◌≡◌ {A = ℕ} 0 1 = cc in omega arith

pub pair_some : (s y r w : ℕ) → s ≢ r → pair_of s y r w ≡ [] → ⊥
pair_some s y r w d h = go (said s r) h
  where
    go : {o : Ordering} → Said s r o → choose {A = List Entry} o ((s, y) ∷ (r, w) ∷ []) [] ((r, w) ∷ (s, y) ∷ []) ≡ [] → ⊥
    go (lower q) h = let z : ◌≡◌ {A = ℕ} 0 1 = cc in omega arith
    go (same q) h = d q
    go (higher q) h = let z : ◌≡◌ {A = ℕ} 0 1 = cc in omega arith

-- one entry less, at most
pub erase_length : (s : ℕ) (es : List Entry) → length es ≤ suc (length (erase s es))
unfolding erase
erase_length s [] = omega arith
erase_length s (e ∷ es) = go (eqb s e.0) (erase_length s es)
  where
    go : (b : Bool) → length es ≤ suc (length (erase s es)) → suc (length es) ≤ suc (length (cond b es (e ∷ erase s es)))
    go true ih = omega arith
    go false ih = omega arith

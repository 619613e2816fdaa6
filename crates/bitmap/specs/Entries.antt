-- A sparse array as a list of (slot, item), slots rising, and what the operations mean on it.
-- Assumes nothing.
use Rattle.std.specs.Prelude.{ℕ, zero, suc, ◌≤◌, ◌<◌, Bool, true, false, cond, List, [], ◌∷◌, map, eqb, ltb}
use Rattle.std.proofs.Math.Option.{Option, none, some}

abbrev pub Entry : Type 0
Entry = ℕ × ℕ

-- the same item, one slot up
abbrev pub up : Entry → Entry
up e = (suc e.0, e.1)

-- The present slots, each with its item: the items stand packed, the i-th present slot has the item f i.
unfoldable pub pack : List Bool → (ℕ → ℕ) → List Entry
pack [] f = []
pack (false ∷ bs) f = map up (pack bs f)
pack (true ∷ bs) f = (0, f 0) ∷ map up (pack bs (λ i. f (suc i)))

-- the item at a slot
unfoldable pub lookup : ℕ → List Entry → Option ℕ
lookup k [] = none
lookup k (e ∷ es) = cond (eqb k e.0) (some e.1) (lookup k es)

-- the item of the lowest slot
abbrev pub head : List Entry → Option ℕ
head [] = none
head (e ∷ es) = some e.1

abbrev pub tail : List Entry → List Entry
tail [] = []
tail (e ∷ es) = es

-- the item at a place
unfoldable pub nth : ℕ → List Entry → Option ℕ
nth i [] = none
nth zero (e ∷ es) = some e.1
nth (suc i) (e ∷ es) = nth i es

-- an item put at a slot, in the place of the one that is there, if any
unfoldable pub insert : ℕ → ℕ → List Entry → List Entry
insert k x [] = (k, x) ∷ []
insert k x (e ∷ es) = cond (ltb k e.0) ((k, x) ∷ e ∷ es) (cond (eqb k e.0) ((k, x) ∷ es) (e ∷ insert k x es))

-- a slot taken out, if it is there
unfoldable pub erase : ℕ → List Entry → List Entry
erase k [] = []
erase k (e ∷ es) = cond (eqb k e.0) es (e ∷ erase k es)

-- how many slots are below one: the place of that slot
unfoldable pub below : ℕ → List Entry → ℕ
below k [] = 0
below k (e ∷ es) = cond (ltb e.0 k) (suc (below k es)) (below k es)

-- the slots rise, from low on, and stay below high
abbrev pub Rising : ℕ → ℕ → List Entry → Type 0
Rising low high [] = Unit {0}
Rising low high (e ∷ es) = (low ≤ e.0) × (e.0 < high) × Rising (suc e.0) high es

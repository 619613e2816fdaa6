-- The map that a store stands for: its entries, each a key with its value, in rising order of keys. Document 01 calls it "the store's map" and "a separate
-- sorted map"; its calls carry over `get`, `insert`, `get_mut` and `remove`.
-- Assumes nothing.
use Prim.Native.Nat.{ℕ, Ordering}
use Rattle.std.specs.Prelude.{◌≡◌, Bool, true, false, List, [], ◌∷◌}
use Rattle.std.proofs.Math.Option.{Option, none, some}
use Rattle.model.specs.Key.{order, on_equal}

-- A key with its value.
abbrev pub Entry : Type 0
Entry = List ℕ × ℕ

-- P holds of every key of a map.
abbrev pub All : (List ℕ → Type 0) → List Entry → Type 0
All P [] = Unit {0}
All P (e ∷ m) = P e.0 × All P m

-- "in rising order": each key comes before every key that follows it, so that no key comes twice.
abbrev pub Rising : List Entry → Type 0
Rising [] = Unit {0}
Rising (e ∷ m) = All (λ k. order e.0 k ≡ Ordering.lt) m × Rising m

-- get: the value of a key, if it is stored.
abbrev pub lookup : List ℕ → List Entry → Option ℕ
lookup k [] = none
lookup k (e ∷ m) = on_equal (order k e.0) (some e.1) (lookup k m)

-- The choice for a comparison's answer: lower, equal, higher.
abbrev pub choose {ℓ} : {A : Type ℓ} → Ordering → A → A → A → A
choose Ordering.lt a b c = a
choose Ordering.eq a b c = b
choose Ordering.gt a b c = c

-- insert and overwrite: a new key goes before the first key above it; of a stored key "only its value changed".
abbrev pub put : List ℕ → ℕ → List Entry → List Entry
put k v [] = (k, v) ∷ []
put k v (e ∷ m) = choose (order k e.0) ((k, v) ∷ e ∷ m) ((k, v) ∷ m) (e ∷ put k v m)

-- remove: the map without the key.
abbrev pub del : List ℕ → List Entry → List Entry
del k [] = []
del k (e ∷ m) = on_equal (order k e.0) (del k m) (e ∷ del k m)

-- The first choice for yes, the second for no.
abbrev pub pick {ℓ} : {A : Type ℓ} → Bool → A → A → A
pick true a b = a
pick false a b = b

-- The entries whose key passes a test.
abbrev pub keep : (List ℕ → Bool) → List Entry → List Entry
keep f [] = []
keep f (e ∷ m) = pick (f e.0) (e ∷ keep f m) (keep f m)

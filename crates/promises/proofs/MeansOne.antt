-- A store has one meaning at most, and it is a map: sorted, of keys, of 32-bit values, no more than the capacity; with a limit of 16 bits.
-- Assumes nothing.
use Prim.Native.Nat.{ℕ, ◌≤◌, ◌<◌}
use mathlib.Core.Path.{◌≡◌, sym, ◌∙◌, ap, subst}
use mathlib.Core.List.{List}
use native.Mathlib.Omega.{arith}
use lib.ListN.{length}
use Rattle.model.specs.Key.{IsKey}
use Rattle.model.specs.Numbers.{Values, limit_bound}
use Rattle.model.specs.Map.{Entry, All, Rising}
use Rattle.model.proofs.Less.{Sorted}
use Rattle.model.proofs.OrderedMap.{sorted_rising}
use Rattle.model.proofs.TreeLaws.{entries_sorted}
use Rattle.model.proofs.Bounds.{entries_keys}
use Rattle.promises.specs.Meaning.{Layout, Lawful, Meaning, Means}

pub same_meaning : (m n : Meaning) → m.map ≡ n.map → m.limit ≡ n.limit → m.capacity ≡ n.capacity → m ≡ n
same_meaning m n a b c = λ i. record { map = a i; limit = b i; capacity = c i }

pub means_one : {L : Layout} → Lawful L → (st : List ℕ) (m n : Meaning) → Means L st m → Means L st n → m ≡ n
means_one law st m n a b =
    same_meaning m n
    (sym a.map ∙ law.one st a.tree b.tree a.accepted b.accepted ∙ b.map)
    (sym a.limit ∙ b.limit)
    (sym a.capacity ∙ b.capacity)

pub map_sorted : {L : Layout} → Lawful L → (st : List ℕ) (m : Meaning) → Means L st m → Sorted m.map
map_sorted law st m a = subst Sorted a.map (entries_sorted a.tree (law.picture st a.tree a.accepted))

pub map_rising : {L : Layout} → Lawful L → (st : List ℕ) (m : Meaning) → Means L st m → Rising m.map
map_rising law st m a = sorted_rising m.map (map_sorted law st m a)

pub map_keys : {L : Layout} → Lawful L → (st : List ℕ) (m : Meaning) → Means L st m → All IsKey m.map
map_keys law st m a = subst (All IsKey) a.map (entries_keys a.tree (law.picture st a.tree a.accepted))

pub map_values : {L : Layout} → Lawful L → (st : List ℕ) (m : Meaning) → Means L st m → Values m.map
map_values law st m a = subst Values a.map (law.values st a.tree a.accepted)

pub map_fits : {L : Layout} → Lawful L → (st : List ℕ) (m : Meaning) → Means L st m → length m.map ≤ m.capacity
map_fits law st m a = omega (arith, law.fits st a.tree a.accepted, ap (length {A = Entry}) a.map, a.capacity)

-- "Height limit: 0 to 65,535"
pub limit_bound_lem : {L : Layout} → Lawful L → (st : List ℕ) (m : Meaning) → Means L st m → m.limit < limit_bound
limit_bound_lem law st m a = omega (arith, law.limited st a.tree a.accepted, a.limit)

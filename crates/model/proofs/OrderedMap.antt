-- `put`, `del` and `lookup` are those of an ordered map, in the reader's terms: `Rising`, the order of byte slices.
-- Assumes nothing.
use Prim.Native.Nat.{ℕ}
use mathlib.Core.Path.{◌≡◌}
use mathlib.Core.List.{List, [], ◌∷◌}
use Rattle.model.specs.Map.{Entry, lookup, Rising, put, del}
use Rattle.model.proofs.Less.{Sorted}
use Rattle.model.proofs.KeyLaws.{order_lt, lt_less}
use Rattle.model.proofs.MapLaws.{all_map, put_sorted, del_sorted, map_ext}

-- A map that rises by the order of byte slices is sorted by nibbles, and the other way round.
pub sorted_rising : (m : List Entry) → Sorted m → Rising m
sorted_rising [] s = tt
sorted_rising (e ∷ m) s = (all_map (λ k h. order_lt h) m s.0, sorted_rising m s.1)

pub rising_sorted : (m : List Entry) → Rising m → Sorted m
rising_sorted [] s = tt
rising_sorted (e ∷ m) s = (all_map (λ k h. lt_less {k = e.0} {l = k} h) m s.0, rising_sorted m s.1)

-- put and del keep a map rising. (`lookup_put_same`, `lookup_put_other`, `lookup_del_same`, `lookup_del_other` of MapLaws hold of any map.)
pub put_rising : (k : List ℕ) (v : ℕ) (m : List Entry) → Rising m → Rising (put k v m)
put_rising k v m r = sorted_rising (put k v m) (put_sorted k v m (rising_sorted m r))

pub del_rising : (k : List ℕ) (m : List Entry) → Rising m → Rising (del k m)
del_rising k m r = sorted_rising (del k m) (del_sorted k m (rising_sorted m r))

-- Two rising maps with equal lookups are equal.
pub rising_ext : (m n : List Entry) → Rising m → Rising n → ((k : List ℕ) → lookup k m ≡ lookup k n) → m ≡ n
rising_ext m n r s h = map_ext m n (rising_sorted m r) (rising_sorted n s) h

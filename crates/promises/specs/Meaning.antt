-- What a store means to its user: a map, a height limit and a capacity. How bytes hold it is left to the layout, which the implementation supplies.
-- Assumes nothing.
use Rattle.std.specs.Prelude.{ℕ, ◌≤◌, ◌<◌, ◌≡◌, Bool, true, false, List, length, take}
use Rattle.std.proofs.Math.Option.{Option}
use Rattle.model.specs.Numbers.{Values, header_size, capacity_of, least_size, used, limit_bound}
use Rattle.model.specs.Answers.{Answer, number}
use Rattle.model.specs.Map.{Entry}
use Rattle.model.specs.Picture.{Tree, entries, Pictured}

-- "the store's map", its limit, its capacity
pub record Meaning : Type 0 where
  -- the stored keys with their values, in rising order
  pub map : List Entry
  pub limit : ℕ
  pub capacity : ℕ

-- What the implementation supplies.
pub record Layout : Type 1 where
  -- not "where the slice is too short or the header is wrong"
  pub header : List ℕ → Bool
  -- the height limit in the header
  pub limit : List ℕ → ℕ
  -- "A store that the check accepts", and the tree that it holds
  pub Accepted : List ℕ → Option Tree → Type 0

-- The slice is an accepted store with this meaning.
pub record Means (L : Layout) (st : List ℕ) (m : Meaning) : Type 0 where
  pub tree : Option Tree
  pub accepted : L.Accepted st tree
  pub map : entries tree ≡ m.map
  pub limit : L.limit st ≡ m.limit
  -- "Capacity is no other than the formula"
  pub capacity : capacity_of (length st) ≡ m.capacity

-- What the implementation proves of its layout, so that the promises say enough.
pub record Lawful (L : Layout) : Type 0 where
  -- "Under 256 bytes it is refused": a right header stands in a slice that is long enough
  pub long : (st : List ℕ) → L.header st ≡ true → least_size ≤ length st
  -- an accepted store has a right header
  pub headed : (st : List ℕ) (o : Option Tree) → L.Accepted st o → L.header st ≡ true
  -- "Height limit: 0 to 65,535"
  pub limited : (st : List ℕ) (o : Option Tree) → L.Accepted st o → L.limit st < limit_bound
  -- "It holds a picture"
  pub picture : (st : List ℕ) (o : Option Tree) → L.Accepted st o → Pictured o
  -- "Value: any unsigned 32-bit number."
  pub values : (st : List ℕ) (o : Option Tree) → L.Accepted st o → Values (entries o)
  -- no more keys than the capacity
  pub fits : (st : List ℕ) (o : Option Tree) → L.Accepted st o → length (entries o) ≤ capacity_of (length st)
  -- the bytes hold one map only
  pub one : (st : List ℕ) (o p : Option Tree) → L.Accepted st o → L.Accepted st p → entries o ≡ entries p
  -- "the slice's capacity is the one it was created with": the header tells it, and a slice of another capacity is no store
  pub told : (st su : List ℕ) → take header_size st ≡ take header_size su → L.header st ≡ true → L.header su ≡ true → capacity_of (length st) ≡ capacity_of (length su)
  -- "Bytes past 128 x (capacity + 1) are neither read nor written": a slice of the same capacity with the same used bytes is as good
  pub header_used : (st su : List ℕ) → used st ≡ used su → take (used st) st ≡ take (used su) su → L.header st ≡ L.header su
  pub limit_used : (st su : List ℕ) → used st ≡ used su → take (used st) st ≡ take (used su) su → L.limit st ≡ L.limit su
  pub accepted_used : (st su : List ℕ) (o : Option Tree) → used st ≡ used su → take (used st) st ≡ take (used su) su → L.Accepted st o → L.Accepted su o

-- A call's answer by document 01's number, with the value, the count and the end mark beside it.
pub record Reply : Type 0 where
  pub answer : ℕ
  -- of get the value that the key has, of is_empty 1 or 0, of a page the bytes that it has written
  pub value : ℕ
  -- of a page the entries that it gives
  pub count : ℕ
  pub end : Bool

-- "values and counts beside it are 0 and the end mark is no"
abbrev pub alone : Answer → Reply
alone a = record { answer = number a; value = 0; count = 0; end = false }

-- Leaf records: what the bytes of block n say of leaf n, and the store with another leaf there.
-- Assumes nothing.
use Rattle.std.specs.Prelude.{ℕ, ◌≤◌, min, ◌≡◌, List, [], ◌∷◌, length, get_or}
use Rattle.model.specs.Key.{key_limit}
use Rattle.fields.specs.Part.{part, splice}
use Rattle.fields.specs.Number.{little, little_bytes}
use Rattle.node.specs.Layout.{free_size, start, size_at, value_at}

pub record Leaf : Type 0 where
  pub size : ℕ
  pub key : List ℕ
  pub value : ℕ
  -- the number after it, of a free record
  pub next : ℕ

-- how many bytes of a leaf record are its key, whatever the length byte says
abbrev pub key_size : ℕ → ℕ
key_size size = min size key_limit

unfoldable pub leaf_in : List ℕ → ℕ → Leaf
leaf_in st n = record {
  size = get_or st (size_at n) 0;
  key = part st (start n) (key_size (get_or st (size_at n) 0));
  value = little 4 st (value_at n);
  next = little 2 st (value_at n);
}

-- a leaf record is that of a key with its value
pub record Is (x : Leaf) (k : List ℕ) (v : ℕ) : Type 0 where
  pub fits : length k ≤ key_limit
  pub size : x.size ≡ length k
  pub key : x.key ≡ k
  pub value : x.value ≡ v

-- the length, the value, and the key over the first of the key bytes
unfoldable pub set_leaf : List ℕ → ℕ → List ℕ → ℕ → List ℕ
set_leaf st n k v = splice (splice (splice st (size_at n) (length k ∷ [])) (value_at n) (little_bytes 4 v)) (start n) k

-- the record free, with a number after it
unfoldable pub free_leaf : List ℕ → ℕ → ℕ → List ℕ
free_leaf st n x = splice (splice st (size_at n) (free_size ∷ [])) (value_at n) (little_bytes 2 x)

unfoldable pub set_value : List ℕ → ℕ → ℕ → List ℕ
set_value st n v = splice st (value_at n) (little_bytes 4 v)

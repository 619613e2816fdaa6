-- Keys: byte strings, their order and "starts with" (document 01, opening paragraph and "Numbers").
-- Assumes nothing.
use Prim.Native.Nat.{ℕ, ◌≤◌, ◌<◌, compare, Ordering}
use Rattle.std.specs.Prelude.{Bool, true, false, List, [], ◌∷◌, length}

-- "Key, prefix or after-key: 0 to 64 bytes"
abbrev pub key_limit : ℕ
key_limit = 64

-- "any bytes": each number is a byte.
abbrev pub Bytes : List ℕ → Type 0
Bytes [] = Unit {0}
Bytes (b ∷ k) = (b < 256) × Bytes k

-- "Key, prefix or after-key: 0 to 64 bytes, any bytes. A trailing zero byte counts."
pub record IsKey (k : List ℕ) : Type 0 where
  pub fits : length k ≤ key_limit
  pub bytes : Bytes k

-- The first of two comparisons decides, unless it says equal.
abbrev pub and_then : Ordering → Ordering → Ordering
and_then Ordering.lt o = Ordering.lt
and_then Ordering.eq o = o
and_then Ordering.gt o = Ordering.gt

-- The first choice where a comparison says equal, else the second.
abbrev pub on_equal {ℓ} : {A : Type ℓ} → Ordering → A → A → A
on_equal Ordering.lt a b = b
on_equal Ordering.eq a b = a
on_equal Ordering.gt a b = b

-- "Order and "starts with" are those that Rust's standard library documents for byte slices: lexicographic, a proper prefix first."
unfoldable pub order : List ℕ → List ℕ → Ordering
order [] [] = Ordering.eq
order [] (y ∷ l) = Ordering.lt
order (x ∷ k) [] = Ordering.gt
order (x ∷ k) (y ∷ l) = and_then (compare x y) (order k l)

-- The key k (second) starts with the prefix q (first): "those that Rust's standard library documents for byte slices".
abbrev pub starts_with : List ℕ → List ℕ → Bool
starts_with [] k = true
starts_with (x ∷ q) [] = false
starts_with (x ∷ q) (y ∷ k) = on_equal (compare x y) (starts_with q k) false

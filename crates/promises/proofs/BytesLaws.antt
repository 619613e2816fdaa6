-- Lists of bytes: their parts and what is made of them.
-- Assumes nothing.
use Prim.Native.Nat.{ℕ, zero, suc, ◌+◌, ◌*◌, ◌/◌, ◌%◌, ◌<◌}
use mathlib.Core.Path.{◌≡◌, ◌∙◌, ap}
use mathlib.Core.List.{List, [], ◌∷◌, ◌++◌}
use native.Mathlib.Omega.{arith}
use lib.ListN.{get_or, take, drop, replicate}
use Rattle.model.specs.Key.{Bytes, IsKey}
use Rattle.model.specs.Numbers.{Values, value_bound}
use Rattle.model.specs.Map.{Entry, All}
use Rattle.model.specs.Entry.{four_bytes, entries_bytes}

pub bytes_append : (a b : List ℕ) → Bytes a → Bytes b → Bytes (a ++ b)
bytes_append [] b h i = i
bytes_append (x ∷ a) b h i = (h.0, bytes_append a b h.1 i)

pub bytes_take : (n : ℕ) (a : List ℕ) → Bytes a → Bytes (take n a)
bytes_take zero a h = tt
bytes_take (suc n) [] h = tt
bytes_take (suc n) (x ∷ a) h = (h.0, bytes_take n a h.1)

pub bytes_drop : (n : ℕ) (a : List ℕ) → Bytes a → Bytes (drop n a)
bytes_drop zero a h = h
bytes_drop (suc n) [] h = tt
bytes_drop (suc n) (x ∷ a) h = bytes_drop n a h.1

pub zero_bytes : (n : ℕ) → Bytes (replicate n 0)
zero_bytes zero = tt
zero_bytes (suc n) = (omega arith, zero_bytes n)

pub byte_at : (a : List ℕ) (i : ℕ) → Bytes a → get_or a i 0 < 256
byte_at [] i h = omega arith
byte_at (x ∷ a) zero h = h.0
byte_at (x ∷ a) (suc i) h = byte_at a i h.1

-- A value in four bytes, and back.
pub four_bytes_lem : (v : ℕ) → v < value_bound → Bytes (four_bytes v)
four_bytes_lem v h = (omega arith, (omega arith, (omega arith, (omega arith, tt))))

abbrev pub four_of : ℕ → ℕ → ℕ → ℕ → ℕ
four_of a b c d = ((a * 256 + b) * 256 + c) * 256 + d

whole : (y : ℕ) → y / 256 * 256 + y % 256 ≡ y
whole y = omega arith

pub four_back : (v : ℕ) → four_of (v / 16777216) (v / 65536 % 256) (v / 256 % 256) (v % 256) ≡ v
four_back v =
    ap (λ (z : ℕ). ((z * 256 + v / 65536 % 256) * 256 + v / 256 % 256) * 256 + v % 256) third
    ∙ ap (λ (z : ℕ). (z * 256 + v / 256 % 256) * 256 + v % 256) (whole (v / 65536) ∙ second)
    ∙ ap (λ (z : ℕ). z * 256 + v % 256) (whole (v / 256))
    ∙ whole v
  where
    third : v / 16777216 ≡ v / 65536 / 256
    third = omega arith

    second : v / 65536 ≡ v / 256 / 256
    second = omega arith

-- Entries are written in bytes.
pub entries_bytes_lem : (m : List Entry) → All IsKey m → Values m → Bytes (entries_bytes m)
entries_bytes_lem [] k v = tt
entries_bytes_lem (e ∷ m) k v =
    (omega arith, (omega (arith, k.0.fits), (omega arith, bytes_append (e.0 ++ 2 ∷ 0 ∷ 4 ∷ four_bytes e.1) (entries_bytes m) entry (entries_bytes_lem m k.1 v.1))))
  where
    entry : Bytes (e.0 ++ 2 ∷ 0 ∷ 4 ∷ four_bytes e.1)
    entry = bytes_append e.0 (2 ∷ 0 ∷ 4 ∷ four_bytes e.1) k.0.bytes (omega arith, (omega arith, (omega arith, four_bytes_lem e.1 v.0)))

-- A plain coding of a meaning in bytes, for Reference: the capacity, the limit and the number of keys in two bytes each, then for each key its length, its value in
-- four bytes and its bytes. What it reads is a meaning that a layout can hold, whatever the bytes; and it reads back what it writes.
-- Assumes nothing.
use Prim.Native.Nat.{ℕ, zero, suc, ◌+◌, ◌*◌, ◌-◌, ◌/◌, ◌%◌, ◌≤◌, ◌<◌, min}
use mathlib.Core.Path.{◌≡◌, refl, ◌∙◌, ap, ap₂}
use mathlib.Core.List.{List, [], ◌∷◌, ◌++◌, append_assoc}
use mathlib.Core.Option.{Option, none, some}
use native.Mathlib.Omega.{arith}
use lib.ListN.{length, get_or, take, drop, replicate, length-append, length-take, length-replicate}
use lib.Seq.{take_at, drop_at}
use Rattle.model.specs.Key.{key_limit, Bytes, IsKey}
use Rattle.model.specs.Numbers.{Values, limit_bound, header_size, block_size, most}
use Rattle.model.specs.Map.{Entry, All, lookup, put}
use Rattle.model.proofs.Less.{Sorted}
use Rattle.model.proofs.MapLaws.{put_first, all_put, put_sorted, length_put, extra}
use Rattle.promises.specs.Meaning.{Meaning}
use Rattle.promises.proofs.BytesLaws.{bytes_append, bytes_take, bytes_drop, zero_bytes, byte_at, four_bytes_lem, four_of, four_back}
use Rattle.promises.proofs.Possible.{Good, values_put}

-- The number in two bytes at a place.
abbrev pub two_in : List ℕ → ℕ → ℕ
two_in b i = get_or b i 0 * 256 + get_or b (suc i) 0

pub two_bound : (b : List ℕ) (i : ℕ) → Bytes b → two_in b i < limit_bound
two_bound b i h = omega (arith, byte_at b i h, byte_at b (suc i) h)

-- Entries one after the other, read: n of them are put into a map, so that it is sorted whatever the bytes.
abbrev pub key_size : List ℕ → ℕ
key_size b = min (get_or b 0 0) key_limit

abbrev pub key_in : List ℕ → List ℕ
key_in b = take (key_size b) (drop 5 b)

abbrev pub value_in : List ℕ → ℕ
value_in b = four_of (get_or b 1 0) (get_or b 2 0) (get_or b 3 0) (get_or b 4 0)

abbrev pub gather : ℕ → List ℕ → List Entry
gather zero b = []
gather (suc n) b = put (key_in b) (value_in b) (gather n (drop (key_size b) (drop 5 b)))

pub record Gathered (n : ℕ) (m : List Entry) : Type 0 where
  pub sorted : Sorted m
  pub keys : All IsKey m
  pub values : Values m
  pub fits : length m ≤ n

one_more : (o : Option ℕ) → extra o ≤ 1
one_more none = omega arith
one_more (some v) = omega arith

pub gathered : (n : ℕ) (b : List ℕ) → Bytes b → Gathered n (gather n b)
gathered zero b h = record { sorted = tt; keys = tt; values = tt; fits = omega arith }
gathered (suc n) b h =
    let rest = drop (key_size b) (drop 5 b) in
    let i = gathered n rest (bytes_drop (key_size b) (drop 5 b) (bytes_drop 5 b h)) in
    record {
      sorted = put_sorted (key_in b) (value_in b) (gather n rest) i.sorted;
      keys = all_put IsKey (key_in b) (value_in b) (gather n rest) key i.keys;
      values = values_put (key_in b) (value_in b) (gather n rest) (omega (arith, byte_at b 1 h, byte_at b 2 h, byte_at b 3 h, byte_at b 4 h)) i.values;
      fits = omega (arith, i.fits, length_put (key_in b) (value_in b) (gather n rest) i.sorted, one_more (lookup (key_in b) (gather n rest)));
    }
  where
    key : IsKey (key_in b)
    key = record { fits = omega (arith, length-take (key_size b) (drop 5 b)); bytes = bytes_take (key_size b) (drop 5 b) (bytes_drop 5 b h) }

-- The same, written.
abbrev pub stream : List Entry → List ℕ
stream [] = []
stream (e ∷ m) = length e.0 ∷ (e.1 / 16777216) ∷ (e.1 / 65536 % 256) ∷ (e.1 / 256 % 256) ∷ (e.1 % 256) ∷ (e.0 ++ stream m)

pub stream_bytes : (m : List Entry) → All IsKey m → Values m → Bytes (stream m)
stream_bytes [] k v = tt
stream_bytes (e ∷ m) k v =
    let f = four_bytes_lem e.1 v.0 in
    (omega (arith, k.0.fits), (f.0, (f.1.0, (f.1.1.0, (f.1.1.1.0, bytes_append e.0 (stream m) k.0.bytes (stream_bytes m k.1 v.1))))))

pub stream_fits : (m : List Entry) → All IsKey m → length (stream m) ≤ block_size * length m
stream_fits [] k = omega arith
stream_fits (e ∷ m) k = omega (arith, length-append e.0 (stream m), k.0.fits, stream_fits m k.1)

pub gather_stream : (m : List Entry) (z : List ℕ) → Sorted m → All IsKey m → gather (length m) (stream m ++ z) ≡ m
gather_stream [] z s k = refl
gather_stream (e ∷ m) z s k =
    ap₂ (λ (n : ℕ) (b : List ℕ). put (take n b) (value_in (stream (e ∷ m) ++ z)) (gather (length m) (drop n b))) size (append_assoc e.0 (stream m) z)
    ∙ ap₂ (λ (x y : List ℕ). put x (value_in (stream (e ∷ m) ++ z)) (gather (length m) y))
    (take_at e.0 (stream m ++ z) (length e.0) refl) (drop_at e.0 (stream m ++ z) (length e.0) refl)
    ∙ ap₂ (λ (v : ℕ) (x : List Entry). put e.0 v x) (four_back e.1) (gather_stream m z s.1 k.1)
    ∙ put_first e.0 e.1 m s.0
  where
    size : min (length e.0) key_limit ≡ length e.0
    size = omega (arith, k.0.fits)

-- A meaning, written and filled up with zeros to a size.
abbrev pub code : Meaning → List ℕ
code m =
    (m.capacity / 256) ∷ (m.capacity % 256) ∷ (m.limit / 256) ∷ (m.limit % 256) ∷ (length m.map / 256) ∷ (length m.map % 256) ∷ stream m.map

abbrev pub body : ℕ → Meaning → List ℕ
body size m = code m ++ replicate (size - length (code m)) 0

-- The map that is read, of no more keys than the capacity.
abbrev pub map_in : ℕ → List ℕ → List Entry
map_in capacity b = gather (min (two_in b 4) capacity) (drop 6 b)

pub map_in_lem : (capacity : ℕ) (b : List ℕ) → Bytes b → Gathered capacity (map_in capacity b)
map_in_lem capacity b h =
    let g = gathered (min (two_in b 4) capacity) (drop 6 b) (bytes_drop 6 b h) in
    record { sorted = g.sorted; keys = g.keys; values = g.values; fits = omega (arith, g.fits) }

module _ (m : Meaning) (g : Good m) (c : m.capacity ≤ most) where
  pub code_fits : length (code m) ≤ header_size + block_size * m.capacity
  code_fits = omega (arith, stream_fits m.map g.keys, g.fits)

  pub body_size : length (body (header_size + block_size * m.capacity) m) ≡ header_size + block_size * m.capacity
  body_size =
      let size : ℕ = header_size + block_size * m.capacity in
      omega (arith, length-append (code m) (replicate (size - length (code m)) 0), length-replicate {A = ℕ} (size - length (code m)) 0, code_fits)

  pub body_bytes : (size : ℕ) → Bytes (body size m)
  body_bytes size = (
    omega arith,
    (
      omega arith,
      (
        omega (arith, g.limit),
        (
          omega arith,
          (
            omega (arith, g.fits),
            (
              omega arith,
              bytes_append (stream m.map) (replicate (size - length (code m)) 0) (stream_bytes m.map g.keys g.values) (zero_bytes (size - length (code m))),
            ),
          ),
        ),
      ),
    ),
  )

  pub body_capacity : (size : ℕ) → two_in (body size m) 0 ≡ m.capacity
  body_capacity size = omega arith

  pub body_limit : (size : ℕ) → two_in (body size m) 2 ≡ m.limit
  body_limit size = omega arith

  pub body_map : (size : ℕ) → map_in m.capacity (body size m) ≡ m.map
  body_map size =
      ap (λ (n : ℕ). gather n (stream m.map ++ replicate (size - length (code m)) 0)) count
      ∙ gather_stream m.map (replicate (size - length (code m)) 0) g.sorted g.keys
    where
      count : min (length m.map / 256 * 256 + length m.map % 256) m.capacity ≡ length m.map
      count = omega (arith, g.fits)

-- The wrong programs that document 01 names ("How the promises are read"): no program that keeps the promises is one of them. A wrong program is supposed to be wrong
-- only on what its types let in. (That there are programs that keep the promises is proved in Reference.)
-- Assumes nothing.
use Prim.Native.Nat.{ℕ, ◌≤◌, ◌<◌, ◌+◌, ◌*◌}
use mathlib.Core.Path.{◌≡◌, ap, subst}
use mathlib.Core.List.{List, [], ◌∷◌}
use native.Mathlib.Omega.{arith}
use lib.ListN.{length, replicate, length-replicate}
use Rattle.model.specs.Key.{order}
use Rattle.model.specs.Numbers.{value_bound, entry_limit, header_size, block_size}
use Rattle.model.specs.Nibble.{nibble, critical}
use Rattle.model.specs.Page.{Mode, inclusive}
use Rattle.promises.specs.Meaning.{Layout, Lawful, Meaning, Means, Reply}
use Rattle.promises.specs.Says.{empty, with_map}
use Rattle.promises.specs.Programs.{Slice, Programs}
use Rattle.promises.proofs.BytesLaws.{zero_bytes}
use Rattle.promises.proofs.MeansOne.{means_one}

-- a slice for two keys, an output for one entry, and a key
slice : List ℕ
slice = replicate (header_size + 2 * block_size) 0

slice_lent : Slice slice
unfolding slice
slice_lent = record { bytes = zero_bytes (header_size + 2 * block_size); size = omega (arith, length-replicate {A = ℕ} (header_size + 2 * block_size) 0) }

output : List ℕ
output = replicate entry_limit 0

output_lent : Slice output
unfolding output
output_lent = record { bytes = zero_bytes entry_limit; size = omega (arith, length-replicate {A = ℕ} entry_limit 0) }

x : List ℕ
x = 0x78 ∷ []

x_lent : Slice x
unfolding x
x_lent = record { bytes = (omega arith, tt); size = omega arith }

nothing_lent : Slice []
nothing_lent = record { bytes = tt; size = omega arith }

-- the map of the empty key and x, as far as it is built
two : Meaning
two = empty 7 2

one_key : ℕ → Meaning
one_key v = with_map (empty 7 2) (([], v) ∷ [])

two_keys : Meaning
two_keys = with_map (empty 7 2) (([], 7) ∷ (x, 8) ∷ [])

module _ (L : Layout) (law : Lawful L) (P : Programs L) where
  made : List ℕ
  made = (P.create 7 slice).bytes

  made_means : Means L made two
  unfolding made slice two
  made_means = (P.creates 7 slice (omega arith) slice_lent).after (omega arith)

  made_lent : Slice made
  unfolding made
  made_lent = record {
    bytes = P.create_bytes 7 slice (omega arith) slice_lent;
    size = omega (arith, (P.creates 7 slice (omega arith) slice_lent).kept.size, slice_lent.size);
  }

  filled : ℕ → List ℕ
  filled v = (P.insert [] v made).bytes

  filled_means : (v : ℕ) → v < value_bound → Means L (filled v) (one_key v)
  unfolding filled one_key two
  filled_means v h = (P.inserts [] v made nothing_lent h made_lent).after (empty 7 2) made_means

  filled_lent : (v : ℕ) → v < value_bound → Slice (filled v)
  unfolding filled
  filled_lent v h = record {
    bytes = P.insert_bytes [] v made nothing_lent h made_lent;
    size = omega (arith, (P.inserts [] v made nothing_lent h made_lent).kept.size, made_lent.size);
  }

  fuller : List ℕ
  fuller = (P.insert x 8 (filled 7)).bytes

  fuller_means : Means L fuller two_keys
  unfolding fuller two_keys one_key x nibble order critical
  fuller_means = (P.inserts x 8 (filled 7) x_lent (omega arith) (filled_lent 7 (omega arith))).after (one_key 7) (filled_means 7 (omega arith))

  fuller_lent : Slice fuller
  unfolding fuller
  fuller_lent = record {
    bytes = P.insert_bytes x 8 (filled 7) x_lent (omega arith) (filled_lent 7 (omega arith));
    size = omega (arith, (P.inserts x 8 (filled 7) x_lent (omega arith) (filled_lent 7 (omega arith))).kept.size, (filled_lent 7 (omega arith)).size);
  }

  -- a map that refuses all
  pub refuses_all : ((k : List ℕ) (v : ℕ) (st : List ℕ) → Slice k → v < value_bound → Slice st → 10 ≤ (P.insert k v st).reply.answer) → ⊥
  unfolding two
  refuses_all wrong =
      omega (
        arith,
        wrong [] 7 made nothing_lent (omega arith) made_lent,
        ap (λ (r : Reply). r.answer) ((P.inserts [] 7 made nothing_lent (omega arith) made_lent).answers (empty 7 2) made_means),
      )

  -- a get with one fixed value
  value_of : (v : ℕ) → v < value_bound → (P.get [] (filled v)).value ≡ v
  unfolding one_key order
  value_of v h = ap (λ (r : Reply). r.value) ((P.gets [] (filled v) nothing_lent (filled_lent v h)).answers (one_key v) (filled_means v h))

  pub fixed_value : (w : ℕ) → ((k st : List ℕ) → Slice k → Slice st → (P.get k st).value ≡ w) → ⊥
  fixed_value w wrong =
      omega (
        arith,
        value_of 7 (omega arith),
        value_of 8 (omega arith),
        wrong [] (filled 7) nothing_lent (filled_lent 7 (omega arith)),
        wrong [] (filled 8) nothing_lent (filled_lent 8 (omega arith)),
      )

  -- an insert that stores nothing
  pub stores_nothing : ((k : List ℕ) (v : ℕ) (st : List ℕ) → Slice k → v < value_bound → Slice st → (P.insert k v st).bytes ≡ st) → ⊥
  unfolding filled two one_key
  stores_nothing wrong =
      let m : Means L made (one_key 7) = subst (λ (st : List ℕ). Means L st (one_key 7)) (wrong [] 7 made nothing_lent (omega arith) made_lent) (filled_means 7 (omega arith)) in
      omega (arith, ap (λ (n : Meaning). length n.map) (means_one law made (empty 7 2) (one_key 7) made_means m))

  -- the count of the first page of one entry, of an empty store and of one with a key
  first_count : (v : ℕ) → v < value_bound → (P.first_page [] inclusive 1 (filled v) output).reply.count ≡ 1
  unfolding output one_key order
  first_count v h =
      ap (λ (r : Reply). r.count)
      ((P.firsts [] inclusive 1 (filled v) output nothing_lent (omega arith) (filled_lent v h) output_lent).answers (one_key v) (filled_means v h))

  first_none : (P.first_page [] inclusive 1 made output).reply.count ≡ 0
  unfolding output two order
  first_none =
      ap (λ (r : Reply). r.count) ((P.firsts [] inclusive 1 made output nothing_lent (omega arith) made_lent output_lent).answers (empty 7 2) made_means)

  -- a page that is always empty with end
  pub always_empty : ((q : List ℕ) (mode : Mode) (n : ℕ) (st out : List ℕ) → Slice q → n < value_bound → Slice st → Slice out
      → (P.first_page q mode n st out).reply.count ≡ 0) → ⊥
  always_empty wrong =
      omega (arith, wrong [] inclusive 1 (filled 7) output nothing_lent (omega arith) (filled_lent 7 (omega arith)) output_lent, first_count 7 (omega arith))

  -- later pages that say end at once
  pub ends_at_once : ((q : List ℕ) (mode : Mode) (k : List ℕ) (n : ℕ) (st out : List ℕ) → Slice q → Slice k → n < value_bound → Slice st → Slice out
      → (P.next_page q mode k n st out).reply.count ≡ 0) → ⊥
  unfolding output two_keys x order
  ends_at_once wrong =
      omega (
        arith,
        wrong [] inclusive [] 1 fuller output nothing_lent nothing_lent (omega arith) fuller_lent output_lent,
        ap (λ (r : Reply). r.count)
            ((P.nexts [] inclusive [] 1 fuller output nothing_lent nothing_lent (omega arith) fuller_lent output_lent).answers two_keys fuller_means),
      )

  -- a page count that is made up: the same whatever is stored
  pub made_up_count : (c : ℕ) → ((q : List ℕ) (mode : Mode) (n : ℕ) (st out : List ℕ) → Slice q → n < value_bound → Slice st → Slice out
      → (P.first_page q mode n st out).reply.count ≡ c) → ⊥
  made_up_count c wrong =
      omega (
        arith,
        wrong [] inclusive 1 (filled 7) output nothing_lent (omega arith) (filled_lent 7 (omega arith)) output_lent,
        wrong [] inclusive 1 made output nothing_lent (omega arith) made_lent output_lent,
        first_count 7 (omega arith),
        first_none,
      )

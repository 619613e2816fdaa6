-- A law for each way out of a function: from its callees' contracts to its own. Assumes nothing.
use mathlib.Core.Path.{◌≡◌, refl, ap, ◌∙◌}
use mathlib.Core.List.{List, [], ◌∷◌, ◌++◌}
use Prim.Native.Nat.{ℕ, ◌+◌, ◌-◌, ◌≤◌, ◌<◌}
use native.Mathlib.Numerals.{add-one}
use lib.Dec.{eqb}
use lib.ListN.{length, get_or, take, drop}
use borrow.Author.Tests.{lt-ltb, le-ltb}
use Rattle.model.specs.Numbers.{least_size, capacity_of}
use Rattle.fields.specs.Part.{splice}
use Rattle.fields.specs.Number.{little, little_bytes}
use Rattle.fields.proofs.PartLaws.{length_splice}
use Rattle.sparse_array.specs.Array.{size, cleared}
use Rattle.sparse_array.proofs.ItemLaws.{length_bitmap}
use Rattle.node.proofs.Contracts.{array_is, array_size_lem, back}
use Rattle.node.specs.Layout.{free_size, array_at, size_at, value_at, Room}
use Rattle.node.specs.Leaf.{leaf_in, free_leaf}
use Rattle.node.specs.Branch.{array_in, free_branch}
use Rattle.records.specs.Chain.{leaves, branches}
use Rattle.records.specs.Create.{next_after, freed_below, new_head, created, Created}
use Rattle.node.specs.Header.{set_head, set_mark}
use Rattle.std.specs.Prelude.{Ok, Err}
use Rattle.records.specs.Create.{no_room}
use Rattle.node.specs.declared.header.Header.{Header}

-- ---- free records

length_empty : (a : List ℕ) (x : ℕ) → length (splice (cleared a) 4 (little_bytes 2 x)) ≡ length a
unfolding cleared
length_empty a x = length_splice (cleared a) 4 (little_bytes 2 x) ∙ length_bitmap a 0

module _ (st : List ℕ) (n a : ℕ) where
  pub leaf_free : a ≡ size_at n → eqb (get_or st a 0) free_size ≡ leaves.is_free st n
  unfolding leaf_in
  leaf_free p = rw p

  pub leaf_next : (x : ℕ) → a ≡ value_at n → x ≡ little 2 st a → x ≡ leaves.next st n
  unfolding leaf_in
  leaf_next x p q = rw (← p) q

  pub leaf_freed : (t x : ℕ) (s₁ s₂ : List ℕ) → t ≡ size_at n → a ≡ value_at n → s₁ ≡ splice st t (free_size ∷ []) → s₂ ≡ splice s₁ a (little_bytes 2 x) → s₂ ≡ leaves.freed st n x
  unfolding free_leaf
  leaf_freed t x s₁ s₂ p q e f = f ∙ rw (e, p, q)

  pub branch_freed : (x : ℕ) (p : List ℕ) → Room st n → a ≡ array_at n → p ≡ splice (cleared (take (a + size - a) (drop a st))) 4 (little_bytes 2 x)
      → take a st ++ (p ++ drop (a + size - a) (drop a st)) ≡ branches.freed st n x
  unfolding free_branch
  branch_freed x p room is w =
      let q : p ≡ splice (cleared (array_in st n)) 4 (little_bytes 2 x) = w ∙ rw (array_is st n a is) in
      back st n a is p room (ap length w ∙ length_empty (take (a + size - a) (drop a st)) x ∙ array_size_lem st n a is room) ∙ rw q

-- ---- creation

module _ (st : List ℕ) (cap : ℕ) where
  pub freed_none : st ≡ freed_below cap 0 st
  unfolding freed_below
  freed_none = refl

  pub freed_more : (r x : ℕ) (s₀ s₁ s₂ : List ℕ) → s₀ ≡ freed_below cap r st → x ≡ next_after cap r → s₁ ≡ leaves.freed s₀ r x → s₂ ≡ branches.freed s₁ r x
      → s₂ ≡ freed_below cap (r + 1) st
  unfolding freed_below
  freed_more r x s₀ s₁ s₂ e q f g = rw add-one (g ∙ rw (f, e, q))

pub create_refused : (limit : ℕ) (st : List ℕ) → length st < least_size → Created limit st st (Err no_room)
create_refused limit st h = record { answer = rw (lt-ltb (length st) least_size h); bytes = rw (lt-ltb (length st) least_size h) }

pub create_done : (limit : ℕ) (st s₁ s₂ s₃ : List ℕ) (cap : ℕ) → least_size ≤ length st → cap ≡ capacity_of (length st) → s₁ ≡ freed_below cap cap st → s₂ ≡ set_mark s₁
    → s₃ ≡ set_head s₂ (new_head cap limit) → Created limit st s₃ (Ok tt)
unfolding created
create_done limit st s₁ s₂ s₃ cap h q e f g = record {
  answer = rw (le-ltb (length st) least_size h);
  bytes = rw (le-ltb (length st) least_size h) (g ∙ rw (f, e, q));
}

-- What an accepted store gives: its header's numbers, its records, and the closest descent. Assumes nothing.
use Prim.Native.Nat.{ℕ, ◌+◌, ◌^◌, ◌≤◌, ◌<◌}
use mathlib.Core.Path.{◌≡◌, sym, ap, subst, ◌∙◌}
use mathlib.Core.List.{List}
use mathlib.Core.Option.{Option, none, some}
use native.Mathlib.Omega.{arith}
use native.Mathlib.Decide.{dec_lt}
use lib.ListN.{length}
use Rattle.model.specs.Numbers.{most, capacity_of, header_size, used, value_bound}
use Rattle.model.specs.Picture.{Tree, closest}
use Rattle.model.proofs.Bounds.{depth_bound}
use Rattle.pictures.specs.Records.{leaf_times, branch_times, leaves, branches}
use Rattle.pictures.specs.Stored.{root}
use Rattle.pictures.proofs.ChainLaws.{sum_zero, sum_leaves, sum_branches}
use Rattle.fields.specs.Number.{little}
use Rattle.fields.proofs.NumberLaws.{little_below, little_part}
use Rattle.sparse_array.specs.Array.{size}
use Rattle.node.specs.Layout.{last, start, array_at, value_at}
use Rattle.node.specs.Child.{link_of}
use Rattle.node.specs.Header.{head_in}
use Rattle.node.specs.Leaf.{leaf_in}
use Rattle.node.specs.Branch.{array_in}
use Rattle.records.specs.Chain.{leaves as leaf_kind, branches as branch_kind}
use Rattle.node.proofs.HeaderLaws.{Right, good_right, blocks_fit}
use Rattle.trie_spec.specs.Accepted.{link_to, Accepted}
use Rattle.trie_spec.specs.Walk.{steps, near, leaf_at}
use Rattle.trie_spec.proofs.HeldLaws.{Inside, link_back, walks}
use Rattle.std.specs.Prelude.{Ok}

module _ (st : List ℕ) (o : Option Tree) (a : Accepted st o) where
  pub right : Right st (head_in st)
  right = good_right st (head_in st) a.head

  pub capacity_is : (head_in st).capacity ≡ capacity_of (length st)
  capacity_is = right.capacity

  pub few : (head_in st).capacity ≤ most
  few = omega (arith, capacity_is)

  pub few_last : (head_in st).capacity ≤ last
  few_last = omega (arith, few)

  pub some_room : 1 ≤ (head_in st).capacity
  some_room = omega (arith, capacity_is, right.long)

  pub fits : start (head_in st).capacity ≤ length st
  fits = subst (λ (z : ℕ). start z ≤ length st) (sym capacity_is) (blocks_fit (length st) right.long)

-- an empty store has no leaf in use
pub no_leaves : (st : List ℕ) → Accepted st none → (head_in st).leaves ≡ 0
no_leaves st a = sym a.leaves.total ∙ sum_zero (head_in st).capacity

below_cap : (f : ℕ → ℕ) (cap n : ℕ) → ((r : ℕ) → cap ≤ r → f r ≡ 0) → 1 ≤ f n → n < cap
below_cap f cap n h l = go (dec_lt n cap)
  where
    go : Dec (n < cap) → n < cap
    go (yes q) = q
    go (no d) = absurd (omega (arith, l, h n (omega arith)))

module _ (st : List ℕ) (t : Tree) (a : Accepted st (some t)) where
  pub inside : Inside st (head_in st).capacity (few st (some t) a) t
  inside = record {
    leaves = λ n l. below_cap (λ r. leaf_times r t) (head_in st).capacity n a.leaves.within l;
    branches = λ n l. below_cap (λ r. branch_times r t) (head_in st).capacity n a.branches.within l;
  }

  pub leaf_count_lem : (head_in st).leaves ≡ leaves t
  leaf_count_lem = sym a.leaves.total ∙ sum_leaves (head_in st).capacity t a.leaves.within

  pub branch_count_lem : (head_in st).branches ≡ branches t
  branch_count_lem = sym a.branches.total ∙ sum_branches (head_in st).capacity t a.branches.within

  pub root_link : link_of (head_in st).capacity (head_in st).root ≡ Ok (link_to (root t))
  root_link = ap (link_of (head_in st).capacity) a.rooted ∙ link_back st (head_in st).capacity (few st (some t) a) t a.picture inside

  pub at_closest : (k : List ℕ) → near st (head_in st).capacity k steps 0 (link_to (root t)) ≡ Ok (leaf_at (record { 0 = (closest k t).number }) (length (closest k t).path))
  at_closest k =
      walks st (head_in st).capacity (few st (some t) a) k t a.held a.picture inside steps 0 (omega (arith, depth_bound k t a.picture))
      ∙ ap (λ (z : ℕ). Ok (leaf_at (record { 0 = (closest k t).number }) z)) (zero_more (length (closest k t).path))
    where
      zero_more : (d : ℕ) → 0 + d ≡ d
      zero_more d = omega arith

-- the header's numbers fit their bytes, and so do the numbers after free records
module _ (st : List ℕ) (o : Option Tree) (a : Accepted st o) where
  used_is : used st ≡ start (head_in st).capacity
  used_is = ap start (sym (capacity_is st o a))

  head_number : (w at : ℕ) → at + w ≤ header_size → little w st at < 256 ^ w
  head_number w at h = little_below w st at (λ i l m. a.bytes i (omega arith))

  pub limit_fits : (head_in st).limit < 65536
  unfolding head_in
  limit_fits = head_number 2 6 (omega arith)

  pub leaf_fits : (head_in st).leaf < 65536
  unfolding head_in
  leaf_fits = head_number 2 15 (omega arith)

  pub branch_fits : (head_in st).branch < 65536
  unfolding head_in
  branch_fits = head_number 2 17 (omega arith)

  pub root_fits : (head_in st).root < 16777216
  unfolding head_in
  root_fits = head_number 3 12 (omega arith)

  pub leaf_next_fits : (n : ℕ) → n < (head_in st).capacity → leaf_kind.next st n < 65536
  unfolding leaf_in
  leaf_next_fits n h = little_below 2 st (value_at n) (λ i l m. a.bytes i (omega (arith, used_is)))

  pub branch_next_fits : (n : ℕ) → n < (head_in st).capacity → branch_kind.next st n < 65536
  unfolding array_in
  branch_next_fits n h =
      rw (little_part 2 st (array_at n) size 4 (omega arith)) (little_below 2 st (array_at n + 4) (λ i l m. a.bytes i (omega (arith, used_is))))

  -- the value of a leaf is one of 32 bits
  pub value_fits : (n : ℕ) → n < (head_in st).capacity → (leaf_in st n).value < value_bound
  unfolding leaf_in
  value_fits n h = little_below 4 st (value_at n) (λ i l m. a.bytes i (omega (arith, used_is)))

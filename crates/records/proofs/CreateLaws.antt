-- A new store: its header is right and says that it is empty, every record of both kinds is free in a chain from 0 on, its length is as it was, and so
-- are the bytes past the last block. Assumes nothing.
use mathlib.Core.Path.{◌≡◌, refl, ap, sym, subst, ◌∙◌}
use mathlib.Core.Logic.{◌≢◌}
use mathlib.Core.Bool.{true, cond}
use mathlib.Core.List.{List, [], ◌∷◌}
use Prim.Native.Nat.{ℕ, zero, suc, ◌+◌, ◌≤◌, ◌<◌}
use native.Mathlib.Decide.{ℕ_discrete, dec_lt}
use native.Mathlib.Omega.{arith}
use lib.Dec.{eqb, ltb}
use lib.ListN.{length, drop}
use borrow.Author.Tests.{lt-ltb, le-ltb}
use Rattle.model.specs.Numbers.{least_size, capacity_of, most, used}
use Rattle.node.specs.Layout.{last, free_size, start, Room}
use Rattle.node.specs.Header.{magic, mark_in, set_head, set_mark, head_of, head_in}
use Rattle.node.specs.Leaf.{Leaf, leaf_in}
use Rattle.node.specs.Branch.{array_in}
use Rattle.records.specs.Chain.{Kind, leaves, branches}
use Rattle.records.specs.Create.{next_after, freed_below, new_head, created}
use Rattle.std.specs.Prelude.{Ok}
use Rattle.node.proofs.RecordLaws.{leaf_freed, branch_freed}
use Rattle.node.proofs.HeaderLaws.{Fits, right_good, head_back, length_head, mark_stays, leaf_stays, array_stays, past_stays, length_mark, mark_back, leaf_past_mark, array_past_mark, past_mark, blocks_fit, few}
use Rattle.records.proofs.ChainLaws.{ChainIn, leaves_lawful, branches_lawful}

-- record r of both kinds is free, with x after it
pub record FreeBoth (st : List ℕ) (r x : ℕ) : Type 0 where
  pub leaf : leaves.is_free st r ≡ true
  pub leaf_next : leaves.next st r ≡ x
  pub branch : branches.is_free st r ≡ true
  pub branch_next : branches.next st r ≡ x

-- by the records alone
free_both : (st st' : List ℕ) (r x : ℕ) → leaf_in st' r ≡ leaf_in st r → array_in st' r ≡ array_in st r → FreeBoth st r x → FreeBoth st' r x
free_both st st' r x l a f = record {
  leaf = ap (λ (z : Leaf). eqb z.size free_size) l ∙ f.leaf;
  leaf_next = ap (λ (z : Leaf). z.next) l ∙ f.leaf_next;
  branch = rw a f.branch;
  branch_next = rw a f.branch_next;
}

-- record n of both kinds made free
pub freed_both : List ℕ → ℕ → ℕ → List ℕ
freed_both st n x = branches.freed (leaves.freed st n x) n x

module _ (st : List ℕ) (n x : ℕ) (room : Room st n) where
  room_then : Room (leaves.freed st n x) n
  room_then = omega (arith, (leaf_freed st n x).others.size)

  length_both : length (freed_both st n x) ≡ length st
  unfolding freed_both
  length_both = (branch_freed (leaves.freed st n x) n room_then x).others.size ∙ (leaf_freed st n x).others.size

  past_both : (cap : ℕ) → n < cap → drop (start cap) (freed_both st n x) ≡ drop (start cap) st
  unfolding freed_both
  past_both cap h = (branch_freed (leaves.freed st n x) n room_then x).others.past cap h ∙ (leaf_freed st n x).others.past cap h

  both_here : x < 65536 → FreeBoth (freed_both st n x) n x
  unfolding freed_both
  both_here f =
      let s = leaves.freed st n x in
      let l = (branch_freed s n room_then x).leaf in
      record {
        leaf = ap (λ (z : Leaf). eqb z.size free_size) l ∙ leaves_lawful.marks st n x room;
        leaf_next = ap (λ (z : Leaf). z.next) l ∙ leaves_lawful.names st n x room f;
        branch = branches_lawful.marks s n x room_then;
        branch_next = branches_lawful.names s n x room_then f;
      }

  both_other : (r y : ℕ) → r ≢ n → FreeBoth st r y → FreeBoth (freed_both st n x) r y
  unfolding freed_both
  both_other r y ne g =
      let s = leaves.freed st n x in
      free_both st (branches.freed s n x) r y
      ((branch_freed s n room_then x).others.leaves r ne ∙ (leaf_freed st n x).others.leaves r ne)
      ((branch_freed s n room_then x).others.arrays r ne ∙ (leaf_freed st n x).others.arrays r ne) g

-- ---- all records made free, one after the other

next_small : (cap r : ℕ) → cap ≤ most → next_after cap r < 65536
next_small cap r h = go (dec_lt (r + 1) cap)
  where
    go : Dec (r + 1 < cap) → next_after cap r < 65536
    go (yes l) = rw (lt-ltb (r + 1) cap l) (omega arith)
    go (no l) = rw (le-ltb (r + 1) cap (omega arith)) (omega arith)

freed_step : (cap n : ℕ) (st : List ℕ) → freed_below cap (suc n) st ≡ freed_both (freed_below cap n st) n (next_after cap n)
unfolding freed_below freed_both
freed_step cap n st = refl

module _ (st : List ℕ) (cap : ℕ) (fits : start cap ≤ length st) where
  length_freed : (n : ℕ) → n ≤ cap → length (freed_below cap n st) ≡ length st
  unfolding freed_below
  length_freed zero h = refl
  length_freed (suc n) h =
      let l = length_freed n (omega arith) in
      ap length (freed_step cap n st) ∙ length_both (freed_below cap n st) n (next_after cap n) (omega arith) ∙ l

  room_at : (n : ℕ) → n < cap → Room (freed_below cap n st) n
  room_at n h = omega (arith, length_freed n (omega arith))

  past_freed : (n : ℕ) → n ≤ cap → drop (start cap) (freed_below cap n st) ≡ drop (start cap) st
  unfolding freed_below
  past_freed zero h = refl
  past_freed (suc n) h =
      ap (drop (start cap)) (freed_step cap n st)
      ∙ past_both (freed_below cap n st) n (next_after cap n) (room_at n h) cap h
      ∙ past_freed n (omega arith)

  freed_free : cap ≤ most → (n : ℕ) → n ≤ cap → (r : ℕ) → r < n → FreeBoth (freed_below cap n st) r (next_after cap r)
  freed_free few zero h r k = absurd (omega arith)
  freed_free few (suc n) h r k = go (ℕ_discrete r n) (λ l. freed_free few n (omega arith) r l)
    where
      go : Dec (r ≡ n) → (r < n → FreeBoth (freed_below cap n st) r (next_after cap r)) → FreeBoth (freed_below cap (suc n) st) r (next_after cap r)
      go (yes e) ih =
          rw (e, freed_step cap n st) (both_here (freed_below cap n st) n (next_after cap n) (room_at n h) (next_small cap n few))
      go (no ne) ih =
          rw (freed_step cap n st) (both_other (freed_below cap n st) n (next_after cap n) (room_at n h) r (next_after cap r) ne (ih (omega arith)))

-- ---- the new store

-- the k numbers from i on
abbrev pub up_from : ℕ → ℕ → List ℕ
up_from i zero = []
up_from i (suc k) = i ∷ up_from (suc i) k

module _ (limit : ℕ) (st : List ℕ) (small : limit < 65536) (long : least_size ≤ length st) where
  freed : List ℕ
  freed = freed_below (capacity_of (length st)) (capacity_of (length st)) st

  fits : start (capacity_of (length st)) ≤ length st
  fits = blocks_fit (length st) long

  length_all : length freed ≡ length st
  unfolding freed
  length_all = length_freed st (capacity_of (length st)) fits (capacity_of (length st)) (omega arith)

  pub create_length : length (created limit st) ≡ length st
  unfolding created freed
  create_length = length_head (set_mark freed) (new_head (capacity_of (length st)) limit) ∙ length_mark freed ∙ length_all

  -- "Bytes past 128 x (capacity + 1) are neither read nor written."
  pub create_past : drop (used st) (created limit st) ≡ drop (used st) st
  unfolding created freed
  create_past =
      past_stays (set_mark freed) (new_head (capacity_of (length st)) limit) (capacity_of (length st))
      ∙ past_mark freed (capacity_of (length st))
      ∙ past_freed st (capacity_of (length st)) fits (capacity_of (length st)) (omega arith)

  create_fits : Fits (new_head (capacity_of (length st)) limit)
  create_fits = record {
    capacity = omega arith;
    limit = small;
    leaves = omega arith;
    branches = omega arith;
    root = omega arith;
    leaf = omega arith;
    branch = omega arith;
  }

  pub create_head : head_in (created limit st) ≡ new_head (capacity_of (length st)) limit
  unfolding created freed
  create_head = head_back (set_mark freed) (new_head (capacity_of (length st)) limit) (omega (arith, length_mark freed, length_all)) create_fits

  marked : mark_in (created limit st) ≡ magic
  unfolding created freed
  marked = mark_stays (set_mark freed) (new_head (capacity_of (length st)) limit) ∙ mark_back freed (omega (arith, length_all))

  pub create_right : head_of (created limit st) ≡ Ok (new_head (capacity_of (length st)) limit)
  create_right = right_good (created limit st) (new_head (capacity_of (length st)) limit) (record {
    is = sym create_head;
    long = omega (arith, create_length);
    mark = marked;
    capacity = ap capacity_of (sym create_length);
    leaves = omega arith;
    branches = omega arith;
  })

  pub create_free : (r : ℕ) → r < capacity_of (length st) → FreeBoth (created limit st) r (next_after (capacity_of (length st)) r)
  unfolding created freed
  create_free r h =
      free_both freed (set_head (set_mark freed) (new_head (capacity_of (length st)) limit)) r (next_after (capacity_of (length st)) r)
      (leaf_stays (set_mark freed) (new_head (capacity_of (length st)) limit) r ∙ leaf_past_mark freed r)
      (array_stays (set_mark freed) (new_head (capacity_of (length st)) limit) r ∙ array_past_mark freed r)
      (freed_free st (capacity_of (length st)) fits (few (length st)) (capacity_of (length st)) (omega arith) r h)

-- free records, each with the next number after it, are a chain
module _ (K : Kind) (st : List ℕ) (cap : ℕ) (free : (r : ℕ) → r < cap → (K.is_free st r ≡ true) × (K.next st r ≡ next_after cap r)) where
  chain_from : (k i : ℕ) → i + k ≡ cap → ChainIn K st cap (cond (ltb i cap) i last) (up_from i k)
  chain_from zero i e = rw (le-ltb i cap (omega arith))
  chain_from (suc k) i e =
      let h : i < cap = omega arith in
      let a : suc i ≡ i + 1 = omega arith in
      let n : cond (ltb (suc i) cap) (suc i) last ≡ K.next st i = ap (λ (z : ℕ). cond (ltb z cap) z last) a ∙ sym (free i h).1 in
      rw (lt-ltb i cap h) (refl, (h, (free i h).0), subst (λ (z : ℕ). ChainIn K st cap z (up_from (suc i) k)) n (chain_from k (suc i) (omega arith)))

  pub chain_all : 0 < cap → ChainIn K st cap 0 (up_from 0 cap)
  chain_all h = rw (lt-ltb 0 cap h) at (chain_from cap 0 (omega arith))

module _ (limit : ℕ) (st : List ℕ) (small : limit < 65536) (long : least_size ≤ length st) where
  pub create_leaves : ChainIn leaves (created limit st) (capacity_of (length st)) 0 (up_from 0 (capacity_of (length st)))
  create_leaves =
      chain_all leaves (created limit st) (capacity_of (length st))
      (λ r h. let f = create_free limit st small long r h in (f.leaf, f.leaf_next)) (omega arith)

  pub create_branches : ChainIn branches (created limit st) (capacity_of (length st)) 0 (up_from 0 (capacity_of (length st)))
  create_branches =
      chain_all branches (created limit st) (capacity_of (length st))
      (λ r h. let f = create_free limit st small long r h in (f.branch, f.branch_next)) (omega arith)

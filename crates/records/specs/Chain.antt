-- The free records of each kind: how a free record looks, what taking the first one and giving one back do to the bytes and to the header's numbers.
-- A `Kind` has what differs between leaves and branches, so that what holds of both is said once.
-- Assumes nothing.
use Rattle.std.specs.Prelude.{ℕ, ◌+◌, ◌-◌, ◌<◌, ◌≡◌, Bool, true, cond, ◌&&◌, List, ltb, eqb, length, Option as Maybe, Some, None}
use Rattle.std.proofs.Math.Option.{Option, none, some}
use Rattle.node.specs.Layout.{free_size}
use Rattle.node.specs.Header.{header}
use Rattle.node.specs.Leaf.{leaf_in, free_leaf}
use Rattle.node.specs.Branch.{children_in, after_in, free_branch}
use Rattle.node.specs.declared.header.Header.{Header}
use Rattle.node.specs.declared.child.LeafNo.{LeafNo}
use Rattle.node.specs.declared.child.BranchNo.{BranchNo}

pub record Kind : Type 0 where
  -- record n is marked as free
  pub is_free : List ℕ → ℕ → Bool
  -- the number after a free record
  pub next : List ℕ → ℕ → ℕ
  -- the store with record n free, and a number after it
  pub freed : List ℕ → ℕ → ℕ → List ℕ
  -- the header's first free record and its count of those in use, and the header with others
  pub first : Header → ℕ
  pub used : Header → ℕ
  pub with : Header → (first used : ℕ) → Header

abbrev pub leaves : Kind
leaves = record {
  is_free = λ st n. eqb (leaf_in st n).size free_size;
  next = λ st n. (leaf_in st n).next;
  freed = free_leaf;
  first = λ h. h.leaf;
  used = λ h. h.leaves;
  with = λ h f u. header h.capacity h.limit u h.branches h.root f h.branch;
}

abbrev pub branches : Kind
branches = record {
  is_free = λ st n. eqb (length (children_in st n)) 0;
  next = after_in;
  freed = free_branch;
  first = λ h. h.branch;
  used = λ h. h.branches;
  with = λ h f u. header h.capacity h.limit h.leaves u h.root h.leaf f;
}

-- record n of a kind is one of the store's, and marked as free
abbrev pub Free : Kind → List ℕ → (capacity n : ℕ) → Type 0
Free K st cap n = (n < cap) × (K.is_free st n ≡ true)

-- the first free record, and the header once it is taken: if its number is one of the store's, fewer are in use than there are, and it is marked as free
abbrev pub taken : Kind → List ℕ → Header → Option (ℕ × Header)
taken K st h =
    cond (ltb (K.first h) h.capacity && (ltb (K.used h) h.capacity && K.is_free st (K.first h)))
    (some (K.first h, K.with h (K.next st (K.first h)) (K.used h + 1)))
    none

-- the header once record n is given back
abbrev pub gave : Kind → Header → ℕ → Header
gave K h n = K.with h n (K.used h - 1)

-- ---- in the code's types

-- the records of a number
abbrev pub leaf_at : ℕ → LeafNo
leaf_at n = record { 0 = n }

abbrev pub branch_at : ℕ → BranchNo
branch_at n = record { 0 = n }

-- what is taken, as a record and a header
abbrev pub as_record : {R : Type 0} → (ℕ → R) → Option (ℕ × Header) → Maybe (R × Header)
as_record at none = None
as_record at (some r) = Some (at r.0, r.1)

abbrev pub taken_record : {R : Type 0} → (ℕ → R) → Kind → List ℕ → Header → Maybe (R × Header)
taken_record at K st h = as_record at (taken K st h)

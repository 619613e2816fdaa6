-- "Bytes past 128 x (capacity + 1) are neither read nor written": the header, the records and what is accepted hang on the bytes before.
-- Assumes nothing.
use Prim.Native.Nat.{ℕ, ◌+◌, ◌≤◌, ◌<◌}
use mathlib.Core.Path.{◌≡◌, sym, ap, subst, ◌∙◌}
use mathlib.Core.List.{List}
use mathlib.Core.Option.{Option}
use native.Mathlib.Omega.{arith}
use native.Mathlib.Decide.{dec_lt}
use lib.Dec.{leb}
use lib.ListN.{length, take, get_or}
use lib.Seq.{get_or-take}
use borrow.Author.Tests.{le-leb, lt-leb}
use Rattle.model.specs.Numbers.{header_size, least_size, capacity_of, used}
use Rattle.model.specs.Picture.{Tree}
use Rattle.fields.specs.Number.{little}
use Rattle.fields.proofs.NumberLaws.{little_agree}
use Rattle.node.specs.Header.{mark_in, head_in, head_of}
use Rattle.trie_spec.specs.Accepted.{Accepted}
use Rattle.trie_spec.proofs.AcceptedLaws.{right, capacity_is}
use Rattle.trie_spec.proofs.UnreadLaws.{Alike, leaf_alike, array_alike}
use Rattle.index_spec.proofs.SameLaws.{same_accepted}
use Rattle.std.specs.Prelude.{Ok}

-- bytes of the same start
pub byte_same : (n : ℕ) (st su : List ℕ) → take n st ≡ take n su → (i : ℕ) → i < n → get_or st i 0 ≡ get_or su i 0
byte_same n st su e i h = sym (get_or-take n st i 0 h) ∙ ap (λ (z : List ℕ). get_or z i 0) e ∙ get_or-take n su i 0 h

-- ---- the header

module _ (st su : List ℕ) (same : (i : ℕ) → i < header_size → get_or st i 0 ≡ get_or su i 0) where
  number_same : (w at : ℕ) → at + w ≤ header_size → little w st at ≡ little w su at
  number_same w at h = little_agree w st su at at (λ i l. same (at + i) (omega arith))

  pub mark_same : mark_in st ≡ mark_in su
  unfolding mark_in
  mark_same = number_same 4 0 (omega arith)

  pub head_same : head_in st ≡ head_in su
  unfolding head_in
  head_same =
      rw (
        number_same 2 4 (omega arith),
        number_same 2 6 (omega arith),
        number_same 2 8 (omega arith),
        number_same 2 10 (omega arith),
        number_same 3 12 (omega arith),
        number_same 2 15 (omega arith),
        number_same 2 17 (omega arith),
      )

-- ---- a slice of the same capacity with the same used bytes

module _ (st su : List ℕ) (e : used st ≡ used su) (p : take (used st) st ≡ take (used su) su) where
  pub capacity_same : capacity_of (length st) ≡ capacity_of (length su)
  capacity_same = omega (arith, e)

  same : (i : ℕ) → i < used st → get_or st i 0 ≡ get_or su i 0
  same i h = byte_same (used st) st su (p ∙ ap (λ (n : ℕ). take n su) (sym e)) i h

  same_start : (i : ℕ) → i < header_size → get_or st i 0 ≡ get_or su i 0
  same_start i h = same i (omega arith)

  least_same : leb least_size (length st) ≡ leb least_size (length su)
  least_same = go (dec_lt (length st) least_size)
    where
      go : Dec (length st < least_size) → leb least_size (length st) ≡ leb least_size (length su)
      go (yes h) = lt-leb least_size (length st) h ∙ sym (lt-leb least_size (length su) (omega (arith, capacity_same)))
      go (no h) = le-leb least_size (length st) (omega arith) ∙ sym (le-leb least_size (length su) (omega (arith, capacity_same)))

  pub header_same : head_of st ≡ head_of su
  unfolding head_of
  header_same = rw (least_same, mark_same st su same_start, head_same st su same_start, capacity_same)

  pub head_in_same : head_in st ≡ head_in su
  head_in_same = head_same st su same_start

  -- the blocks
  pub alike : least_size ≤ length st → Alike (capacity_of (length st)) st su
  alike long = record { left = omega arith; right = omega (arith, capacity_same); same = p ∙ ap (λ (n : ℕ). take n su) (sym e) }

  -- what is accepted
  pub accepted_same : (o : Option Tree) → Accepted st o → Accepted su o
  accepted_same o a =
      same_accepted st su (head_in st).limit
      (record {
        head = head_in_same;
        leaf = λ n h. leaf_alike (alike (right st o a).long) n (omega (arith, capacity_is st o a));
        array = λ n h. array_alike (alike (right st o a).long) n (omega (arith, capacity_is st o a));
      })
      o a
      (λ i h. subst (λ (z : ℕ). z < 256) (same i (omega (arith, e))) (a.bytes i (omega (arith, e))))
      (sym header_same ∙ a.head ∙ ap Ok head_in_same)

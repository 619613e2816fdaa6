-- The laws of the array in its 55 bytes: what the bitmap and the items tell of the (slot, item) list, and what the list is after each write.
-- Assumes nothing.
use mathlib.Core.Path.{◌≡◌, refl, sym, ap, ◌∙◌}
use mathlib.Core.Bool.{Bool, true, false, cond}
use mathlib.Core.Option.{Option, none, some}
use Rattle.std.specs.Prelude.{Option as CodeOption, Result, Ok}
use mathlib.Core.List.{List, []}
use Prim.Native.Nat.{ℕ, suc, ◌≤◌, ◌<◌}
use native.Mathlib.Decide.{dec_lt}
use native.Mathlib.Omega.{arith}
use lib.Dec.{leb}
use borrow.Author.Tests.{leb-true}
use lib.ListN.{get_or, set, take, length, length-set, get_or-eq_default}
use Rattle.bitmap.specs.Bits.{bits_of, count, lowest, present}
use Rattle.bitmap.specs.Entries.{pack, lookup, head, tail, insert, erase, below, Rising}
use Rattle.sparse_array.specs.Array.{size, bitmap_of, item_at, entries, with_item, with_bitmap, opened, closed, turned, place_in, count_in, is_in, with_slot, without_slot, without_lowest, cleared}
use Rattle.sparse_array.specs.Answers.{here, got, new_or, removed_answer, got_number, put_number, removed_number, WasSet, WasRemoved, WasPopped}
use Rattle.sparse_array.specs.declared.NoSlot.{NoSlot}
use Rattle.sparse_array.specs.declared.Put.{Put}
use Rattle.bitmap.proofs.BitLaws.{length_bits, bits_number, number_lt}
use Rattle.bitmap.proofs.EntryLaws.{lookup_pack, below_pack, length_pack, head_pack, pack_none, pack_ext, put_in, put_over, take_out, insert_pack, replace_pack, erase_pack, erase_lowest, erase_missing, is_put_in, is_put_over, is_take_out, count_set, count_clear, count_le, count_take, place_le, place_lt, none_set, pack_rising}
use Rattle.sparse_array.proofs.ItemLaws.{length_item, length_bitmap, length_opened, length_closed, item_same, item_other, bitmap_kept, bitmap_new, item_kept, opened_below, opened_above, closed_below, closed_above}

-- ---- reading: `bits` is the bitmap as code holds it

pub over : (n slot : ℕ) → 16 < slot → get_or (present n) slot false ≡ false
over n slot h = get_or-eq_default (present n) false (omega (arith, length_bits 17 n))

here_cond : (t : Bool) (x : ℕ) → here (cond t (some x) none) ≡ t
here_cond true x = refl
here_cond false x = refl

module _ (a : List ℕ) (bits slot : ℕ) (is : bits ≡ bitmap_of a) where
  pub found : (at x : ℕ) → get_or (present bits) slot false ≡ true → at ≡ count (take slot (present bits)) → x ≡ item_at a at
      → lookup slot (entries a) ≡ some x
  unfolding entries
  found at x t p e =
      lookup_pack (present (bitmap_of a)) (item_at a) slot
      ∙ rw (← is, t) (ap some (sym (e ∙ ap (item_at a) p)))

  pub missing : get_or (present bits) slot false ≡ false → lookup slot (entries a) ≡ none
  unfolding entries
  missing t = lookup_pack (present (bitmap_of a)) (item_at a) slot ∙ rw (← is, t)

  pub presence : get_or (present bits) slot false ≡ here (lookup slot (entries a))
  unfolding entries
  presence = sym (ap here (lookup_pack (present (bitmap_of a)) (item_at a) slot) ∙ rw (← is) (here_cond (get_or (present bits) slot false) _))

  pub placed_at : (at : ℕ) → at ≡ count (take slot (present bits)) → below slot (entries a) ≡ at
  unfolding entries
  placed_at at p = below_pack (present (bitmap_of a)) (item_at a) slot ∙ rw (← is) (sym p)

module _ (a : List ℕ) (bits : ℕ) (is : bits ≡ bitmap_of a) where
  pub counted : (n : ℕ) → n ≡ count (present bits) → length (entries a) ≡ n
  unfolding entries
  counted n e = length_pack (present (bitmap_of a)) (item_at a) ∙ rw (← is) (sym e)

  -- the lowest slot's item, where there is one
  pub first : (x : ℕ) → 0 < count (present bits) → x ≡ item_at a 0 → head (entries a) ≡ some x
  unfolding entries
  first x h e = head_pack (present (bitmap_of a)) (item_at a) (rw (← is) h) ∙ ap some (sym e)

  pub empty : count (present bits) ≡ 0 → entries a ≡ []
  unfolding entries
  empty h = pack_none (present (bitmap_of a)) (item_at a) (rw (← is) h)

pub beyond : (a : List ℕ) (slot : ℕ) → 16 < slot → lookup slot (entries a) ≡ none
beyond a slot h = missing a (bitmap_of a) slot refl (over (bitmap_of a) slot h)

-- whatever the bytes are, the slots rise and are at most 16
pub rising : (a : List ℕ) → Rising 0 17 (entries a)
unfolding entries
rising a = rw length_bits at (pack_rising (present (bitmap_of a)) (item_at a))

-- ---- places and counts

pub room : (bits slot : ℕ) → slot ≤ 16 → get_or (present bits) slot false ≡ false → count (present bits) ≤ 16
room bits slot h t =
    omega (
      arith,
      count_set (present bits) slot (omega (arith, length_bits 17 bits)) t,
      count_le (set (present bits) slot true),
      length-set (present bits) slot true,
      length_bits 17 bits,
    )

pub at_most : (bits : ℕ) → count (present bits) ≤ 17
at_most bits = omega (arith, count_le (present bits), length_bits 17 bits)

-- ---- the bitmap with a digit turned

module _ (a : List ℕ) (slot : ℕ) (b : Bool) where
  digits : length (set (present (bitmap_of a)) slot b) ≡ 17
  digits = length-set (present (bitmap_of a)) slot b ∙ length_bits 17 (bitmap_of a)

  pub turned_digits : present (turned a slot b) ≡ set (present (bitmap_of a)) slot b
  turned_digits = rw digits at (bits_number (set (present (bitmap_of a)) slot b))

  pub turned_fits : turned a slot b < 131072
  turned_fits = rw digits at (number_lt (set (present (bitmap_of a)) slot b))

-- ---- writing

module _ (a : List ℕ) (l : length a ≡ size) where
  -- an item over another
  pub replaced : (slot v : ℕ) → slot ≤ 16 → v < 16777216 → is_in a slot ≡ true → entries (with_item a (place_in a slot) v) ≡ insert slot v (entries a)
  unfolding entries
  replaced slot v k u t =
      let at : ℕ = place_in a slot in
      let h : at ≤ 16 = omega (arith, count_take (present (bitmap_of a)) slot) in
      rw (bitmap_kept a at v)
      (pack_ext (present (bitmap_of a)) (item_at (with_item a at v)) (put_over at v (item_at a))
      (λ i _. is_put_over at v (item_at a) (item_at (with_item a at v)) (λ j ne. item_other a at v j ne) (item_same a at v l h u) i)
      ∙ replace_pack (present (bitmap_of a)) (item_at a) slot v t)

  -- a new item
  pub inserted : (slot v : ℕ) → slot ≤ 16 → v < 16777216 → is_in a slot ≡ false
      → entries (with_bitmap (with_item (opened (place_in a slot) (count_in a) a) (place_in a slot) v) (turned a slot true)) ≡ insert slot v (entries a)
  unfolding entries
  inserted slot v k u t =
      let bs : List Bool = present (bitmap_of a) in
      let at : ℕ = place_in a slot in
      let n : ℕ = count_in a in
      let b : List ℕ = opened at n a in
      let c : List ℕ = with_item b at v in
      let m : ℕ = turned a slot true in
      let d : List ℕ = with_bitmap c m in
      let h : at ≤ n = place_le bs slot in
      let w : n ≤ 16 = room (bitmap_of a) slot k t in
      let lb : length b ≡ size = length_opened at n a ∙ l in
      let lc : length c ≡ size = length_item b at v ∙ lb in
      let inside : slot < length bs = omega (arith, length_bits 17 (bitmap_of a)) in
      let one_more : count (set bs slot true) ≡ suc n = count_set bs slot inside t in
      let same : (i : ℕ) → i < suc n → item_at d i ≡ put_in at v (item_at a) i =
      is_put_in n at v (item_at a) (item_at d)
      (λ i q. item_kept c m i ∙ item_other b at v i (λ f. omega arith) ∙ opened_below at n a l h w i q)
      (item_kept c m at ∙ item_same b at v lb (omega arith) u)
      (λ i q r. item_kept c m (suc i) ∙ item_other b at v (suc i) (λ f. omega arith) ∙ opened_above at n a l h w i q r) in
      rw (bitmap_new c m lc (turned_fits a slot true), turned_digits a slot true)
      (pack_ext (set bs slot true) (item_at d) (put_in at v (item_at a)) (λ i q. same i (rw one_more at q))
      ∙ insert_pack bs (item_at a) slot v inside t)

  -- an item taken out
  pub erased : (slot : ℕ) → is_in a slot ≡ true
      → entries (with_bitmap (closed (place_in a slot) (count_in a) a) (turned a slot false)) ≡ erase slot (entries a)
  unfolding entries
  erased slot t =
      let bs : List Bool = present (bitmap_of a) in
      let at : ℕ = place_in a slot in
      let n : ℕ = count_in a in
      let b : List ℕ = closed at n a in
      let m : ℕ = turned a slot false in
      let d : List ℕ = with_bitmap b m in
      let h : at < n = place_lt bs slot t in
      let w : n ≤ 17 = at_most (bitmap_of a) in
      let lb : length b ≡ size = length_closed at n a ∙ l in
      let one_less : suc (count (set bs slot false)) ≡ n = count_clear bs slot t in
      rw (bitmap_new b m lb (turned_fits a slot false), turned_digits a slot false)
      (pack_ext (set bs slot false) (item_at d) (take_out at (item_at a))
      (λ i q. is_take_out (count (set bs slot false)) at (item_at a) (item_at d)
      (λ j r. item_kept b m j ∙ closed_below at n a l h w j r)
      (λ j r x. item_kept b m j ∙ closed_above at n a l h w j r (omega arith)) i q)
      ∙ erase_pack bs (item_at a) slot t)

-- of an empty array nothing is taken out
lowest_erased : (a : List ℕ) → erase (lowest (present (bitmap_of a))) (entries a) ≡ tail (entries a)
unfolding entries erase
lowest_erased a = go (dec_lt 0 (count (present (bitmap_of a))))
  where
    go : Dec (0 < count (present (bitmap_of a)))
        → erase (lowest (present (bitmap_of a))) (pack (present (bitmap_of a)) (item_at a)) ≡ tail (pack (present (bitmap_of a)) (item_at a))
    go (yes h) = erase_lowest (present (bitmap_of a)) (item_at a) h
    go (no h) = rw (pack_none (present (bitmap_of a)) (item_at a) (omega arith))

-- a place is at most the number of slots
pub below_bound : (slot : ℕ) (a : List ℕ) → below slot (entries a) ≤ 17
unfolding entries
below_bound slot a = omega (arith, below_pack (present (bitmap_of a)) (item_at a) slot, place_le (present (bitmap_of a)) slot, at_most (bitmap_of a))

-- ---- what the bytes mean after each call

module _ (a : List ℕ) (l : length a ≡ size) where
  pub set_means : (slot v : ℕ) → v < 16777216 → entries (with_slot slot v a) ≡ cond (leb slot 16) (insert slot v (entries a)) (entries a)
  unfolding with_slot
  set_means slot v u = go (leb slot 16) refl (is_in a slot) refl
    where
      go : (s : Bool) → leb slot 16 ≡ s → (t : Bool) → is_in a slot ≡ t
          → entries (cond s (cond t (with_item a (place_in a slot) v) (with_bitmap (with_item (opened (place_in a slot) (count_in a) a) (place_in a slot) v) (turned a slot true))) a)
          ≡ cond s (insert slot v (entries a)) (entries a)
      go true e true t = replaced a l slot v (leb-true slot 16 e) u t
      go true e false t = inserted a l slot v (leb-true slot 16 e) u t
      go false e t f = refl

  pub remove_means : (slot : ℕ) → entries (without_slot slot a) ≡ erase slot (entries a)
  unfolding without_slot
  remove_means slot = go (is_in a slot) refl
    where
      go : (t : Bool) → is_in a slot ≡ t → entries (cond t (with_bitmap (closed (place_in a slot) (count_in a) a) (turned a slot false)) a) ≡ erase slot (entries a)
      go true t = erased a l slot t
      go false t = sym (erase_missing slot (entries a) (missing a (bitmap_of a) slot refl t))

  pub pop_means : entries (without_lowest a) ≡ tail (entries a)
  unfolding without_lowest
  pop_means = remove_means (lowest (present (bitmap_of a))) ∙ lowest_erased a

  pub clear_means : entries (cleared a) ≡ []
  unfolding entries cleared bits_of
  clear_means = pack_none (present (bitmap_of (with_bitmap a 0))) (item_at (with_bitmap a 0)) (rw (bitmap_new a 0 l (omega arith)))

-- ---- no call changes the length

pub length_set_bytes : (slot v : ℕ) (a : List ℕ) → length (with_slot slot v a) ≡ length a
unfolding with_slot
length_set_bytes slot v a = go (leb slot 16) (is_in a slot)
  where
    go : (s t : Bool) → length (cond s (cond t (with_item a (place_in a slot) v) (with_bitmap (with_item (opened (place_in a slot) (count_in a) a) (place_in a slot) v) (turned a slot true))) a) ≡ length a
    go true true = length_item a (place_in a slot) v
    go true false =
        length_bitmap (with_item (opened (place_in a slot) (count_in a) a) (place_in a slot) v) (turned a slot true)
        ∙ length_item (opened (place_in a slot) (count_in a) a) (place_in a slot) v
        ∙ length_opened (place_in a slot) (count_in a) a
    go false t = refl

pub length_remove_bytes : (slot : ℕ) (a : List ℕ) → length (without_slot slot a) ≡ length a
unfolding without_slot
length_remove_bytes slot a = go (is_in a slot)
  where
    go : (t : Bool) → length (cond t (with_bitmap (closed (place_in a slot) (count_in a) a) (turned a slot false)) a) ≡ length a
    go true = length_bitmap (closed (place_in a slot) (count_in a) a) (turned a slot false) ∙ length_closed (place_in a slot) (count_in a) a
    go false = refl

-- ---- "ABSENT and change nothing": by document 01's numbers, a refusal is from 10 up

pub set_refused : (slot v : ℕ) (a b : List ℕ) (r : Result Put NoSlot) → WasSet slot v a b r → 10 ≤ put_number r → b ≡ a
unfolding with_slot
set_refused slot v a b r w h = go (leb slot 16) refl
  where
    go : (s : Bool) → leb slot 16 ≡ s → b ≡ a
    go true e = absurd (taken (lookup slot (entries a)) (w.answer ∙ rw e))
      where
        taken : (o : Option ℕ) → r ≡ Ok (new_or o) → ⊥
        taken none q = absurd (omega (arith, rw q at h))
        taken (some x) q = absurd (omega (arith, rw q at h))
    go false e = w.bytes ∙ rw e

pub remove_refused : (slot : ℕ) (a b : List ℕ) (r : Result (Unit {0}) NoSlot) → WasRemoved slot a b r → 10 ≤ removed_number r → b ≡ a
unfolding without_slot
remove_refused slot a b r w h = go (is_in a slot) refl
  where
    go : (t : Bool) → is_in a slot ≡ t → b ≡ a
    go true e = absurd (omega (arith, rw (w.answer ∙ ap removed_answer (found a (bitmap_of a) slot refl (place_in a slot) (item_at a (place_in a slot)) e refl refl)) at h))
    go false e = w.bytes ∙ rw e

pub pop_refused : (a b : List ℕ) (r : CodeOption ℕ) → WasPopped a b r → 10 ≤ got_number r → b ≡ a
unfolding without_lowest without_slot
pop_refused a b r w h = go (dec_lt 0 (count (present (bitmap_of a))))
  where
    go : Dec (0 < count (present (bitmap_of a))) → b ≡ a
    go (yes l) = absurd (omega (arith, rw (w.answer ∙ ap got (first a (bitmap_of a) refl (item_at a 0) l refl)) at h))
    go (no l) = w.bytes ∙ rw (none_set (present (bitmap_of a)) (omega arith))

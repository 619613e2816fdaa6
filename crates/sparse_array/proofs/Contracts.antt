-- A law for each way out of a function: from its callees' contracts to its own. `bits` is the bitmap as the code holds it. Assumes nothing.
use mathlib.Core.Path.{◌≡◌, refl, sym, ap, subst, ◌∙◌}
use mathlib.Core.Bool.{Bool, true, false}
use mathlib.Core.Option.{Option as Lookup, none, some}
use Rattle.std.specs.Prelude.{Option, Some, None, Ok, Err, MatchOption}
use mathlib.Core.List.{List}
use Prim.Native.Nat.{ℕ, ◌≤◌, ◌<◌}
use native.Mathlib.Decide.{dec_lt}
use native.Mathlib.Omega.{arith}
use lib.ListN.{length, get_or, set, take}
use borrow.Author.Tests.{le-leb, lt-leb}
use Rattle.bitmap.specs.Bits.{count, lowest, present}
use Rattle.bitmap.specs.Entries.{Entry, lookup, nth, head, erase}
use Rattle.sparse_array.specs.Array.{bitmap_of, item_at, entries, with_item, with_bitmap, opened, closed, with_slot, without_slot, without_lowest}
use Rattle.sparse_array.specs.Answers.{got, got_or_head, here, no_slot, or_else, placed, WasSet, WasRemoved, WasPopped}
use Rattle.sparse_array.specs.declared.Put.TheVariants.{New, Replaced}
use Rattle.bitmap.proofs.BitLaws.{number_is}
use Rattle.bitmap.proofs.EntryLaws.{nth_pack, nth_past, place_le, place_lt, lowest_set, lowest_place, none_set, erase_missing}
use Rattle.sparse_array.proofs.MapLaws.{nth_head, lowest_out, other_out}
use Rattle.sparse_array.proofs.ArrayLaws.{over, found, missing, presence, placed_at, counted, first, empty, beyond, rising, room}

-- ---- no slot over 16

module _ (a : List ℕ) (slot : ℕ) (h : 16 < slot) where
  pub has_beyond : false ≡ here (lookup slot (entries a))
  has_beyond = rw (beyond a slot h)

  pub place_beyond : None ≡ placed slot (entries a)
  place_beyond = rw (lt-leb slot 16 h)

  pub get_beyond : None ≡ got (lookup slot (entries a))
  get_beyond = rw (beyond a slot h)

  pub get_or_head_beyond : None ≡ got_or_head slot (entries a)
  get_or_head_beyond = rw (lt-leb slot 16 h)

  pub set_beyond : (v : ℕ) → WasSet slot v a a (Err no_slot)
  unfolding with_slot
  set_beyond v = record { answer = rw (lt-leb slot 16 h); bytes = rw (lt-leb slot 16 h) }

  pub remove_beyond : WasRemoved slot a a (Err no_slot)
  unfolding without_slot
  remove_beyond = record { answer = rw (beyond a slot h); bytes = rw (over (bitmap_of a) slot h) }

-- ---- the whole array

module _ (a : List ℕ) (bits n : ℕ) (is : bits ≡ bitmap_of a) (e : n ≡ count (present bits)) where
  pub len_is : n ≡ length (entries a)
  len_is = sym (counted a bits is n e)

  pub head_none : n ≡ 0 → None ≡ got (head (entries a))
  head_none z = rw (empty a bits is (sym e ∙ z))

  pub pop_empty : n ≡ 0 → WasPopped a a None
  unfolding without_lowest without_slot
  pop_empty z = record { answer = head_none z; bytes = rw (none_set (present (bitmap_of a)) (rw (← is) (sym e ∙ z))) }

  -- where there is no lowest slot, the count is 0
  pub none_in : (g : Option ℕ) → g ≡ got (head (entries a)) → g ≡ None → n ≡ 0
  none_in g f is_none = go (dec_lt 0 n)
    where
      go : Dec (0 < n) → n ≡ 0
      go (yes l) = absurd (let w : Some (item_at a 0) ≡ None = rw (first a bits is (item_at a 0) (omega arith) refl) at (sym f ∙ is_none) in cc w)
      go (no l) = omega arith

  module _ (g : Option ℕ) (x : ℕ) (f : g ≡ got (head (entries a))) (is_some : g ≡ Some x) where
    -- where there is a lowest slot, the count is not 0
    pub some_in : 0 < n
    some_in = go (dec_lt 0 n)
      where
        go : Dec (0 < n) → 0 < n
        go (yes l) = l
        go (no l) = absurd (let w : Some x ≡ None = sym is_some ∙ f ∙ sym (head_none (omega arith)) in cc w)

    pub pop_first : (b d : List ℕ) (slot m : ℕ) → slot ≡ lowest (present bits)
        → b ≡ closed 0 n a → present m ≡ set (present bits) slot false → m < 131072 → d ≡ with_bitmap b m
        → WasPopped a d (Some x)
    unfolding without_lowest without_slot
    pop_first b d slot m low o p w q =
        let h : 0 < count (present bits) = omega (arith, some_in) in
        record {
          answer = sym is_some ∙ f;
          bytes =
              rw (← is, lowest_set (present bits) h, lowest_place (present bits), ← e, ← low)
              (q ∙ rw (o, number_is 17 m (set (present bits) slot false) w p));
        }

pub head_is : (a : List ℕ) (g : Option ℕ) → g ≡ got (nth 0 (entries a)) → g ≡ got (head (entries a))
head_is a g q = q ∙ ap got (nth_head (entries a))

-- ---- a place

module _ (a : List ℕ) (bits n i : ℕ) (is : bits ≡ bitmap_of a) (e : n ≡ count (present bits)) where
  pub at_place : (x : ℕ) → i < n → x ≡ item_at a i → Some x ≡ got (nth i (entries a))
  unfolding entries
  at_place x h f = ap (λ (y : ℕ). got (some y)) f ∙ ap got (sym (nth_pack (present (bitmap_of a)) (item_at a) i (rw (← is) (omega arith))))

  pub past_place : n ≤ i → None ≡ got (nth i (entries a))
  past_place h = ap got (sym (nth_past i (entries a) (omega (arith, counted a bits is n e))))

-- ---- the lowest slot but for one

module _ (a : List ℕ) (slot : ℕ) (g : Option ℕ) where
  module _ (is : g ≡ got (head (entries a))) where
    pub head_beyond : 16 < slot → g ≡ got (head (erase slot (entries a)))
    head_beyond h = is ∙ ap (λ (es : List Entry). got (head es)) (sym (erase_missing slot (entries a) (beyond a slot h)))

    pub head_missing : (bits : ℕ) (f : Bool) → bits ≡ bitmap_of a → f ≡ get_or (present bits) slot false → f ≡ false → g ≡ got (head (erase slot (entries a)))
    head_missing bits f e q t = is ∙ ap (λ (es : List Entry). got (head es)) (sym (erase_missing slot (entries a) (missing a bits slot e (sym q ∙ t))))

  module _ (bits at : ℕ) (e : bits ≡ bitmap_of a) (p : at ≡ count (take slot (present bits))) where
    pub other_first : (at ≡ 0 → ⊥) → g ≡ got (head (entries a)) → g ≡ got (head (erase slot (entries a)))
    other_first z is = is ∙ ap got (other_out slot 0 17 (entries a) (rising a) (λ h. z (sym (placed_at a bits slot e at p) ∙ h)))

    pub other_second : (f : Bool) → f ≡ get_or (present bits) slot false → f ≡ true → at ≡ 0 → g ≡ got (nth 1 (entries a)) → g ≡ got (head (erase slot (entries a)))
    other_second f q t z is =
        is
        ∙ ap got (
        lowest_out slot 0 17 (item_at a at) (entries a) (rising a) (found a bits slot e at (item_at a at) (sym q ∙ t) p refl)
        (placed_at a bits slot e at p ∙ z)
        )

-- ---- a slot's item, or the lowest one where the slot is missing

pub get_or_head_is : (P : Type 0) (a : List ℕ) (slot : ℕ) (g r : Option ℕ) → slot ≤ 16 → g ≡ got (lookup slot (entries a)) → (P → r ≡ got (head (entries a)))
    → MatchOption g P (λ x. r ≡ Some x) → r ≡ got_or_head slot (entries a)
get_or_head_is P a slot g r h q f m =
    rw (le-leb slot 16 h) (go (lookup slot (entries a)) (subst (λ (o : Option ℕ). MatchOption o P (λ x. r ≡ Some x)) q m))
  where
    go : (o : Lookup ℕ) → MatchOption (got o) P (λ x. r ≡ Some x) → r ≡ got (or_else o (head (entries a)))
    go none w = f w
    go (some x) w = w

-- ---- a slot

module _ (a : List ℕ) (bits slot : ℕ) (f : Bool) (is : bits ≡ bitmap_of a) (q : f ≡ get_or (present bits) slot false) where
  pub has_is : f ≡ here (lookup slot (entries a))
  has_is = q ∙ presence a bits slot is

  pub get_missing : f ≡ false → None ≡ got (lookup slot (entries a))
  get_missing t = rw (missing a bits slot is (sym q ∙ t))

  pub remove_missing : f ≡ false → WasRemoved slot a a (Err no_slot)
  unfolding without_slot
  remove_missing t = record { answer = rw (missing a bits slot is (sym q ∙ t)); bytes = rw (← is, ← q, t) }

-- ---- a slot and its place

module _ (a : List ℕ) (bits slot at : ℕ) (is : bits ≡ bitmap_of a) (p : at ≡ count (take slot (present bits))) where
  pub place_is : slot ≤ 16 → Some at ≡ placed slot (entries a)
  place_is h = rw (le-leb slot 16 h, placed_at a bits slot is at p)

  module _ (f : Bool) (q : f ≡ get_or (present bits) slot false) where
    pub get_found : (x : ℕ) → f ≡ true → x ≡ item_at a at → Some x ≡ got (lookup slot (entries a))
    get_found x t i = rw (found a bits slot is at x (sym q ∙ t) p i)

    pub set_over : (v : ℕ) (b : List ℕ) → slot ≤ 16 → f ≡ true → b ≡ with_item a at v → WasSet slot v a b (Ok Replaced)
    unfolding with_slot
    set_over v b h t w = record {
      answer = rw (le-leb slot 16 h, found a bits slot is at (item_at a at) (sym q ∙ t) p refl);
      bytes = rw (le-leb slot 16 h, ← is, ← q, t, ← p) w;
    }

    pub set_new : (v n m : ℕ) (b c d : List ℕ) → slot ≤ 16 → f ≡ false → n ≡ count (present bits)
        → b ≡ opened at n a → c ≡ with_item b at v → present m ≡ set (present bits) slot true → m < 131072
        → d ≡ with_bitmap c m → WasSet slot v a d (Ok New)
    unfolding with_slot
    set_new v n m b c d h t e o w r y z = record {
      answer = rw (le-leb slot 16 h, missing a bits slot is (sym q ∙ t));
      bytes = rw (le-leb slot 16 h, ← is, ← q, t, ← p, ← e) (z ∙ rw (w, o, number_is 17 m (set (present bits) slot true) y r));
    }

    pub removed : (n m : ℕ) (b d : List ℕ) → f ≡ true → n ≡ count (present bits)
        → b ≡ closed at n a → present m ≡ set (present bits) slot false → m < 131072 → d ≡ with_bitmap b m
        → WasRemoved slot a d (Ok tt)
    unfolding without_slot
    removed n m b d t e o r y z = record {
      answer = rw (found a bits slot is at (item_at a at) (sym q ∙ t) p refl);
      bytes = rw (← is, ← q, t, ← p, ← e) (z ∙ rw (o, number_is 17 m (set (present bits) slot false) y r));
    }

-- ---- what `open` and `close` ask: a law for each part, since `search` takes a goal that is a pair apart before it tries a law

module _ (bits slot n : ℕ) (e : n ≡ count (present bits)) where
  pub place_up_to : (at : ℕ) → at ≡ count (take slot (present bits)) → at ≤ n
  place_up_to at p = omega (arith, place_le (present bits) slot)

  pub has_room : (f : Bool) → slot ≤ 16 → f ≡ get_or (present bits) slot false → f ≡ false → n ≤ 16
  has_room f h q t = omega (arith, room bits slot h (sym q ∙ t))

  pub place_within : (at : ℕ) (f : Bool) → at ≡ count (take slot (present bits)) → f ≡ get_or (present bits) slot false → f ≡ true → at < n
  place_within at f p q t = omega (arith, place_lt (present bits) slot (sym q ∙ t))

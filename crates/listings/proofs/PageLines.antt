-- Where a page's bytes are those of entries, its lines are the entries' lines.
-- Assumes nothing.
use Prim.Native.Nat.{ℕ, suc, ◌+◌, ◌*◌, ◌/◌, ◌%◌, ◌≤◌}
use mathlib.Core.Path.{◌≡◌, refl, ap, ap₂, ◌∙◌}
use mathlib.Core.List.{List, [], ◌∷◌, ◌++◌, append_assoc}
use native.Mathlib.Omega.{arith}
use lib.ListN.{length, get_or, drop}
use lib.Seq.{take_at, get_or-append-add, drop-append-add}
use borrow.Author.Tests.{le-ltb}
use Rattle.model.specs.Key.{IsKey}
use Rattle.model.specs.Map.{Entry, All}
use Rattle.model.specs.Entry.{field, four_bytes, entry_bytes, entries_bytes}
use Rattle.fields.specs.Number.{value, bytes_at, big}
use Rattle.line.specs.Answer.{entry_text, entries_text}
use Rattle.listings.specs.PageText.{value_at, page_text}

-- a number from its bytes
joined : (v a b c x y z : ℕ) → v ≡ a * 256 + x → a ≡ b * 256 + y → b ≡ c * 256 + z → c * 16777216 + z * 65536 + y * 256 + x ≡ v
joined v a b c x y z e f g = omega arith

value_back : (v : ℕ) → v / 16777216 * 16777216 + v / 65536 % 256 * 65536 + v / 256 % 256 * 256 + v % 256 ≡ v
value_back v = joined v (v / 256) (v / 65536) (v / 16777216) (v % 256) (v / 256 % 256) (v / 65536 % 256) (omega arith) (omega arith) (omega arith)

-- four bytes, high byte first, as a sum
big_sum : (l : List ℕ) (at : ℕ) → big 4 l at ≡ get_or l at 0 * 16777216 + get_or l (at + 1) 0 * 65536 + get_or l (at + 2) 0 * 256 + get_or l (at + 3) 0
unfolding big bytes_at value
big_sum l at =
    let a : suc at ≡ at + 1 = omega arith in
    let b : suc (suc at) ≡ at + 2 = omega arith in
    let c : suc (suc (suc at)) ≡ at + 3 = omega arith in
    rw (c, b, a) (omega arith)

-- Past three bytes and a key.
module _ (x y z : ℕ) (k t : List ℕ) where
  past_get : (n i : ℕ) → i ≡ length k + (n + 3) → get_or (x ∷ y ∷ z ∷ (k ++ t)) i 0 ≡ get_or t n 0
  past_get n i e = let f : i ≡ suc (suc (suc (length k + n))) = omega arith in rw f (get_or-append-add k t n 0)

  past_drop : (n i : ℕ) → i ≡ length k + (n + 3) → drop i (x ∷ y ∷ z ∷ (k ++ t)) ≡ drop n t
  past_drop n i e = let f : i ≡ suc (suc (suc (length k + n))) = omega arith in rw f (drop-append-add k t n)

-- One entry, and what follows it. The second byte of the length is all of it.
module _ (k : List ℕ) (v y : ℕ) (more : List ℕ) (c : ℕ) (fits : length k ≤ 64) where
  abbrev tail : List ℕ
  tail = 2 ∷ 0 ∷ 4 ∷ (v / 16777216) ∷ (v / 65536 % 256) ∷ (v / 256 % 256) ∷ (v % 256) ∷ more

  abbrev bytes : List ℕ
  bytes = 1 ∷ y ∷ length k ∷ (k ++ tail)

  value_is : value_at bytes (length k + 6) ≡ v
  value_is =
      big_sum bytes (length k + 6)
      ∙ rw (
        past_get 1 y (length k) k tail 3 (length k + 6) refl,
        past_get 1 y (length k) k tail 4 (length k + 6 + 1) (omega arith),
        past_get 1 y (length k) k tail 5 (length k + 6 + 2) (omega arith),
        past_get 1 y (length k) k tail 6 (length k + 6 + 3) (omega arith),
      ) (value_back v)

  rest_is : drop (length k + 10) bytes ≡ more
  rest_is = past_drop 1 y (length k) k tail 7 (length k + 10) refl

  line_is : page_text (suc c) bytes ≡ entry_text (k, v) ++ page_text c more
  unfolding page_text
  line_is =
      rw (le-ltb 64 (length k) fits, take_at k tail (length k) refl)
      (ap₂ (λ (w : ℕ) (r : List ℕ). entry_text (k, w) ++ page_text c r) value_is rest_is)

pub page_lines : (es : List Entry) (rest : List ℕ) → All IsKey es → page_text (length es) (entries_bytes es ++ rest) ≡ entries_text es
unfolding page_text entries_text
page_lines [] rest h = refl
page_lines (e ∷ es) rest h =
    let k = e.0 in
    let v = e.1 in
    let fits : length k ≤ 64 = h.0.fits in
    let low : length k % 256 ≡ length k = omega arith in
    let more = entries_bytes es ++ rest in
    let are : entries_bytes (e ∷ es) ++ rest ≡ 1 ∷ (length k / 256) ∷ length k ∷ (k ++ tail k v (length k / 256) more (length es) fits) =
    append_assoc (entry_bytes e) (entries_bytes es) rest
    ∙ ap (λ (l : List ℕ). 1 ∷ (length k / 256) ∷ (length k % 256) ∷ l) (append_assoc k (field 2 (four_bytes v)) more)
    ∙ ap (λ (n : ℕ). 1 ∷ (length k / 256) ∷ n ∷ (k ++ tail k v (length k / 256) more (length es) fits)) low in
    ap (page_text (suc (length es))) are ∙ line_is k v (length k / 256) more (length es) fits ∙ ap (λ (l : List ℕ). entry_text e ++ l) (page_lines es rest h.1)

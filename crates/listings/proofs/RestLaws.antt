-- A listing from its pages, on a store that stays as it is: a law for each way out. Assumes nothing.
use Prim.Native.Nat.{ℕ, ◌+◌, ◌-◌, ◌*◌, ◌≤◌, ◌<◌}
use mathlib.Core.Path.{◌≡◌, refl, sym, ap, subst, ◌∙◌}
use mathlib.Core.Bool.{Bool, true, false}
use mathlib.Core.List.{List, [], ◌∷◌, ◌++◌}
use native.Mathlib.Omega.{arith}
use lib.Dec.{leb}
use lib.ListN.{length, take, drop, length-take, length-drop, length-append}
use lib.Seq.{take_all}
use borrow.Author.Tests.{le-ltb, leb-true, leb-false}
use borrow.Rule.Slice.PartMut.{put_mid}
use mir.Syntax.{w64}
use mir.Val.{Fits}
use Rattle.std.specs.Prelude.{Some, None}
use Rattle.model.specs.Key.{key_limit, IsKey}
use Rattle.model.specs.Map.{Entry, All}
use Rattle.model.specs.Page.{From, start, after_key, under, above, page}
use Rattle.model.specs.Entry.{entries_bytes}
use Rattle.model.proofs.Bounds.{entries_keys}
use Rattle.model.proofs.Less.{Sorted}
use Rattle.model.proofs.TreeLaws.{entries_sorted}
use Rattle.promises.specs.Meaning.{Meaning, Means, Reply}
use Rattle.promises.specs.Says.{Asked, from_too_long, page_of, page_given, page_says, PageSays}
use Rattle.promises.specs.Promises.{Pages, NextPage, FirstPage}
use Rattle.promises.proofs.EntryOne.{page_keys}
use Rattle.index_spec.specs.Layout.{layout}
use Rattle.index_spec.specs.Replies.{mode_of, page_reply}
use Rattle.index_spec.specs.declared.pages.Mode.{Mode}
use Rattle.index_spec.specs.declared.pages.PageError.{PageError}
use Rattle.iterator.specs.Page.{page as given}
use Rattle.iterator.specs.declared.page.Page.{Page}
use Rattle.std.specs.Prelude.{Result, Ok, Err}
use Rattle.index_spec.proofs.WayLaws.{not_too_long}
use Rattle.line.specs.Answer.{entry_text, entries_text}
use Rattle.line.specs.Code.{Wrote}
use Rattle.listings.specs.Listing.{page_size, output_room, IsPage, WasShown, IsListed}
use Rattle.listings.specs.declared.listing.Shown.{Shown}
use Rattle.line.proofs.WriteLaws.{wrote_none, wrote_as, wrote_rest, entry_few}
use Rattle.listings.proofs.Listings.{list_on, list_step}

-- ---- what a page's answer and bytes say

reply_got : (p : Result Page PageError) (b e : ℕ) (d : Bool) → page_reply p ≡ record { answer = 0; value = b; count = e; end = d } → p ≡ Ok (given e b d)
reply_got (Ok g) b e d q = λ j. Ok (given (q j).count (q j).value (q j).end)
reply_got (Err PageError.Store) b e d q = absurd (omega (arith, ap (λ (r : Reply). r.answer) q))
reply_got (Err PageError.Key) b e d q = absurd (omega (arith, ap (λ (r : Reply). r.answer) q))
reply_got (Err PageError.Count) b e d q = absurd (omega (arith, ap (λ (r : Reply). r.answer) q))

map_keys : (st : List ℕ) (m : Meaning) → Means layout st m → All IsKey m.map
map_keys st m w = subst (All IsKey) w.map (entries_keys w.tree w.accepted.picture)

map_sorted : (st : List ℕ) (m : Meaning) → Means layout st m → Sorted m.map
map_sorted st m w = subst Sorted w.map (entries_sorted w.tree w.accepted.picture)

module _ (q : List ℕ) (mode : Mode) (st : List ℕ) (from : From) where
  abbrev rest : Meaning → List Entry
  rest m = above from (under (mode_of mode) q m.map)

  abbrev asked : List ℕ → Asked
  asked out = record { prefix = q; mode = mode_of mode; from = from; size = page_size; room = length out }

  page_got : (out out' : List ℕ) (p : Result Page PageError) → Pages layout (asked out) st out out' (page_reply p) → 1184 ≤ length out → (m : Meaning) → Means layout st m → length q ≤ key_limit → from_too_long from ≡ false
      → IsPage p out' (take page_size (rest m)) (leb (length (rest m)) page_size)
  page_got out out' p promise room m w hq hf = record {
    written = length (entries_bytes (take page_size (rest m)));
    answer = reply_got p (length (entries_bytes (take page_size (rest m)))) (length (take page_size (rest m))) (leb (length (rest m)) page_size) (promise.answers m w ∙ ap (λ (s : PageSays). s.reply) says);
    rest = drop (length (entries_bytes (take page_size (rest m)))) out;
    bytes = promise.output m w ∙ ap (λ (s : PageSays). s.bytes ++ drop (length s.bytes) out) says;
    keys = page_keys (asked out) m (map_keys st m w);
    few = omega (arith, length-take page_size (rest m));
  }
    where
      says : page_says (asked out) m ≡ page_given (page_of (asked out) m)
      says = rw (not_too_long q hq, hf, le-ltb (length out) 1184 room)

some_none : {k : ℕ} → Some k ≡ None → ⊥
some_none e = cc

-- ---- the last entry of a list, and the size of lines

snoc : (es : List Entry) → 1 ≤ length es → (xs : List Entry) × (e : Entry) × (es ≡ xs ++ (e ∷ []))
snoc [] h = absurd (omega arith)
snoc (e ∷ []) h = ([], e, refl)
snoc (e ∷ f ∷ es) h = let (xs, x, q) = snoc (f ∷ es) (omega arith) in (e ∷ xs, x, ap (λ (z : List Entry). e ∷ z) q)

lines_few : (es : List Entry) → All IsKey es → length (entries_text es) ≤ 141 * length es
unfolding entries_text
lines_few [] k = omega arith
lines_few (e ∷ es) k = omega (arith, lines_few es k.1, entry_few e.0 e.1, k.0.fits, length-append (entry_text e) (entries_text es))

-- ---- what is left of a listing

module _ (q : List ℕ) (mode : Mode) (st : List ℕ) (from : From) (turns : ℕ) where
  pub rest_none : (out : List ℕ) → turns ≡ 0 → IsListed q mode from turns st out out 0
  unfolding entries_text
  rest_none out e = record {
    within = omega arith;
    lines = λ m w hq few room. wrote_as (wrote_none out) (sym (empty (rest q mode st from m) few));
  }
    where
      empty : (es : List Entry) → length es ≤ page_size * turns → entries_text es ≡ []
      empty [] h = refl
      empty (x ∷ es) h = absurd (omega arith)

  module _ (page page' : List ℕ) (p : Result Page PageError) (promise : Pages layout (asked q mode st from page) st page page' (page_reply p)) (big : 1184 ≤ length page) (hf : from_too_long from ≡ false)
      (key out out' : List ℕ) (s : Shown) (shown : WasShown p page' key out out' s) where
    got : (m : Meaning) → Means layout st m → length q ≤ key_limit → IsPage p page' (take page_size (rest q mode st from m)) (leb (length (rest q mode st from m)) page_size)
    got m w hq = page_got q mode st from page page' p promise big m w hq hf

    part_room : (m : Meaning) → 141 * length (rest q mode st from m) ≤ length out → 141 * length (take page_size (rest q mode st from m)) ≤ length out
    part_room m h = omega (arith, length-take page_size (rest q mode st from m))

    rest_last : s.next ≡ None → IsListed q mode from turns st out out' s.bytes
    rest_last f = record { within = shown.within; lines = λ m w hq few room. go m w hq room (leb (length (rest q mode st from m)) page_size) refl }
      where
        go : (m : Meaning) → Means layout st m → length q ≤ key_limit → 141 * length (rest q mode st from m) ≤ length out → (b : Bool) → leb (length (rest q mode st from m)) page_size ≡ b
            → Wrote (entries_text (rest q mode st from m)) out out' s.bytes
        go m w hq room true z =
            wrote_as (shown.lines (take page_size (rest q mode st from m)) (leb (length (rest q mode st from m)) page_size) (got m w hq) (part_room m room))
            (ap entries_text (take_all page_size (rest q mode st from m) (leb-true (length (rest q mode st from m)) page_size z)))
        go m w hq room false z =
            let es : List Entry = take page_size (rest q mode st from m) in
            let one : 1 ≤ length es = omega (arith, length-take page_size (rest q mode st from m), leb-false (length (rest q mode st from m)) page_size z) in
            let (xs, e, c) = snoc es one in
            let g : IsPage p page' es false = subst (IsPage p page' es) z (got m w hq) in
            absurd (rw f at (shown.more es xs e g (part_room m room) c))

    rest_more : {k : ℕ} → s.next ≡ Some k → (turns ≡ 0 → ⊥) → (out₂ : List ℕ) (n : ℕ) → IsListed q mode (after_key (take k key)) (turns - 1) st (take (length out' - s.bytes) (drop s.bytes out')) out₂ n
        → IsListed q mode from turns st out (put_mid s.bytes (length out' - s.bytes) out' out₂) (s.bytes + n)
    rest_more {k} f nt out₂ n more = record {
      within = omega (arith, shown.within, shown.size, more.within, lent);
      lines = λ m w hq few room. go m w hq few room (leb (length (rest q mode st from m)) page_size) refl;
    }
      where
        lent : length (take (length out' - s.bytes) (drop s.bytes out')) ≡ length out' - s.bytes
        lent = simp (length-take, length-drop) (omega arith)

        go : (m : Meaning) → Means layout st m → length q ≤ key_limit → length (rest q mode st from m) ≤ page_size * turns → 141 * length (rest q mode st from m) ≤ length out → (b : Bool)
            → leb (length (rest q mode st from m)) page_size ≡ b → Wrote (entries_text (rest q mode st from m)) out (put_mid s.bytes (length out' - s.bytes) out' out₂) (s.bytes + n)
        go m w hq few room true z =
            let es : List Entry = take page_size (rest q mode st from m) in
            let g : IsPage p page' es true = subst (IsPage p page' es) z (got m w hq) in
            absurd (some_none (sym f ∙ shown.last es g (part_room m room)))
        go m w hq few room false z =
            let r : List Entry = rest q mode st from m in
            let es : List Entry = take page_size r in
            let long : page_size < length r = leb-false (length r) page_size z in
            let count : length es ≡ page_size = omega (arith, length-take page_size r) in
            let (xs, e, c) = snoc es (omega arith) in
            let g : IsPage p page' es false = subst (IsPage p page' es) z (got m w hq) in
            let kept : take k key ≡ e.0 = rw f at (shown.more es xs e g (part_room m room) c) in
            let one : Wrote (entries_text es) out out' s.bytes = shown.lines es false g (part_room m room) in
            let on : above (after_key e.0) (under (mode_of mode) q m.map) ≡ drop page_size r = list_on (mode_of mode) q from page_size m.map (map_sorted st m w) xs e c in
            let after : above (after_key (take k key)) (under (mode_of mode) q m.map) ≡ drop page_size r = ap (λ (j : List ℕ). above (after_key j) (under (mode_of mode) q m.map)) kept ∙ on in
            let less : length (drop page_size r) ≡ length r - page_size = length-drop page_size r in
            let left : length (above (after_key (take k key)) (under (mode_of mode) q m.map)) ≡ length r - page_size = ap length after ∙ less in
            let two = more.lines m w hq (omega (arith, left)) (omega (arith, left, lent, one.count, one.size, lines_few es g.keys)) in
            wrote_as (wrote_rest one two)
            (ap (λ (l : List Entry). entries_text es ++ entries_text l) after
            ∙ sym (ap (λ (l : List Entry). entries_text es ++ entries_text l) on)
            ∙ list_step (mode_of mode) q from page_size m.map (map_sorted st m w) xs e c)

-- ---- after the key that is kept

module _ (q : List ℕ) (mode : Mode) (st : List ℕ) (turns size : ℕ) (k₀ : List ℕ) (fits : size ≤ 64) (page page' : List ℕ) (p : Result Page PageError)
    (promise : NextPage layout q (mode_of mode) (take size k₀) 16 st page page' (page_reply p)) (big : 1184 ≤ length page) (key out out' : List ℕ) (s : Shown) (shown : WasShown p page' key out out' s) where
  short : from_too_long (after_key (take size k₀)) ≡ false
  short = not_too_long (take size k₀) (omega (arith, length-take size k₀))

  pub list_last : s.next ≡ None → IsListed q mode (after_key (take size k₀)) turns st out out' s.bytes
  list_last f = rest_last q mode st (after_key (take size k₀)) turns page page' p promise big short key out out' s shown f

  pub list_more : {k : ℕ} → s.next ≡ Some k → (turns ≡ 0 → ⊥) → (out₂ : List ℕ) (n : ℕ) → IsListed q mode (after_key (take k key)) (turns - 1) st (take (length out' - s.bytes) (drop s.bytes out')) out₂ n
      → IsListed q mode (after_key (take size k₀)) turns st out (put_mid s.bytes (length out' - s.bytes) out' out₂) (s.bytes + n)
  list_more f nt out₂ n more = rest_more q mode st (after_key (take size k₀)) turns page page' p promise big short key out out' s shown f nt out₂ n more

pub list_sum : (p : Result Page PageError) (page key out out' : List ℕ) {s : Shown} → WasShown p page key out out' s → (q : List ℕ) (mode : Mode) (from : From) (turns : ℕ) (st out₂ : List ℕ) (n : ℕ)
    → IsListed q mode from turns st (take (length out' - s.bytes) (drop s.bytes out')) out₂ n → length out ≤ output_room → Fits w64 (s.bytes + n)
list_sum p page key out out' {s} shown q mode from turns st out₂ n more h =
    let lent : length (take (length out' - s.bytes) (drop s.bytes out')) ≡ length out' - s.bytes = simp (length-take, length-drop) (omega arith) in
    record { fits = omega (arith, shown.within, shown.size, more.within, lent) }

-- ---- from the start, where 32 pages hold it

module _ (q : List ℕ) (mode : Mode) (st : List ℕ) (page page' : List ℕ) (p : Result Page PageError) (promise : FirstPage layout q (mode_of mode) 16 st page page' (page_reply p)) (big : 1184 ≤ length page)
    (key out out' : List ℕ) (s : Shown) (shown : WasShown p page' key out out' s) where
  pub all_last : s.next ≡ None → IsListed q mode start 32 st out out' s.bytes
  all_last f = rest_last q mode st start 32 page page' p promise big refl key out out' s shown f

  pub all_more : {k : ℕ} → s.next ≡ Some k → (out₂ : List ℕ) (n : ℕ) → IsListed q mode (after_key (take k key)) 31 st (take (length out' - s.bytes) (drop s.bytes out')) out₂ n
      → IsListed q mode start 32 st out (put_mid s.bytes (length out' - s.bytes) out' out₂) (s.bytes + n)
  all_more f out₂ n more = rest_more q mode st start 32 page page' p promise big refl key out out' s shown f (λ e. omega (arith, e)) out₂ n more

-- What is shown of a page: a law for each way out. Assumes nothing.
use Prim.Native.Nat.{ℕ, suc, ◌+◌, ◌*◌, ◌%◌, ◌≤◌, ◌<◌}
use mathlib.Core.Path.{◌≡◌, refl, sym, ap, ap₂, subst, ◌∙◌}
use mathlib.Core.Bool.{Bool, true, false, true≢false}
use mathlib.Core.List.{List, [], ◌∷◌, ◌++◌, append_assoc}
use native.Mathlib.Omega.{arith}
use lib.ListN.{length, get_or, take, drop, length-append}
use lib.Seq.{drop-drop, get_or-drop, take_at, drop-append_seam}
use borrow.Author.Tests.{le-ltb}
use Rattle.std.specs.Prelude.{Option, Some, None}
use Rattle.model.specs.Key.{IsKey}
use Rattle.model.specs.Map.{Entry, All}
use Rattle.model.specs.Entry.{field, four_bytes, entry_bytes, entries_bytes}
use Rattle.index_spec.specs.declared.pages.PageError.{PageError}
use Rattle.iterator.specs.declared.page.Page.{Page}
use Rattle.std.specs.Prelude.{Result, Ok, Err}
use Rattle.line.specs.Answer.{entries_text}
use Rattle.line.specs.Code.{Wrote}
use Rattle.listings.specs.PageText.{page_text, last_at, key_at, Kept}
use Rattle.listings.specs.Listing.{page_size, IsPage, WasShown}
use Rattle.listings.specs.declared.listing.Shown.{Shown}
use Rattle.listings.proofs.PageLines.{page_lines}

abbrev shown : ℕ → Option ℕ → Shown
shown bytes next = record { bytes = bytes; next = next }

-- ---- the number of entries

abbrev done_entries : Result Page PageError → ℕ
done_entries (Ok p) = p.entries
done_entries (Err e) = 0

abbrev done_end : Result Page PageError → Bool
done_end (Ok p) = p.end
done_end (Err e) = false

-- ---- the last entry

-- one entry, and what follows it
entry_split : (e : Entry) (es : List Entry) (rest : List ℕ) → entries_bytes (e ∷ es) ++ rest ≡ entry_bytes e ++ (entries_bytes es ++ rest)
entry_split e es rest = append_assoc (entry_bytes e) (entries_bytes es) rest

entry_length : (e : Entry) → length (entry_bytes e) ≡ length e.0 + 10
entry_length e = let l = length-append (field 1 e.0) (field 2 (four_bytes e.1)) in omega (arith, l)

-- the byte that tells a key's length
length_byte : (e : Entry) (more : List ℕ) → length e.0 ≤ 64 → get_or (entry_bytes e ++ more) 2 0 ≡ length e.0
length_byte e more h = let z : length e.0 % 256 ≡ length e.0 = omega arith in z

past_entry : (e : Entry) (more : List ℕ) → drop (length e.0 + 10) (entry_bytes e ++ more) ≡ more
past_entry e more = ap (λ (n : ℕ). drop n (entry_bytes e ++ more)) (sym (entry_length e)) ∙ drop-append_seam (entry_bytes e) more

its_key : (e : Entry) (more : List ℕ) → length e.0 ≤ 64 → key_at (entry_bytes e ++ more) 0 ≡ e.0
its_key e more h = rw (length_byte e more h, le-ltb 64 (length e.0) h) (ap (take (length e.0)) (append_assoc e.0 (field 2 (four_bytes e.1)) more) ∙ take_at e.0 (field 2 (four_bytes e.1) ++ more) (length e.0) refl)

last_past : (n : ℕ) (l : List ℕ) (k : ℕ) → get_or l 2 0 ≡ k → k ≤ 64 → last_at (suc (suc n)) l ≡ k + 10 + last_at (suc n) (drop (k + 10) l)
unfolding last_at
last_past n l k e h = rw (e, le-ltb 64 k h)

step : (x : Entry) (es : List Entry) (rest : List ℕ) (n : ℕ) → length x.0 ≤ 64
    → drop (last_at (suc (suc n)) (entries_bytes (x ∷ es) ++ rest)) (entries_bytes (x ∷ es) ++ rest) ≡ drop (last_at (suc n) (entries_bytes es ++ rest)) (entries_bytes es ++ rest)
step x es rest n h =
    let more : List ℕ = entries_bytes es ++ rest in
    let k : ℕ = length x.0 in
    ap (λ (l : List ℕ). drop (last_at (suc (suc n)) l) l) (entry_split x es rest)
    ∙ ap (λ (i : ℕ). drop i (entry_bytes x ++ more)) (last_past n (entry_bytes x ++ more) k (length_byte x more h) h ∙ ap (λ (l : List ℕ). k + 10 + last_at (suc n) l) (past_entry x more))
    ∙ sym (drop-drop (last_at (suc n) more) (k + 10) (entry_bytes x ++ more))
    ∙ ap (drop (last_at (suc n) more)) (past_entry x more)

-- of entries that end with e, what stands from the last one's place on
last_is : (xs : List Entry) (e : Entry) (rest : List ℕ) → All IsKey (xs ++ (e ∷ [])) → let es = xs ++ (e ∷ []) in drop (last_at (length es) (entries_bytes es ++ rest)) (entries_bytes es ++ rest) ≡ entry_bytes e ++ rest
unfolding last_at
last_is [] e rest k = append_assoc (entry_bytes e) [] rest
last_is (x ∷ []) e rest k = step x (e ∷ []) rest 0 k.0.fits ∙ append_assoc (entry_bytes e) [] rest
last_is (x ∷ y ∷ xs) e rest k = step x (y ∷ (xs ++ (e ∷ []))) rest (length (xs ++ (e ∷ []))) k.0.fits ∙ last_is (y ∷ xs) e rest k.1

-- the key at a place is that at the start of what stands from there on
key_from : (l : List ℕ) (i : ℕ) → key_at l i ≡ key_at (drop i l) 0
key_from l i =
    let a : get_or l (i + 2) 0 ≡ get_or (drop i l) 2 0 = sym (get_or-drop i l 2 0) in
    let b : drop (i + 3) l ≡ drop 3 (drop i l) = sym (drop-drop 3 i l) in
    rw (a, b)

all_last : (xs : List Entry) (e : Entry) → All IsKey (xs ++ (e ∷ [])) → IsKey e.0
all_last [] e k = k.0
all_last (x ∷ xs) e k = all_last xs e k.1

module _ (paged : Result Page PageError) (page key out : List ℕ) where
  -- nothing is shown of what is no page of so few entries, or has no room
  not_shown : ((es : List Entry) (end : Bool) → IsPage paged page es end → 141 * length es ≤ length out → ⊥) → WasShown paged page key out out (shown 0 None)
  not_shown never = record {
    within = omega arith;
    size = refl;
    fits = tt;
    lines = λ es end p h. absurd (never es end p h);
    last = λ es p h. refl;
    more = λ es xs e p h q. absurd (never es false p h);
  }

  pub show_refused : (e : PageError) → paged ≡ Err e → WasShown paged page key out out (shown 0 None)
  show_refused e t = not_shown (λ es end p h. let q = sym t ∙ p.answer in absurd (let z : ◌≡◌ {A = ℕ} 0 1 = cc in omega arith))

  module _ (g : Page) (is : paged ≡ Ok g) where
    entries_are : (es : List Entry) (end : Bool) → IsPage paged page es end → g.entries ≡ length es
    entries_are es end p = ap done_entries (sym is ∙ p.answer)

    end_is : (es : List Entry) (end : Bool) → IsPage paged page es end → g.end ≡ end
    end_is es end p = ap done_end (sym is ∙ p.answer)

    pub show_many : page_size < g.entries → WasShown paged page key out out (shown 0 None)
    show_many h = not_shown (λ es end p r. omega (arith, entries_are es end p, p.few))

    pub show_no_room : length out < 141 * g.entries → WasShown paged page key out out (shown 0 None)
    show_no_room h = not_shown (λ es end p r. omega (arith, entries_are es end p))

    module _ (out' : List ℕ) (m : ℕ) (w : Wrote (page_text g.entries page) out out' m) where
      its_lines : (es : List Entry) (end : Bool) → IsPage paged page es end → Wrote (entries_text es) out out' m
      its_lines es end p = subst (λ (z : List ℕ). Wrote z out out' m) (ap₂ page_text (entries_are es end p) p.bytes ∙ page_lines es p.rest p.keys) w

      pub show_last : g.end ≡ true → WasShown paged page key out out' (shown m None)
      show_last e = record {
        within = w.within;
        size = w.size;
        fits = tt;
        lines = λ es end p h. its_lines es end p;
        last = λ es p h. refl;
        more = λ es xs x p h q. absurd (true≢false (sym e ∙ end_is es false p));
      }

      pub show_none : g.entries ≡ 0 → WasShown paged page key out out' (shown m None)
      show_none e = record {
        within = w.within;
        size = w.size;
        fits = tt;
        lines = λ es end p h. its_lines es end p;
        last = λ es p h. refl;
        more = λ es xs x p h q. absurd (omega (arith, entries_are es false p, ap length q, length-append xs (x ∷ [])));
      }

      pub show_more : (t : ℕ) (key₀ : List ℕ) (size : ℕ) → g.end ≡ false → t ≡ last_at g.entries page → Kept (key_at page t) key₀ key size → WasShown paged page key out out' (shown m (Some size))
      show_more t key₀ size e at k = record {
        within = w.within;
        size = w.size;
        fits = k.fits;
        lines = λ es end p h. its_lines es end p;
        last = λ es p h. absurd (true≢false (sym (sym e ∙ end_is es true p)));
        more = λ es xs x p h q. k.is ∙ ap (key_at page) at ∙ kept_last es xs x p q;
      }
        where
          kept_last : (es xs : List Entry) (x : Entry) → IsPage paged page es false → es ≡ xs ++ (x ∷ []) → key_at page (last_at g.entries page) ≡ x.0
          kept_last es xs x p q =
              let all : page ≡ entries_bytes (xs ++ (x ∷ [])) ++ p.rest = p.bytes ∙ ap (λ (z : List Entry). entries_bytes z ++ p.rest) q in
              let count : g.entries ≡ length (xs ++ (x ∷ [])) = entries_are es false p ∙ ap length q in
              let keys : All IsKey (xs ++ (x ∷ [])) = subst (All IsKey) q p.keys in
              let place : last_at g.entries page ≡ last_at (length (xs ++ (x ∷ []))) (entries_bytes (xs ++ (x ∷ [])) ++ p.rest) = ap₂ last_at count all in
              let from : drop (last_at g.entries page) page ≡ entry_bytes x ++ p.rest = ap₂ (λ (i : ℕ) (l : List ℕ). drop i l) place all ∙ last_is xs x p.rest keys in
              key_from page (last_at g.entries page) ∙ ap (λ (l : List ℕ). key_at l 0) from ∙ its_key x p.rest (all_last xs x keys).fits

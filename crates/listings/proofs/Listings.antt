-- A listing from its pages, on a store that stays as it is: the lines of a page, and then those of what is above its last key.
-- Assumes nothing.
use Prim.Native.Nat.{ℕ}
use mathlib.Core.Path.{◌≡◌, refl, sym, ap, ◌∙◌}
use mathlib.Core.Bool.{true}
use mathlib.Core.List.{List, [], ◌∷◌, ◌++◌, append_assoc}
use lib.ListN.{length, take, drop, take-append-drop}
use lib.Seq.{take_all, append_snoc}
use borrow.Author.Tests.{leb-true}
use Rattle.model.proofs.Less.{Sorted}
use Rattle.model.specs.Map.{Entry}
use Rattle.model.specs.Page.{Mode, under, matches, From, after_key, above, page}
use Rattle.model.proofs.Keep.{keep_sorted}
use Rattle.model.proofs.PageLaws.{next_page_lem}
use Rattle.line.specs.Answer.{entry_text, entries_text}

entries_append : (xs ys : List Entry) → entries_text (xs ++ ys) ≡ entries_text xs ++ entries_text ys
unfolding entries_text
entries_append [] ys = refl
entries_append (e ∷ xs) ys = ap (λ (l : List ℕ). entry_text e ++ l) (entries_append xs ys) ∙ sym (append_assoc (entry_text e) (entries_text xs) (entries_text ys))

module _ (mode : Mode) (q : List ℕ) (from : From) (n : ℕ) (m : List Entry) where
  abbrev left : List Entry
  left = above from (under mode q m)

  -- the last page
  pub list_end : (page mode q from n m).end ≡ true → entries_text (page mode q from n m).entries ≡ entries_text left
  list_end h = ap entries_text (take_all n left (leb-true (length left) n h))

  -- what is above the last key of a page that has n entries
  pub list_on : Sorted m → (xs : List Entry) (e : Entry) → (page mode q from n m).entries ≡ xs ++ (e ∷ []) → above (after_key e.0) (under mode q m) ≡ drop n left
  list_on s xs e h =
      let whole : left ≡ xs ++ e ∷ drop n left = sym (take-append-drop n left) ∙ ap (λ (l : List Entry). l ++ drop n left) h ∙ append_snoc xs e (drop n left) in
      next_page_lem from (under mode q m) (keep_sorted (matches mode q) m s) xs e (drop n left) whole

  -- a page before it, whose last entry is e
  pub list_step : Sorted m → (xs : List Entry) (e : Entry) → (page mode q from n m).entries ≡ xs ++ (e ∷ []) → entries_text (page mode q from n m).entries ++ entries_text (above (after_key e.0) (under mode q m)) ≡ entries_text left
  list_step s xs e h =
      ap (λ (l : List Entry). entries_text (take n left) ++ entries_text l) (list_on s xs e h) ∙ sym (entries_append (take n left) (drop n left)) ∙ ap entries_text (take-append-drop n left)

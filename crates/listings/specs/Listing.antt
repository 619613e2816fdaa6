-- What is shown of a page.
-- Assumes nothing.
use Rattle.std.specs.Prelude.{ℕ, ◌+◌, ◌*◌, ◌≤◌, ◌≡◌, Bool, true, false, List, [], ◌∷◌, ◌++◌, length, take, MatchOption, None, Result, Ok}
use Rattle.model.specs.Key.{key_limit, IsKey}
use Rattle.model.specs.Map.{Entry, All}
use Rattle.model.specs.Page.{From, under, above}
use Rattle.model.specs.Entry.{entries_bytes}
use Rattle.promises.specs.Meaning.{Meaning, Means}
use Rattle.index_spec.specs.Layout.{layout}
use Rattle.index_spec.specs.Replies.{mode_of}
use Rattle.index_spec.specs.declared.pages.Mode.{Mode}
use Rattle.index_spec.specs.declared.pages.PageError.{PageError}
use Rattle.iterator.specs.Page.{page as given}
use Rattle.iterator.specs.declared.page.Page.{Page}
use Rattle.line.specs.Answer.{entries_text}
use Rattle.line.specs.Code.{Wrote}
use Rattle.listings.specs.declared.listing.Shown.{Shown}

-- how many entries a page is asked for
abbrev pub page_size : ℕ
page_size = 16

-- Room for the lines of the longest listing.
abbrev pub lines_room : ℕ
lines_room = 141 * 511

-- The longest answer: a listing, and `end`.
abbrev pub output_room : ℕ
output_room = lines_room + 11

-- The answer and the bytes of a page are those of these entries.
pub record IsPage (paged : Result Page PageError) (page : List ℕ) (es : List Entry) (end : Bool) : Type 0 where
  pub written : ℕ
  pub answer : paged ≡ Ok (given (length es) written end)
  pub rest : List ℕ
  pub bytes : page ≡ entries_bytes es ++ rest
  pub keys : All IsKey es
  pub few : length es ≤ page_size

-- Its lines are written, and unless it is the last one its last key is kept.
pub record WasShown (paged : Result Page PageError) (page key out out' : List ℕ) (r : Shown) : Type 0 where
  pub within : r.bytes ≤ length out
  pub size : length out' ≡ length out
  pub fits : MatchOption r.next (Unit {0}) (λ size. size ≤ 64)
  pub lines : (es : List Entry) (end : Bool) → IsPage paged page es end → 141 * length es ≤ length out → Wrote (entries_text es) out out' r.bytes
  pub last : (es : List Entry) → IsPage paged page es true → 141 * length es ≤ length out → r.next ≡ None
  pub more : (es : List Entry) (xs : List Entry) (e : Entry) → IsPage paged page es false → 141 * length es ≤ length out → es ≡ xs ++ (e ∷ []) → MatchOption r.next ⊥ (λ size. take size key ≡ e.0)

-- What is left of a listing from some key on is written, if so many pages hold it and there is room for its lines.
pub record IsListed (q : List ℕ) (mode : Mode) (from : From) (turns : ℕ) (st out out' : List ℕ) (n : ℕ) : Type 0 where
  pub within : n ≤ length out
  pub lines : (m : Meaning) → Means layout st m → length q ≤ key_limit → length (above from (under (mode_of mode) q m.map)) ≤ page_size * turns
      → 141 * length (above from (under (mode_of mode) q m.map)) ≤ length out → Wrote (entries_text (above from (under (mode_of mode) q m.map))) out out' n

-- What the two calls of a listing do, over the bytes of the store and of the output, on any bytes.
-- Assumes nothing.
use Rattle.std.specs.Prelude.{ℕ, ◌*◌, Bool, true, false, cond, ◌||◌, List, eqb, ltb, length, Result, Ok, Err}
use Rattle.model.specs.Numbers.{page_limit, entry_limit}
use Rattle.model.specs.Page.{From, start, after_key}
use Rattle.model.specs.Picture.{too_long}
use Rattle.pictures.specs.After.{bound, bound_too}
use Rattle.node.specs.Header.{head_of}
use Rattle.node.specs.declared.header.Header.{Header}
use Rattle.trie_spec.specs.Writes.{Outcome, outcome}
use Rattle.iterator.specs.Page.{list_in}
use Rattle.node.specs.declared.NotAStore.{NotAStore}
use Rattle.iterator.specs.declared.page.Page.{Page}
use Rattle.index_spec.specs.Replies.{mode_of}
use Rattle.index_spec.specs.Calls.{on_head}
use Rattle.index_spec.specs.declared.pages.Mode.{Mode}
use Rattle.index_spec.specs.declared.pages.PageError.{PageError}

abbrev pub is_inclusive : Mode → Bool
is_inclusive Mode.Plain = false
is_inclusive Mode.Inclusive = true

-- "page size is 0 or over 256, or the output is too short"
abbrev pub count_wrong : (n room : ℕ) → Bool
count_wrong n room = eqb n 0 || (ltb page_limit n || ltb room (entry_limit * n))

-- by what the walk came to
abbrev pub paged_of : Result Page NotAStore → Result Page PageError
paged_of (Ok p) = Ok p
paged_of (Err e) = Err PageError.Store

abbrev pub named_page : Outcome (Result Page NotAStore) → Outcome (Result Page PageError)
named_page o = outcome (paged_of o.answer) o.bytes

-- what is listed, from where the page begins
abbrev pub page_in : List ℕ → Header → (q : List ℕ) → Mode → From → ℕ → List ℕ → Outcome (Result Page NotAStore)
page_in st h q mode from n out = list_in st h q (bound (mode_of mode) q from) (bound_too (mode_of mode) from) n out

abbrev pub next_in : List ℕ → Header → (q : List ℕ) → Mode → (a : List ℕ) → ℕ → List ℕ → Outcome (Result Page NotAStore)
next_in st h q mode a n out = page_in st h q mode (after_key a) n out

-- "The table's order 10 to 16 is the order of the checks": STORE, then KEY of the prefix or the after-key, then COUNT, then the page
abbrev pub page_call : (long : Bool) (q : List ℕ) → Mode → From → (n : ℕ) (st out : List ℕ) → Outcome (Result Page PageError)
page_call long q mode from n st out =
    on_head (outcome (Err PageError.Store) out)
    (λ h. cond long (outcome (Err PageError.Key) out) (cond (count_wrong n (length out)) (outcome (Err PageError.Count) out) (named_page (page_in st h q mode from n out))))
    (head_of st)

abbrev pub first_call : (q : List ℕ) → Mode → (n : ℕ) (st out : List ℕ) → Outcome (Result Page PageError)
first_call q mode n st out = page_call (too_long q) q mode start n st out

abbrev pub next_call : (q : List ℕ) → Mode → (a : List ℕ) (n : ℕ) (st out : List ℕ) → Outcome (Result Page PageError)
next_call q mode a n st out = page_call (too_long q || too_long a) q mode (after_key a) n st out

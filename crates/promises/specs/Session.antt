-- A listing as its user fetches it: `first_page`, then `next_page` after the last key that the bytes of the page before show, each call keeping its promise on the
-- store of its moment.
-- Assumes nothing.
use Rattle.std.specs.Prelude.{ℕ, ◌≤◌, ◌≡◌, List, [], ◌∷◌, ◌++◌, length}
use Rattle.model.specs.Map.{Entry}
use Rattle.model.specs.Page.{Mode, From, Page}
use Rattle.model.specs.Entry.{entries_bytes}
use Rattle.promises.specs.Meaning.{Layout, Meaning, Means, Reply}
use Rattle.promises.specs.Promises.{PageCall}
use Rattle.promises.specs.Moments.{Moment, onward}

-- The output shows these entries: as many as the answer counts, from its first byte on.
pub record Shows (out : List ℕ) (r : Reply) (es : List Entry) : Type 0 where
  pub count : length es ≡ r.count
  pub rest : List ℕ
  pub bytes : out ≡ entries_bytes es ++ rest

-- One page fetched: the store then, what it meant, the output before and after, the answer, and the entries shown.
pub record Step : Type 0 where
  pub store : List ℕ
  pub meaning : Meaning
  pub size : ℕ
  pub out : List ℕ
  pub out' : List ℕ
  pub reply : Reply
  pub given : List Entry

-- The page was fetched by the call for its place, which keeps its promise, on an accepted store, and its output shows what was given.
pub record Fetched (L : Layout) (mode : Mode) (q : List ℕ) (from : From) (s : Step) : Type 0 where
  pub means : Means L s.store s.meaning
  pub promise : PageCall L q mode from s.size s.store s.out s.out' s.reply
  -- it is not refused
  pub done : s.reply.answer ≡ 0
  pub shows : Shows s.out' s.reply s.given

-- Pages fetched one after the other, each after the last key given.
abbrev pub Session : Layout → Mode → List ℕ → From → List Step → Type 0
Session L mode q from [] = Unit {0}
Session L mode q from (s ∷ ss) = Fetched L mode q from s × Session L mode q (onward from s.given) ss

-- The moments of a session.
abbrev pub moments_of : List Step → List Moment
moments_of [] = []
moments_of (s ∷ ss) = record { map = s.meaning.map; size = s.size } ∷ moments_of ss

-- What its pages gave.
abbrev pub pages_of : List Step → List Page
pages_of [] = []
pages_of (s ∷ ss) = record { entries = s.given; end = s.reply.end } ∷ pages_of ss

-- No page before the end is empty.
abbrev pub SomeBefore : List Page → Type 0
SomeBefore [] = Unit {0}
SomeBefore (p ∷ []) = Unit {0}
SomeBefore (p ∷ r ∷ ps) = (1 ≤ length p.entries) × SomeBefore (r ∷ ps)

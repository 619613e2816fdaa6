-- Demand 3 ("read over demand 2's listing"): a listing under one prefix and mode, fetched page by page; between pages any calls may happen.
-- Assumes nothing.
use Rattle.std.specs.Prelude.{ℕ, ◌+◌, ◌≤◌, ◌≡◌, ◌≢◌, true, false, List, [], ◌∷◌, ◌++◌, length}
use Rattle.std.proofs.Math.Option.{none, some}
use Rattle.model.specs.Key.{order, on_equal}
use Rattle.model.specs.Map.{Entry, lookup, Rising}
use Rattle.model.specs.Page.{Mode, matches, under, From, after_key, Page, page}

-- A moment at which a page is fetched: the map stored then, and the page size asked.
pub record Moment : Type 0 where
  pub map : List Entry
  pub size : ℕ

-- After the last key given; where none was given, from where it was.
abbrev pub onward : From → List Entry → From
onward from [] = from
onward from (e ∷ m) = onward (after_key e.0) m

-- The pages, each carrying on after the last key given.
abbrev pub fetch : Mode → List ℕ → From → List Moment → List Page
fetch mode q from [] = []
fetch mode q from (s ∷ ss) =
    let p = page mode q from s.size s.map in
    p ∷ fetch mode q (onward from p.entries) ss

-- Only the last page says end.
abbrev pub UntilEnd : List Page → Type 0
UntilEnd [] = ⊥
UntilEnd (p ∷ []) = p.end ≡ true
UntilEnd (p ∷ r ∷ ps) = (p.end ≡ false) × UntilEnd (r ∷ ps)

-- The entries of all pages, one page after the other.
abbrev pub joined : List Page → List Entry
joined [] = []
joined (p ∷ ps) = p.entries ++ joined ps

-- What is true of the map at every moment.
abbrev pub Always : (List Entry → Type 0) → List Moment → Type 0
Always P [] = Unit {0}
Always P (s ∷ ss) = P s.map × Always P ss

-- How often a key stands in a list of entries.
abbrev pub times : List ℕ → List Entry → ℕ
times k [] = 0
times k (e ∷ m) = on_equal (order k e.0) 1 0 + times k m

-- Each of a page's entries matches, and is stored with its value at the page's moment.
abbrev pub Stored : Mode → List ℕ → List Entry → List Entry → Type 0
Stored mode q m [] = Unit {0}
Stored mode q m (e ∷ es) = (matches mode q e.0 ≡ true) × (lookup e.0 m ≡ some e.1) × Stored mode q m es

-- The same of all pages, each at its moment.
abbrev pub AllStored : Mode → List ℕ → List Moment → List Page → Type 0
AllStored mode q [] ps = Unit {0}
AllStored mode q (s ∷ ss) [] = Unit {0}
AllStored mode q (s ∷ ss) (p ∷ ps) = Stored mode q s.map p.entries × AllStored mode q ss ps

-- A page before the end has as many entries as were asked.
abbrev pub FullBefore : List Moment → List Page → Type 0
FullBefore [] ps = Unit {0}
FullBefore (s ∷ ss) [] = Unit {0}
FullBefore (s ∷ ss) (p ∷ []) = length p.entries ≤ s.size
FullBefore (s ∷ ss) (p ∷ r ∷ ps) = (length p.entries ≡ s.size) × FullBefore ss (r ∷ ps)

-- The listing that the pages of these moments make.
pub record Listed (mode : Mode) (q : List ℕ) (ss : List Moment) (ps : List Page) : Type 0 where
  -- keys come in strictly rising order
  pub rising : Rising (joined ps)
  -- each matches, and comes with its value at its page's moment
  pub stored : AllStored mode q ss ps
  -- each matching key that is stored at every page's moment comes exactly once
  pub complete : (k : List ℕ) → matches mode q k ≡ true → Always (λ m. lookup k m ≢ none) ss → times k (joined ps) ≡ 1
  -- no page before the end is short
  pub full : FullBefore ss ps
  -- with no change in between, the joined pages are the full listing
  pub whole : (m : List Entry) → Always (λ n. n ≡ m) ss → joined ps ≡ under mode q m

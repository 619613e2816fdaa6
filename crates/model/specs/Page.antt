-- Listings and pages (document 01, "Listing and pages").
-- Assumes nothing.
use Rattle.std.specs.Prelude.{ℕ, Bool, true, false, List, length, take, leb}
use Rattle.model.specs.Key.{order, on_equal, starts_with}
use Rattle.model.specs.Map.{Entry, choose, keep}

-- "A plain listing .. an inclusive one"
pub data Mode : Type 0 where
  plain inclusive : Mode

-- "A plain listing gives the stored keys that start with the prefix and aren't equal to it; an inclusive one gives the equal key too."
abbrev pub matches : Mode → List ℕ → List ℕ → Bool
matches inclusive q k = starts_with q k
matches plain q k = on_equal (order q k) false (starts_with q k)

-- The listing under a prefix: the matching entries, "in rising order" as in the map.
abbrev pub under : Mode → List ℕ → List Entry → List Entry
under mode q m = keep (matches mode q) m

-- "either "from the start" or an after-key (any key, stored or not, under the prefix or not)"
pub data From : Type 0 where
  start : From
  after_key : List ℕ → From

-- "strictly above the after-key"; "From the start" leaves no key out.
abbrev pub follows : From → List ℕ → Bool
follows start k = true
follows (after_key a) k = choose (order a k) true false false

-- The entries strictly above the after-key, or all.
abbrev pub above : From → List Entry → List Entry
above from m = keep (follows from) m

-- A page: its entries, and whether it says end.
pub record Page : Type 0 where
  pub entries : List Entry
  pub end : Bool

-- "It gives the first n matching keys that are strictly above the after-key, and says end exactly if no further one is stored at that moment."
abbrev pub page : Mode → List ℕ → From → ℕ → List Entry → Page
page mode q from n m =
    let rest = above from (under mode q m) in
    record { entries = take n rest; end = leb (length rest) n }

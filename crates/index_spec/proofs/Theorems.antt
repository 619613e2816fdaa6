-- What the promises come to for this index. Each is a theorem over any lawful layout, taken at the index's own.
-- Assumes nothing.
use Prim.Native.Nat.{ℕ, ◌≤◌}
use mathlib.Core.Path.{◌≡◌}
use mathlib.Core.Logic.{◌≢◌}
use mathlib.Core.List.{List}
use lib.ListN.{length, take}
use Rattle.model.specs.Numbers.{header_size, least_size, capacity_of, used}
use Rattle.model.specs.Answers.{STORE}
use Rattle.model.specs.Page.{Mode, start}
use Rattle.promises.specs.Meaning.{Meaning, Means, Reply, alone}
use Rattle.promises.specs.Says.{get_says, is_empty_says, set_limit_says, insert_says, overwrite_says, remove_says}
use Rattle.promises.specs.Promises.{is_empty_kinds, set_limit_kinds, insert_kinds, get_kinds, overwrite_kinds, remove_kinds, Create, Check, IsEmpty, SetLimit, Insert, Get, Overwrite, Remove, FirstPage, NextPage}
use Rattle.promises.specs.Determined.{SameStore, SameWrite, SamePage}
use Rattle.promises.specs.History.{Counted}
use Rattle.promises.specs.Session.{Step, Session, moments_of, pages_of, SomeBefore}
use Rattle.promises.specs.Moments.{UntilEnd, Listed}
use Rattle.promises.proofs.History.{counted as counted_lawful}
use Rattle.promises.proofs.Determined as determined
use Rattle.promises.proofs.Session.{session_listed, session_some}
use Rattle.index_spec.specs.Layout.{layout}
use Rattle.index_spec.proofs.CallLaws.{lawful}

-- "From creation on, stored keys = NEW answers less successful removals, while only these calls change the store."
pub counted : Counted layout
counted = counted_lawful layout lawful

-- ---- "That any two answers allowed by it are equal is proved": answer, map and check, call by call

pub create_one : (limit : ℕ) (st su sv : List ℕ) (r s : Reply) → Create layout limit st su r → Create layout limit st sv s → r ≡ s
create_one = determined.create_one layout lawful

pub create_same : (limit : ℕ) (st su sv : List ℕ) (r s : Reply) → least_size ≤ length st → Create layout limit st su r → Create layout limit st sv s → SameStore layout su sv
create_same = determined.create_same layout lawful

pub check_one : (st : List ℕ) (r s : Reply) → Check layout st r → Check layout st s → r ≡ s
check_one = determined.check_one layout lawful

pub is_empty_one : (st : List ℕ) (m : Meaning) (r s : Reply) → Means layout st m → IsEmpty layout st r → IsEmpty layout st s → r ≡ s
is_empty_one st m r s = determined.reads_one layout lawful is_empty_kinds is_empty_says st m r s

pub get_one : (k st : List ℕ) (m : Meaning) (r s : Reply) → Means layout st m → Get layout k st r → Get layout k st s → r ≡ s
get_one k st m r s = determined.reads_one layout lawful get_kinds (get_says k) st m r s

pub set_limit_one : (limit : ℕ) (st su sv : List ℕ) (m : Meaning) (r s : Reply) → Means layout st m → SetLimit layout limit st su r → SetLimit layout limit st sv s → SameWrite layout su sv r s
set_limit_one limit st su sv m r s = determined.writes_one layout lawful set_limit_kinds (set_limit_says limit) st su sv m r s

pub insert_one : (k : List ℕ) (v : ℕ) (st su sv : List ℕ) (m : Meaning) (r s : Reply) → Means layout st m → Insert layout k v st su r → Insert layout k v st sv s → SameWrite layout su sv r s
insert_one k v st su sv m r s = determined.writes_one layout lawful insert_kinds (insert_says k v) st su sv m r s

pub overwrite_one : (k : List ℕ) (v : ℕ) (st su sv : List ℕ) (m : Meaning) (r s : Reply) → Means layout st m → Overwrite layout k v st su r → Overwrite layout k v st sv s → SameWrite layout su sv r s
overwrite_one k v st su sv m r s = determined.writes_one layout lawful overwrite_kinds (overwrite_says k v) st su sv m r s

pub remove_one : (k st su sv : List ℕ) (m : Meaning) (r s : Reply) → Means layout st m → Remove layout k st su r → Remove layout k st sv s → SameWrite layout su sv r s
remove_one k st su sv m r s = determined.writes_one layout lawful remove_kinds (remove_says k) st su sv m r s

-- ---- "the slice's capacity is the one it was created with": the bytes of a store in a slice of another capacity are refused by the check

pub other_capacity : (st su : List ℕ) (m : Meaning) (r : Reply) → Means layout st m → take header_size st ≡ take header_size su → capacity_of (length st) ≢ capacity_of (length su) → Check layout su r
    → r ≡ alone STORE
other_capacity = determined.other_capacity_checked layout lawful

-- ---- "Bytes past 128 x (capacity + 1) are neither read nor written": of the check; of the other calls in UnreadLaws

pub check_unread : (st su : List ℕ) (r s : Reply) → used st ≡ used su → take (used st) st ≡ take (used su) su → Check layout st r → Check layout su s → r ≡ s
check_unread = determined.check_unread layout lawful

-- ---- demand 3: a listing under one prefix and mode, fetched page by page from the start until a page says end, with any calls between pages

-- A session is what its user does and sees: the first page, then the next one after the last key that the bytes of the page before show, each on an accepted store
-- of its own moment. Its keys strictly rise; each entry has its value at its page's moment; each matching key that is stored at every page's moment is given
-- exactly once; what is given matched and was stored; and with no change in between the joined pages are the full listing.
pub listed : (mode : Mode) (q : List ℕ) (ss : List Step) → Session layout mode q start ss → UntilEnd (pages_of ss) → Listed mode q (moments_of ss) (pages_of ss)
listed mode q = session_listed layout lawful mode q

-- No page before the end is empty.
pub some_before : (mode : Mode) (q : List ℕ) (ss : List Step) → Session layout mode q start ss → UntilEnd (pages_of ss) → SomeBefore (pages_of ss)
some_before mode q = session_some layout lawful mode q

-- any two outcomes of a page are equal: the answer and every output byte
pub first_page_one : (q : List ℕ) (mode : Mode) (n : ℕ) (st out ou ov : List ℕ) (m : Meaning) (r s : Reply) → Means layout st m → FirstPage layout q mode n st out ou r → FirstPage layout q mode n st out ov s
    → SamePage ou ov r s
first_page_one q mode n st out ou ov m r s = determined.pages_one layout lawful _ st out ou ov m r s

pub next_page_one : (q : List ℕ) (mode : Mode) (a : List ℕ) (n : ℕ) (st out ou ov : List ℕ) (m : Meaning) (r s : Reply) → Means layout st m → NextPage layout q mode a n st out ou r
    → NextPage layout q mode a n st out ov s → SamePage ou ov r s
next_page_one q mode a n st out ou ov m r s = determined.pages_one layout lawful _ st out ou ov m r s

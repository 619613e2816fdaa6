-- What document 01 says that each call answers and does, on the meaning of an accepted store: the table "Given exactly when". "The table's order 10 to 16 is the
-- order of the checks."
-- Assumes nothing.
use Rattle.std.specs.Prelude.{ℕ, ◌*◌, Bool, false, ◌||◌, List, [], ◌∷◌, length, ltb, eqb}
use Rattle.std.proofs.Math.Option.{Option, none, some}
use Rattle.model.specs.Numbers.{least_size, page_limit, entry_limit}
use Rattle.model.specs.Answers.{Answer, DONE, REPLACED, STORE, KEY, HEIGHT, FULL, ABSENT, COUNT, ROOM, number}
use Rattle.model.specs.Map.{Entry, lookup, put, del, pick}
use Rattle.model.specs.Picture.{picture_of, refuses_height, too_long}
use Rattle.model.specs.Page.{Mode, From, start, after_key, Page, page}
use Rattle.model.specs.Entry.{entries_bytes}
use Rattle.promises.specs.Meaning.{Meaning, Reply, alone}

-- An answer, and the store's meaning after the call.
pub record Says : Type 0 where
  pub reply : Reply
  pub after : Meaning

-- The meaning with another map.
abbrev pub with_map : Meaning → List Entry → Meaning
with_map m x = record { map = x; limit = m.limit; capacity = m.capacity }

-- The first for an answer from 10 up, the second for an answer below.
abbrev pub unless {ℓ} : {A : Type ℓ} → Answer → A → A → A
unless DONE a b = b
unless REPLACED a b = b
unless STORE a b = a
unless KEY a b = a
unless HEIGHT a b = a
unless FULL a b = a
unless ABSENT a b = a
unless COUNT a b = a
unless ROOM a b = a

-- "Every answer from 10 up changes no lent byte; values and counts beside it are 0 and the end mark is no."
abbrev pub saying : Answer → Meaning → Meaning → Says
saying a m n = record { reply = alone a; after = unless a m n }

-- KEY, "a key, prefix or after-key is longer than 64", comes before what the call itself answers.
abbrev pub keyed : List ℕ → Answer → Answer
keyed k a = pick (too_long k) KEY a

-- ROOM, "create: the slice is under 256 bytes"
abbrev pub create_says : ℕ → Answer
create_says size = pick (ltb size least_size) ROOM DONE

-- "creation, which takes the limit, makes an empty one"
abbrev pub empty : ℕ → ℕ → Meaning
empty limit capacity = record { map = []; limit = limit; capacity = capacity }

-- A new key: HEIGHT, "a new key and the limit's rule refuses"; FULL, "a new key, not HEIGHT, and stored keys = capacity"; NEW, "a new key was stored".
abbrev pub new_answer : List ℕ → Meaning → Answer
new_answer k m = pick (refuses_height m.limit k (picture_of m.map)) HEIGHT (pick (eqb (length m.map) m.capacity) FULL DONE)

-- REPLACED, "insert: the key was stored; only its value changed"
abbrev pub put_answer : Option ℕ → Answer → Answer
put_answer none new = new
put_answer (some v) new = REPLACED

-- insert
abbrev pub insert_says : List ℕ → ℕ → Meaning → Says
insert_says k v m = saying (keyed k (put_answer (lookup k m.map) (new_answer k m))) m (with_map m (put k v m.map))

-- ABSENT, "get, overwrite, remove: the key isn't stored"
abbrev pub stored_answer : Option ℕ → Answer
stored_answer none = ABSENT
stored_answer (some v) = DONE

-- The value beside the answer.
abbrev pub value_reply : Option ℕ → Reply
value_reply none = alone ABSENT
value_reply (some v) = record { answer = number DONE; value = v; count = 0; end = false }

-- get
abbrev pub get_says : List ℕ → Meaning → Reply
get_says k m = pick (too_long k) (alone KEY) (value_reply (lookup k m.map))

-- `get_mut` "as an overwrite of a stored key only"; "an overwrite answers 0"
abbrev pub overwrite_says : List ℕ → ℕ → Meaning → Says
overwrite_says k v m = saying (keyed k (stored_answer (lookup k m.map))) m (with_map m (put k v m.map))

-- remove
abbrev pub remove_says : List ℕ → Meaning → Says
remove_says k m = saying (keyed k (stored_answer (lookup k m.map))) m (with_map m (del k m.map))

-- 1 for no key, and 0 for some.
abbrev pub is_nothing : List Entry → ℕ
is_nothing [] = 1
is_nothing (e ∷ m) = 0

-- is_empty: that number is the value beside the answer
abbrev pub is_empty_says : Meaning → Reply
is_empty_says m = record { answer = number DONE; value = is_nothing m.map; count = 0; end = false }

-- max_height: "the limit may be set at any time, also on a filled store"
abbrev pub set_limit_says : ℕ → Meaning → Says
set_limit_says l m = saying DONE m (record { map = m.map; limit = l; capacity = m.capacity })

-- "A page takes prefix, mode, size n, and either "from the start" or an after-key"; and an output of some size.
pub record Asked : Type 0 where
  pub prefix : List ℕ
  pub mode : Mode
  pub from : From
  pub size : ℕ
  pub room : ℕ

-- The after-key is too long.
abbrev pub from_too_long : From → Bool
from_too_long start = false
from_too_long (after_key a) = too_long a

-- COUNT, "page size is 0 or over 256, or the output is too short": "the output must have at least 74 bytes per entry asked".
abbrev pub bad_count : Asked → Bool
bad_count a = eqb a.size 0 || (ltb page_limit a.size || ltb a.room (entry_limit * a.size))

-- The answer to a page: KEY, COUNT, done.
abbrev pub page_answer : Asked → Answer
page_answer a = pick (too_long a.prefix || from_too_long a.from) KEY (pick (bad_count a) COUNT DONE)

-- The page itself, for a question that is not refused.
abbrev pub page_of : Asked → Meaning → Page
page_of a m = page a.mode a.prefix a.from a.size m.map

-- A page's answer and output.
pub record PageSays : Type 0 where
  pub reply : Reply
  -- the bytes at the start of the output; "output bytes past the last stay"
  pub bytes : List ℕ

-- A page that is given: as many entries as it counts, and as many bytes as stand beside the answer.
abbrev pub page_given : Page → PageSays
page_given p =
    let bytes = entries_bytes p.entries in
    record { reply = record { answer = number DONE; value = length bytes; count = length p.entries; end = p.end }; bytes = bytes }

-- first_page and next_page
abbrev pub page_says : Asked → Meaning → PageSays
page_says a m = unless (page_answer a) (record { reply = alone (page_answer a); bytes = [] }) (page_given (page_of a m))

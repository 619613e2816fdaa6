-- A set of programs for the public calls, as functions on what they are lent, that keeps the promises. Each promise is asked on what the call's types let in and on
-- nothing else: slices of bytes, values and page sizes of 32 bits, limits of 16.
-- Assumes nothing.
use Rattle.std.specs.Prelude.{ℕ, ◌<◌, List, length}
use Rattle.model.specs.Key.{Bytes}
use Rattle.model.specs.Numbers.{value_bound, limit_bound}
use Rattle.model.specs.Page.{Mode}
use Rattle.promises.specs.Meaning.{Layout, Reply}
use Rattle.promises.specs.Promises.{Create, Check, IsEmpty, SetLimit, Insert, Get, Overwrite, Remove, FirstPage, NextPage}

-- What can be lent: bytes, and no more of them than a machine's slice has.
pub record Slice (st : List ℕ) : Type 0 where
  pub bytes : Bytes st
  pub size : length st < 9223372036854775808

-- What a run of a program leaves: the lent bytes, and the answer.
pub record Ran : Type 0 where
  pub bytes : List ℕ
  pub reply : Reply

-- The programs, that each keeps its promise, and that what was lent for writing is bytes after the call too.
pub record Programs (L : Layout) : Type 0 where
  pub create : (limit : ℕ) (st : List ℕ) → Ran
  pub check : (st : List ℕ) → Reply
  pub is_empty : (st : List ℕ) → Reply
  pub set_limit : (limit : ℕ) (st : List ℕ) → Ran
  pub insert : (k : List ℕ) (v : ℕ) (st : List ℕ) → Ran
  pub get : (k st : List ℕ) → Reply
  pub overwrite : (k : List ℕ) (v : ℕ) (st : List ℕ) → Ran
  pub remove : (k st : List ℕ) → Ran
  pub first_page : (q : List ℕ) (mode : Mode) (n : ℕ) (st out : List ℕ) → Ran
  pub next_page : (q : List ℕ) (mode : Mode) (k : List ℕ) (n : ℕ) (st out : List ℕ) → Ran
  pub creates : (limit : ℕ) (st : List ℕ) → limit < limit_bound → Slice st → Create L limit st (create limit st).bytes (create limit st).reply
  pub checks : (st : List ℕ) → Slice st → Check L st (check st)
  pub is_empties : (st : List ℕ) → Slice st → IsEmpty L st (is_empty st)
  pub set_limits : (limit : ℕ) (st : List ℕ) → limit < limit_bound → Slice st → SetLimit L limit st (set_limit limit st).bytes (set_limit limit st).reply
  pub inserts : (k : List ℕ) (v : ℕ) (st : List ℕ) → Slice k → v < value_bound → Slice st → Insert L k v st (insert k v st).bytes (insert k v st).reply
  pub gets : (k st : List ℕ) → Slice k → Slice st → Get L k st (get k st)
  pub overwrites : (k : List ℕ) (v : ℕ) (st : List ℕ) → Slice k → v < value_bound → Slice st
      → Overwrite L k v st (overwrite k v st).bytes (overwrite k v st).reply
  pub removes : (k st : List ℕ) → Slice k → Slice st → Remove L k st (remove k st).bytes (remove k st).reply
  pub firsts : (q : List ℕ) (mode : Mode) (n : ℕ) (st out : List ℕ) → Slice q → n < value_bound → Slice st → Slice out
      → FirstPage L q mode n st out (first_page q mode n st out).bytes (first_page q mode n st out).reply
  pub nexts : (q : List ℕ) (mode : Mode) (k : List ℕ) (n : ℕ) (st out : List ℕ) → Slice q → Slice k → n < value_bound → Slice st → Slice out
      → NextPage L q mode k n st out (next_page q mode k n st out).bytes (next_page q mode k n st out).reply
  pub create_bytes : (limit : ℕ) (st : List ℕ) → limit < limit_bound → Slice st → Bytes (create limit st).bytes
  pub set_limit_bytes : (limit : ℕ) (st : List ℕ) → limit < limit_bound → Slice st → Bytes (set_limit limit st).bytes
  pub insert_bytes : (k : List ℕ) (v : ℕ) (st : List ℕ) → Slice k → v < value_bound → Slice st → Bytes (insert k v st).bytes
  pub overwrite_bytes : (k : List ℕ) (v : ℕ) (st : List ℕ) → Slice k → v < value_bound → Slice st → Bytes (overwrite k v st).bytes
  pub remove_bytes : (k st : List ℕ) → Slice k → Slice st → Bytes (remove k st).bytes
  pub first_bytes : (q : List ℕ) (mode : Mode) (n : ℕ) (st out : List ℕ) → Slice q → n < value_bound → Slice st → Slice out
      → Bytes (first_page q mode n st out).bytes
  pub next_bytes : (q : List ℕ) (mode : Mode) (k : List ℕ) (n : ℕ) (st out : List ℕ) → Slice q → Slice k → n < value_bound → Slice st → Slice out
      → Bytes (next_page q mode k n st out).bytes

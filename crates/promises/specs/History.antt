-- Runs of calls from creation on: what they answer, and how many keys are stored.
-- Assumes nothing.
use Rattle.std.specs.Prelude.{ℕ, ◌+◌, ◌≤◌, ◌≡◌, List, [], ◌∷◌, length, eqb}
use Rattle.model.specs.Numbers.{least_size}
use Rattle.model.specs.Answers.{DONE, number}
use Rattle.model.specs.Map.{pick}
use Rattle.model.specs.Page.{Mode, From}
use Rattle.promises.specs.Meaning.{Meaning, Reply, Layout, Means}
use Rattle.promises.specs.Says.{insert_says, get_says, overwrite_says, remove_says, set_limit_says, is_empty_says, page_says}
use Rattle.promises.specs.Promises.{Create, Insert, Overwrite, Remove, SetLimit, Get, IsEmpty, PageCall}

-- A call on a store.
pub data Call : Type 0 where
  insert : List ℕ → ℕ → Call
  overwrite : List ℕ → ℕ → Call
  remove : List ℕ → Call
  set_limit : ℕ → Call
  get : List ℕ → Call
  is_empty : Call
  -- prefix, mode, from, size, and the size of the output
  page : List ℕ → Mode → From → ℕ → ℕ → Call

-- What it answers.
abbrev pub reply : Call → Meaning → Reply
reply (insert k v) m = (insert_says k v m).reply
reply (overwrite k v) m = (overwrite_says k v m).reply
reply (remove k) m = (remove_says k m).reply
reply (set_limit l) m = (set_limit_says l m).reply
reply (get k) m = get_says k m
reply is_empty m = is_empty_says m
reply (page q mode from n room) m = (page_says (record { prefix = q; mode = mode; from = from; size = n; room = room }) m).reply

-- What the store means after it.
abbrev pub next : Call → Meaning → Meaning
next (insert k v) m = (insert_says k v m).after
next (overwrite k v) m = (overwrite_says k v m).after
next (remove k) m = (remove_says k m).after
next (set_limit l) m = (set_limit_says l m).after
next (get k) m = m
next is_empty m = m
next (page q mode from n room) m = m

-- What a run of calls answers, and what the store means after it.
abbrev pub replies : List Call → Meaning → List Reply
replies [] m = []
replies (c ∷ cs) m = reply c m ∷ replies cs (next c m)

abbrev pub after : List Call → Meaning → Meaning
after [] m = m
after (c ∷ cs) m = after cs (next c m)

-- The calls of a run, each with its answer.
abbrev pub told : List Call → Meaning → List (Call × Reply)
told [] m = []
told (c ∷ cs) m = (c, reply c m) ∷ told cs (next c m)

-- 1 for an answer 0
abbrev pub counts : Reply → ℕ
counts r = pick (eqb r.answer (number DONE)) 1 0

-- "NEW answers"
abbrev pub is_new : Call → Reply → ℕ
is_new (insert k v) r = counts r
is_new (overwrite k v) r = 0
is_new (remove k) r = 0
is_new (set_limit l) r = 0
is_new (get k) r = 0
is_new is_empty r = 0
is_new (page q mode from n room) r = 0

-- "successful removals"
abbrev pub is_removal : Call → Reply → ℕ
is_removal (insert k v) r = 0
is_removal (overwrite k v) r = 0
is_removal (remove k) r = counts r
is_removal (set_limit l) r = 0
is_removal (get k) r = 0
is_removal is_empty r = 0
is_removal (page q mode from n room) r = 0

-- Their number in a run.
abbrev pub news : List (Call × Reply) → ℕ
news [] = 0
news (d ∷ ds) = is_new d.0 d.1 + news ds

abbrev pub removals : List (Call × Reply) → ℕ
removals [] = 0
removals (d ∷ ds) = is_removal d.0 d.1 + removals ds

-- A call that keeps its promise, from the store's bytes `st` to `st'`, with the answer r.
abbrev pub Keeps : Layout → Call → List ℕ → List ℕ → Reply → Type 0
Keeps L (insert k v) st st' r = Insert L k v st st' r
Keeps L (overwrite k v) st st' r = Overwrite L k v st st' r
Keeps L (remove k) st st' r = Remove L k st st' r
Keeps L (set_limit l) st st' r = SetLimit L l st st' r
Keeps L (get k) st st' r = (st' ≡ st) × Get L k st r
Keeps L is_empty st st' r = (st' ≡ st) × IsEmpty L st r
Keeps L (page q mode from n room) st st' r =
    (st' ≡ st) × ((out : List ℕ) × (out' : List ℕ) × (length out ≡ room) × PageCall L q mode from n st out out' r)

-- A call that was made: its answer, and the store's bytes after it.
pub record Made : Type 0 where
  pub call : Call
  pub reply : Reply
  pub store : List ℕ

-- Calls that were made one after the other, from the bytes `st` on, each keeping its promise.
abbrev pub Run : Layout → List ℕ → List Made → Type 0
Run L st [] = Unit {0}
Run L st (d ∷ ds) = Keeps L d.call st d.store d.reply × Run L d.store ds

-- The bytes after them, and the calls with their answers.
abbrev pub last : List ℕ → List Made → List ℕ
last st [] = st
last st (d ∷ ds) = last d.store ds

abbrev pub heard : List Made → List (Call × Reply)
heard [] = []
heard (d ∷ ds) = (d.call, d.reply) ∷ heard ds

-- "From creation on, stored keys = NEW answers less successful removals, while only these calls change the store."
abbrev pub Counted : Layout → Type 0
Counted L =
    (limit : ℕ) (st st' : List ℕ) (r : Reply) → Create L limit st st' r → least_size ≤ length st → (ds : List Made) → Run L st' ds → (m : Meaning) → Means L (last st' ds) m
    → length m.map + removals (heard ds) ≡ news (heard ds)

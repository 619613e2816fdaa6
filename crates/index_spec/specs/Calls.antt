-- What each call does, over the bytes of the store and on any bytes: its answer, and the bytes after it. The promises say what that means on an accepted store.
-- (The check is left out: its promise says of any bytes what it answers.)
-- Assumes nothing.
use Rattle.std.specs.Prelude.{ℕ, Bool, cond, List, length, ltb, Result, Ok, Err, Some, None}
use Rattle.model.specs.Numbers.{least_size}
use Rattle.model.specs.Picture.{too_long}
use Rattle.node.specs.Header.{head_of, set_head}
use Rattle.node.specs.Leaf.{leaf_in, set_value}
use Rattle.records.specs.Create.{created, no_room}
use Rattle.records.specs.declared.create.NoRoom.{NoRoom}
use Rattle.node.specs.declared.header.Header.{Header}
use Rattle.node.specs.declared.NotAStore.{NotAStore}
use Rattle.node.specs.NotAStore.{not_a_store}
use Rattle.trie_spec.specs.Find.{Exact, Found, find_in}
use Rattle.trie_spec.specs.Writes.{Removed, Outcome, outcome, insert_in, remove_under}
use Rattle.index_spec.specs.Layout.{with_limit}
use Rattle.index_spec.specs.Replies.{empty_of, inserted_of}
use Rattle.trie_spec.specs.declared.insert.Inserted.{Inserted}
use Rattle.index_spec.specs.declared.insert.InsertError.{InsertError}
use Rattle.index_spec.specs.declared.stored.LookupError.{LookupError}

-- ---- the tests that come first

-- "It answers STORE where the slice is too short or the header is wrong"
abbrev pub on_head : {A : Type 0} → (store : A) → (Header → A) → Result Header NotAStore → A
on_head store work (Ok h) = work h
on_head store work (Err e) = store

-- "The table's order 10 to 16 is the order of the checks": STORE, then KEY, then what the call does
abbrev pub behind : {A : Type 0} → (store key : A) → (Header → A) → (st k : List ℕ) → A
behind store key work st k = on_head store (λ h. cond (too_long k) key (work h)) (head_of st)

-- ---- create, is_empty, set_limit

abbrev pub create_call : ℕ → List ℕ → Outcome (Result (Unit {0}) NoRoom)
create_call limit st = cond (ltb (length st) least_size) (outcome (Err no_room) st) (outcome (Ok tt) (created limit st))

abbrev pub empty_call : List ℕ → Result Bool NotAStore
empty_call st = on_head (Err not_a_store) (λ h. Ok (empty_of h.leaves)) (head_of st)

abbrev pub limit_call : ℕ → List ℕ → Outcome (Result (Unit {0}) NotAStore)
limit_call limit st = on_head (outcome (Err not_a_store) st) (λ h. outcome (Ok tt) (set_head st (with_limit h limit))) (head_of st)

-- ---- insert

abbrev pub inserted_in : List ℕ → Header → List ℕ → ℕ → Outcome (Result Inserted InsertError)
inserted_in st h k v = outcome (inserted_of (insert_in st h k v).answer) (insert_in st h k v).bytes

abbrev pub insert_call : List ℕ → ℕ → List ℕ → Outcome (Result Inserted InsertError)
insert_call k v st = behind (outcome (Err InsertError.Store) st) (outcome (Err InsertError.Key) st) (λ h. inserted_in st h k v) st k

-- ---- get

-- "A read that meets a refusal hands the same refusal up."
abbrev pub refused_get : Found → Result ℕ LookupError
refused_get (Ok (Some n)) = Err LookupError.Store
refused_get (Ok None) = Err LookupError.Absent
refused_get (Err e) = Err LookupError.Store

-- the value that a lookup found
abbrev pub got_of : List ℕ → Exact → Result ℕ LookupError
got_of st (Ok (Some (n, s))) = Ok (leaf_in st n.0).value
got_of st (Ok None) = Err LookupError.Absent
got_of st (Err e) = Err LookupError.Store

abbrev pub got_in : List ℕ → Header → List ℕ → Result ℕ LookupError
got_in st h k = got_of st (find_in st h k)

abbrev pub get_call : List ℕ → List ℕ → Result ℕ LookupError
get_call k st = behind (Err LookupError.Store) (Err LookupError.Key) (λ h. got_in st h k) st k

-- ---- overwrite and remove

abbrev pub refused_change : Exact → Result (Unit {0}) LookupError
refused_change (Ok (Some (n, s))) = Err LookupError.Store
refused_change (Ok None) = Err LookupError.Absent
refused_change (Err e) = Err LookupError.Store

abbrev pub refused_overwrite : Found → Result (Unit {0}) LookupError
refused_overwrite (Ok (Some n)) = Err LookupError.Store
refused_overwrite (Ok None) = Err LookupError.Absent
refused_overwrite (Err e) = Err LookupError.Store

-- the value of the leaf that a lookup found is replaced
abbrev pub overwritten : List ℕ → ℕ → Exact → Outcome (Result (Unit {0}) LookupError)
overwritten st v (Ok (Some (n, s))) = outcome (Ok tt) (set_value st n.0 v)
overwritten st v (Ok None) = outcome (Err LookupError.Absent) st
overwritten st v (Err e) = outcome (Err LookupError.Store) st

abbrev pub overwritten_in : List ℕ → Header → List ℕ → ℕ → Outcome (Result (Unit {0}) LookupError)
overwritten_in st h k v = overwritten st v (find_in st h k)

abbrev pub overwrite_call : List ℕ → ℕ → List ℕ → Outcome (Result (Unit {0}) LookupError)
overwrite_call k v st = behind (outcome (Err LookupError.Store) st) (outcome (Err LookupError.Key) st) (λ h. overwritten_in st h k v) st k

-- by what the trie's removal did
abbrev pub removed_of : Removed → Result (Unit {0}) LookupError
removed_of (Ok u) = Ok u
removed_of (Err e) = Err LookupError.Store

-- the leaf that a lookup found is taken out, where it stands
abbrev pub taken_out : Outcome Removed → Outcome (Result (Unit {0}) LookupError)
taken_out t = outcome (removed_of t.answer) t.bytes

abbrev pub removed : List ℕ → Header → Exact → Outcome (Result (Unit {0}) LookupError)
removed st h (Ok (Some (n, s))) = taken_out (remove_under st h n.0 s.at s.above)
removed st h (Ok None) = outcome (Err LookupError.Absent) st
removed st h (Err e) = outcome (Err LookupError.Store) st

abbrev pub removed_in : List ℕ → Header → List ℕ → Outcome (Result (Unit {0}) LookupError)
removed_in st h k = removed st h (find_in st h k)

abbrev pub remove_call : List ℕ → List ℕ → Outcome (Result (Unit {0}) LookupError)
remove_call k st = behind (outcome (Err LookupError.Store) st) (outcome (Err LookupError.Key) st) (λ h. removed_in st h k) st k

-- Each call's answer as document 01 gives it: a number, with the value, the count and the end mark beside it.
-- Assumes nothing.
use Rattle.std.specs.Prelude.{ℕ, Bool, true, false, eqb, Result, Ok, Err}
use Rattle.model.specs.Answers.{number, DONE, REPLACED, STORE, KEY, HEIGHT, FULL, ABSENT, COUNT, ROOM}
use Rattle.model.specs.Page as Page
use Rattle.promises.specs.Meaning.{Reply, alone}
use Rattle.node.specs.declared.NotAStore.{NotAStore}
use Rattle.records.specs.declared.create.NoRoom.{NoRoom}
use Rattle.trie_spec.specs.Writes.{Put}
use Rattle.trie_spec.specs.declared.insert.Inserted.{Inserted}
use Rattle.trie_spec.specs.declared.insert.PutError.{PutError}
use Rattle.iterator.specs.declared.page.Page.{Page as Given}
use Rattle.index_spec.specs.declared.insert.InsertError.{InsertError}
use Rattle.index_spec.specs.declared.pages.Mode.{Mode}
use Rattle.index_spec.specs.declared.pages.PageError.{PageError}
use Rattle.index_spec.specs.declared.stored.LookupError.{LookupError}

-- create: done, or ROOM
abbrev pub create_reply : Result (Unit {0}) NoRoom → Reply
create_reply (Ok u) = alone DONE
create_reply (Err e) = alone ROOM

-- check: done, or STORE
abbrev pub check_reply : Result (Unit {0}) NotAStore → Reply
check_reply (Ok u) = alone DONE
check_reply (Err e) = alone STORE

-- is_empty: 1 for an empty store and 0 for another is the value beside the answer
abbrev pub empty_reply : Result Bool NotAStore → Reply
empty_reply (Ok true) = record { answer = number DONE; value = 1; count = 0; end = false }
empty_reply (Ok false) = record { answer = number DONE; value = 0; count = 0; end = false }
empty_reply (Err e) = alone STORE

-- by the number of leaves
abbrev pub empty_of : ℕ → Bool
empty_of leaves = eqb leaves 0

-- set_limit
abbrev pub limit_reply : Result (Unit {0}) NotAStore → Reply
limit_reply (Ok u) = alone DONE
limit_reply (Err e) = alone STORE

-- insert: NEW is 0
abbrev pub insert_reply : Result Inserted InsertError → Reply
insert_reply (Ok Inserted.New) = alone DONE
insert_reply (Ok Inserted.Replaced) = alone REPLACED
insert_reply (Err InsertError.Store) = alone STORE
insert_reply (Err InsertError.Key) = alone KEY
insert_reply (Err InsertError.Height) = alone HEIGHT
insert_reply (Err InsertError.Full) = alone FULL

-- by what the trie's insertion did
abbrev pub refused_insert : PutError → InsertError
refused_insert PutError.Store = InsertError.Store
refused_insert PutError.Height = InsertError.Height
refused_insert PutError.Full = InsertError.Full

abbrev pub inserted_of : Put → Result Inserted InsertError
inserted_of (Ok i) = Ok i
inserted_of (Err e) = Err (refused_insert e)

-- get: the value stands beside the answer
abbrev pub get_reply : Result ℕ LookupError → Reply
get_reply (Ok v) = record { answer = number DONE; value = v; count = 0; end = false }
get_reply (Err LookupError.Store) = alone STORE
get_reply (Err LookupError.Key) = alone KEY
get_reply (Err LookupError.Absent) = alone ABSENT

-- overwrite and remove
abbrev pub changed_reply : Result (Unit {0}) LookupError → Reply
changed_reply (Ok u) = alone DONE
changed_reply (Err LookupError.Store) = alone STORE
changed_reply (Err LookupError.Key) = alone KEY
changed_reply (Err LookupError.Absent) = alone ABSENT

-- "A plain listing .. an inclusive one"
abbrev pub mode_of : Mode → Page.Mode
mode_of Mode.Plain = Page.plain
mode_of Mode.Inclusive = Page.inclusive

-- first_page and next_page: the entries are counted, and the bytes that they take stand beside the answer as its value
abbrev pub page_reply : Result Given PageError → Reply
page_reply (Ok p) = record { answer = number DONE; value = p.bytes; count = p.entries; end = p.end }
page_reply (Err PageError.Store) = alone STORE
page_reply (Err PageError.Key) = alone KEY
page_reply (Err PageError.Count) = alone COUNT

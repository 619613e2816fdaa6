-- What a caller in C is given of an answer: its number, and through references the numbers that stand beside it.
-- Assumes nothing.
use Rattle.std.specs.Prelude.{ℕ, Bool, false, cond, Result, Ok, Err}
use Rattle.model.specs.Answers.{number, DONE, STORE, KEY, HEIGHT, FULL, ABSENT, COUNT, ROOM}
use Rattle.node.specs.declared.NotAStore.{NotAStore}
use Rattle.records.specs.declared.create.NoRoom.{NoRoom}
use Rattle.trie_spec.specs.Writes.{Outcome, outcome}
use Rattle.promises.specs.Meaning.{Reply}
use Rattle.index_spec.specs.declared.insert.InsertError.{InsertError}
use Rattle.index_spec.specs.declared.pages.Mode.{Mode}
use Rattle.index_spec.specs.declared.pages.PageError.{PageError}
use Rattle.index_spec.specs.declared.stored.LookupError.{LookupError}

-- an answer with nothing beside it
abbrev pub bare : ℕ → Reply
bare answer = record { answer = answer; value = 0; count = 0; end = false }

-- an answer with a value beside it
abbrev pub valued : (answer value : ℕ) → Reply
valued answer value = record { answer = answer; value = value; count = 0; end = false }

-- an answer with a yes or no beside it, which is a value of 1 or 0
abbrev pub told : (answer : ℕ) → Bool → Reply
told answer b = valued answer (cond b 1 0)

-- the answer of a page, with its entries, the bytes that they take, and the end mark
abbrev pub paged : (answer entries bytes : ℕ) → Bool → Reply
paged answer entries bytes end = record { answer = answer; value = bytes; count = entries; end = end }

-- whether the store was found empty: "the end mark is no" of a refusal, and so is this
abbrev pub found_empty : Result Bool NotAStore → Bool
found_empty (Ok empty) = empty
found_empty (Err e) = false

-- ---- the refusals' numbers

abbrev pub room_number : NoRoom → ℕ
room_number e = number ROOM

abbrev pub store_number : NotAStore → ℕ
store_number e = number STORE

abbrev pub insert_number : InsertError → ℕ
insert_number InsertError.Store = number STORE
insert_number InsertError.Key = number KEY
insert_number InsertError.Height = number HEIGHT
insert_number InsertError.Full = number FULL

abbrev pub lookup_number : LookupError → ℕ
lookup_number LookupError.Store = number STORE
lookup_number LookupError.Key = number KEY
lookup_number LookupError.Absent = number ABSENT

abbrev pub page_number : PageError → ℕ
page_number PageError.Store = number STORE
page_number PageError.Key = number KEY
page_number PageError.Count = number COUNT

-- the number of an answer that is done, or a refusal with a number
abbrev pub answered : {A E : Type 0} → (E → ℕ) → Result A E → ℕ
answered refusal (Ok a) = number DONE
answered refusal (Err e) = refusal e

-- ---- what is asked of a listing

-- the mode of a listing: inclusive, or not
abbrev pub mode_named : Bool → Mode
mode_named inclusive = cond inclusive Mode.Inclusive Mode.Plain

-- what a call of the index comes to, with its answer as document 01 gives it
abbrev pub replied : {A : Type 0} → (A → Reply) → Outcome A → Outcome Reply
replied reply o = outcome (reply o.answer) o.bytes

-- The promise of an answered line: on an accepted store, the exact bytes and the map after it.
-- Assumes nothing.
use Rattle.std.specs.Prelude.{ℕ, ◌≤◌, List, length, Result, Ok, Err}
use Rattle.promises.specs.Meaning.{Layout, Meaning, Means}
use Rattle.line.specs.Line.{Line}
use Rattle.line.specs.Answer.{answer_line}
use Rattle.line.specs.Code.{Wrote}
use Rattle.line.specs.declared.writing.Answer.{Answer}
use Rattle.trie_spec.specs.declared.insert.Inserted.{Inserted}
use Rattle.index_spec.specs.declared.insert.InsertError.{InsertError}
use Rattle.index_spec.specs.declared.stored.LookupError.{LookupError}

abbrev pub insert_told : Result Inserted InsertError → Answer
insert_told (Ok Inserted.New) = Answer.New
insert_told (Ok Inserted.Replaced) = Answer.Replaced
insert_told (Err InsertError.Store) = Answer.Key
insert_told (Err InsertError.Key) = Answer.Key
insert_told (Err InsertError.Height) = Answer.Height
insert_told (Err InsertError.Full) = Answer.Full

-- a call for a stored key that is refused
abbrev pub refused_told : LookupError → Answer
refused_told LookupError.Store = Answer.Key
refused_told LookupError.Key = Answer.Key
refused_told LookupError.Absent = Answer.Absent

abbrev pub get_told : Result ℕ LookupError → Answer
get_told (Ok v) = Answer.Value v
get_told (Err e) = refused_told e

abbrev pub remove_told : Result (Unit {0}) LookupError → Answer
remove_told (Ok u) = Answer.Removed
remove_told (Err e) = refused_told e

-- `st` and `st'` are the store's bytes before and after, `out` and `out'` the output's, n the number of bytes written.
pub record Answered (L : Layout) (line : Line) (st st' out out' : List ℕ) (n : ℕ) : Type 0 where
  pub within : n ≤ length out
  pub wrote : (m : Meaning) → Means L st m → Wrote (answer_line line m).bytes out out' n
  pub after : (m : Meaning) → Means L st m → Means L st' (answer_line line m).after

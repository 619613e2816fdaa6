-- What each function answers, by the (slot, item) list, and document 01's number for each case of an answer.
-- A writing function's record has its answer and the bytes at exit, so that any two outcomes that it allows are equal.
-- Assumes nothing.
use Rattle.std.specs.Prelude.{ℕ, ◌≡◌, Bool, true, false, cond, List, leb, Option as CodeOption, Some, None, Result, Ok, Err}
use Rattle.std.proofs.Math.Option.{Option, none, some}
use Rattle.model.specs.Answers.{number, DONE, REPLACED, ABSENT}
use Rattle.bitmap.specs.Entries.{Entry, lookup, head, below}
use Rattle.sparse_array.specs.Array.{entries, with_slot, without_slot, without_lowest}
use Rattle.sparse_array.specs.declared.NoSlot.{NoSlot}
use Rattle.sparse_array.specs.declared.Put.{Put}
use Rattle.sparse_array.specs.declared.Put.TheVariants.{New, Replaced}

-- the one refusal of the functions that ask for a slot
abbrev pub no_slot : NoSlot
no_slot = record {}

-- ---- the numbers

abbrev pub got_number : CodeOption ℕ → ℕ
got_number (Some x) = number DONE
got_number None = number ABSENT

abbrev pub place_number : CodeOption ℕ → ℕ
place_number (Some i) = number DONE
place_number None = number ABSENT

abbrev pub put_number : Result Put NoSlot → ℕ
put_number (Ok New) = number DONE
put_number (Ok Replaced) = number REPLACED
put_number (Err e) = number ABSENT

abbrev pub removed_number : Result (Unit {0}) NoSlot → ℕ
removed_number (Ok u) = number DONE
removed_number (Err e) = number ABSENT

-- ---- reading

abbrev pub here : Option ℕ → Bool
here none = false
here (some x) = true

-- a look-up as the code answers it
abbrev pub got : Option ℕ → CodeOption ℕ
got none = None
got (some x) = Some x

abbrev pub or_else : Option ℕ → Option ℕ → Option ℕ
or_else none y = y
or_else (some x) y = some x

-- a slot over 16 is refused; a missing one gives the lowest
abbrev pub got_or_head : ℕ → List Entry → CodeOption ℕ
got_or_head slot es = cond (leb slot 16) (got (or_else (lookup slot es) (head es))) None

abbrev pub placed : ℕ → List Entry → CodeOption ℕ
placed slot es = cond (leb slot 16) (Some (below slot es)) None

-- ---- writing

-- new where the slot was missing
abbrev pub new_or : Option ℕ → Put
new_or none = New
new_or (some x) = Replaced

abbrev pub put_answer : ℕ → List Entry → Result Put NoSlot
put_answer slot es = cond (leb slot 16) (Ok (new_or (lookup slot es))) (Err no_slot)

pub record WasSet (slot value : ℕ) (a b : List ℕ) (r : Result Put NoSlot) : Type 0 where
  pub answer : r ≡ put_answer slot (entries a)
  pub bytes : b ≡ with_slot slot value a

-- a missing slot, and so one over 16, is refused
abbrev pub removed_answer : Option ℕ → Result (Unit {0}) NoSlot
removed_answer none = Err no_slot
removed_answer (some x) = Ok tt

pub record WasRemoved (slot : ℕ) (a b : List ℕ) (r : Result (Unit {0}) NoSlot) : Type 0 where
  pub answer : r ≡ removed_answer (lookup slot (entries a))
  pub bytes : b ≡ without_slot slot a

-- of an empty array nothing is taken out
pub record WasPopped (a b : List ℕ) (r : CodeOption ℕ) : Type 0 where
  pub answer : r ≡ got (head (entries a))
  pub bytes : b ≡ without_lowest a

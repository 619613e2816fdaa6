-- What the code's own types stand for.
-- Assumes nothing.
use Rattle.std.specs.Prelude
use Rattle.std.specs.Prelude.{ℕ, ◌≤◌, ◌≡◌, List, ◌++◌, length, take, drop, Result, Some, None, Ok, Err}
use Rattle.std.proofs.Math.Option.{Option, none, some}
use Rattle.model.specs.Key.{key_limit}
use Rattle.model.specs.Page.{plain, inclusive}
use Rattle.line.specs.Line
use Rattle.line.specs.Run
use Rattle.line.specs.declared.reading.Parsed.{Parsed}
use Rattle.line.specs.declared.reading.LineError.{LineError}
use Rattle.line.specs.declared.pieces.Taken.{Taken}

-- A decoded key stands at the start of the buffer.
abbrev pub key_in : Prelude.Option ℕ → List ℕ → Option (List ℕ)
key_in (Some n) buffer = some (take n buffer)
key_in None buffer = none

abbrev pub key_size : Prelude.Option ℕ → ℕ
key_size (Some n) = n
key_size None = 0

-- Decoding gave this key, in the buffer as it is now.
pub record KeyIs (key : Option (List ℕ)) (before buffer : List ℕ) (r : Prelude.Option ℕ) : Type 0 where
  pub is : key_in r buffer ≡ key
  pub size : length buffer ≡ length before
  pub within : key_size r ≤ length before

abbrev pub number_in : Prelude.Option ℕ → Option ℕ
number_in (Some v) = some v
number_in None = none

-- A line that was read, with its key in the buffer.
abbrev pub line_in : Result Parsed LineError → List ℕ → Line.Line
line_in (Ok (Parsed.Insert n v)) buffer = Line.command (Line.insert (take n buffer) v)
line_in (Ok (Parsed.Get n)) buffer = Line.command (Line.get (take n buffer))
line_in (Ok (Parsed.Delete n)) buffer = Line.command (Line.delete (take n buffer))
line_in (Ok (Parsed.Plain n)) buffer = Line.command (Line.list plain (take n buffer))
line_in (Ok (Parsed.Inclusive n)) buffer = Line.command (Line.list inclusive (take n buffer))
line_in (Err LineError.Bad) buffer = Line.bad
line_in (Err LineError.Key) buffer = Line.key

abbrev pub parsed_size : Result Parsed LineError → ℕ
parsed_size (Ok (Parsed.Insert n v)) = n
parsed_size (Ok (Parsed.Get n)) = n
parsed_size (Ok (Parsed.Delete n)) = n
parsed_size (Ok (Parsed.Plain n)) = n
parsed_size (Ok (Parsed.Inclusive n)) = n
parsed_size (Err e) = 0

-- Reading gave this line, with the key in the buffer as it is now.
pub record LineIs (line : Line.Line) (before buffer : List ℕ) (r : Result Parsed LineError) : Type 0 where
  pub is : line_in r buffer ≡ line
  pub size : length buffer ≡ length before
  pub within : parsed_size r ≤ length before
  pub fits : parsed_size r ≤ key_limit

-- The line that a command with a key and nothing more is, its key being read.
abbrev pub key_line : (List ℕ → Line.Command) → Result ℕ LineError → List ℕ → Line.Line
key_line f (Ok n) buffer = Line.command (f (take n buffer))
key_line f (Err LineError.Bad) buffer = Line.bad
key_line f (Err LineError.Key) buffer = Line.key

abbrev pub read_size : Result ℕ LineError → ℕ
read_size (Ok n) = n
read_size (Err e) = 0

-- Reading gave a key, or the refusal that every command with such a key has.
pub record KeyReadIs (key : Option (List ℕ)) (before buffer : List ℕ) (r : Result ℕ LineError) : Type 0 where
  pub is : (f : List ℕ → Line.Command) → key_line f r buffer ≡ Line.with_key f key
  pub size : length buffer ≡ length before
  pub within : read_size r ≤ length before
  pub fits : read_size r ≤ key_limit

-- These bytes, n of them, stand at the start of the output; what is past them is as before.
pub record Wrote (bytes before out : List ℕ) (n : ℕ) : Type 0 where
  pub is : out ≡ bytes ++ drop n before
  pub count : n ≡ length bytes
  pub within : n ≤ length before
  pub size : length out ≡ length before

-- What is held of the present line; none if it is too long.
abbrev pub held_in : Prelude.Option ℕ → List ℕ → Option (List ℕ)
held_in (Some n) line = some (take n line)
held_in None line = none

abbrev pub held_size : Prelude.Option ℕ → ℕ
held_size (Some n) = n
held_size None = 0

pub record HeldIs (held : Option (List ℕ)) (before line : List ℕ) (h : Prelude.Option ℕ) : Type 0 where
  pub is : held_in h line ≡ held
  pub size : length line ≡ length before
  pub fits : held_size h ≤ Line.line_limit

-- What was taken of a piece of input.
abbrev pub taken_in : Taken → List ℕ → List ℕ → Run.Taken
taken_in (Taken.More h) piece line = Run.more (held_in h line)
taken_in (Taken.Ended h n) piece line = Run.ended (held_in h line) (drop n piece)

abbrev pub taken_size : Taken → ℕ
taken_size (Taken.More h) = 0
taken_size (Taken.Ended h n) = n

-- at least 1 where a newline was taken
abbrev pub taken_moves : Taken → ℕ
taken_moves (Taken.More h) = 1
taken_moves (Taken.Ended h n) = n

abbrev pub taken_held : Taken → Prelude.Option ℕ
taken_held (Taken.More h) = h
taken_held (Taken.Ended h n) = h

pub record TakenIs (taken : Run.Taken) (piece before line : List ℕ) (r : Taken) : Type 0 where
  pub is : taken_in r piece line ≡ taken
  pub size : length line ≡ length before
  pub fits : held_size (taken_held r) ≤ Line.line_limit
  pub within : taken_size r ≤ length piece
  pub moves : 1 ≤ taken_moves r

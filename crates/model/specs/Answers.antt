-- The answers of document 01's table and their numbers.
-- Assumes nothing.
use Rattle.std.specs.Prelude.{ℕ}

-- DONE is "NEW / done": "a new key was stored; or the call did its work".
pub data Answer : Type 0 where
  DONE REPLACED STORE KEY HEIGHT FULL ABSENT COUNT ROOM : Answer

-- The column "No."
abbrev pub number : Answer → ℕ
number DONE = 0
number REPLACED = 1
number STORE = 10
number KEY = 11
number HEIGHT = 12
number FULL = 13
number ABSENT = 14
number COUNT = 15
number ROOM = 16

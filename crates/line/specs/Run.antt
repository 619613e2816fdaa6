-- The whole program: its output as a function of its input. And the same, for input that comes in pieces.
-- Assumes nothing.
use Rattle.std.specs.Prelude.{ℕ, ◌≡◌, List, [], ◌∷◌, ◌++◌, length, leb, ltb, eqb}
use Rattle.std.proofs.Math.Option.{Option, none, some}
use Rattle.model.specs.Map.{pick}
use Rattle.promises.specs.Meaning.{Meaning}
use Rattle.promises.specs.Says.{empty}
use Rattle.line.specs.Line.{Line, bad, line_limit, line_of, short_line}
use Rattle.line.specs.Answer.{answer_line}

-- A last line without newline counts; nothing after the last newline is no line.
abbrev pub last_line : List ℕ → List (List ℕ)
last_line [] = []
last_line (c ∷ l) = (c ∷ l) ∷ []

-- The lines of the input, the bytes `held` of the present line having been read.
unfoldable pub lines_from : List ℕ → List ℕ → List (List ℕ)
lines_from held [] = last_line held
lines_from held (c ∷ input) = pick (eqb c 10) (held ∷ lines_from [] input) (lines_from (held ++ (c ∷ [])) input)

abbrev pub lines : List ℕ → List (List ℕ)
lines input = lines_from [] input

unfoldable pub answers : List (List ℕ) → Meaning → List ℕ
answers [] m = []
answers (l ∷ ls) m = let s = answer_line (line_of l) m in s.bytes ++ answers ls s.after

-- The program: a store of 511 keys with limit 128.
abbrev pub run : List ℕ → List ℕ
run input = answers (lines input) (empty 128 511)

-- IN PIECES. Of a line only what can still matter is held: its bytes, or that it is too long (none).

unfoldable pub held_of : List ℕ → Option (List ℕ)
held_of l = pick (leb (length l) line_limit) (some l) none

-- One byte more.
abbrev pub grow : Option (List ℕ) → ℕ → Option (List ℕ)
grow none c = none
grow (some l) c = pick (ltb (length l) line_limit) (some (l ++ (c ∷ []))) none

-- What the held line means, once its newline is there.
abbrev pub held_line : Option (List ℕ) → Line
held_line none = bad
held_line (some l) = short_line l

-- What a piece of input gives: its bytes are taken up to the first newline, and there is a rest; or it ends before.
pub data Taken : Type 0 where
  more : Option (List ℕ) → Taken
  ended : Option (List ℕ) → List ℕ → Taken

unfoldable pub take_line : Option (List ℕ) → List ℕ → Taken
take_line h [] = more h
take_line h (c ∷ piece) = pick (eqb c 10) (ended h piece) (take_line (grow h c) piece)

-- The state between two pieces.
pub record Feed : Type 0 where
  pub bytes : List ℕ
  pub held : Option (List ℕ)
  pub after : Meaning

-- The bytes written before, and what a feed writes.
abbrev pub wrote : List ℕ → Feed → Feed
wrote b f = record { bytes = b ++ f.bytes; held = f.held; after = f.after }

-- A piece is fed: each line in it is answered.
unfoldable pub feed : Option (List ℕ) → Meaning → List ℕ → Feed
feed h m [] = record { bytes = []; held = h; after = m }
feed h m (c ∷ piece) =
    pick (eqb c 10)
    (let s = answer_line (held_line h) m in wrote s.bytes (feed (some []) s.after piece))
    (feed (grow h c) m piece)

-- The end of the input.
abbrev pub finish : Option (List ℕ) → Meaning → List ℕ
finish none m = (answer_line bad m).bytes
finish (some []) m = []
finish (some (c ∷ l)) m = (answer_line (short_line (c ∷ l)) m).bytes

-- Pieces one after the other, and then the end.
unfoldable pub feed_all : Option (List ℕ) → Meaning → List (List ℕ) → List ℕ
feed_all h m [] = finish h m
feed_all h m (p ∷ ps) = let f = feed h m p in f.bytes ++ feed_all f.held f.after ps

abbrev pub joined : List (List ℕ) → List ℕ
joined [] = []
joined (p ∷ ps) = p ++ joined ps

-- However the input is cut, the output is the same.
abbrev pub AnyPieces : Type 0
AnyPieces = (ps : List (List ℕ)) → feed_all (some []) (empty 128 511) ps ≡ run (joined ps)

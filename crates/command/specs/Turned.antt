-- What a turn of the program gives, and its end.
-- Assumes nothing.
use Rattle.std.specs.Prelude.{ℕ, ◌≤◌, ◌≡◌, List, [], length, drop}
use Rattle.std.proofs.Math.Option.{Option, some}
use Rattle.promises.specs.Meaning.{Meaning, Means}
use Rattle.index_spec.specs.Layout.{layout}
use Rattle.line.specs.Line.{line_limit}
use Rattle.line.specs.Answer.{answer_line}
use Rattle.line.specs.Run.{held_line, Taken, more, ended, take_line, finish}
use Rattle.line.specs.Code.{held_size, held_in, Wrote}
use Rattle.command.specs.declared.turns.Turn.{Turn}

-- The bytes answered, what is held of the present line, the store's meaning, and the rest of the piece.
pub record Gave : Type 0 where
  pub bytes : List ℕ
  pub held : Option (List ℕ)
  pub after : Meaning
  pub rest : List ℕ

-- A line that ends is answered, and nothing is held after it.
abbrev pub gave : Taken → Meaning → Gave
gave (more h) m = record { bytes = []; held = h; after = m; rest = [] }
gave (ended h rest) m = let s = answer_line (held_line h) m in record { bytes = s.bytes; held = some []; after = s.after; rest = rest }

abbrev pub turn_of : Option (List ℕ) → List ℕ → Meaning → Gave
turn_of h piece m = gave (take_line h piece) m

-- Of the code's turn, on any bytes: it takes a byte at least, and keeps within what it was lent. On an accepted store it gives what a turn gives.
pub record Turned (h : Option (List ℕ)) (piece line' st st' out out' : List ℕ) (r : Turn) : Type 0 where
  pub within : r.used ≤ length piece
  pub moves : 1 ≤ length piece → 1 ≤ r.used
  pub fits : held_size r.held ≤ line_limit
  pub room : r.bytes ≤ length out
  pub held : (m : Meaning) → held_in r.held line' ≡ (turn_of h piece m).held
  pub rest : (m : Meaning) → drop r.used piece ≡ (turn_of h piece m).rest
  pub wrote : (m : Meaning) → Means layout st m → Wrote (turn_of h piece m).bytes out out' r.bytes
  pub after : (m : Meaning) → Means layout st m → Means layout st' (turn_of h piece m).after

-- Of the code's end of the input.
pub record Finished (h : Option (List ℕ)) (st out out' : List ℕ) (n : ℕ) : Type 0 where
  pub room : n ≤ length out
  pub wrote : (m : Meaning) → Means layout st m → Wrote (finish h m) out out' n

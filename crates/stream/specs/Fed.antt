-- What is known once a piece of input was fed: on an accepted store, what is held of the last line and the store's meaning are those of a run that was
-- fed the piece. (What was written cannot be said: no contract speaks of standard output. Each turn's contract says which bytes are handed to it.)
-- Assumes nothing.
use Rattle.std.specs.Prelude
use Rattle.std.specs.Prelude.{ℕ, ◌≤◌, ◌≡◌, List}
use Rattle.std.proofs.Math.Option.{Option}
use Rattle.promises.specs.Meaning.{Meaning, Means}
use Rattle.index_spec.specs.Layout.{layout}
use Rattle.line.specs.Line.{line_limit}
use Rattle.line.specs.Run.{feed}
use Rattle.line.specs.Code.{held_size, held_in}

-- `h` was held before the piece, and `st` was the store; `r` is held after it, in the buffer `line'`, and `st'` is the store.
pub record Fed (h : Option (List ℕ)) (piece line' st st' : List ℕ) (r : Prelude.Option ℕ) : Type 0 where
  pub fits : held_size r ≤ line_limit
  pub held : (m : Meaning) → Means layout st m → held_in r line' ≡ (feed h m piece).held
  pub after : (m : Meaning) → Means layout st m → Means layout st' (feed h m piece).after

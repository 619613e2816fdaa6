-- From turns of the program to what a piece of input gives.
-- Assumes nothing.
use Prim.Native.Nat.{ℕ}
use mathlib.Core.Path.{◌≡◌, refl}
use mathlib.Core.List.{List}
use mathlib.Core.Option.{Option}
use Rattle.promises.specs.Meaning.{Meaning}
use Rattle.line.specs.Run.{held_line, take_line, wrote, feed}
use Rattle.line.specs.Run as run
use Rattle.command.specs.Turned.{gave, turn_of}
use Rattle.line.proofs.PieceLaws.{feed_more, feed_ended}

-- Turn by turn, a piece is fed.
pub turn_feeds : (h : Option (List ℕ)) (piece : List ℕ) (m : Meaning) → feed h m piece ≡ (let t = turn_of h piece m in wrote t.bytes (feed t.held t.after t.rest))
unfolding feed
turn_feeds h piece m = go (take_line h piece) refl
  where
    go : (t : run.Taken) → take_line h piece ≡ t → feed h m piece ≡ (let g = gave t m in wrote g.bytes (feed g.held g.after g.rest))
    go (run.more g) e = feed_more h m piece e
    go (run.ended g rest) e = feed_ended h m piece e

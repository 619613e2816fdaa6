-- `stream::feed` meets its contract: from what is held at each turn, the rest of the piece leads to where the whole piece leads. Assumes nothing.
use Prim.Native.Nat.{◌≤◌}
use mathlib.Core.Path.{◌≡◌}
use lib.ListN.{length}
use Rattle.line.specs.Code.{held_size, held_in}
use Rattle.stream.proofs.StreamLaws.{Ahead}
use Rattle.stream.proofs.feed.Given as goal

abbrev pub invariant-loop-rest : goal.invariant-loop-rest
invariant-loop-rest l =
    (held_size l.held ≤ 200) × (length l.store ≡ length l.initial.store) × (length l.line ≡ length l.initial.line) × (length l.out ≡ length l.initial.out) × Ahead (held_in l.initial.held l.initial.line) l.piece l.initial.store (held_in l.held l.line) l.store l.rest

abbrev pub decreases-loop-rest : goal.decreases-loop-rest
decreases-loop-rest l = length l.rest

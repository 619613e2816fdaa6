-- `stream::read_all` reads standard input to its end. Assumes nothing.
use Prim.Native.Nat.{◌≤◌}
use Rattle.line.specs.Code.{held_size}
use Rattle.stream.proofs.read_all.Given as goal

abbrev pub invariant-loop : goal.invariant-loop
invariant-loop l = held_size l.held ≤ 200

-- `replay::space::hash` is safe. Assumes nothing.
use Prim.Native.Nat.{◌<◌}
use Rattle.replay.proofs.space.hash.Given as goal

abbrev pub invariant-loop-b : goal.invariant-loop-b
invariant-loop-b l = l.h < 549755813888

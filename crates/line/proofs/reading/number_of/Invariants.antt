use Prim.Native.Nat.{◌<◌, ◌^◌}
use Rattle.line.proofs.ReadLaws.{NumberFrom}
use Rattle.line.proofs.reading.number_of.Given as goal

abbrev pub invariant-loop-c : goal.invariant-loop-c
invariant-loop-c l = (l.n < 10 ^ l.c-index) × NumberFrom l.word l.n l.c-index

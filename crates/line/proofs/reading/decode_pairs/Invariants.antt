use mathlib.Core.Path.{◌≡◌}
use lib.ListN.{length}
use Rattle.line.proofs.ReadLaws.{PairsFrom}
use Rattle.line.proofs.reading.decode_pairs.Given as goal

abbrev pub invariant-loop-n : goal.invariant-loop-n
invariant-loop-n l = (length l.key ≡ length l.initial.key) × PairsFrom l.word l.key l.n

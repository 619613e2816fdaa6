-- `fields::big::read` meets its contract: the number is that of the first i bytes. Assumes nothing.
use mathlib.Core.Path.{◌≡◌}
use Rattle.fields.specs.Number.{big}
use Rattle.fields.proofs.big.read.Given as goal

abbrev pub invariant-loop-i : goal.invariant-loop-i
invariant-loop-i g l = l.number ≡ big l.i l.s l.at

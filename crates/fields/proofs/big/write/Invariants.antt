-- `fields::big::write` meets its contract: with the rest stored before byte i, the whole number is. Assumes nothing.
use Rattle.fields.proofs.NumberLaws.{Before}
use Rattle.fields.proofs.big.write.Given as goal

abbrev pub invariant-loop-i : goal.invariant-loop-i
invariant-loop-i g l = Before l.initial.s l.at g.row.N l.initial.rest l.i l.rest l.s

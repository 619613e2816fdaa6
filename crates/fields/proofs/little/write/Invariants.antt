-- `fields::little::write` meets its contract: with the rest stored from byte i on, the whole number is. Assumes nothing.
use Rattle.fields.proofs.NumberLaws.{Onward}
use Rattle.fields.proofs.little.write.Given as goal

abbrev pub invariant-loop-i : goal.invariant-loop-i
invariant-loop-i g l = Onward l.initial.s l.at g.row.N l.initial.rest l.i l.rest l.s

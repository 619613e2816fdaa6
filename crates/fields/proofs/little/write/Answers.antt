-- `fields::little::write` meets its contract: with the rest stored from byte i on, the whole number is. Assumes nothing.
use Rattle.fields.proofs.NumberLaws.{onward_turn, onward_end}
use borrow.Author.Rules.{rules}
use Rattle.fields.proofs.little.write.Goals as goal

pub loop-i-preserved : goal.loop-i-preserved
loop-i-preserved g c = search (onward_turn, rules)

pub returns : goal.returns
returns g c = search (onward_end, rules)

-- `fields::big::write` meets its contract: with the rest stored before byte i, the whole number is. Assumes nothing.
use Rattle.fields.proofs.NumberLaws.{before_turn, before_end}
use borrow.Author.Rules.{rules}
use Rattle.fields.proofs.big.write.Goals as goal

pub loop-i-preserved : goal.loop-i-preserved
loop-i-preserved g c = search (before_turn, rules)

pub returns : goal.returns
returns g c = search (before_end, rules)

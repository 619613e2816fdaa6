-- `line::writing::put_number` meets its contract. Assumes nothing.
use Rattle.line.proofs.WriteLaws.{number_is}
use borrow.Author.Rules.{rules}
use Rattle.line.proofs.writing.put_number.Goals as goal

pub returns : goal.returns
returns c = search (number_is, rules)

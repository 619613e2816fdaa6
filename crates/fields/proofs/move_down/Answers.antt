-- `fields::move_down` meets its contract: the library's move is a splice. Assumes nothing.
use Rattle.fields.proofs.PartLaws.{moved}
use borrow.Author.Rules.{rules}
use Rattle.fields.proofs.move_down.Goals as goal

pub returns : goal.returns
returns c = search (moved, rules)

-- `fields::move_up` meets its contract: the library's move is a splice. Assumes nothing.
use Rattle.fields.proofs.PartLaws.{moved}
use borrow.Author.Rules.{rules}
use Rattle.fields.proofs.move_up.Goals as goal

pub returns : goal.returns
returns c = search (moved, rules)

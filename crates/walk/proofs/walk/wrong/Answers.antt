-- `walk::walk::wrong` meets its contract: a page that has stopped, and one that goes on. Assumes nothing.
use Rattle.walk.proofs.SheetLaws.{wrong_going}
use borrow.Author.Rules.{rules}
use Rattle.walk.proofs.walk.wrong.Goals as goal

pub returns : goal.returns
returns c = search (wrong_going, rules)

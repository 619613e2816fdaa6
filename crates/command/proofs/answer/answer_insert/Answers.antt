-- `command::answer::answer_insert` meets its contract: from the promise of insert. Assumes nothing.
use Rattle.command.proofs.AnswerLaws.{insert_answered}
use borrow.Author.Rules.{rules}
use Rattle.command.proofs.answer.answer_insert.Goals as goal

pub returns : goal.returns
returns c = search (insert_answered, rules)

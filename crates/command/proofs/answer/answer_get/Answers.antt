-- `command::answer::answer_get` meets its contract: from the promise of get. Assumes nothing.
use Rattle.command.proofs.AnswerLaws.{get_answered}
use borrow.Author.Rules.{rules}
use Rattle.command.proofs.answer.answer_get.Goals as goal

pub returns : goal.returns
returns c = search (get_answered, rules)

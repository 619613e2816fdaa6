-- `command::answer::answer_delete` meets its contract: from the promise of remove. Assumes nothing.
use Rattle.command.proofs.AnswerLaws.{delete_answered}
use borrow.Author.Rules.{rules}
use Rattle.command.proofs.answer.answer_delete.Goals as goal

pub returns : goal.returns
returns c = search (delete_answered, rules)

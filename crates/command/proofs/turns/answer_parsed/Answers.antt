-- `command::turns::answer_parsed` answers a line that is no command. Assumes nothing.
use borrow.Author.Rules.{rules}
use Rattle.line.specs.Answer.{answer_line}
use Rattle.command.proofs.turns.answer_parsed.Goals as goal

pub returns-in-Err-Bad : goal.returns-in-Err-Bad
unfolding answer_line
returns-in-Err-Bad c = search rules

pub returns-in-Err-Key : goal.returns-in-Err-Key
unfolding answer_line
returns-in-Err-Key c = search rules

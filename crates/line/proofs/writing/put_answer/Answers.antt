-- `line::writing::put_answer` meets its contract. Assumes nothing.
use Rattle.line.specs.Answer.{word_of}
use Rattle.line.specs.declared.writing.Answer.TheVariants.{New, Replaced, Height, Full, Absent, Removed, End, Bad, Key}
use Rattle.line.proofs.WriteLaws.{answer_room, answer_value, answer_word}
use borrow.Author.Rules.{rules}
use Rattle.line.proofs.writing.put_answer.Goals as goal

pub bounds-out-n : goal.bounds-out-n
bounds-out-n c = search (answer_room, rules)

pub returns-in-New : goal.returns-in-New
unfolding word_of
returns-in-New c = search (answer_word New, rules)

pub returns-in-Replaced : goal.returns-in-Replaced
unfolding word_of
returns-in-Replaced c = search (answer_word Replaced, rules)

pub returns-in-Height : goal.returns-in-Height
unfolding word_of
returns-in-Height c = search (answer_word Height, rules)

pub returns-in-Full : goal.returns-in-Full
unfolding word_of
returns-in-Full c = search (answer_word Full, rules)

pub returns-in-Value : goal.returns-in-Value
returns-in-Value c = search (answer_value, rules)

pub returns-in-Absent : goal.returns-in-Absent
unfolding word_of
returns-in-Absent c = search (answer_word Absent, rules)

pub returns-in-Removed : goal.returns-in-Removed
unfolding word_of
returns-in-Removed c = search (answer_word Removed, rules)

pub returns-in-End : goal.returns-in-End
unfolding word_of
returns-in-End c = search (answer_word End, rules)

pub returns-in-Bad : goal.returns-in-Bad
unfolding word_of
returns-in-Bad c = search (answer_word Bad, rules)

pub returns-in-Key : goal.returns-in-Key
unfolding word_of
returns-in-Key c = search (answer_word Key, rules)

-- `iterator::page::lies_past` meets its contract: by the nibbles at the critical position. Assumes nothing.
use Rattle.iterator.proofs.PageContracts.{past_higher, past_lower, past_equal}
use borrow.Author.Rules.{rules}
use Rattle.iterator.proofs.page.lies_past.Goals as goal

pub returns-then-x-y : goal.returns-then-x-y
returns-then-x-y c = search (past_higher, rules)

pub returns-then-x-y-2 : goal.returns-then-x-y-2
returns-then-x-y-2 c = search (past_equal, rules)

pub returns-else-x-y-2 : goal.returns-else-x-y-2
returns-else-x-y-2 c = search (past_lower, rules)

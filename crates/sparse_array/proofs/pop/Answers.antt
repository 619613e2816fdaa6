-- `sparse_array::pop` meets its contract: what it leaves of an array that is not empty. Assumes nothing.
use Rattle.sparse_array.proofs.Contracts.{pop_first}
use borrow.Author.Rules.{rules}
use Rattle.sparse_array.proofs.pop.Goals as goal

pub returns : goal.returns
returns c = search (pop_first, c.in_ok-first.was, rules)

-- `node::branch::child_count` meets its contract: the array's length. Assumes nothing.
use Rattle.node.proofs.Contracts.{count_is}
use borrow.Author.Rules.{rules}
use Rattle.node.proofs.branch.child_count.Goals as goal

pub returns : goal.returns
returns c = search (count_is, rules)

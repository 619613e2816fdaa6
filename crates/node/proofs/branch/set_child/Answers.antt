-- `node::branch::set_child` meets its contract: the array that came back in its part. Assumes nothing.
use Rattle.node.proofs.Contracts.{child_set}
use borrow.Author.Rules.{rules}
use Rattle.node.proofs.branch.set_child.Goals as goal

pub returns : goal.returns
returns c = search (child_set, rules)

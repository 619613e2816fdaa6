-- `node::branch::make_branch` meets its contract: the array that came back in its part. Assumes nothing.
use Rattle.node.proofs.Contracts.{branch_made}
use borrow.Author.Rules.{rules}
use Rattle.node.proofs.branch.make_branch.Goals as goal

pub returns : goal.returns
returns c = search (branch_made, rules)

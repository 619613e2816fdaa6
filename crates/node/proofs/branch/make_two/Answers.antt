-- `node::branch::make_two` meets its contract: an empty array, and two slots set in it. Assumes nothing.
use Rattle.node.proofs.Contracts.{two_made}
use borrow.Author.Rules.{rules}
use Rattle.node.proofs.branch.make_two.Goals as goal

pub returns : goal.returns
returns c = search (two_made, rules)

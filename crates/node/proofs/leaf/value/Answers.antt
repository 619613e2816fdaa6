-- `node::leaf::value` meets its contract: one read. Assumes nothing.
use Rattle.node.proofs.Contracts.{value_is}
use borrow.Author.Rules.{rules}
use Rattle.node.proofs.leaf.value.Goals as goal

pub returns : goal.returns
returns c = search (value_is, rules)

-- `node::leaf::set_value` meets its contract: one write. Assumes nothing.
use Rattle.node.proofs.Contracts.{value_written}
use borrow.Author.Rules.{rules}
use Rattle.node.proofs.leaf.set_value.Goals as goal

pub returns : goal.returns
returns c = search (value_written, rules)

-- `node::leaf::write_leaf` meets its contract: the length, the value, and the key that came back in its part. Assumes nothing.
use Rattle.node.proofs.Contracts.{leaf_written}
use borrow.Author.Rules.{rules}
use Rattle.node.proofs.leaf.write_leaf.Goals as goal

pub returns : goal.returns
returns c = search (leaf_written, rules)

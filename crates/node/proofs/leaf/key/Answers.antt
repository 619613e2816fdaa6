-- `node::leaf::key` meets its contract: the part of the store is the key in the record. Assumes nothing.
use Rattle.node.proofs.Contracts.{key_is, key_fits}
use borrow.Author.Rules.{rules}
use Rattle.node.proofs.leaf.key.Goals as goal

pub returns : goal.returns
returns c = search (key_is, key_fits, rules)

-- `node::branch::array` meets its contract: the part of the store is the record's array. Assumes nothing.
use Rattle.node.proofs.Contracts.{array_is, array_size_lem}
use borrow.Author.Rules.{rules}
use Rattle.node.proofs.branch.array.Goals as goal

pub returns : goal.returns
returns c = search (array_is, array_size_lem, rules)

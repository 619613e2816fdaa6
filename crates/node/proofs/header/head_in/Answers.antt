-- `node::header::head_in` meets its contract: each number is one of the header's. Assumes nothing.
use Rattle.node.proofs.Contracts.{numbers_read}
use borrow.Author.Rules.{rules}
use Rattle.node.proofs.header.head_in.Goals as goal

pub returns : goal.returns
returns c = search (numbers_read, rules)

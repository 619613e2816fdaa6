-- `node::header::put_mark` meets its contract: one write. Assumes nothing.
use Rattle.node.proofs.Contracts.{mark_written}
use borrow.Author.Rules.{rules}
use Rattle.node.proofs.header.put_mark.Goals as goal

pub returns : goal.returns
returns c = search (mark_written, rules)

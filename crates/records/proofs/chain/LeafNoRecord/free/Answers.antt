-- `records::chain::LeafNoRecord::free` meets its contract: two writes. Assumes nothing.
use Rattle.records.proofs.Contracts.{leaf_freed}
use borrow.Author.Rules.{rules}
use Rattle.records.proofs.chain.LeafNoRecord.free.Goals as goal

pub returns : goal.returns
returns c = search (leaf_freed, rules)

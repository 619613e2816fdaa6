-- `records::chain::LeafNoRecord::is_free` meets its contract: the mark of a free leaf is its length byte. Assumes nothing.
use Rattle.records.proofs.Contracts.{leaf_free}
use borrow.Author.Rules.{rules}
use Rattle.records.proofs.chain.LeafNoRecord.is_free.Goals as goal

pub returns : goal.returns
returns c = search (leaf_free, rules)

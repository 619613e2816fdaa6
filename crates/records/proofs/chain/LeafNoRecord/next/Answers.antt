-- `records::chain::LeafNoRecord::next` meets its contract: one read. Assumes nothing.
use Rattle.records.proofs.Contracts.{leaf_next}
use borrow.Author.Rules.{rules}
use Rattle.records.proofs.chain.LeafNoRecord.next.Goals as goal

pub returns : goal.returns
returns c = search (leaf_next, rules)

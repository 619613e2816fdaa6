-- `records::chain::BranchNoRecord::free` meets its contract: the array that came back in its part. Assumes nothing.
use Rattle.records.proofs.Contracts.{branch_freed}
use borrow.Author.Rules.{rules}
use Rattle.records.proofs.chain.BranchNoRecord.free.Goals as goal

pub returns : goal.returns
returns c = search (branch_freed, rules)

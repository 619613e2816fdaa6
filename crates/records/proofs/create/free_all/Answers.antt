-- `records::create::free_all` meets its contract: the invariant is that the records below r are free. Assumes nothing.
use Rattle.records.proofs.Contracts.{freed_none, freed_more}
use borrow.Author.Rules.{rules}
use Rattle.records.proofs.create.free_all.Goals as goal

pub loop-r-init : goal.loop-r-init
loop-r-init c = search (freed_none, rules)

pub loop-r-preserved : goal.loop-r-preserved
loop-r-preserved c = search (freed_more, rules)

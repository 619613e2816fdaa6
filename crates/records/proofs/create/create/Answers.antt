-- `records::create::create` meets its contract: by the two ways out: no room, and the three writes. Assumes nothing.
use Rattle.records.proofs.Contracts.{create_refused, create_done}
use borrow.Author.Rules.{rules}
use Rattle.records.proofs.create.create.Goals as goal

pub returns-then-n : goal.returns-then-n
returns-then-n c = search (create_refused, rules)

pub returns : goal.returns
returns c = search (create_done, rules)

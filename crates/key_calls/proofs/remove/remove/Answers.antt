-- `key_calls::remove::remove` meets its promise: by what is done past the header's test and the key's. Assumes nothing.
use Rattle.index_spec.proofs.HeadLaws.{blocks, blocks_few}
use Rattle.index_spec.proofs.CallLaws.{remove_done}
use borrow.Author.Rules.{rules}
use Rattle.key_calls.proofs.remove.remove.Goals as goal

pub remove_in-requires : goal.remove_in-requires
remove_in-requires c = search (blocks, blocks_few, rules)

pub returns-clause-promise : goal.returns-clause-promise
returns-clause-promise c = let g = c.in_ok-h.was in search (remove_done, rules)

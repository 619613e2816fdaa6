-- `key_calls::overwrite::overwrite` meets its promise: by what is done past the header's test and the key's. Assumes nothing.
use Rattle.index_spec.proofs.HeadLaws.{blocks}
use Rattle.index_spec.proofs.CallLaws.{overwrite_done}
use borrow.Author.Rules.{rules}
use Rattle.key_calls.proofs.overwrite.overwrite.Goals as goal

pub overwrite_in-requires : goal.overwrite_in-requires
overwrite_in-requires c = search (blocks, rules)

pub returns-clause-promise : goal.returns-clause-promise
returns-clause-promise c = let g = c.in_ok-h.was in search (overwrite_done, rules)

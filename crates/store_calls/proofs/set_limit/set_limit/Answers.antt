-- `store_calls::set_limit::set_limit` meets its promise: by the header that is written. Assumes nothing.
use Rattle.index_spec.proofs.Contracts.{limit_room, limit_good}
use borrow.Author.Rules.{rules}
use Rattle.store_calls.proofs.set_limit.set_limit.Goals as goal

pub put_head-requires : goal.put_head-requires
put_head-requires c = search (limit_room, rules)

pub returns-clause-promise : goal.returns-clause-promise
returns-clause-promise c = search (limit_good, rules)

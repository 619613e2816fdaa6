-- `key_calls::get::get` meets its promise: by what is done past the header's test and the key's. Assumes nothing.
use Rattle.index_spec.proofs.HeadLaws.{blocks}
use Rattle.index_spec.proofs.CallLaws.{get_done}
use borrow.Author.Rules.{rules}
use Rattle.key_calls.proofs.get.get.Goals as goal

pub get_in-requires : goal.get_in-requires
get_in-requires c = search (blocks, rules)

pub returns-clause-promise : goal.returns-clause-promise
returns-clause-promise c = get_done _ _ _ _ c.read_head.ensures c.in_ok-h.was c.if-key-gt-KEY_LIMIT.false _ c.get_in.ensures

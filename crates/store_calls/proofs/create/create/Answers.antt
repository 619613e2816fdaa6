-- `store_calls::create::create` meets its promise: by what the bytes are afterwards, in both cases of the length. Assumes nothing.
use Rattle.index_spec.proofs.Contracts.{create_promise}
use borrow.Author.Rules.{rules}
use Rattle.store_calls.proofs.create.create.Goals as goal

pub returns-clause-promise : goal.returns-clause-promise
returns-clause-promise c = search (create_promise, rules)

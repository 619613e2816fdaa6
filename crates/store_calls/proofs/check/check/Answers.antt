-- `store_calls::check::check` meets its promise: by the two parts of what `audit::check` ensures. Assumes nothing.
use Rattle.index_spec.proofs.CheckLaws.{check_promise}
use borrow.Author.Rules.{rules}
use Rattle.store_calls.proofs.check.check.Goals as goal

pub returns : goal.returns
returns c = search (check_promise, rules)

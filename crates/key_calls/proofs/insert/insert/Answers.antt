-- `key_calls::insert::insert` meets its promise: by what the trie's insertion answers past the header's test and the key's. Assumes nothing.
use mathlib.Core.Path.{◌≡◌, sym, ap}
use Rattle.index_spec.specs.Replies.{inserted_of}
use Rattle.index_spec.proofs.HeadLaws.{blocks, blocks_few}
use Rattle.index_spec.proofs.CallLaws.{insert_done}
use borrow.Author.Rules.{rules}
use Rattle.key_calls.proofs.insert.insert.Goals as goal

pub insert-requires : goal.insert-requires
insert-requires c = search (blocks, blocks_few, rules)

pub returns-in_err-insert-clause-promise : goal.returns-in_err-insert-clause-promise
returns-in_err-insert-clause-promise c =
    let n : c.from_residual-in_err-insert.result ≡ inserted_of c.insert.result = rw c.in_err-insert.was (search rules) in
    let g = c.in_ok-h.was in
    search (insert_done, rules)

pub returns-clause-promise : goal.returns-clause-promise
returns-clause-promise c =
    let n = ap inserted_of (sym c.in_ok-insert.was) in
    let g = c.in_ok-h.was in
    search (insert_done, rules)

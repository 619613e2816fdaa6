-- `page_calls::pages::next_page` meets its promise: by the ways out past the tests. Assumes nothing.
use mathlib.Core.Path.{◌≡◌, sym, ap}
use Rattle.index_spec.specs.Pages.{paged_of}
use Rattle.index_spec.proofs.HeadLaws.{blocks}
use Rattle.index_spec.proofs.PageLaws.{next_done, room_enough}
use borrow.Author.Rules.{rules}
use Rattle.page_calls.proofs.pages.next_page.Goals as goal

pub list_after-requires : goal.list_after-requires
list_after-requires c = (blocks _ _ _ c.read_head.ensures c.in_ok-h.was, search rules, search rules, room_enough _ _ _ c.count_wrong.ensures c.if-count_wrong.false)

pub returns-in_err-list_after-clause-promise : goal.returns-in_err-list_after-clause-promise
returns-in_err-list_after-clause-promise c = let i : c.from_residual-in_err-list_after.result ≡ paged_of c.list_after.result = rw c.in_err-list_after.was (search rules) in let g = c.in_ok-h.was in search (next_done, rules)

pub returns-clause-promise : goal.returns-clause-promise
returns-clause-promise c = let g = c.in_ok-h.was in let i = ap paged_of (sym c.in_ok-list_after.was) in search (next_done, rules)

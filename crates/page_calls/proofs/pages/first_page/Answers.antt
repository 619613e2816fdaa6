-- `page_calls::pages::first_page` meets its promise: by the ways out past the tests. Assumes nothing.
use mathlib.Core.Path.{◌≡◌, sym, ap}
use Rattle.index_spec.specs.Pages.{paged_of}
use Rattle.index_spec.proofs.HeadLaws.{blocks}
use Rattle.index_spec.proofs.PageLaws.{first_done, room_enough}
use borrow.Author.Rules.{rules}
use Rattle.page_calls.proofs.pages.first_page.Goals as goal

pub list-requires : goal.list-requires
list-requires c = (blocks _ _ _ c.read_head.ensures c.in_ok-h.was, search rules, search rules, room_enough _ _ _ c.count_wrong.ensures c.if-count_wrong.false)

pub returns-in_err-list-clause-promise : goal.returns-in_err-list-clause-promise
returns-in_err-list-clause-promise c = let i : c.from_residual-in_err-list.result ≡ paged_of c.list.result = rw c.in_err-list.was (search rules) in let g = c.in_ok-h.was in search (first_done, rules)

pub returns-clause-promise : goal.returns-clause-promise
returns-clause-promise c = let g = c.in_ok-h.was in let i = ap paged_of (sym c.in_ok-list.was) in search (first_done, rules)

-- The proof of the cycle of calls {list_rest}. The measure is the number of pages that may still come. Assumes nothing.
use lib.ListN.{length-take, length-drop}
use borrow.Author.Rules.{rules}
use Rattle.listings.proofs.RestLaws.{rest_none, list_last, list_more, list_sum}
use Rattle.listings.proofs.listing.+list_rest.Goals as goal

pub returns-then-turns-eq0 : goal.returns-then-turns-eq0
returns-then-turns-eq0 t c = search (rest_none, rules)

pub slice_bounds-next_page-end-2 : goal.slice_bounds-next_page-end-2
slice_bounds-next_page-end-2 t c = simp length-take (search rules)

pub list_rest-requires : goal.list_rest-requires
list_rest-requires t c =
    let pre = c.requires in
    let kept = c.show-s.auto in
    let fetch = c.next_page-paged.auto in (
      search (c.decreases, c.if-turns-eq0.false, rules),
      (rw c.in-Some.is at c.show-s.ensures.fits, search (pre, kept, fetch, rules), search (pre, kept, fetch, rules), simp (length-take, length-drop) (search (pre, kept, fetch, rules))),
    )

pub overflow_add-result : goal.overflow_add-result
overflow_add-result t c =
    let pre = c.requires in
    list_sum _ _ _ _ _ c.show-s.ensures _ _ _ _ _ _ _ c.list_rest.ensures pre.3

pub returns-in-None : goal.returns-in-None
returns-in-None t c = search (list_last, rules)

pub returns-in-Some : goal.returns-in-Some
returns-in-Some t c =
    let pre = c.requires in
    list_more _ _ _ _ _ _ pre.0 _ _ _ c.next_page-paged.ensures.promise pre.2 _ _ _ _ c.show-s.ensures c.in-Some.is c.if-turns-eq0.false _ _ c.list_rest.ensures

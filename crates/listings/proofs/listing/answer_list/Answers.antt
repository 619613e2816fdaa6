-- `listings::listing::answer_list` writes a listing and its `end`. Assumes nothing.
use lib.ListN.{length-take}
use borrow.Author.Rules.{rules}
use Rattle.listings.proofs.ListedLaws.{end_within, end_room, list_answered}
use Rattle.listings.proofs.listing.answer_list.Goals as goal

pub slice_bounds-list_all-end-2 : goal.slice_bounds-list_all-end-2
slice_bounds-list_all-end-2 c = simp length-take (search rules)

pub list_all-n-requires : goal.list_all-n-requires
list_all-n-requires c = simp length-take (search rules)

pub slice_bounds-put_answer-count : goal.slice_bounds-put_answer-count
slice_bounds-put_answer-count c = end_within _ _ _ c.args.out.now _ _ c.requires.2 c.list_all-n.auto.out c.list_all-n.ensures

pub slice_bounds-put_answer-start : goal.slice_bounds-put_answer-start
slice_bounds-put_answer-start c = end_within _ _ _ c.args.out.now _ _ c.requires.2 c.list_all-n.auto.out c.list_all-n.ensures

pub put_answer-m-requires : goal.put_answer-m-requires
put_answer-m-requires c = end_room _ _ _ c.args.out.now _ _ c.requires.2 c.list_all-n.auto.out c.list_all-n.ensures

pub returns : goal.returns
returns c = list_answered _ _ _ c.args.out.now _ _ c.requires.2 c.list_all-n.auto.out c.list_all-n.ensures c.requires.0 c.requires.1 _ _ c.put_answer-m.ensures

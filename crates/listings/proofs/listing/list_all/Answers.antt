-- `listings::listing::list_all` writes a whole listing. Assumes nothing.
use borrow.Author.Rules.{rules}
use Rattle.listings.proofs.RestLaws.{all_last, all_more}
use Rattle.listings.proofs.listing.list_all.Goals as goal

pub returns-in-None : goal.returns-in-None
returns-in-None c = all_last _ _ _ _ _ _ c.first_page-paged.ensures.promise (search rules) _ _ _ _ c.show-s.ensures c.in-None.is

pub returns-in-Some : goal.returns-in-Some
returns-in-Some c = all_more _ _ _ _ _ _ c.first_page-paged.ensures.promise (search rules) _ _ _ _ c.show-s.ensures c.in-Some.is _ _ c.list_rest.ensures

-- `listings::listing::show` meets its contract: by the ways out that show a page. Assumes nothing.
use Rattle.listings.proofs.ShowLaws.{show_last, show_none, show_more}
use borrow.Author.Rules.{rules}
use Rattle.listings.proofs.listing.show.Goals as goal
use Rattle.listings.proofs.listing.show.Goals.{then-end-via-then-end, then-end-via-else-end+then-entries-eq0}

pub returns-then-end : goal.returns-then-end
returns-then-end c = elim c.then-end.branch [ then-end-via-then-end w ↦ search (show_last, rules) | then-end-via-else-end+then-entries-eq0 w ↦ search (show_none, rules) ]

pub returns : goal.returns
returns c = search (show_more, rules)

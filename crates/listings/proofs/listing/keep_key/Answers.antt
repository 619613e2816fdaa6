-- `listings::listing::keep_key` meets its contract: a key that is too long, and one that is copied. Assumes nothing.
use Rattle.listings.proofs.LineLaws.{kept_none, kept_some}
use borrow.Author.Rules.{rules}
use Rattle.listings.proofs.listing.keep_key.Goals as goal

pub returns-then-k-gt64 : goal.returns-then-k-gt64
returns-then-k-gt64 c = search (kept_none, rules)

pub returns : goal.returns
returns c = search (kept_some, rules)

-- The proof of the cycle of calls {list_rest}. The measure is the number of pages that may still come. Assumes nothing.
use Rattle.listings.proofs.listing.+list_rest.Given as goal

abbrev pub decreases-list_rest : goal.decreases-list_rest
decreases-list_rest l = l.turns

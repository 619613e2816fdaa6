-- The proof of the cycle of calls {last_entry}. The measure is the number of entries. Assumes nothing.
use Rattle.listings.proofs.listing.+last_entry.Given as goal

abbrev pub decreases-last_entry : goal.decreases-last_entry
decreases-last_entry l = l.count

-- The proof of the cycle of calls {put_lines}. The measure is the number of entries. Assumes nothing.
use Rattle.listings.proofs.listing.+put_lines.Given as goal

abbrev pub decreases-put_lines : goal.decreases-put_lines
decreases-put_lines l = l.count

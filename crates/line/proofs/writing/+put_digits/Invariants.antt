-- The proof of the cycle of calls {put_digits}. The measure is the number of places. Assumes nothing.
use Rattle.line.proofs.writing.+put_digits.Given as goal

abbrev pub decreases-put_digits : goal.decreases-put_digits
decreases-put_digits l = l.places

-- The proof of the cycle of calls {emit_after}. The measure is the number of branches that a path may still have. Assumes nothing.
use Rattle.walk.proofs.walk.+emit_after.Given as goal

abbrev pub decreases-emit_after : goal.decreases-emit_after
decreases-emit_after l = l.deep

-- The proof of the cycle of calls {emit}. The measure is the number of branches that a path may still have. The loop's invariant is an equation: what the children
-- that are left do to the page as it is, is what all of them do to it as it was.
-- Assumes nothing.
use mathlib.Core.Path.{◌≡◌}
use lib.ListN.{length}
use Rattle.walk.specs.Walk.{sheet, HasRoom}
use Rattle.walk.proofs.WalkLaws.{rest}
use Rattle.walk.proofs.walk.+emit.Given as goal

abbrev pub decreases-emit : goal.decreases-emit
decreases-emit l = l.deep

abbrev pub invariant-loop-i : goal.invariant-loop-i
invariant-loop-i l = HasRoom l.out l.p × (length l.out ≡ length l.initial.out) × (rest l.store l.capacity l.deep l.b.0 l.i (sheet l.out l.p) ≡ rest l.store l.capacity l.deep l.b.0 l.fn.place (sheet l.initial.out l.initial.p))

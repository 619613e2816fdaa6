-- The proof of the cycle of calls {check_node}. The measure is the number of branches that a path may still have. The loop's invariant is an equation: the check of
-- the slots that are left, at the present tally, is the check of all of them from the start.
-- Assumes nothing.
use mathlib.Core.Path.{◌≡◌}
use Rattle.audit_tree.specs.Walk.{none_yet, Sound}
use Rattle.audit_tree.proofs.NodeLaws.{rest}
use Rattle.audit_tree.proofs.tree.+check_node.Given as goal

abbrev pub decreases-check_node : goal.decreases-check_node
decreases-check_node l = l.left

abbrev pub invariant-loop-slot : goal.invariant-loop-slot
invariant-loop-slot l = Sound l.capacity l.budget l.t × (rest l.store l.capacity l.left l.p l.budget l.b.0 l.slot l.t ≡ rest l.store l.capacity l.left l.p l.budget l.b.0 0 none_yet)

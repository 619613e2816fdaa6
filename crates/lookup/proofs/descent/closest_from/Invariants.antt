-- `lookup::descent::closest_from` meets its contract: the invariant is that the steps left lead from the present branch to the leaf that those from the first one lead to. Assumes nothing.
use mathlib.Core.Path.{◌≡◌}
use Prim.Native.Nat.{◌≤◌, ◌<◌, ◌-◌}
use Rattle.node.specs.Child.{to_branch}
use Rattle.trie_spec.specs.Walk.{steps, near}
use Rattle.lookup.proofs.descent.closest_from.Given as goal

abbrev pub invariant-loop-left : goal.invariant-loop-left
invariant-loop-left l = (l.left ≤ steps) × (l.here.0 < l.capacity) × (l.position < 256) × (near l.store l.capacity l.key l.left (steps - l.left) (to_branch l.here.0 l.position) ≡ near l.store l.capacity l.key (steps - l.fn.above) l.fn.above (to_branch l.fn.branch.0 l.fn.place))

abbrev pub decreases-loop-left : goal.decreases-loop-left
decreases-loop-left l = l.left

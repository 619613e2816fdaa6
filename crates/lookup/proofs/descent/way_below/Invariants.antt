-- `lookup::descent::way_below` meets its contract: the invariant is that the steps left lead from the present branch to where those from the first one lead. Assumes nothing.
use mathlib.Core.Path.{◌≡◌}
use Prim.Native.Nat.{◌≤◌, ◌<◌, ◌-◌}
use Rattle.node.specs.Child.{to_branch}
use Rattle.trie_spec.specs.Walk.{steps, step, first, way, Within}
use Rattle.trie_spec.specs.declared.descent.Spot.TheVariants.{Root}
use Rattle.lookup.proofs.descent.way_below.Given as goal

abbrev pub invariant-loop-left : goal.invariant-loop-left
invariant-loop-left l = (l.left ≤ steps) × (l.here.0 < l.capacity) × (l.position < 256) × (l.high < 256) × Within l.capacity l.at × (way l.store l.capacity l.key l.left (steps - l.left) l.high (step (to_branch l.here.0 l.position) l.at Root) ≡ way l.store l.capacity l.key steps 0 0 (first (to_branch l.fn.branch.0 l.fn.place)))

abbrev pub decreases-loop-left : goal.decreases-loop-left
decreases-loop-left l = l.left

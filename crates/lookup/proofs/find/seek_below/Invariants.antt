-- `lookup::find::seek_below` meets its contract: the invariant is that the steps left lead from the present branch to where those from the first one lead. Assumes nothing.
use mathlib.Core.Path.{◌≡◌}
use Prim.Native.Nat.{◌≤◌, ◌<◌}
use Rattle.node.specs.Child.{to_branch}
use Rattle.trie_spec.specs.Walk.{steps}
use Rattle.trie_spec.specs.Find.{ends}
use Rattle.lookup.proofs.find.seek_below.Given as goal

abbrev pub invariant-loop-left : goal.invariant-loop-left
invariant-loop-left l = (l.left ≤ steps) × (l.here.0 < l.capacity) × (l.position < 256) × (ends l.store l.capacity l.key l.left (to_branch l.here.0 l.position) ≡ ends l.store l.capacity l.key steps (to_branch l.fn.branch.0 l.fn.place))

abbrev pub decreases-loop-left : goal.decreases-loop-left
decreases-loop-left l = l.left

-- `fields::same` meets its contract: the bytes below i agree, and i is at most seven past the last eight. Assumes nothing.
use Prim.Native.Nat.{◌+◌, ◌≤◌, ◌-◌}
use Rattle.fields.proofs.CommonLaws.{AgreeBelow}
use Rattle.fields.proofs.same.Given as goal

abbrev pub invariant-loop-i : goal.invariant-loop-i
invariant-loop-i l = (l.i ≤ l.last + 7) × AgreeBelow l.a l.b l.i

abbrev pub decreases-loop-i : goal.decreases-loop-i
decreases-loop-i l = l.last - l.i

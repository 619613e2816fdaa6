-- `fields::first_difference` meets its contract: the two agree below i, by the invariant, and each way out shows why i is the place. Assumes nothing.
use Rattle.fields.proofs.CommonLaws.{AgreeBelow}
use Rattle.fields.proofs.first_difference.Given as goal

abbrev pub invariant-loop-i : goal.invariant-loop-i
invariant-loop-i l = AgreeBelow l.a l.b l.i

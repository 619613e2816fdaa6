-- `fields::same_few` meets its contract: the bytes below i agree. Assumes nothing.
use Rattle.fields.proofs.CommonLaws.{AgreeBelow}
use Rattle.fields.proofs.same_few.Given as goal

abbrev pub invariant-loop-i : goal.invariant-loop-i
invariant-loop-i l = AgreeBelow l.a l.b l.i

-- `fields::word` meets its contract: the two halves are the number. Assumes nothing.
use native.Mathlib.Omega.{arith}
use Rattle.fields.proofs.NumberLaws.{little_eight}
use Rattle.fields.proofs.word.Goals as goal

pub returns : goal.returns
returns c = rw little_eight (omega arith)

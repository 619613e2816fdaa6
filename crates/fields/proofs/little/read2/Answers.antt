-- `fields::little::read2` meets its contract: the two bytes are the number, by `little_two`. Assumes nothing.
use native.Mathlib.Omega.{arith}
use Rattle.fields.proofs.NumberLaws.{little_two}
use Rattle.fields.proofs.little.read2.Goals as goal

pub returns : goal.returns
returns c = (rw little_two (omega arith), omega arith)

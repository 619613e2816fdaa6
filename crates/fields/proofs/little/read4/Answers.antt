-- `fields::little::read4` meets its contract: the four bytes are the number, by `little_four`. Assumes nothing.
use native.Mathlib.Omega.{arith}
use Rattle.fields.proofs.NumberLaws.{little_four}
use Rattle.fields.proofs.little.read4.Goals as goal

pub returns : goal.returns
returns c = (rw little_four (omega arith), omega arith)

-- `fields::little::read3` meets its contract: the three bytes are the number, by `little_three`. Assumes nothing.
use native.Mathlib.Omega.{arith}
use Rattle.fields.proofs.NumberLaws.{little_three}
use Rattle.fields.proofs.little.read3.Goals as goal

pub returns : goal.returns
returns c = (rw little_three (omega arith), omega arith)

-- `fields::little::write4` meets its contract: the four stores are the number's bytes, by `stored_four`. Assumes nothing.
use Prim.Native.Nat.{◌<◌}
use native.Mathlib.Omega.{arith}
use lib.ListN.{length-set}
use Rattle.fields.proofs.NumberLaws.{stored_four}
use Rattle.fields.proofs.little.write4.Goals as goal

pub bounds-s-at-2 : goal.bounds-s-at-2
bounds-s-at-2 c = simp length-set (omega arith)

pub bounds-s-at-3 : goal.bounds-s-at-3
bounds-s-at-3 c = simp length-set (omega arith)

pub bounds-s-at-4 : goal.bounds-s-at-4
bounds-s-at-4 c = simp length-set (omega arith)

pub returns : goal.returns
returns c = let h : c.args.value < 4294967296 = omega arith in rw stored_four

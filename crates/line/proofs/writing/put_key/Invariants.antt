use Prim.Native.Nat.{◌*◌}
use lib.ListN.{take}
use Rattle.line.specs.Text.{pairs_text}
use Rattle.line.specs.Code.{Wrote}
use Rattle.line.proofs.writing.put_key.Given as goal

abbrev pub invariant-loop-i : goal.invariant-loop-i
invariant-loop-i l = Wrote (pairs_text (take l.i l.key)) l.initial.out l.out (2 * l.i)

use Prim.Native.Nat.{◌≤◌}
use mathlib.Core.Path.{◌≡◌}
use lib.ListN.{length, drop}
use Rattle.line.specs.Run.{take_line}
use Rattle.line.specs.Code.{held_size, held_in}
use Rattle.line.proofs.pieces.take_line.Given as goal

abbrev pub invariant-loop-i : goal.invariant-loop-i
invariant-loop-i l = (held_size l.h ≤ 200) × (length l.line ≡ length l.initial.line) × (take_line (held_in l.h l.line) (drop l.i l.piece) ≡ take_line (held_in l.initial.h l.initial.line) l.piece)

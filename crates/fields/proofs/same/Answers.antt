-- `fields::same` meets its contract: the bytes below i agree, and i is at most seven past the last eight. Assumes nothing.
use mathlib.Core.Path.{sym, ap}
use lib.ListN.{length}
use Prim.Native.Nat.{◌-◌}
use Rattle.fields.proofs.CommonLaws.{agree_none, eight_differs, eight_more, eight_last}
use native.Mathlib.Omega.{arith}
use borrow.Author.Rules.{rules}
use Rattle.fields.proofs.same.Goals as goal

pub returns-then-b-n : goal.returns-then-b-n
returns-then-b-n c = λ e. c.if-b-n.true (sym (ap length e))

pub loop-i-init : goal.loop-i-init
loop-i-init c = search (agree_none, rules)

pub loop-i-preserved : goal.loop-i-preserved
loop-i-preserved c = (search rules, search (eight_more, rules))

pub returns-else-same_eight : goal.returns-else-same_eight
returns-else-same_eight c = search (eight_differs, rules)

pub returns : goal.returns
returns c = let args = c.args in
    eight_last args.a.now args.b.now (length args.a.now - 8) c.loop-i.i c.same_eight-2.result (omega arith) (omega arith) (omega arith) c.loop-i.invariant.1
    c.same_eight-2.ensures

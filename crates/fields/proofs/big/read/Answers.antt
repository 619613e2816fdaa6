-- `fields::big::read` meets its contract: the number is that of the first i bytes. Assumes nothing.
use Prim.Native.Nat.{◌+◌}
use Rattle.fields.proofs.NumberLaws.{big_start, big_narrow, big_turn, big_end}
use borrow.Author.Rules.{rules}
use Rattle.fields.proofs.big.read.Goals as goal

pub loop-i-init : goal.loop-i-init
loop-i-init g c = search (big_start, rules)

pub overflow_mul-number : goal.overflow_mul-number
overflow_mul-number g c = let h = big_narrow c.args.s.now c.args.at g.row.N c.loop-i.number c.type_inv.s c.requires.0 c.loop-i.i (c.args.at + c.loop-i.i) c.loop-i-test.true c.loop-i.invariant in search rules

pub overflow_add-number-in-loop-i : goal.overflow_add-number-in-loop-i
overflow_add-number-in-loop-i g c = let h = big_narrow c.args.s.now c.args.at g.row.N c.loop-i.number c.type_inv.s c.requires.0 c.loop-i.i (c.args.at + c.loop-i.i) c.loop-i-test.true c.loop-i.invariant in search rules

pub loop-i-preserved : goal.loop-i-preserved
loop-i-preserved g c = search (big_turn, rules)

pub returns : goal.returns
returns g c = search (big_end, rules)

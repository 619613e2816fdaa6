use borrow.Author.Rules.{rules}
use Rattle.line.proofs.PieceLaws.{take_ended, take_step, take_more}
use Rattle.line.proofs.pieces.take_line.Goals as goal

pub returns-then-c-eq10 : goal.returns-then-c-eq10
returns-then-c-eq10 c = search (take_ended, rules)

pub loop-i-preserved : goal.loop-i-preserved
loop-i-preserved c = (search rules, search rules, take_step _ _ _ c.loop-i-test.true c.if-c-eq10.false c.hold-h.ensures.is c.loop-i.invariant.2)

pub returns : goal.returns
returns c = search (take_more, rules)

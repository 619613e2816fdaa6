use borrow.Author.Rules.{rules}
use Rattle.line.proofs.ReadLaws.{number_bad, number_end, number_step, number_grows, number_mul, number_add, number_none, number_long, number_other, number_made}
use Rattle.line.proofs.reading.number_of.Goals as goal

pub returns-then-is_empty : goal.returns-then-is_empty
returns-then-is_empty c = search (number_none, number_long, rules)

pub returns-in_err-d : goal.returns-in_err-d
returns-in_err-d c = search (number_bad, number_other, rules)

pub returns-then-d-gt9 : goal.returns-then-d-gt9
returns-then-d-gt9 c = search (number_bad, number_other, rules)

pub overflow_mul-n : goal.overflow_mul-n
overflow_mul-n c = search (number_mul, rules)

pub overflow_add-n : goal.overflow_add-n
overflow_add-n c = search (number_add, rules)

pub loop-c-preserved : goal.loop-c-preserved
loop-c-preserved c = (search (number_grows, rules), number_step _ _ _ c.loop-c-test.true c.in_ok-d.ensures c.if-d-gt9.false c.from.ensures c.loop-c.invariant.1)

pub returns : goal.returns
returns c = number_made c.args.word.now (search rules) (search rules) c.loop-c.n c.try_from.result c.try_from.ensures c.ok.ensures.value (search (number_end, rules))

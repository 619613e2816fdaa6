use borrow.Author.Rules.{rules}
use Rattle.line.proofs.ReadLaws.{pairs_first, pairs_second, pairs_step, pairs_odd, pairs_end}
use Rattle.line.proofs.reading.decode_pairs.Goals as goal

pub returns-then-word-ne0 : goal.returns-then-word-ne0
returns-then-word-ne0 c = search (pairs_odd, rules)

pub returns-in_err-digit_of : goal.returns-in_err-digit_of
returns-in_err-digit_of c = search (pairs_first, rules)

pub returns-in_err-key : goal.returns-in_err-key
returns-in_err-key c = search (pairs_second, rules)

pub loop-n-preserved : goal.loop-n-preserved
loop-n-preserved c = (search rules, search (pairs_step, rules))

pub returns : goal.returns
returns c = search (pairs_end, rules)

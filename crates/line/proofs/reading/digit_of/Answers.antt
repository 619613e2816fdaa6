use borrow.Author.Rules.{rules}
use native.Mathlib.Omega.{arith}
use Rattle.line.proofs.ReadLaws.{digit_below, digit_decimal, digit_between, digit_letter, digit_above}
use Rattle.line.proofs.reading.digit_of.Goals as goal

pub returns-in-48-to-57 : goal.returns-in-48-to-57
returns-in-48-to-57 c = (search (digit_decimal, rules), omega arith)

pub returns-in-97-to-102 : goal.returns-in-97-to-102
returns-in-97-to-102 c = (omega (arith, digit_letter c.args.c (omega arith) (omega arith)), omega arith)

pub returns-in_default : goal.returns-in_default
returns-in_default c = search (digit_below, digit_between, digit_above, rules)

pub returns-in_default-2 : goal.returns-in_default-2
returns-in_default-2 c = search (digit_below, digit_between, digit_above, rules)

pub returns-in_default-3 : goal.returns-in_default-3
returns-in_default-3 c = search (digit_below, digit_between, digit_above, rules)

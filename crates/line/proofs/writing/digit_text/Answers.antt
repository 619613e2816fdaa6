use borrow.Author.Rules.{rules}
use native.Mathlib.Omega.{arith}
use Rattle.line.proofs.WriteLaws.{text_decimal, text_letter}
use Rattle.line.proofs.writing.digit_text.Goals as goal

pub returns-then-d-lt10 : goal.returns-then-d-lt10
returns-then-d-lt10 c = search (text_decimal, rules)

pub returns-else-d-lt10 : goal.returns-else-d-lt10
returns-else-d-lt10 c = omega (arith, text_letter c.args.d c.if-d-lt10.false)

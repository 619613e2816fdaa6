-- The proof of the cycle of calls {put_digits}. The measure is the number of places. Assumes nothing.
use borrow.Author.Rules.{rules}
use Rattle.line.proofs.WriteLaws.{digits_none, digits_one, digits_more, digits_room}
use Rattle.line.proofs.writing.+put_digits.Goals as goal

pub returns-then-places-eq0 : goal.returns-then-places-eq0
returns-then-places-eq0 t c = search (digits_none, rules)

pub returns-then-value-lt10 : goal.returns-then-value-lt10
returns-then-value-lt10 t c = search (digits_one, rules)

pub bounds-out-n : goal.bounds-out-n
bounds-out-n t c = search (digits_room, rules)

pub returns : goal.returns
returns t c = search (digits_more, rules)

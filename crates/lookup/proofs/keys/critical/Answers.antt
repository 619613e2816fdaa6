-- `lookup::keys::critical` meets its contract: the first byte that differs, and its half. Assumes nothing.
use Rattle.lookup.proofs.KeyCode.{doubled_fits, first_ended, second_ended, halves_differ, lows_differ}
use borrow.Author.Rules.{rules}
use Rattle.lookup.proofs.keys.critical.Goals as goal

pub overflow_mul-result : goal.overflow_mul-result
overflow_mul-result c = search (doubled_fits, rules)

pub returns-then-a-i : goal.returns-then-a-i
returns-then-a-i c = search (first_ended, rules)

pub returns-then-b-i : goal.returns-then-b-i
returns-then-b-i c = search (second_ended, rules)

pub returns-then-a-i-2 : goal.returns-then-a-i-2
returns-then-a-i-2 c = search (halves_differ, rules)

pub returns : goal.returns
returns c = search (lows_differ, rules)

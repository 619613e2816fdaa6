use borrow.Author.Rules.{rules}
use Rattle.line.proofs.ParseLaws.{key_bad, key_long, key_whole, was_some}
use Rattle.line.proofs.reading.parse_key.Goals as goal

pub returns-in_err-n : goal.returns-in_err-n
returns-in_err-n c = search (key_bad, rules)

pub returns-then-n-gt-KEY_LIMIT : goal.returns-then-n-gt-KEY_LIMIT
returns-then-n-gt-KEY_LIMIT c = key_long (rw (was_some c.decode_key.result _ c.in_ok-n.ensures.value) at c.decode_key.ensures) c.if-n-gt-KEY_LIMIT.true

pub returns : goal.returns
returns c = search (key_whole, rules)

use borrow.Author.Rules.{rules}
use Rattle.line.proofs.ParseLaws.{insert_none, insert_bad_key, insert_bad_number, insert_long, insert_whole, was_some}
use Rattle.line.proofs.reading.parse_insert.Goals as goal

pub returns-in_err-space : goal.returns-in_err-space
returns-in_err-space c = search (insert_none, rules)

pub returns-in_err-n : goal.returns-in_err-n
returns-in_err-n c = search (insert_bad_key, rules)

pub returns-in_err-v : goal.returns-in_err-v
returns-in_err-v c = search (insert_bad_number, rules)

pub returns-then-n-gt-KEY_LIMIT : goal.returns-then-n-gt-KEY_LIMIT
returns-then-n-gt-KEY_LIMIT c =
    let space = rw (was_some c.first_space.result _ c.in_ok-space.ensures.value) at c.first_space.ensures in
    let key = rw (was_some c.decode_key.result _ c.in_ok-n.ensures.value) at c.decode_key.ensures in
    let number = rw (was_some c.number_of.result _ c.in_ok-v.ensures.value) at c.number_of.ensures in
    insert_long c.args.word.now space.0 key number c.if-n-gt-KEY_LIMIT.true

pub returns : goal.returns
returns c = search (insert_whole, rules)

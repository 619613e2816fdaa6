use borrow.Author.Rules.{rules}
use Rattle.line.proofs.ParseLaws.{short_few, short_joined, short_insert, get_refused, get_read, delete_refused, delete_read, plain_refused, plain_read, inclusive_refused, inclusive_read, short_other}
use Rattle.line.proofs.reading.parse_short.Goals as goal

pub returns-in_default : goal.returns-in_default
returns-in_default c = search (short_few, rules)

pub returns-in_default-2 : goal.returns-in_default-2
returns-in_default-2 c = search (short_joined, rules)

pub returns-in-105 : goal.returns-in-105
returns-in-105 c = search (short_insert, rules)

pub returns-in_err-parse_key-in-103 : goal.returns-in_err-parse_key-in-103
returns-in_err-parse_key-in-103 c = search (get_refused, rules)

pub returns-in_ok-parse_key-in-103 : goal.returns-in_ok-parse_key-in-103
returns-in_ok-parse_key-in-103 c = search (get_read, rules)

pub returns-in_err-parse_key-in-100 : goal.returns-in_err-parse_key-in-100
returns-in_err-parse_key-in-100 c = search (delete_refused, rules)

pub returns-in_ok-parse_key-in-100 : goal.returns-in_ok-parse_key-in-100
returns-in_ok-parse_key-in-100 c = search (delete_read, rules)

pub returns-in_err-parse_key-in-112 : goal.returns-in_err-parse_key-in-112
returns-in_err-parse_key-in-112 c = search (plain_refused, rules)

pub returns-in_ok-parse_key-in-112 : goal.returns-in_ok-parse_key-in-112
returns-in_ok-parse_key-in-112 c = search (plain_read, rules)

pub returns-in_err-parse_key-in-113 : goal.returns-in_err-parse_key-in-113
returns-in_err-parse_key-in-113 c = search (inclusive_refused, rules)

pub returns-in_ok-parse_key-in-113 : goal.returns-in_ok-parse_key-in-113
returns-in_ok-parse_key-in-113 c = search (inclusive_read, rules)

pub returns-in_default-letter : goal.returns-in_default-letter
returns-in_default-letter c = search (short_other, rules)

use borrow.Author.Rules.{rules}
use Rattle.line.proofs.ReadLaws.{key_none, key_dash, key_one, key_pairs}
use Rattle.line.proofs.reading.decode_key.Goals as goal

pub returns-in-empty : goal.returns-in-empty
returns-in-empty c = search (key_none, rules)

pub returns-in-45 : goal.returns-in-45
returns-in-45 c = search (key_dash, rules)

pub returns-in-len1 : goal.returns-in-len1
returns-in-len1 c = search (key_one, rules)

pub returns-in_default : goal.returns-in_default
returns-in_default c = search (key_pairs, rules)

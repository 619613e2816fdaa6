-- `lookup::find::find_from` meets its contract: what is found lies in the store, where the descent does. Assumes nothing.
use Rattle.trie_spec.proofs.FindLaws.{from_stands}
use borrow.Author.Rules.{rules}
use Rattle.lookup.proofs.find.find_from.Goals as goal

pub returns-in-At-clause-stands : goal.returns-in-At-clause-stands
returns-in-At-clause-stands c = search (from_stands, rules)

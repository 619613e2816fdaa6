-- `trie::insert::put_beside` meets its contract: the critical position, and the descent to it. Assumes nothing.
use Rattle.trie_spec.proofs.WriteLaws.{place_fits, next_fits}
use borrow.Author.Rules.{rules}
use Rattle.trie.proofs.insert.put_beside.Goals as goal

pub overflow_add-place : goal.overflow_add-place
overflow_add-place c = search (next_fits, rules)

pub overflow_cast-parting : goal.overflow_cast-parting
overflow_cast-parting c = search (place_fits, rules)

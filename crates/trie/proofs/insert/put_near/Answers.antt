-- `trie::insert::put_near` meets its contract: by the two ways out: the leaf's own key, and another. Assumes nothing.
use Rattle.trie_spec.proofs.WriteLaws.{replaced_answer, replaced_bytes, new_answer_lem, new_bytes}
use borrow.Author.Rules.{rules}
use Rattle.trie.proofs.insert.put_near.Goals as goal

pub returns-then-same : goal.returns-then-same
returns-then-same c = (search (replaced_answer, rules), search (replaced_bytes, rules))

pub returns : goal.returns
returns c = (search (new_answer_lem, rules), search (new_bytes, rules))

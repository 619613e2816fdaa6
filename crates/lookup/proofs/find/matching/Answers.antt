-- `lookup::find::matching` meets its contract: by the kinds of child, and by the leaf's key. Assumes nothing.
use Rattle.trie_spec.proofs.FindLaws.{is_leaf, is_other}
use borrow.Author.Rules.{rules}
use Rattle.lookup.proofs.find.matching.Goals as goal

pub returns-then-not-same : goal.returns-then-not-same
returns-then-not-same c = search (is_other, rules)

pub returns : goal.returns
returns c = search (is_leaf, rules)

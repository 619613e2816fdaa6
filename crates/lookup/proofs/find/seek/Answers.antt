-- `lookup::find::seek` meets its contract: by the kinds of child that the root is. Assumes nothing.
use Rattle.trie_spec.proofs.LeafLaws.{seek_leaf}
use borrow.Author.Rules.{rules}
use Rattle.lookup.proofs.find.seek.Goals as goal

pub returns-in-Leaf-clause-is : goal.returns-in-Leaf-clause-is
returns-in-Leaf-clause-is c = search (seek_leaf, rules)

-- `lookup::descent::find_way` meets its contract: by the kinds of child that the root is. Assumes nothing.
use Rattle.trie_spec.proofs.WayDown.{way_of_leaf}
use borrow.Author.Rules.{rules}
use Rattle.lookup.proofs.descent.find_way.Goals as goal

pub returns-in-Leaf-clause-is : goal.returns-in-Leaf-clause-is
returns-in-Leaf-clause-is c = search (way_of_leaf, rules)

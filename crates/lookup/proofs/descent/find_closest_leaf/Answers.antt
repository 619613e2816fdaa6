-- `lookup::descent::find_closest_leaf` meets its contract: by the kinds of child that the root is. Assumes nothing.
use Rattle.trie_spec.proofs.WalkLaws.{first_near}
use borrow.Author.Rules.{rules}
use Rattle.lookup.proofs.descent.find_closest_leaf.Goals as goal

pub returns-in-Leaf-clause-is : goal.returns-in-Leaf-clause-is
returns-in-Leaf-clause-is c = search (first_near, rules)

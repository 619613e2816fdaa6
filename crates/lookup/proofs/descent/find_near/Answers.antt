-- `lookup::descent::find_near` meets its contract: by the ways out: a leaf, a missing slot with the closest leaf below it, and no tree. Assumes nothing.
use Rattle.trie_spec.proofs.WayDown.{leaf_near, leaf_ended, on_wrong, off_near, off_ended, off_wrong}
use borrow.Author.Rules.{rules}
use Rattle.lookup.proofs.descent.find_near.Goals as goal

pub returns-in_err-leaf-clause-is : goal.returns-in_err-leaf-clause-is
returns-in_err-leaf-clause-is c = search (on_wrong, rules)

pub returns-in-Leaf-clause-is : goal.returns-in-Leaf-clause-is
returns-in-Leaf-clause-is c = search (leaf_near, rules)

pub returns-in-Leaf-clause-ended : goal.returns-in-Leaf-clause-ended
returns-in-Leaf-clause-ended c = search (leaf_ended, rules)

pub returns-in_err-closest-in-Off-clause-is : goal.returns-in_err-closest-in-Off-clause-is
returns-in_err-closest-in-Off-clause-is c = search (off_wrong, rules)

pub returns-in_ok-closest-in-Off-clause-is : goal.returns-in_ok-closest-in-Off-clause-is
returns-in_ok-closest-in-Off-clause-is c = search (off_near, rules)

pub returns-in_ok-closest-in-Off-clause-ended : goal.returns-in_ok-closest-in-Off-clause-ended
returns-in_ok-closest-in-Off-clause-ended c = search (off_ended, rules)

-- `lookup::find::find_leaf` meets its contract: by the ways out: an empty store, a root link that leads nowhere, and a root. Assumes nothing.
use mathlib.Core.Path.{sym, ◌∙◌}
use Rattle.trie_spec.proofs.WalkLaws.{refused}
use Rattle.trie_spec.proofs.LeafLaws.{leaf_same, leaf_other, leaf_missing, leaf_astray}
use borrow.Author.Rules.{rules}
use Rattle.lookup.proofs.find.find_leaf.Goals as goal

pub returns-in_err-n-clause-is : goal.returns-in_err-n-clause-is
returns-in_err-n-clause-is c = sym (refused _ c.from_residual-in_err-n.ensures.0) ∙ search (leaf_astray, rules)

pub returns-in_default-clause-is : goal.returns-in_default-clause-is
returns-in_default-clause-is c = search (leaf_missing, rules)

pub returns-then-same-clause-is : goal.returns-then-same-clause-is
returns-then-same-clause-is c = search (leaf_same, rules)

pub returns-clause-is : goal.returns-clause-is
returns-clause-is c = search (leaf_other, rules)

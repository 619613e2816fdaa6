-- `lookup::descent::closest_from` meets its contract: the invariant is that the steps left lead from the present branch to the leaf that those from the first one lead to. Assumes nothing.
use mathlib.Core.Path.{sym, ◌∙◌}
use Rattle.trie_spec.proofs.WalkLaws.{refused, close_end, near_missing, near_wrong, near_end, near_met, near_on, number_below}
use borrow.Author.Rules.{rules}
use Rattle.lookup.proofs.descent.closest_from.Goals as goal

pub returns-in_err-leaf-clause-is : goal.returns-in_err-leaf-clause-is
returns-in_err-leaf-clause-is c = sym (refused _ c.from_residual.ensures.0) ∙ search (near_wrong, rules)

pub returns-then-left-eq1-clause-is : goal.returns-then-left-eq1-clause-is
returns-then-left-eq1-clause-is c = search (near_end, rules)

pub returns-else-left-eq1-clause-is : goal.returns-else-left-eq1-clause-is
returns-else-left-eq1-clause-is c = search (near_met, rules)

pub returns-in-None-clause-is : goal.returns-in-None-clause-is
returns-in-None-clause-is c = search (near_missing, rules)

pub loop-left-preserved : goal.loop-left-preserved
loop-left-preserved c = (search rules, search (number_below, rules), search rules, search (near_on, rules))

pub returns-then-left-eq0-clause-is : goal.returns-then-left-eq0-clause-is
returns-then-left-eq0-clause-is c = search (close_end, rules)

-- `lookup::descent::descend_below` meets its contract: the invariant is that the steps left lead from the present branch to where those from the first one lead. Assumes nothing.
use mathlib.Core.Path.{sym, ◌∙◌}
use Rattle.trie_spec.proofs.WalkLaws.{refused, met_end, walk_stopped, walk_missing, walk_wrong, walk_end, walk_met, walk_on, number_below, slot_fits}
use borrow.Author.Rules.{rules}
use Rattle.lookup.proofs.descent.descend_below.Goals as goal

pub returns-then-stop-p-clause-is : goal.returns-then-stop-p-clause-is
returns-then-stop-p-clause-is c = search (walk_stopped, rules)

pub returns-in_err-n-clause-is : goal.returns-in_err-n-clause-is
returns-in_err-n-clause-is c = sym (refused _ c.from_residual.ensures.0) ∙ search (walk_wrong, rules)

pub returns-then-left-eq1-clause-is : goal.returns-then-left-eq1-clause-is
returns-then-left-eq1-clause-is c = search (walk_end, rules)

pub returns-else-left-eq1-clause-is : goal.returns-else-left-eq1-clause-is
returns-else-left-eq1-clause-is c = search (walk_met, rules)

pub returns-in-None-clause-is : goal.returns-in-None-clause-is
returns-in-None-clause-is c = search (walk_missing, rules)

pub loop-left-preserved : goal.loop-left-preserved
loop-left-preserved c = (search rules, search (number_below, rules), search rules, (search rules, search (slot_fits, rules)), search rules, search (walk_on, rules))

pub returns-then-left-eq0-clause-is : goal.returns-then-left-eq0-clause-is
returns-then-left-eq0-clause-is c = search (met_end, rules)

-- `lookup::descent::way_below` meets its contract: the invariant is that the steps left lead from the present branch to where those from the first one lead. Assumes nothing.
use mathlib.Core.Path.{sym, ◌∙◌}
use Rattle.trie_spec.proofs.WalkLaws.{refused, number_below, slot_fits}
use Rattle.trie_spec.proofs.WayDown.{way_over, way_off, way_wrong, way_end, way_met, way_on}
use borrow.Author.Rules.{rules}
use Rattle.lookup.proofs.descent.way_below.Goals as goal

pub returns-in_err-n-clause-is : goal.returns-in_err-n-clause-is
returns-in_err-n-clause-is c = sym (refused _ c.from_residual.ensures.0) ∙ search (way_wrong, rules)

pub returns-then-left-eq1-clause-is : goal.returns-then-left-eq1-clause-is
returns-then-left-eq1-clause-is c = search (way_end, rules)

pub returns-else-left-eq1-clause-is : goal.returns-else-left-eq1-clause-is
returns-else-left-eq1-clause-is c = search (way_met, rules)

pub returns-in-None-clause-is : goal.returns-in-None-clause-is
returns-in-None-clause-is c = search (way_off, rules)

pub loop-left-preserved : goal.loop-left-preserved
loop-left-preserved c = (search rules, search (number_below, rules), search rules, search rules, (search rules, search (slot_fits, rules)), search (way_on, rules))

pub returns-then-left-eq0-clause-is : goal.returns-then-left-eq0-clause-is
returns-then-left-eq0-clause-is c = search (way_over, rules)

-- `lookup::find::seek_below` meets its contract: the invariant is that the steps left lead from the present branch to where those from the first one lead. Assumes nothing.
use mathlib.Core.Path.{sym, ◌∙◌}
use Rattle.trie_spec.proofs.WalkLaws.{refused, number_below}
use Rattle.trie_spec.proofs.LeafLaws.{ends_over, ends_missing, ends_wrong, ends_end, ends_met, ends_on}
use borrow.Author.Rules.{rules}
use Rattle.lookup.proofs.find.seek_below.Goals as goal

pub returns-in_err-n-clause-is : goal.returns-in_err-n-clause-is
returns-in_err-n-clause-is c = sym (refused _ c.from_residual.ensures.0) ∙ search (ends_wrong, rules)

pub returns-then-left-eq1-clause-is : goal.returns-then-left-eq1-clause-is
returns-then-left-eq1-clause-is c = search (ends_end, rules)

pub returns-else-left-eq1-clause-is : goal.returns-else-left-eq1-clause-is
returns-else-left-eq1-clause-is c = search (ends_met, rules)

pub returns-in-None-clause-is : goal.returns-in-None-clause-is
returns-in-None-clause-is c = search (ends_missing, rules)

pub loop-left-preserved : goal.loop-left-preserved
loop-left-preserved c = (search rules, search (number_below, rules), search rules, search (ends_on, rules))

pub returns-then-left-eq0-clause-is : goal.returns-then-left-eq0-clause-is
returns-then-left-eq0-clause-is c = search (ends_over, rules)

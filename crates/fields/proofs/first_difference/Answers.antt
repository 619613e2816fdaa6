-- `fields::first_difference` meets its contract: the two agree below i, by the invariant, and each way out shows why i is the place. Assumes nothing.
use Rattle.fields.proofs.CommonLaws.{differ_here, one_ended}
use borrow.Author.Rules.{rules}
use Rattle.fields.proofs.first_difference.Goals as goal

pub returns-then-a-i : goal.returns-then-a-i
returns-then-a-i c = search (differ_here, rules)

pub returns : goal.returns
returns c = search (one_ended, rules)

-- `node::header::read_head` meets its contract: by the six ways out, in the order of the tests. Assumes nothing.
use Rattle.node.proofs.Contracts.{bad_short, bad_mark, bad_capacity, bad_leaves, bad_branches, good_head}
use borrow.Author.Rules.{rules}
use Rattle.node.proofs.header.read_head.Goals as goal

pub returns-then-n : goal.returns-then-n
returns-then-n c = search (bad_short, rules)

pub returns-then-read4-ne-MARK : goal.returns-then-read4-ne-MARK
returns-then-read4-ne-MARK c = search (bad_mark, rules)

pub returns-then-capacity-capacity_of : goal.returns-then-capacity-capacity_of
returns-then-capacity-capacity_of c = search (bad_capacity, rules)

pub returns-then-capacity-h : goal.returns-then-capacity-h
returns-then-capacity-h c = search (bad_leaves, rules)

pub returns-then-capacity-h-2 : goal.returns-then-capacity-h-2
returns-then-capacity-h-2 c = search (bad_branches, rules)

pub returns : goal.returns
returns c = search (good_head, rules)

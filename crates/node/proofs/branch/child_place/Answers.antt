-- `node::branch::child_place` meets its contract: a slot up to 16 has a place. Assumes nothing.
use Rattle.node.proofs.Contracts.{has_place, place_is, place_small}
use borrow.Author.Rules.{rules}
use Rattle.node.proofs.branch.child_place.Goals as goal

pub unwrap-requires : goal.unwrap-requires
unwrap-requires c = search (has_place, rules)

pub returns : goal.returns
returns c = (search (place_is, rules), search (place_small, rules))

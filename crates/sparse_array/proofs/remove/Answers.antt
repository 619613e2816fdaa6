-- `sparse_array::remove` meets its contract: by the three ways out: a slot over 16, a missing one, and a present one, whose place is closed. Assumes nothing.
use Rattle.sparse_array.proofs.Contracts.{remove_beyond, place_within, removed, remove_missing}
use borrow.Author.Rules.{rules}
use Rattle.sparse_array.proofs.remove.Goals as goal

pub returns-then-slot-gt16 : goal.returns-then-slot-gt16
returns-then-slot-gt16 c = search remove_beyond

pub returns-then-not-present : goal.returns-then-not-present
returns-then-not-present c = search remove_missing

pub close-requires : goal.close-requires
close-requires c = search (place_within, rules)

pub returns : goal.returns
returns c = search removed

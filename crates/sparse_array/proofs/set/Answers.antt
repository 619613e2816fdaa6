-- `sparse_array::set` meets its contract: an item over another, and a new one, for which a place is opened. Assumes nothing.
use Rattle.sparse_array.proofs.Contracts.{set_over, set_new}
use Rattle.sparse_array.proofs.set.Goals as goal

pub returns-then-present : goal.returns-then-present
returns-then-present c = search set_over

pub returns : goal.returns
returns c = search set_new

-- `sparse_array::items::open` meets its contract: it is what `move_up` ensures. Assumes nothing.
use Rattle.sparse_array.specs.Array.{opened}
use Rattle.sparse_array.proofs.items.open.Goals as goal

pub returns : goal.returns
unfolding opened
returns c = c.move_up.ensures

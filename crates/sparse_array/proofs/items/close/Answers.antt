-- `sparse_array::items::close` meets its contract: it is what `move_down` ensures. Assumes nothing.
use Rattle.sparse_array.specs.Array.{closed}
use Rattle.sparse_array.proofs.items.close.Goals as goal

pub returns : goal.returns
unfolding closed
returns c = c.move_down.ensures

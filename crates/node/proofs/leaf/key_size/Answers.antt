-- `node::leaf::key_size` meets its contract: the length byte, but no more than the limit. Assumes nothing.
use Rattle.node.proofs.Contracts.{key_capped}
use Rattle.node.proofs.leaf.key_size.Goals as goal

pub returns : goal.returns
returns c = let a = c.size_at-a in key_capped c.args.store.now c.args.leaf.0 _ c.min.result a.ensures c.min.ensures

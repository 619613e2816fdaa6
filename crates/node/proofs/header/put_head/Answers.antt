-- `node::header::put_head` meets its contract: the seven writes, one after the other, are one splice. Assumes nothing.
use Rattle.node.proofs.Contracts.{numbers_written}
use Rattle.node.proofs.header.put_head.Goals as goal

pub returns : goal.returns
returns c =
    let p1 = c in
    numbers_written _ _ _ _ _ _ _ _ _ _ _ _ _ _ _ p1.write2.ensures c.write2-2.ensures c.write2-3.ensures c.write2-4.ensures c.write.ensures c.write2-5.ensures c.write2-6.ensures

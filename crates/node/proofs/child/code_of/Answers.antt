-- `node::child::code_of` meets its contract: by the two kinds of child. Assumes nothing.
use native.Mathlib.Omega.{arith}
use Rattle.node.proofs.child.code_of.Goals as goal

pub returns-in-Leaf : goal.returns-in-Leaf
returns-in-Leaf c =
    let e = c.in-Leaf.is in
    (rw e, omega (arith, rw e at c.requires))

pub returns-in-Branch : goal.returns-in-Branch
returns-in-Branch c =
    let e = c.in-Branch.is in
    (rw e, omega (arith, rw e at c.requires))

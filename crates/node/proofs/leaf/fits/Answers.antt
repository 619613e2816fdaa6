-- `node::leaf::fits` meets its contract: the length byte is compared with the limit. Assumes nothing.
use Rattle.node.proofs.Contracts.{size_fits}
use borrow.Author.Rules.{rules}
use Rattle.node.proofs.leaf.fits.Goals as goal

pub returns : goal.returns
returns c = search (size_fits, rules)

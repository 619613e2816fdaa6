-- `bitmap::bits::lowest` meets its contract: `trailing_zeros` is the lowest present slot, where there is one. Assumes nothing.
use Rattle.bitmap.proofs.BitmapLaws.{lowest_is}
use Rattle.bitmap.proofs.bits.lowest.Goals as goal

pub returns : goal.returns
returns c = lowest_is c.args.bits c.requires

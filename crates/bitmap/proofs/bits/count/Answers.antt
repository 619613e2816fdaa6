-- `bitmap::bits::count` meets its contract: `count_ones` is the count of the list of digits. Assumes nothing.
use Rattle.bitmap.proofs.BitmapLaws.{count_is}
use Rattle.bitmap.proofs.bits.count.Goals as goal

pub returns : goal.returns
returns c = count_is c.args.bits c.requires

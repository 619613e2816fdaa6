-- `bitmap::bits::without` meets its contract: `&` with the bit's complement clears the digit. Assumes nothing.
use Rattle.bitmap.proofs.BitmapLaws.{without_is}
use Rattle.bitmap.proofs.bits.without.Goals as goal

pub returns : goal.returns
returns c = without_is c.args.bits c.args.slot c.requires.0 c.requires.1

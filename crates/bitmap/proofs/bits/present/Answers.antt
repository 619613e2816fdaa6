-- `bitmap::bits::present` meets its contract: the test of the bit is the digit at the slot. Assumes nothing.
use Rattle.bitmap.proofs.BitmapLaws.{present_is}
use Rattle.bitmap.proofs.bits.present.Goals as goal

pub returns : goal.returns
returns c = present_is c.args.bits c.args.slot c.requires

-- `bitmap::bits::place` meets its contract: the count of ones of the bitmap under the slot is the number of present slots below it. Assumes nothing.
use Rattle.bitmap.proofs.BitmapLaws.{place_is}
use Rattle.bitmap.proofs.bits.place.Goals as goal

pub returns : goal.returns
returns c = place_is c.args.bits c.args.slot c.requires

-- `bitmap::bits::with` meets its contract: `|` with the bit sets the digit. Assumes nothing.
use Rattle.bitmap.proofs.BitmapLaws.{with_is}
use Rattle.bitmap.proofs.bits.with.Goals as goal

pub returns : goal.returns
returns c = with_is c.args.bits c.args.slot c.requires.0 c.requires.1

-- `fields::write1` meets its contract: one store is a splice of one byte. Assumes nothing.
use Rattle.fields.proofs.PartLaws.{splice_cons, splice_nil}
use Rattle.fields.proofs.write1.Goals as goal

pub returns : goal.returns
returns c = rw (splice_cons, splice_nil)

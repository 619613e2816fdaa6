-- `replay::play` is safe and ends. Assumes nothing.
use lib.ListN.{length}
use Rattle.replay.proofs.play.Given as goal

abbrev pub decreases-loop-rest : goal.decreases-loop-rest
decreases-loop-rest l = length l.rest

-- `records::create::free_all` meets its contract: the invariant is that the records below r are free. Assumes nothing.
use Rattle.records.specs.Create.{freed_below}
use mathlib.Core.Path.{◌≡◌}
use lib.ListN.{length}
use Rattle.records.proofs.create.free_all.Given as goal

abbrev pub invariant-loop-r : goal.invariant-loop-r
invariant-loop-r l = (length l.store ≡ length l.initial.store) × (l.store ≡ freed_below l.capacity l.r l.initial.store)

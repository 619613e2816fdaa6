-- `audit::free::chain_free` meets its contract. The invariant: the rest of the chain from here is the whole from its first record. Assumes nothing.
use Prim.Native.Nat.{◌-◌}
use mathlib.Core.Path.{◌≡◌}
use Rattle.audit_tree.specs.Accepts.{chain_right, kept_right}
use Rattle.audit.proofs.free.chain_free.Given as goal

abbrev pub invariant-loop : goal.invariant-loop
invariant-loop g l = chain_right g.R.Record.kind l.store l.h.capacity (l.h.capacity - l.counter) l.at ≡ kept_right g.R.Record.kind l.store l.h

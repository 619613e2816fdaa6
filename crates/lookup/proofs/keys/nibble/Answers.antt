-- `lookup::keys::nibble` meets its contract: by the laws of nibbles by bytes. Assumes nothing.
use mathlib.Core.Path.{sym}
use Prim.Native.Nat.{◌/◌}
use native.Mathlib.Omega.{arith}
use Rattle.model.proofs.NibbleAt.{nibble_high, nibble_low, nibble_past}
use Rattle.lookup.proofs.keys.nibble.Goals as goal

pub returns-then-key-i : goal.returns-then-key-i
returns-then-key-i c = record { value = sym (nibble_past c.args.key.now c.args.p (omega arith)); slot = omega arith }

pub overflow_add-result : goal.overflow_add-result
overflow_add-result c = omega (arith, c.shared_slice_known-1.given (c.args.p / 2))

pub returns-then-p-eq0 : goal.returns-then-p-eq0
returns-then-p-eq0 c = record { value = sym (nibble_high c.args.key.now c.args.p (omega arith) (omega arith)); slot = omega (arith, c.shared_slice_known-1.given (c.args.p / 2)) }

pub returns-else-p-eq0 : goal.returns-else-p-eq0
returns-else-p-eq0 c = record { value = sym (nibble_low c.args.key.now c.args.p (omega arith) (omega arith)); slot = omega arith }

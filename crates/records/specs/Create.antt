-- A new store: every record free, in the order of the numbers, and a header that says so.
-- Assumes nothing.
use Rattle.std.specs.Prelude.{ℕ, zero, suc, ◌+◌, ◌≡◌, Bool, true, false, cond, List, length, ltb, Result, Ok, Err}
use Rattle.model.specs.Numbers.{least_size, capacity_of}
use Rattle.node.specs.Layout.{last}
use Rattle.node.specs.Header.{header, set_head, set_mark}
use Rattle.records.specs.Chain.{leaves, branches}
use Rattle.node.specs.declared.header.Header.{Header}
use Rattle.records.specs.declared.create.NoRoom.{NoRoom}

-- the number after r in a chain of all records of some capacity
abbrev pub next_after : ℕ → ℕ → ℕ
next_after cap r = cond (ltb (r + 1) cap) (r + 1) last

-- the store with the records below n free
unfoldable pub freed_below : ℕ → ℕ → List ℕ → List ℕ
freed_below cap zero st = st
freed_below cap (suc n) st = branches.freed (leaves.freed (freed_below cap n st) n (next_after cap n)) n (next_after cap n)

-- the item of no link
abbrev pub no_root : ℕ
no_root = 65535

-- the header of an empty store
abbrev pub new_head : ℕ → ℕ → Header
new_head cap limit = header cap limit 0 0 no_root 0 0

unfoldable pub created : ℕ → List ℕ → List ℕ
created limit st = let cap = capacity_of (length st) in set_head (set_mark (freed_below cap cap st)) (new_head cap limit)

-- the one refusal of a creation
abbrev pub no_room : NoRoom
no_room = record {}

-- "Under 256 bytes it is refused": ROOM, and no byte changes.
abbrev pub made_of : Bool → Result (Unit {0}) NoRoom
made_of true = Err no_room
made_of false = Ok tt

pub record Created (limit : ℕ) (st st' : List ℕ) (r : Result (Unit {0}) NoRoom) : Type 0 where
  pub answer : r ≡ made_of (ltb (length st) least_size)
  pub bytes : st' ≡ cond (ltb (length st) least_size) st (created limit st)

-- The check of a store over its bytes, on any bytes: the header, the tree and both chains of free records.
-- Assumes nothing.
use Rattle.std.specs.Prelude.{ℕ, zero, suc, ◌-◌, Bool, false, ◌&&◌, List, ltb, eqb, Result, Ok, Err}
use Rattle.node.specs.Layout.{last}
use Rattle.node.specs.Header.{head_of}
use Rattle.records.specs.Chain.{Kind, leaves, branches}
use Rattle.node.specs.declared.header.Header.{Header}
use Rattle.node.specs.declared.NotAStore.{NotAStore}
use Rattle.audit_tree.specs.Walk.{tree_right}

-- From x on go so many free records of the store, and then the end mark.
unfoldable pub chain_right : Kind → List ℕ → (cap : ℕ) → ℕ → ℕ → Bool
chain_right K st cap zero x = eqb x last
chain_right K st cap (suc n) x = ltb x cap && (K.is_free st x && chain_right K st cap n (K.next st x))

-- "each record not reached is free, once": as many free ones as are not in use
abbrev pub kept_right : Kind → List ℕ → Header → Bool
kept_right K st h = chain_right K st h.capacity (h.capacity - K.used h) (K.first h)

unfoldable pub records_right : List ℕ → Header → Bool
records_right st h = tree_right st h.capacity h.leaves h.branches h.root && (kept_right leaves st h && kept_right branches st h)

abbrev pub on_head : (Header → Bool) → Result Header NotAStore → Bool
on_head f (Ok h) = f h
on_head f (Err e) = false

unfoldable pub accepts_in : List ℕ → Bool
accepts_in st = on_head (records_right st) (head_of st)

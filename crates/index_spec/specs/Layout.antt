-- What the promises take as given: when a header is right, the limit in it, and when a store is accepted.
-- Assumes nothing.
use Rattle.std.specs.Prelude.{ℕ, Bool, true, false, Result, Ok, Err}
use Rattle.promises.specs.Meaning.{Layout}
use Rattle.node.specs.Header.{header, head_in, head_of}
use Rattle.node.specs.declared.header.Header.{Header}
use Rattle.node.specs.declared.NotAStore.{NotAStore}
use Rattle.trie_spec.specs.Accepted.{Accepted}

-- not "where the slice is too short or the header is wrong"
abbrev pub is_good : Result Header NotAStore → Bool
is_good (Ok h) = true
is_good (Err e) = false

abbrev pub layout : Layout
layout = record { header = λ st. is_good (head_of st); limit = λ st. (head_in st).limit; Accepted = λ st o. Accepted st o }

-- "the limit may be set at any time": the header's numbers with another limit
abbrev pub with_limit : Header → ℕ → Header
with_limit h limit = header h.capacity limit h.leaves h.branches h.root h.leaf h.branch

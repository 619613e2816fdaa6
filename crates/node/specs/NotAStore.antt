-- The one refusal of the functions that read records: the bytes are no store.
-- Assumes nothing.
use Rattle.node.specs.declared.NotAStore.{NotAStore}

abbrev pub not_a_store : NotAStore
not_a_store = record {}

-- `walk::entry::write_entry` meets its contract: the two fields, one directly after the other. Assumes nothing.
use Rattle.walk.proofs.EntryLaws.{size_is, size_fits, entry_written}
use borrow.Author.Rules.{rules}
use Rattle.walk.proofs.entry.write_entry.Goals as goal

pub returns : goal.returns
returns c = record { bytes = search (entry_written, rules); size = (search (size_is, rules), search (size_fits, rules)) }

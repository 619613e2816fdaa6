-- `walk::entry::put_head` meets its contract: the tag, and the length after it. Assumes nothing.
use Rattle.walk.proofs.EntryLaws.{field_written}
use borrow.Author.Rules.{rules}
use Rattle.walk.proofs.entry.put_head.Goals as goal

pub returns : goal.returns
returns c = search (field_written, rules)

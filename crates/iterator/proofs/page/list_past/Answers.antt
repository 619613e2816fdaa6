-- `iterator::page::list_past` meets its contract: no walk leaves more entries than it was to give. Assumes nothing.
use Rattle.iterator.proofs.PageContracts.{left_below}
use borrow.Author.Rules.{rules}
use Rattle.iterator.proofs.page.list_past.Goals as goal

pub page_of-requires : goal.page_of-requires
page_of-requires c = search (left_below, rules)

-- `page_calls::pages::is_below` meets its contract: by the nibbles at the critical position. Assumes nothing.
use Rattle.index_spec.proofs.PageLaws.{below_is}
use borrow.Author.Rules.{rules}
use Rattle.page_calls.proofs.pages.is_below.Goals as goal

pub returns : goal.returns
returns c = search (below_is, rules)

-- `iterator::page::starts_with` meets its contract: a key starts with a prefix if they have as many bytes in common as the prefix has. Assumes nothing.
use Rattle.iterator.proofs.PageContracts.{starts_is}
use borrow.Author.Rules.{rules}
use Rattle.iterator.proofs.page.starts_with.Goals as goal

pub returns : goal.returns
returns c = search (starts_is, rules)

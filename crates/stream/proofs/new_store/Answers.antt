-- `stream::new_store` meets its contract: by creation's promise. Assumes nothing.
use Rattle.stream.proofs.StreamLaws.{new_means}
use borrow.Author.Rules.{rules}
use Rattle.stream.proofs.new_store.Goals as goal

pub returns : goal.returns
returns c = search (new_means, rules)

-- `fields::same_eight` meets its contract: bytes are known by their number. Assumes nothing.
use Rattle.fields.proofs.CommonLaws.{eight_says}
use borrow.Author.Rules.{rules}
use Rattle.fields.proofs.same_eight.Goals as goal

pub returns : goal.returns
returns c = search (eight_says, rules)

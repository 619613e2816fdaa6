-- `fields::same_few` meets its contract: the bytes below i agree. Assumes nothing.
use Rattle.fields.proofs.CommonLaws.{byte_differs, agree_all}
use borrow.Author.Rules.{rules}
use Rattle.fields.proofs.same_few.Goals as goal

pub returns-then-a-i : goal.returns-then-a-i
returns-then-a-i c = byte_differs _ _ _ c.if-a-i.true

pub returns : goal.returns
returns c = search (agree_all, rules)

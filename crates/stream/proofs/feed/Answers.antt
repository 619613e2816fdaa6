-- `stream::feed` meets its contract: from what is held at each turn, the rest of the piece leads to where the whole piece leads. Assumes nothing.
use borrow.Author.Rules.{rules}
use Rattle.stream.proofs.StreamLaws.{ahead_start, ahead_next, fed_all}
use Rattle.stream.proofs.feed.Goals as goal

pub loop-rest-init : goal.loop-rest-init
loop-rest-init c = (search rules, search rules, search rules, search rules, search (ahead_start, rules))

pub loop-rest-preserved : goal.loop-rest-preserved
loop-rest-preserved c = (search rules, search rules, search rules, search rules, search (ahead_next, rules))

pub returns : goal.returns
returns c = search (fed_all, rules)

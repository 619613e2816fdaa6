use borrow.Author.Rules.{rules}
use Rattle.line.proofs.ParseLaws.{line_long, line_short}
use Rattle.line.proofs.reading.parse.Goals as goal

pub returns-then-line-gt-LINE_LIMIT : goal.returns-then-line-gt-LINE_LIMIT
returns-then-line-gt-LINE_LIMIT c = search (line_long, rules)

pub returns : goal.returns
returns c = search (line_short, rules)

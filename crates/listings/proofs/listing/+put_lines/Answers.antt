-- The proof of the cycle of calls {put_lines}. The measure is the number of entries. Assumes nothing.
use native.Mathlib.Omega.{arith}
use lib.ListN.{length-take, length-drop}
use borrow.Author.Rules.{rules}
use Rattle.listings.proofs.LineLaws.{page_none, page_bad, page_some, page_room}
use Rattle.listings.proofs.listing.+put_lines.Goals as goal

pub returns-then-count-eq0 : goal.returns-then-count-eq0
returns-then-count-eq0 t c = search (page_none, rules)

pub returns-then-k-gt64 : goal.returns-then-k-gt64
returns-then-k-gt64 t c = search (page_bad, rules)

pub put_lines-m-requires : goal.put_lines-m-requires
put_lines-m-requires t c = (search rules, (simp (length-take, length-drop) (omega arith), search (page_room, rules)))

pub returns : goal.returns
returns t c = search (page_some, rules)

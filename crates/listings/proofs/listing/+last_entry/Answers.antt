-- The proof of the cycle of calls {last_entry}. The measure is the number of entries. Assumes nothing.
use native.Mathlib.Omega.{arith}
use lib.ListN.{length-take, length-drop}
use borrow.Author.Rules.{rules}
use Rattle.listings.proofs.LineLaws.{last_first, last_bad, last_next}
use Rattle.listings.proofs.listing.+last_entry.Goals as goal

pub returns-then-count-lt2 : goal.returns-then-count-lt2
returns-then-count-lt2 t c = record { is = search (last_first, rules); within = search rules }

pub returns-then-k-gt64 : goal.returns-then-k-gt64
returns-then-k-gt64 t c = record { is = search (last_bad, rules); within = search rules }

pub last_entry-requires : goal.last_entry-requires
last_entry-requires t c = (search rules, (search rules, simp (length-take, length-drop) (omega arith)))

pub returns : goal.returns
returns t c = record { is = search (last_next, rules); within = search rules }

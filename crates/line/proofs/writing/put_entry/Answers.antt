-- `line::writing::put_entry` meets its contract. Assumes nothing.
use Rattle.line.proofs.WriteLaws.{entry_space, entry_part, entry_lent, entry_end, entry_whole}
use borrow.Author.Rules.{rules}
use Rattle.line.proofs.writing.put_entry.Goals as goal

pub bounds-out-n : goal.bounds-out-n
bounds-out-n c = search (entry_space, rules)

pub slice_bounds-put_number-count : goal.slice_bounds-put_number-count
slice_bounds-put_number-count c = search (entry_part, rules)

pub slice_bounds-put_number-start : goal.slice_bounds-put_number-start
slice_bounds-put_number-start c = search (entry_part, rules)

pub put_number-d-requires : goal.put_number-d-requires
put_number-d-requires c = search (entry_lent, rules)

pub bounds-out-e : goal.bounds-out-e
bounds-out-e c = search (entry_end, rules)

pub returns : goal.returns
returns c = search (entry_whole, rules)

-- `walk::walk::give` meets its contract: by the ways out: a page that has stopped, one that is full, and an entry written. Assumes nothing.
use Rattle.walk.proofs.SheetLaws.{give_stopped, give_further, give_written, room_written}
use borrow.Author.Rules.{rules}
use Rattle.walk.proofs.walk.give.Goals as goal

pub returns-then-stopped : goal.returns-then-stopped
returns-then-stopped c = record { is = search (give_stopped, rules); room = search rules }

pub returns-then-p-eq0 : goal.returns-then-p-eq0
returns-then-p-eq0 c = record { is = search (give_further, rules); room = search rules }

pub returns : goal.returns
returns c = record { is = search (give_written, rules); room = search (room_written, rules) }

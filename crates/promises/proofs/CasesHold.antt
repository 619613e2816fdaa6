-- Document 01's checked cases hold of the definitions, and so do the further rows: each row is computed, in the table's order.
-- Assumes nothing.
use mathlib.Core.Path.{refl}
use Rattle.model.specs.Key.{order}
use Rattle.model.specs.Nibble.{nibble, critical}
use Rattle.promises.specs.Cases.{cases, slips, ends, sizes, AllHold}

-- C1 to C12, of which C5 and C7 take two rows each.
pub cases_hold : AllHold cases
unfolding nibble order critical
cases_hold = (refl, (refl, (refl, (refl, (refl, (refl, (refl, (refl, (refl, (refl, (refl, (refl, (refl, (refl, tt))))))))))))))

pub slips_hold : AllHold slips
unfolding nibble order critical
slips_hold = (refl, (refl, (refl, (refl, (refl, (refl, (refl, (refl, (refl, (refl, (refl, tt)))))))))))

pub ends_hold : AllHold ends
unfolding nibble order critical
ends_hold = (refl, (refl, (refl, (refl, (refl, (refl, (refl, tt)))))))

pub sizes_hold : AllHold sizes
sizes_hold = (refl, (refl, tt))

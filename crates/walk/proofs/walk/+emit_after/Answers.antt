-- The proof of the cycle of calls {emit_after}. The measure is the number of branches that a path may still have. Assumes nothing.
use mathlib.Core.Path.{ap, ◌∙◌}
use Rattle.std.specs.Prelude.{Ok}
use borrow.Author.Rules.{rules}
use Rattle.trie_spec.proofs.WalkLaws.{branch_room, leaf_below, link_below, slot_fits}
use Rattle.walk.proofs.SheetLaws.{room_wrong}
use Rattle.walk.proofs.WalkLaws.{left_falls}
use Rattle.walk.proofs.AfterLaws.{from_leaf, from_leaf_before, from_deep, from_past, from_past_before, from_absent, from_wrong, from_both, from_stopped}
use Rattle.walk.proofs.walk.+emit_after.Goals as goal

pub give-requires : goal.give-requires
give-requires t c = search (leaf_below, rules)

pub returns-then-up : goal.returns-then-up
returns-then-up t c = record { is = search (from_leaf, rules); room = search rules }

pub returns-then-deep-eq0 : goal.returns-then-deep-eq0
returns-then-deep-eq0 t c = record { is = search (from_deep, rules); room = search (room_wrong, rules) }

pub returns-then-up-2 : goal.returns-then-up-2
returns-then-up-2 t c = record { is = search (from_past, rules); room = search rules }

pub returns-then-critical-position : goal.returns-then-critical-position
returns-then-critical-position t c = record { is = search (from_past_before, rules); room = search rules }

pub get_child-requires : goal.get_child-requires
get_child-requires t c = search (branch_room, rules)

pub emit_after-p-requires : goal.emit_after-p-requires
emit_after-p-requires t c = (search (left_falls, rules), (search rules, search (link_below, rules), search rules))

pub returns-then-stopped : goal.returns-then-stopped
returns-then-stopped t c = record {
  is = from_stopped _ _ _ _ _ _ _ _ _ _ c.in-Branch.is c.if-deep-eq0.false c.if-critical-position.false _ c.nibble-slot.ensures.value _ c.get_child.ensures _ (c.in-Ok-Some.is ∙ ap Ok c.in-Ok-Some.field-0-is) _ _ c.emit_after-p.ensures.is _ c.stopped.ensures c.if-stopped.true;
  room = c.emit_after-p.ensures.room;
}

pub child_place-place-requires : goal.child_place-place-requires
child_place-place-requires t c = (search (branch_room, rules), search (slot_fits, rules))

pub emit-requires-in-Ok-Some : goal.emit-requires-in-Ok-Some
emit-requires-in-Ok-Some t c = (c.requires.0, c.requires.1, c.emit_after-p.ensures.room)

pub child_place-place-requires-in-Ok-None : goal.child_place-place-requires-in-Ok-None
child_place-place-requires-in-Ok-None t c = (search (branch_room, rules), search (slot_fits, rules))

pub returns-else-up : goal.returns-else-up
returns-else-up t c = record { is = search (from_leaf_before, rules); room = search rules }

pub returns-else-stopped : goal.returns-else-stopped
returns-else-stopped t c = record {
  is = from_both _ _ _ _ _ _ _ _ _ _ c.in-Branch.is c.if-deep-eq0.false c.if-critical-position.false _ c.nibble-slot.ensures.value _ c.get_child.ensures _ (c.in-Ok-Some.is ∙ ap Ok c.in-Ok-Some.field-0-is) _ _ c.emit_after-p.ensures.is _ _ _ c.child_place-place.ensures.0 c.emit-in-Ok-Some.ensures.is;
  room = c.emit-in-Ok-Some.ensures.room;
}

pub returns-in-Ok-None : goal.returns-in-Ok-None
returns-in-Ok-None t c = record { is = search (from_absent, rules); room = search rules }

pub returns-in-Err : goal.returns-in-Err
returns-in-Err t c = record { is = search (from_wrong, rules); room = search (room_wrong, rules) }

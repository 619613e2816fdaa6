-- The proof of the cycle of calls {emit}. The measure is the number of branches that a path may still have. The loop's invariant is an equation: what the children
-- that are left do to the page as it is, is what all of them do to it as it was.
-- Assumes nothing.
use mathlib.Core.Path.{ap, ◌∙◌}
use Rattle.std.specs.Prelude.{Ok}
use borrow.Author.Rules.{rules}
use Rattle.trie_spec.proofs.WalkLaws.{branch_room, leaf_below}
use Rattle.walk.proofs.SheetLaws.{room_wrong, moved, room_moved}
use Rattle.walk.proofs.WalkLaws.{emit_leaf, emit_deep, emit_empty, walk_end, walk_lost, walk_next, walk_stopped, whole_walk, next_below, next_leaf_below, left_falls}
use Rattle.walk.proofs.walk.+emit.Goals as goal
use Rattle.walk.proofs.walk.+emit.Goals.{in-Leaf-child, in-Branch-child}

pub give-requires : goal.give-requires
give-requires t c = search (leaf_below, rules)

pub returns-then-deep-eq0 : goal.returns-then-deep-eq0
returns-then-deep-eq0 t c = record { is = search (emit_deep, rules); room = search (room_wrong, rules) }

pub child_count-count-requires : goal.child_count-count-requires
child_count-count-requires t c = search (branch_room, rules)

pub returns-then-count-eq0 : goal.returns-then-count-eq0
returns-then-count-eq0 t c = record { is = search (emit_empty, rules); room = search (room_wrong, rules) }

pub child_at-requires : goal.child_at-requires
child_at-requires t c = search (branch_room, rules)

pub returns-in_default : goal.returns-in_default
returns-in_default t c = record {
  is = whole_walk _ _ _ _ _ _ c.in-Branch.is _ c.child_count-count.ensures _ _ c.if-deep-eq0.false c.if-count-eq0.false
      (walk_lost _ _ _ _ _ _ _ c.child_count-count.ensures _ _ c.loop-i.invariant.2 c.loop-i-test.true _ c.child_at.ensures (search rules) _ c.wrong-in_default.ensures);
  room = search (room_wrong, rules);
}

pub give-p-requires : goal.give-p-requires
give-p-requires t c = (search rules, search (next_leaf_below, rules), search rules)

pub emit-p-requires : goal.emit-p-requires
emit-p-requires t c = (search (left_falls, rules), (search rules, search (next_below, rules), search rules))

pub returns-then-stopped : goal.returns-then-stopped
returns-then-stopped t c =
    elim c.match-next.branch [
      | in-Leaf-child w ↦ record {
        is = whole_walk _ _ _ _ _ _ c.in-Branch.is _ c.child_count-count.ensures _ _ c.if-deep-eq0.false c.if-count-eq0.false
            (walk_stopped _ _ _ _ _ _ _ c.child_count-count.ensures _ _ c.loop-i.invariant.2 c.loop-i-test.true _ c.child_at.ensures
            _ (c.in-Ok-Some.is ∙ ap Ok c.in-Ok-Some.field-0-is) _ _ (emit_leaf _ _ _ _ _ _ _ _ _ _ w.in-Leaf-child.is (moved _ _ _ _ _ w.out-is w.p-is w.give-p.ensures.is)) _ c.stopped.ensures c.if-stopped.true);
        room = room_moved _ _ _ _ w.out-is w.p-is w.give-p.ensures.room;
      }
      | in-Branch-child w ↦ record {
        is = whole_walk _ _ _ _ _ _ c.in-Branch.is _ c.child_count-count.ensures _ _ c.if-deep-eq0.false c.if-count-eq0.false
            (walk_stopped _ _ _ _ _ _ _ c.child_count-count.ensures _ _ c.loop-i.invariant.2 c.loop-i-test.true _ c.child_at.ensures
            _ (c.in-Ok-Some.is ∙ ap Ok c.in-Ok-Some.field-0-is) _ _ (moved _ _ _ _ _ w.out-is w.p-is w.emit-p.ensures.is) _ c.stopped.ensures c.if-stopped.true);
        room = room_moved _ _ _ _ w.out-is w.p-is w.emit-p.ensures.room;
      }
    ]

pub loop-i-preserved : goal.loop-i-preserved
loop-i-preserved t c =
    elim c.match-next.branch [
      | in-Leaf-child w ↦ (
        room_moved _ _ _ _ w.out-is w.p-is w.give-p.ensures.room,
        search rules,
        walk_next _ _ _ _ _ _ _ c.child_count-count.ensures _ _ c.loop-i.invariant.2 c.loop-i-test.true _ c.child_at.ensures
            _ (c.in-Ok-Some.is ∙ ap Ok c.in-Ok-Some.field-0-is) _ _ (emit_leaf _ _ _ _ _ _ _ _ _ _ w.in-Leaf-child.is (moved _ _ _ _ _ w.out-is w.p-is w.give-p.ensures.is)),
      )
      | in-Branch-child w ↦ (
        room_moved _ _ _ _ w.out-is w.p-is w.emit-p.ensures.room,
        search rules,
        walk_next _ _ _ _ _ _ _ c.child_count-count.ensures _ _ c.loop-i.invariant.2 c.loop-i-test.true _ c.child_at.ensures
            _ (c.in-Ok-Some.is ∙ ap Ok c.in-Ok-Some.field-0-is) _ _ (moved _ _ _ _ _ w.out-is w.p-is w.emit-p.ensures.is),
      )
    ]

pub returns-in-Leaf : goal.returns-in-Leaf
returns-in-Leaf t c = record { is = search (emit_leaf, rules); room = search rules }

pub returns-after-loop-i : goal.returns-after-loop-i
returns-after-loop-i t c =
    record {
      is = whole_walk _ _ _ _ _ _ c.in-Branch.is _ c.child_count-count.ensures _ _ c.if-deep-eq0.false c.if-count-eq0.false
          (walk_end _ _ _ _ _ _ _ c.child_count-count.ensures _ _ c.loop-i.invariant.2 c.loop-i-test.false);
      room = search rules;
    }

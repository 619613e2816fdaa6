-- The proof of the cycle of calls {check_node}. The measure is the number of branches that a path may still have. The loop's invariant is an equation: the check of
-- the slots that are left, at the present tally, is the check of all of them from the start.
-- Assumes nothing.
use borrow.Author.Rules.{rules}
use Rattle.audit_tree.proofs.NodeLaws.{node_leaf, node_off, node_end, node_wrong, node_none, node_lost, node_stop, node_going, sound_going, sound_stays}
use Rattle.audit_tree.proofs.tree.+check_node.Goals as goal
use Rattle.audit_tree.proofs.tree.+check_node.Goals.{in-Some+in_ok-kid-in-Branch+in_ok-t-in-Branch, in_default-met}

pub returns-then-left-eq0-clause-is : goal.returns-then-left-eq0-clause-is
returns-then-left-eq0-clause-is t c = search (node_off, rules)

pub returns-in_default-clause-is : goal.returns-in_default-clause-is
returns-in_default-clause-is t c = search (node_wrong, rules)

pub returns-in_err-kid-in-Branch-clause-is : goal.returns-in_err-kid-in-Branch-clause-is
returns-in_err-kid-in-Branch-clause-is t c = search (node_lost, rules)

pub returns-in_err-t-in-Branch-clause-is : goal.returns-in_err-t-in-Branch-clause-is
returns-in_err-t-in-Branch-clause-is t c =
    node_stop _ _ _ _ _ _ _ c.in-Branch.is c.if-left-eq0.false c.if-p-low.false _ _ c.loop-slot.invariant.1 _ c.get_child.ensures
    _ c.in-Ok.is _ c.in-Some.is _ c.check_node.ensures.is _ c.in_ok-kid-in-Branch.was _ c.add_kid.ensures.is c.in_err-t-in-Branch.was _ (search rules)

pub loop-slot-preserved : goal.loop-slot-preserved
loop-slot-preserved t c =
    let branch = c.in-Branch.is in
    let deep = c.if-left-eq0.false in
    let rises = c.if-p-low.false in
    elim c.match-met.branch [
      | in-Some+in_ok-kid-in-Branch+in_ok-t-in-Branch v ↦ (
        sound_going _ _ _ _ _ v.add_kid.ensures.grown v.in_ok-t-in-Branch.was v.t-is,
        node_going _ _ _ _ _ _ _ branch deep rises _ _ c.loop-slot.invariant.1 _ c.get_child.ensures
            _ c.in-Ok.is _ v.in-Some.is _ v.check_node.ensures.is _ v.in_ok-kid-in-Branch.was _ v.add_kid.ensures.is _ v.in_ok-t-in-Branch.was _ v.t-is,
      )
      | in_default-met v ↦ (
        sound_stays _ _ _ _ c.loop-slot.invariant.0 v.t-is,
        node_none _ _ _ _ _ _ _ branch deep rises _ _ c.loop-slot.invariant.1 _ c.get_child.ensures _ c.in-Ok.is v.in_default-met.is _ v.t-is,
      )
    ]

pub returns-in-Leaf-clause-is : goal.returns-in-Leaf-clause-is
returns-in-Leaf-clause-is t c = search (node_leaf, rules)

pub returns-after-loop-slot-clause-is : goal.returns-after-loop-slot-clause-is
returns-after-loop-slot-clause-is t c = search (node_end, rules)

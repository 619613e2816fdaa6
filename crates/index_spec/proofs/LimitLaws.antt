-- "the limit may be set at any time, also on a filled store": an accepted store with another limit in its header is accepted and holds the same tree.
-- Assumes nothing.
use Prim.Native.Nat.{ℕ, ◌≤◌, ◌<◌}
use mathlib.Core.Path.{◌≡◌, sym, ap, subst}
use mathlib.Core.List.{List}
use mathlib.Core.Option.{Option}
use native.Mathlib.Omega.{arith}
use lib.ListN.{get_or}
use Rattle.model.specs.Numbers.{used}
use Rattle.model.specs.Picture.{Tree}
use Rattle.node.specs.Header.{head_in, set_head}
use Rattle.node.specs.declared.header.Header.{Header}
use Rattle.node.proofs.HeaderLaws.{Fits, head_back, length_head, mark_stays, leaf_stays, array_stays}
use Rattle.trie_spec.specs.Accepted.{Accepted}
use Rattle.trie_spec.proofs.AcceptedLaws.{right, few, root_fits, leaf_fits, branch_fits}
use Rattle.trie_spec.proofs.InsertLaws.{right_again}
use Rattle.index_spec.specs.Layout.{with_limit}
use Rattle.index_spec.proofs.SameLaws.{same_accepted}

module _ (st : List ℕ) (o : Option Tree) (a : Accepted st o) (limit : ℕ) (small : limit < 65536) where
  abbrev h : Header
  h = with_limit (head_in st) limit

  limit_fit : Fits h
  limit_fit = record {
    capacity = omega (arith, few st o a);
    limit = small;
    leaves = omega (arith, few st o a, (right st o a).leaves);
    branches = omega (arith, few st o a, (right st o a).branches);
    root = root_fits st o a;
    leaf = leaf_fits st o a;
    branch = branch_fits st o a;
  }

  pub limit_head : head_in (set_head st h) ≡ h
  limit_head = head_back st h (omega (arith, (right st o a).long)) limit_fit

  pub limit_accepted : ((i : ℕ) → i < used (set_head st h) → get_or (set_head st h) i 0 < 256) → Accepted (set_head st h) o
  limit_accepted bytes =
      same_accepted st (set_head st h) limit
      (record { head = sym limit_head; leaf = λ n l. leaf_stays st h n; array = λ n l. array_stays st h n })
      o a bytes
      (right_again st (set_head st h) (right st o a) (length_head st h) (mark_stays st h) (ap (λ (z : Header). z.capacity) limit_head)
      (subst (λ (z : Header). z.leaves ≤ z.capacity) (sym limit_head) (right st o a).leaves)
      (subst (λ (z : Header). z.branches ≤ z.capacity) (sym limit_head) (right st o a).branches))

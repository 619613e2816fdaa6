-- A store whose records are those of an accepted store, and whose header says the same but for the limit, is accepted and holds the same tree.
-- Assumes nothing.
use Prim.Native.Nat.{ℕ, ◌<◌}
use mathlib.Core.Path.{◌≡◌, refl, sym, ap, subst, ◌∙◌}
use mathlib.Core.List.{List}
use mathlib.Core.Option.{Option, none, some}
use lib.ListN.{get_or}
use Rattle.model.specs.Numbers.{used}
use Rattle.model.specs.Picture.{Tree}
use Rattle.pictures.specs.Stored.{HoldsLeft}
use Rattle.pictures.specs.Chain.{Accounted}
use Rattle.pictures.proofs.Frame.{frame}
use Rattle.pictures.proofs.ChainLaws.{account_keep}
use Rattle.sparse_array.specs.Array.{entries}
use Rattle.node.specs.Layout.{last}
use Rattle.node.specs.Header.{head_in, head_of}
use Rattle.node.specs.Leaf.{Leaf, Is, leaf_in}
use Rattle.node.specs.Branch.{array_in}
use Rattle.records.specs.Chain.{Free, leaves as leaf_kind, branches as branch_kind}
use Rattle.node.specs.declared.header.Header.{Header}
use Rattle.trie_spec.specs.Accepted.{memory_of, leaf_uses, branch_uses, Rooted, Accepted}
use Rattle.trie_spec.proofs.AcceptedLaws.{few_last, inside}
use Rattle.trie_spec.proofs.InsertLaws.{leaf_free_same, branch_free_same, branch_next_same}
use Rattle.index_spec.specs.Layout.{with_limit}
use Rattle.std.specs.Prelude.{Ok}

-- the records below the capacity, and the header
pub record Same (st su : List ℕ) (limit : ℕ) : Type 0 where
  pub head : with_limit (head_in st) limit ≡ head_in su
  pub leaf : (n : ℕ) → n < (head_in st).capacity → leaf_in su n ≡ leaf_in st n
  pub array : (n : ℕ) → n < (head_in st).capacity → array_in su n ≡ array_in st n

module _ (st su : List ℕ) (limit : ℕ) (s : Same st su limit) where
  held_same : (o : Option Tree) → Accepted st o → HoldsLeft (memory_of su) o
  held_same none a = tt
  held_same (some t) a =
      frame (memory_of st) (memory_of su) t
      (λ n q k v i. subst (λ (z : Leaf). Is z k v) (sym (s.leaf n ((inside st t a).leaves n q))) i)
      (λ n q r b. ap entries (s.array n ((inside st t a).branches n q)) ∙ b)
      a.held

  module _ (o : Option Tree) (a : Accepted st o) where
    abbrev cap : ℕ
    cap = (head_in st).capacity

    leaves_same : Accounted (Free leaf_kind su cap) (leaf_kind.next su) last (leaf_uses o) (head_in st).leaves cap (head_in st).leaf a.free_leaves
    leaves_same =
        account_keep (Free leaf_kind st cap) (leaf_kind.next st) last (leaf_uses o) (head_in st).leaves cap (few_last st o a)
        (Free leaf_kind su cap) (leaf_kind.next su) (leaf_uses o) (head_in st).leaf a.free_leaves a.leaves
        (λ r. refl)
        (λ n f. (f.0, leaf_free_same st su n (s.leaf n f.0) ∙ f.1))
        (λ n f. ap (λ (z : Leaf). z.next) (s.leaf n f.0))
        (λ n f. (f.0, sym (leaf_free_same st su n (s.leaf n f.0)) ∙ f.1))

    branches_same : Accounted (Free branch_kind su cap) (branch_kind.next su) last (branch_uses o) (head_in st).branches cap (head_in st).branch a.free_branches
    branches_same =
        account_keep (Free branch_kind st cap) (branch_kind.next st) last (branch_uses o) (head_in st).branches cap (few_last st o a)
        (Free branch_kind su cap) (branch_kind.next su) (branch_uses o) (head_in st).branch a.free_branches a.branches
        (λ r. refl)
        (λ n f. (f.0, branch_free_same st su n (s.array n f.0) ∙ f.1))
        (λ n f. branch_next_same st su n (s.array n f.0))
        (λ n f. (f.0, sym (branch_free_same st su n (s.array n f.0)) ∙ f.1))

    pub same_accepted : ((i : ℕ) → i < used su → get_or su i 0 < 256) → head_of su ≡ Ok (head_in su) → Accepted su o
    same_accepted bytes good = record {
      bytes = bytes;
      head = good;
      held = held_same o a;
      rooted = subst (λ (z : Header). Rooted z.root o) s.head a.rooted;
      picture = a.picture;
      free_leaves = a.free_leaves;
      leaves =
          subst (λ (z : Header). Accounted (Free leaf_kind su z.capacity) (leaf_kind.next su) last (leaf_uses o) z.leaves z.capacity z.leaf a.free_leaves) s.head
          leaves_same;
      free_branches = a.free_branches;
      branches =
          subst (λ (z : Header). Accounted (Free branch_kind su z.capacity) (branch_kind.next su) last (branch_uses o) z.branches z.capacity z.branch a.free_branches) s.head
          branches_same;
    }

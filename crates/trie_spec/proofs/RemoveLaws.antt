-- Removal from an accepted store: whoever has written what the cut asks, and given the records back, has an accepted store of the tree without the key.
-- Assumes nothing.
use Prim.Native.Nat.{ℕ, ◌+◌, ◌-◌, ◌≤◌, ◌<◌}
use mathlib.Core.Path.{◌≡◌, refl, sym, ap, subst, ◌∙◌}
use mathlib.Core.Logic.{◌≢◌, ◌⊎◌, inl, inr}
use mathlib.Core.Bool.{true}
use mathlib.Core.List.{List, [], ◌∷◌}
use mathlib.Core.Option.{Option, none, some}
use native.Mathlib.Omega.{arith}
use lib.ListN.{length, get_or}
use Rattle.model.specs.Numbers.{used}
use Rattle.model.specs.Picture.{Tree, closest}
use Rattle.model.proofs.Closest.{Some, closest_some}
use Rattle.pictures.specs.Tree.{remove_t}
use Rattle.pictures.specs.Records.{at, leaf_times, branch_times}
use Rattle.pictures.specs.Stored.{Child, root, Cut, gone, lifts, shrinks, relinks, cut, Touches, Unlinked, root_left, root_of}
use Rattle.pictures.specs.Chain.{Accounted}
use Rattle.pictures.proofs.CallLaws.{remove_pictured}
use Rattle.pictures.proofs.StoredSet.{number_within}
use Rattle.pictures.proofs.StoredRemove.{StoredCut, remove_stored, cut_within}
use Rattle.pictures.proofs.RemoveTally.{freed, tally_left, remove_tally}
use Rattle.pictures.proofs.ChainLaws.{account_give, account_keep}
use Rattle.sparse_array.specs.Array.{entries}
use Rattle.node.specs.Layout.{last}
use Rattle.node.specs.Header.{mark_in, header, head_in}
use Rattle.node.specs.Leaf.{Leaf, Is, leaf_in}
use Rattle.node.specs.Branch.{array_in, children_in}
use Rattle.records.specs.Chain.{Free, leaves as leaf_kind, branches as branch_kind}
use Rattle.records.specs.Create.{no_root}
use Rattle.node.specs.declared.header.Header.{Header}
use Rattle.trie_spec.specs.Accepted.{memory_of, leaf_uses, branch_uses, Rooted, Accepted}
use Rattle.trie_spec.proofs.AcceptedLaws.{right, few_last, inside}
use Rattle.trie_spec.proofs.RowCodes.{item_to}
use Rattle.trie_spec.proofs.InsertLaws.{right_again, leaf_free_same, branch_free_same, branch_next_same, used_branch}

-- the item of the root after a removal
abbrev pub root_item : Option Child → ℕ
root_item none = no_root
root_item (some c) = item_to c

-- the count of branches after a cut, and the first free one
abbrev pub branches_left : Cut → ℕ → ℕ
branches_left gone n = n
branches_left (lifts f c) n = n - 1
branches_left (shrinks m s) n = n
branches_left (relinks m s f c) n = n - 1

abbrev pub first_left : Cut → ℕ → ℕ
first_left gone b = b
first_left (lifts f c) b = f
first_left (shrinks m s) b = b
first_left (relinks m s f c) b = f

-- The header after leaf a is gone.
abbrev pub head_less : Header → ℕ → Cut → ℕ → Header
head_less h a z r = header h.capacity h.limit (h.leaves - 1) (branches_left z h.branches) r a (first_left z h.branch)

-- the branch that a cut frees is free, before the first one that was
abbrev pub Freed : List ℕ → ℕ → Cut → Type 0
Freed st b gone = Unit {0}
Freed st b (lifts f c) = (branch_kind.is_free st f ≡ true) × (branch_kind.next st f ≡ b)
Freed st b (shrinks m s) = Unit {0}
Freed st b (relinks m s f c) = (branch_kind.is_free st f ≡ true) × (branch_kind.next st f ≡ b)

-- a branch that a cut changes and does not free has children
abbrev pub Filled : List ℕ → Cut → Type 0
Filled st gone = Unit {0}
Filled st (lifts f c) = Unit {0}
Filled st (shrinks m s) = children_in st m ≡ [] → ⊥
Filled st (relinks m s f c) = children_in st m ≡ [] → ⊥

-- What has been written, record by record: in a store st whose root is d, leaf a taken out at the cut z.
pub record Took (st st' : List ℕ) (a : ℕ) (d : Child) (z : Cut) : Type 0 where
  pub size : length st' ≡ length st
  pub mark : mark_in st' ≡ mark_in st
  pub head : head_in st' ≡ head_less (head_in st) a z (root_item (root_left z d))
  pub leaf : leaf_kind.is_free st' a ≡ true
  pub leaf_next : leaf_kind.next st' a ≡ (head_in st).leaf
  pub leaves : (m : ℕ) → m ≢ a → leaf_in st' m ≡ leaf_in st m
  pub arrays : (m : ℕ) → (Touches z m → ⊥) → array_in st' m ≡ array_in st m
  pub freed : Freed st' (head_in st).branch z
  pub unlinked : Unlinked (memory_of st) (memory_of st') z
  pub filled : Filled st' z

module _ (st : List ℕ) (t : Tree) (acc : Accepted st (some t)) (k : List ℕ) (stored : k ≡ (closest k t).key) where
  abbrev a : ℕ
  a = (closest k t).number

  has : Some (λ l. k ≡ l) t
  has = closest_some (λ l. k ≡ l) k t acc.picture stored

  reached : 1 ≤ leaf_times a t
  reached = number_within k t acc.picture has

  pub a_below : a < (head_in st).capacity
  a_below = (inside st t acc).leaves a reached

  small : (head_in st).capacity ≤ last
  small = few_last st (some t) acc

  abbrev h : Header
  h = head_in st

  abbrev cap : ℕ
  cap = (head_in st).capacity

  -- the counts of what is left
  uses_leaf : (r : ℕ) → leaf_uses (some t) r ≡ leaf_uses (remove_t k t) r + at r a
  uses_leaf r = go (remove_t k t) (cut k t) (remove_tally (at r) (λ m. 0) k t acc.picture has).sum
    where
      go : (o : Option Tree) (z : Cut) → tally_left (at r) (λ m. 0) k o + (at r a + freed (at r) (λ m. 0) k z) ≡ leaf_times r t → leaf_times r t ≡ leaf_uses o r + at r a
      go none gone e = omega arith
      go none (lifts f c) e = omega arith
      go none (shrinks m s) e = omega arith
      go none (relinks m s f c) e = omega arith
      go (some u) gone e = omega arith
      go (some u) (lifts f c) e = omega arith
      go (some u) (shrinks m s) e = omega arith
      go (some u) (relinks m s f c) e = omega arith

  uses_branch : (r : ℕ) → branch_uses (some t) r ≡ branch_uses (remove_t k t) r + freed (λ m. 0) (at r) k (cut k t)
  uses_branch r = go (remove_t k t) (remove_tally (λ m. 0) (at r) k t acc.picture has).sum
    where
      go : (o : Option Tree) → tally_left (λ m. 0) (at r) k o + (0 + freed (λ m. 0) (at r) k (cut k t)) ≡ branch_times r t → branch_times r t ≡ branch_uses o r + freed (λ m. 0) (at r) k (cut k t)
      go none e = omega arith
      go (some u) e = omega arith

  module _ (st' : List ℕ) (w : Took st st' a (root t) (cut k t)) where
    held : StoredCut (memory_of st) (memory_of st') k t
    held =
        remove_stored (memory_of st) (memory_of st') k t
        (record {
          picture = acc.picture;
          stored = has;
          once_leaf = acc.leaves.once;
          once = acc.branches.once;
          held = acc.held;
          leaves = λ n q d l u i. subst (λ (z : Leaf). Is z l u) (sym (w.leaves n d)) i;
          branches = λ n q c r e. ap entries (w.arrays n c) ∙ e;
          unlinked = w.unlinked;
        })

    same_capacity : (head_in st').capacity ≡ cap
    same_capacity = ap (λ (z : Header). z.capacity) w.head

    leaves_after : Accounted (Free leaf_kind st' cap) (leaf_kind.next st') last (leaf_uses (remove_t k t)) (h.leaves - 1) cap a (a ∷ acc.free_leaves)
    leaves_after =
        account_give (Free leaf_kind st cap) (leaf_kind.next st) last (leaf_uses (some t)) h.leaves cap small
        (Free leaf_kind st' cap) (leaf_kind.next st') (leaf_uses (remove_t k t)) h.leaf a acc.free_leaves acc.leaves uses_leaf
        (a_below, w.leaf) w.leaf_next
        (λ n d f. (f.0, leaf_free_same st st' n (w.leaves n d) ∙ f.1))
        (λ n d f. ap (λ (z : Leaf). z.next) (w.leaves n d))
        (λ n d f. (f.0, sym (leaf_free_same st st' n (w.leaves n d)) ∙ f.1))

    abbrev Uses : Cut → Type 0
    Uses z = (r : ℕ) → branch_uses (some t) r ≡ branch_uses (remove_t k t) r + freed (λ m. 0) (at r) k z

    abbrev Same : Cut → Type 0
    Same z = (m : ℕ) → (Touches z m → ⊥) → array_in st' m ≡ array_in st m

    abbrev Branches : Cut → Type 0
    Branches z = (ys : List ℕ) × Accounted (Free branch_kind st' cap) (branch_kind.next st') last (branch_uses (remove_t k t)) (branches_left z h.branches) cap (first_left z h.branch) ys

    -- a branch record that stays as it was is as free as it was
    up : (n : ℕ) → array_in st' n ≡ array_in st n → Free branch_kind st cap n → Free branch_kind st' cap n
    up n e f = (f.0, branch_free_same st st' n e ∙ f.1)

    down : (n : ℕ) → array_in st' n ≡ array_in st n → Free branch_kind st' cap n → Free branch_kind st cap n
    down n e f = (f.0, sym (branch_free_same st st' n e) ∙ f.1)

    -- no branch is freed
    keep : (z : Cut) → Uses z → ((r : ℕ) → freed (λ m. 0) (at r) k z ≡ 0) → ((n : ℕ) → Free branch_kind st cap n → array_in st' n ≡ array_in st n)
        → ((n : ℕ) → Free branch_kind st' cap n → array_in st' n ≡ array_in st n)
        → Accounted (Free branch_kind st' cap) (branch_kind.next st') last (branch_uses (remove_t k t)) h.branches cap h.branch acc.free_branches
    keep z u e s s' =
        account_keep (Free branch_kind st cap) (branch_kind.next st) last (branch_uses (some t)) h.branches cap small
        (Free branch_kind st' cap) (branch_kind.next st') (branch_uses (remove_t k t)) h.branch acc.free_branches acc.branches
        (λ r. omega (arith, u r, e r)) (λ n f. up n (s n f) f) (λ n f. branch_next_same st st' n (s n f)) (λ n f. down n (s' n f) f)

    -- branch f is freed
    give : (f : ℕ) → f < cap → ((r : ℕ) → branch_uses (some t) r ≡ branch_uses (remove_t k t) r + at r f) → branch_kind.is_free st' f ≡ true → branch_kind.next st' f ≡ h.branch
        → ((n : ℕ) → n ≢ f → Free branch_kind st cap n → array_in st' n ≡ array_in st n) → ((n : ℕ) → n ≢ f → Free branch_kind st' cap n → array_in st' n ≡ array_in st n)
        → Accounted (Free branch_kind st' cap) (branch_kind.next st') last (branch_uses (remove_t k t)) (h.branches - 1) cap f (f ∷ acc.free_branches)
    give f l u i e s s' =
        account_give (Free branch_kind st cap) (branch_kind.next st) last (branch_uses (some t)) h.branches cap small
        (Free branch_kind st' cap) (branch_kind.next st') (branch_uses (remove_t k t)) h.branch f acc.free_branches acc.branches u
        (l, i) e (λ n d q. up n (s n d q) q) (λ n d q. branch_next_same st st' n (s n d q)) (λ n d q. down n (s' n d q) q)

    by_cut : (z : Cut) → Uses z → Same z → Freed st' h.branch z → Filled st' z → ((m : ℕ) → Touches z m → 1 ≤ branch_times m t) → Branches z
    by_cut gone u s f g i = (acc.free_branches, keep gone u (λ r. refl) (λ n q. s n (λ c. c)) (λ n q. s n (λ c. c)))
    by_cut (lifts f c) u s (e, q) g i = (f ∷ acc.free_branches, give f ((inside st t acc).branches f (i f refl)) u e q (λ n d y. s n d) (λ n d y. s n d))
    by_cut (shrinks m o) u s f g i = (
      acc.free_branches,
      keep (shrinks m o) u (λ r. refl)
          (λ n q. s n (λ c. acc.branches.apart n (i n c) q))
          (λ n q. s n (λ c. used_branch st' m g (subst (λ (z : ℕ). branch_kind.is_free st' z ≡ true) c q.1))),
    )
    by_cut (relinks m o f c) u s (e, q) g i = (
      f ∷ acc.free_branches,
      give f ((inside st t acc).branches f (i f (inr refl))) u e q (λ n d y. s n (λ z. was n d y z)) (λ n d y. s n (λ z. now_is n d y z)),
    )
      where
        was : (n : ℕ) → n ≢ f → Free branch_kind st cap n → (n ≡ m) ⊎ (n ≡ f) → ⊥
        was n d y (inl z) = acc.branches.apart n (i n (inl z)) y
        was n d y (inr z) = d z

        now_is : (n : ℕ) → n ≢ f → Free branch_kind st' cap n → (n ≡ m) ⊎ (n ≡ f) → ⊥
        now_is n d y (inl z) = used_branch st' m g (subst (λ (j : ℕ). branch_kind.is_free st' j ≡ true) z y.1)
        now_is n d y (inr z) = d z

    few_left : (z : Cut) → branches_left z h.branches ≤ cap
    few_left gone = (right st (some t) acc).branches
    few_left (lifts f c) = omega (arith, (right st (some t) acc).branches)
    few_left (shrinks m o) = (right st (some t) acc).branches
    few_left (relinks m o f c) = omega (arith, (right st (some t) acc).branches)

    root_left_lem : (o : Option Tree) (r : ℕ) → r ≡ root_item (root_of o) → Rooted r o
    root_left_lem none r e = e
    root_left_lem (some u) r e = e

    pub remove_accepted : ((i : ℕ) → i < used st' → get_or st' i 0 < 256) → Accepted st' (remove_t k t)
    remove_accepted bytes =
        let (ys, bs) = by_cut (cut k t) uses_branch w.arrays w.freed w.filled (λ m c. cut_within k m t c) in
        record {
          bytes = bytes;
          head =
              right_again st st' (right st (some t) acc) w.size w.mark same_capacity
              (subst (λ (z : Header). z.leaves ≤ z.capacity) (sym w.head) (omega (arith, (right st (some t) acc).leaves)))
              (subst (λ (z : Header). z.branches ≤ z.capacity) (sym w.head) (few_left (cut k t)));
          held = held.held;
          rooted = root_left_lem (remove_t k t) (head_in st').root (ap (λ (z : Header). z.root) w.head ∙ ap root_item (sym held.child));
          picture = remove_pictured k (some t) acc.picture;
          free_leaves = a ∷ acc.free_leaves;
          leaves = subst (λ (z : Header). Accounted (Free leaf_kind st' z.capacity) (leaf_kind.next st') last (leaf_uses (remove_t k t)) z.leaves z.capacity z.leaf (a ∷ acc.free_leaves)) (sym w.head) leaves_after;
          free_branches = ys;
          branches = subst (λ (z : Header). Accounted (Free branch_kind st' z.capacity) (branch_kind.next st') last (branch_uses (remove_t k t)) z.branches z.capacity z.branch ys) (sym w.head) bs;
        }

-- Insertion into an accepted store: whoever has written what the site asks, and taken the first free records, has an accepted store of the tree with the key.
-- Assumes nothing.
use Prim.Native.Nat.{ℕ, ◌+◌, ◌≤◌, ◌<◌}
use mathlib.Core.Path.{◌≡◌, refl, sym, ap, subst, ◌∙◌}
use mathlib.Core.Logic.{◌≢◌}
use mathlib.Core.Bool.{Bool, true, false}
use mathlib.Core.List.{List, [], ◌∷◌}
use mathlib.Core.Option.{some}
use native.Mathlib.Omega.{arith}
use native.Mathlib.Decide.{ℕ_discrete}
use lib.Dec.{eqb}
use lib.ListN.{length, get_or}
use borrow.Author.Tests.{eqb-true}
use Rattle.model.specs.Key.{IsKey}
use Rattle.model.specs.Numbers.{used, capacity_of}
use Rattle.model.specs.Nibble.{nibble}
use Rattle.model.specs.Map.{pick}
use Rattle.model.specs.Picture.{Tree, Every, closest}
use Rattle.model.proofs.Closest.{Some, Far, closest_some, closest_far}
use Rattle.model.proofs.KeyLaws.{critical_differs}
use Rattle.pictures.specs.Tree.{New, new_for, insert_at}
use Rattle.pictures.specs.Records.{at, leaf_times, branch_times}
use Rattle.pictures.specs.Stored.{Child, root, Site, site, Changes, Written, root_after}
use Rattle.pictures.specs.Chain.{Accounted}
use Rattle.pictures.proofs.Put.{Put}
use Rattle.pictures.proofs.Insert.{Near, new_near, insert_good}
use Rattle.pictures.proofs.Tally.{fewer_branches, insert_leaf_times, insert_branch_times}
use Rattle.pictures.proofs.SiteLaws.{is_grow, grows_passed}
use Rattle.pictures.proofs.StoredInsert.{Stored, insert_stored, site_within}
use Rattle.pictures.proofs.ChainLaws.{some_free, account_take, account_keep}
use Rattle.sparse_array.specs.Array.{entries}
use Rattle.node.specs.Layout.{last, free_size}
use Rattle.node.specs.Child.{item_of}
use Rattle.node.specs.Header.{mark_in, header, head_in, head_of}
use Rattle.node.specs.Leaf.{Leaf, Is, leaf_in}
use Rattle.node.specs.Branch.{array_in, children_in}
use Rattle.records.specs.Chain.{Free, leaves as leaf_kind, branches as branch_kind}
use Rattle.node.specs.declared.header.Header.{Header}
use Rattle.std.specs.Prelude.{Ok}
use Rattle.node.proofs.HeaderLaws.{Right, right_good}
use Rattle.trie_spec.specs.Accepted.{link_to, memory_of, leaf_uses, branch_uses, Accepted}
use Rattle.trie_spec.proofs.AcceptedLaws.{right, few_last, leaf_count_lem, branch_count_lem}

-- a header is right again where the mark, the capacity and the length are as they were
pub right_again : (st st' : List ℕ) → Right st (head_in st) → length st' ≡ length st → mark_in st' ≡ mark_in st → (head_in st').capacity ≡ (head_in st).capacity
    → (head_in st').leaves ≤ (head_in st').capacity → (head_in st').branches ≤ (head_in st').capacity → head_of st' ≡ Ok (head_in st')
right_again st st' r l m c ls bs = right_good st' (head_in st') (record {
  is = refl;
  long = omega (arith, r.long);
  mark = m ∙ r.mark;
  capacity = c ∙ r.capacity ∙ ap capacity_of (sym l);
  leaves = ls;
  branches = bs;
})

-- of records that did not change
pub leaf_free_same : (st st' : List ℕ) (n : ℕ) → leaf_in st' n ≡ leaf_in st n → leaf_kind.is_free st' n ≡ leaf_kind.is_free st n
leaf_free_same st st' n e = ap (λ (z : Leaf). eqb z.size free_size) e

pub branch_free_same : (st st' : List ℕ) (n : ℕ) → array_in st' n ≡ array_in st n → branch_kind.is_free st' n ≡ branch_kind.is_free st n
branch_free_same st st' n e = rw e

pub branch_next_same : (st st' : List ℕ) (n : ℕ) → array_in st' n ≡ array_in st n → branch_kind.next st' n ≡ branch_kind.next st n
branch_next_same st st' n e = rw e

-- a record in use is not marked as free
pub used_leaf : (st : List ℕ) (n : ℕ) (k : List ℕ) (v : ℕ) → Is (leaf_in st n) k v → leaf_kind.is_free st n ≡ true → ⊥
used_leaf st n k v i e = omega (arith, eqb-true (leaf_in st n).size free_size e, i.size, i.fits)

pub used_branch : (st : List ℕ) (n : ℕ) → (children_in st n ≡ [] → ⊥) → branch_kind.is_free st n ≡ true → ⊥
used_branch st n ne e = ne (nothing (children_in st n) (eqb-true (length (children_in st n)) 0 e))
  where
    nothing : (es : List (ℕ × ℕ)) → length es ≡ 0 → es ≡ []
    nothing [] q = refl
    nothing (x ∷ es) q = absurd (omega arith)

-- The header after an insertion: one leaf more, and one branch more unless one grew.
abbrev pub head_after : List ℕ → Header → Bool → ℕ → Header
head_after st h grown r =
    header h.capacity h.limit (h.leaves + 1) (pick grown h.branches (h.branches + 1)) r (leaf_kind.next st h.leaf) (pick grown h.branch (branch_kind.next st h.branch))

-- What has been written, record by record: in a store st whose root is d, of the key of x, at the site z.
pub record Wrote (st st' : List ℕ) (x : New) (d : Child) (z : Site) : Type 0 where
  pub size : length st' ≡ length st
  pub mark : mark_in st' ≡ mark_in st
  pub head : head_in st' ≡ head_after st (head_in st) (is_grow z) (item_of (link_to (root_after x z d)))
  pub leaf : Is (leaf_in st' x.leaf_no) x.key x.value
  pub leaves : (m : ℕ) → m ≢ x.leaf_no → leaf_in st' m ≡ leaf_in st m
  pub arrays : (m : ℕ) → (is_grow z ≡ false → m ≢ x.branch_no) → (Changes z m → ⊥) → array_in st' m ≡ array_in st m
  pub written : Written (memory_of st) (memory_of st') x z
  pub filled : (m : ℕ) → Changes z m → children_in st' m ≡ [] → ⊥
  pub forked : is_grow z ≡ false → children_in st' x.branch_no ≡ [] → ⊥

module _ (st : List ℕ) (t : Tree) (acc : Accepted st (some t)) (k : List ℕ) (v : ℕ) (is_key : IsKey k) (new : k ≢ (closest k t).key) where
  abbrev pub x : New
  x = new_for (head_in st).leaf (head_in st).branch k v (closest k t).key

  pub differs : nibble k x.place ≢ nibble (closest k t).key x.place
  differs = critical_differs k (closest k t).key new

  pub near : Some (Near x) t
  near = closest_some (Near x) k t acc.picture (new_near (head_in st).leaf (head_in st).branch k v (closest k t).key)

  pub far : Every (Far k x.place) t
  far = closest_far k x.place t acc.picture differs

module _ (st : List ℕ) (t : Tree) (acc : Accepted st (some t)) (k : List ℕ) (v : ℕ) (is_key : IsKey k) (new : k ≢ (closest k t).key)
    (room : (head_in st).leaves < (head_in st).capacity) where
  abbrev y : New
  y = x st t acc k v is_key new

  abbrev grown : Bool
  grown = is_grow (site y t)

  small : (head_in st).capacity ≤ last
  small = few_last st (some t) acc

  pub free_leaf_lem : (ys : List ℕ) × (acc.free_leaves ≡ (head_in st).leaf ∷ ys) × Free leaf_kind st (head_in st).capacity (head_in st).leaf × ((head_in st).leaf < (head_in st).capacity) × (leaf_times (head_in st).leaf t ≡ 0)
  free_leaf_lem = some_free (Free leaf_kind st (head_in st).capacity) (leaf_kind.next st) last (leaf_uses (some t)) (head_in st).leaves (head_in st).capacity small (head_in st).leaf acc.free_leaves acc.leaves room

  pub branch_room : (head_in st).branches < (head_in st).capacity
  branch_room = omega (arith, branch_count_lem st t acc, fewer_branches t acc.picture, leaf_count_lem st t acc, room)

  pub free_branch_lem : (ys : List ℕ) × (acc.free_branches ≡ (head_in st).branch ∷ ys) × Free branch_kind st (head_in st).capacity (head_in st).branch × ((head_in st).branch < (head_in st).capacity) × (branch_times (head_in st).branch t ≡ 0)
  free_branch_lem = some_free (Free branch_kind st (head_in st).capacity) (branch_kind.next st) last (branch_uses (some t)) (head_in st).branches (head_in st).capacity small (head_in st).branch acc.free_branches acc.branches branch_room

  module _ (st' : List ℕ) (w : Wrote st st' y (root t) (site y t)) where
    other_leaf : (n : ℕ) → 1 ≤ leaf_times n t → n ≢ (head_in st).leaf
    other_leaf n h e = omega (arith, h, subst (λ (z : ℕ). leaf_times z t ≡ 0) (sym e) free_leaf_lem.4)

    other_branch : (n : ℕ) → 1 ≤ branch_times n t → n ≢ (head_in st).branch
    other_branch n h e = omega (arith, h, subst (λ (z : ℕ). branch_times z t ≡ 0) (sym e) free_branch_lem.4)

    stored : Stored (memory_of st) (memory_of st') y t
    stored =
        insert_stored (memory_of st) (memory_of st') y t
        (record {
          picture = acc.picture;
          near = (near st t acc k v is_key new);
          far = (far st t acc k v is_key new);
          once = acc.branches.once;
          held = acc.held;
          leaf = w.leaf;
          leaves = λ n h l u i. subst (λ (z : Leaf). Is z l u) (sym (w.leaves n (other_leaf n h))) i;
          branches = λ n h c r e. ap entries (w.arrays n (λ g. other_branch n h) c) ∙ e;
          written = w.written;
        })

    pub inserted : Put k v t (insert_at y t)
    inserted = insert_good y is_key (differs st t acc k v is_key new) t acc.picture (near st t acc k v is_key new) (far st t acc k v is_key new)

    same_capacity : (head_in st').capacity ≡ (head_in st).capacity
    same_capacity = ap (λ (z : Header). z.capacity) w.head

    -- the leaf records
    taken_leaf_lem : Free leaf_kind st' (head_in st).capacity (head_in st).leaf → ⊥
    taken_leaf_lem f = used_leaf st' (head_in st).leaf k v w.leaf f.1

    down_leaf : (n : ℕ) → Free leaf_kind st' (head_in st).capacity n → Free leaf_kind st (head_in st).capacity n
    down_leaf n f = go (ℕ_discrete n (head_in st).leaf)
      where
        go : Dec (n ≡ (head_in st).leaf) → Free leaf_kind st (head_in st).capacity n
        go (yes e) = absurd (taken_leaf_lem (subst (Free leaf_kind st' (head_in st).capacity) e f))
        go (no d) = (f.0, sym (leaf_free_same st st' n (w.leaves n d)) ∙ f.1)

    leaves_after : Accounted (Free leaf_kind st' (head_in st).capacity) (leaf_kind.next st') last (leaf_uses (some (insert_at y t))) ((head_in st).leaves + 1) (head_in st).capacity (leaf_kind.next st (head_in st).leaf) free_leaf_lem.0
    leaves_after =
        account_take (Free leaf_kind st (head_in st).capacity) (leaf_kind.next st) last (leaf_uses (some t)) (head_in st).leaves (head_in st).capacity small
        (Free leaf_kind st' (head_in st).capacity) (leaf_kind.next st') (leaf_uses (some (insert_at y t))) (head_in st).leaf (head_in st).leaf free_leaf_lem.0
        (subst (Accounted (Free leaf_kind st (head_in st).capacity) (leaf_kind.next st) last (leaf_uses (some t)) (head_in st).leaves (head_in st).capacity (head_in st).leaf) free_leaf_lem.1 acc.leaves)
        (insert_leaf_times y (differs st t acc k v is_key new) t acc.picture (near st t acc k v is_key new) (far st t acc k v is_key new))
        (λ n d f. (f.0, leaf_free_same st st' n (w.leaves n d) ∙ f.1))
        (λ n d f. ap (λ (z : Leaf). z.next) (w.leaves n d))
        down_leaf taken_leaf_lem

    -- the branch records
    changed_used : (n : ℕ) → Changes (site y t) n → Free branch_kind st (head_in st).capacity n → ⊥
    changed_used n c f = acc.branches.apart n (site_within y n t c) f

    down_branch : (n : ℕ) → Free branch_kind st' (head_in st).capacity n → (Changes (site y t) n → ⊥) → (grown ≡ false → n ≢ (head_in st).branch) → Free branch_kind st (head_in st).capacity n
    down_branch n f c d = (f.0, sym (branch_free_same st st' n (w.arrays n d c)) ∙ f.1)

    not_changed : (n : ℕ) → Free branch_kind st' (head_in st).capacity n → Changes (site y t) n → ⊥
    not_changed n f c = used_branch st' n (w.filled n c) f.1

    branches_after : (g : Bool) → grown ≡ g
        → (ys : List ℕ) × Accounted (Free branch_kind st' (head_in st).capacity) (branch_kind.next st') last (branch_uses (some (insert_at y t))) (pick g (head_in st).branches ((head_in st).branches + 1)) (head_in st).capacity
        (pick g (head_in st).branch (branch_kind.next st (head_in st).branch)) ys
    branches_after true e = (
      acc.free_branches,
      account_keep (Free branch_kind st (head_in st).capacity) (branch_kind.next st) last (branch_uses (some t)) (head_in st).branches (head_in st).capacity small
          (Free branch_kind st' (head_in st).capacity) (branch_kind.next st') (branch_uses (some (insert_at y t))) (head_in st).branch acc.free_branches acc.branches
          (λ r. uses r)
          (λ n f. (f.0, branch_free_same st st' n (same n f) ∙ f.1))
          (λ n f. branch_next_same st st' n (same n f))
          (λ n f. down_branch n f (not_changed n f) (λ q. never q)),
    )
      where
        never : {A : Type 0} → grown ≡ false → A
        never q = absurd (let z : ◌≡◌ {A = ℕ} 0 1 = cc in omega arith)

        same : (n : ℕ) → Free branch_kind st (head_in st).capacity n → array_in st' n ≡ array_in st n
        same n f = w.arrays n (λ q. never q) (λ c. changed_used n c f)

        uses : (r : ℕ) → branch_times r (insert_at y t) ≡ branch_times r t
        uses r =
            insert_branch_times y (differs st t acc k v is_key new) t acc.picture (near st t acc k v is_key new) (far st t acc k v is_key new) r
            ∙ ap (λ (b : Bool). branch_times r t + pick b 0 (at r (head_in st).branch)) (sym (grows_passed y t acc.picture (near st t acc k v is_key new)) ∙ e)
            ∙ omega arith
    branches_after false e = (
      free_branch_lem.0,
      account_take (Free branch_kind st (head_in st).capacity) (branch_kind.next st) last (branch_uses (some t)) (head_in st).branches (head_in st).capacity small
          (Free branch_kind st' (head_in st).capacity) (branch_kind.next st') (branch_uses (some (insert_at y t))) (head_in st).branch (head_in st).branch free_branch_lem.0
          (subst (Accounted (Free branch_kind st (head_in st).capacity) (branch_kind.next st) last (branch_uses (some t)) (head_in st).branches (head_in st).capacity (head_in st).branch) free_branch_lem.1 acc.branches)
          (λ r. uses r)
          (λ n d f. (f.0, branch_free_same st st' n (same n d f) ∙ f.1))
          (λ n d f. branch_next_same st st' n (same n d f))
          (λ n f. down_branch n f (not_changed n f) (λ q. away n f))
          (λ f. used_branch st' (head_in st).branch (w.forked e) f.1),
    )
      where
        same : (n : ℕ) → n ≢ (head_in st).branch → Free branch_kind st (head_in st).capacity n → array_in st' n ≡ array_in st n
        same n d f = w.arrays n (λ q. d) (λ c. changed_used n c f)

        away : (n : ℕ) → Free branch_kind st' (head_in st).capacity n → n ≢ (head_in st).branch
        away n f q = used_branch st' (head_in st).branch (w.forked e) (subst (λ (z : ℕ). branch_kind.is_free st' z ≡ true) q f.1)

        uses : (r : ℕ) → branch_times r (insert_at y t) ≡ branch_times r t + at r (head_in st).branch
        uses r =
            insert_branch_times y (differs st t acc k v is_key new) t acc.picture (near st t acc k v is_key new) (far st t acc k v is_key new) r
            ∙ ap (λ (b : Bool). branch_times r t + pick b 0 (at r (head_in st).branch)) (sym (grows_passed y t acc.picture (near st t acc k v is_key new)) ∙ e)

    few_branches : (g : Bool) → pick g (head_in st).branches ((head_in st).branches + 1) ≤ (head_in st).capacity
    few_branches true = omega (arith, branch_room)
    few_branches false = omega (arith, branch_room)

    pub insert_accepted : ((i : ℕ) → i < used st' → get_or st' i 0 < 256) → Accepted st' (some (insert_at y t))
    insert_accepted bytes =
        let (ys, bs) = branches_after grown refl in
        record {
          bytes = bytes;
          head = right_again st st' (right st (some t) acc) w.size w.mark same_capacity
              (subst (λ (z : Header). z.leaves ≤ z.capacity) (sym w.head) (omega arith))
              (subst (λ (z : Header). z.branches ≤ z.capacity) (sym w.head) (few_branches grown));
          held = stored.held;
          rooted = ap (λ (z : Header). z.root) w.head ∙ ap (λ c. item_of (link_to c)) (sym stored.child);
          picture = inserted.picture;
          free_leaves = free_leaf_lem.0;
          leaves = subst (λ (z : Header). Accounted (Free leaf_kind st' z.capacity) (leaf_kind.next st') last (leaf_uses (some (insert_at y t))) z.leaves z.capacity z.leaf free_leaf_lem.0) (sym w.head) leaves_after;
          free_branches = ys;
          branches = subst (λ (z : Header). Accounted (Free branch_kind st' z.capacity) (branch_kind.next st') last (branch_uses (some (insert_at y t))) z.branches z.capacity z.branch ys) (sym w.head) bs;
        }

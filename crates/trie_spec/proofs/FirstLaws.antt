-- The first key of an empty store, and a stored key's value replaced. Assumes nothing.
use Prim.Native.Nat.{ℕ, ◌+◌, ◌≤◌, ◌<◌}
use mathlib.Core.Path.{◌≡◌, refl, sym, ap, subst, ◌∙◌}
use mathlib.Core.Logic.{◌≢◌}
use mathlib.Core.Bool.{true}
use mathlib.Core.List.{List, ◌∷◌}
use mathlib.Core.Option.{none, some}
use native.Mathlib.Omega.{arith}
use native.Mathlib.Decide.{ℕ_discrete}
use lib.ListN.{length, get_or}
use Rattle.model.specs.Key.{IsKey}
use Rattle.model.specs.Numbers.{used, value_bound}
use Rattle.model.specs.Picture.{Tree, leaf, closest}
use Rattle.model.proofs.Closest.{Some, closest_some}
use Rattle.pictures.specs.Tree.{set_t}
use Rattle.pictures.specs.Records.{at}
use Rattle.pictures.specs.Chain.{Accounted}
use Rattle.pictures.proofs.Overwrite.{set_good}
use Rattle.pictures.proofs.StoredSet.{AskedSet, set_stored, number_within}
use Rattle.pictures.proofs.SetTally.{set_tally, set_root_lem}
use Rattle.pictures.proofs.ChainLaws.{some_free, account_take, account_keep}
use Rattle.sparse_array.specs.Array.{entries}
use Rattle.node.specs.Layout.{last}
use Rattle.node.specs.Child.{item_of, to_leaf as leaf_link}
use Rattle.node.specs.Header.{head_in, set_head}
use Rattle.node.specs.Leaf.{Leaf, Is, leaf_in, set_leaf, set_value}
use Rattle.node.specs.Branch.{array_in}
use Rattle.records.specs.Chain.{Free, leaves as leaf_kind, branches as branch_kind}
use Rattle.node.specs.declared.header.Header.{Header}
use Rattle.node.proofs.ChildLaws.{item_fits}
use Rattle.node.proofs.HeaderLaws.{Fits, head_back, length_head, mark_stays, leaf_stays, array_stays, block_in}
use Rattle.node.proofs.RecordLaws.{LeafWritten, leaf_written, leaf_is, leaf_arrays, value_written, value_is}
use Rattle.trie_spec.specs.Accepted.{link_to, memory_of, leaf_uses, branch_uses, Accepted}
use Rattle.trie_spec.specs.Writes.{with_root}
use Rattle.trie_spec.proofs.AcceptedLaws.{right, few, few_last, some_room, fits, no_leaves, inside, limit_fits, branch_fits, leaf_next_fits}
use Rattle.trie_spec.proofs.HeldLaws.{hits}
use Rattle.trie_spec.proofs.InsertLaws.{right_again, leaf_free_same, branch_free_same, branch_next_same, used_leaf}

-- ---- an empty store

module _ (st : List ℕ) (acc : Accepted st none) where
  abbrev a : ℕ
  a = (head_in st).leaf

  small : (head_in st).capacity ≤ last
  small = few_last st none acc

  pub room : (head_in st).leaves < (head_in st).capacity
  room = omega (arith, no_leaves st acc, some_room st none acc)

  pub first_free : (ys : List ℕ) × (acc.free_leaves ≡ a ∷ ys) × Free leaf_kind st (head_in st).capacity a × (a < (head_in st).capacity) × (◌≡◌ {A = ℕ} 0 0)
  first_free = some_free (Free leaf_kind st (head_in st).capacity) (leaf_kind.next st) last (leaf_uses none) (head_in st).leaves (head_in st).capacity small a acc.free_leaves acc.leaves room

  -- the header after the first key
  abbrev pub first_head : Header
  first_head = with_root (leaf_kind.with (head_in st) (leaf_kind.next st a) ((head_in st).leaves + 1)) (item_of (leaf_link a 0))

  first_fits : Fits first_head
  first_fits = record {
    capacity = omega (arith, few st none acc);
    limit = limit_fits st none acc;
    leaves = omega (arith, few st none acc, room);
    branches = omega (arith, few st none acc, (right st none acc).branches);
    root = item_fits (leaf_link a 0) (omega (arith, few st none acc, first_free.3)) (omega arith);
    leaf = leaf_next_fits st none acc a first_free.3;
    branch = branch_fits st none acc;
  }

  module _ (k : List ℕ) (v : ℕ) (is_key : IsKey k) (is-value : v < value_bound) where
    abbrev s₁ : List ℕ
    s₁ = set_leaf st a k v

    abbrev pub first_bytes : List ℕ
    first_bytes = set_head s₁ first_head

    one : LeafWritten a st s₁
    one = leaf_written st a k v is_key.fits

    pub first_size : length first_bytes ≡ length st
    first_size = length_head s₁ first_head ∙ one.others.size

    pub first_head_lem : head_in first_bytes ≡ first_head
    first_head_lem = head_back s₁ first_head (omega (arith, one.others.size, fits st none acc)) first_fits

    other : (n : ℕ) → n ≢ a → leaf_in first_bytes n ≡ leaf_in st n
    other n d = leaf_stays s₁ first_head n ∙ one.others.leaves n d

    is : Is (leaf_in first_bytes a) k v
    is =
        subst (λ (z : Leaf). Is z k v) (sym (leaf_stays s₁ first_head a))
        (leaf_is st a (block_in st (head_in st).capacity a (fits st none acc) first_free.3) k v is_key.fits is-value)

    taken : Free leaf_kind first_bytes (head_in st).capacity a → ⊥
    taken f = used_leaf first_bytes a k v is f.1

    down : (n : ℕ) → Free leaf_kind first_bytes (head_in st).capacity n → Free leaf_kind st (head_in st).capacity n
    down n f = go (ℕ_discrete n a)
      where
        go : Dec (n ≡ a) → Free leaf_kind st (head_in st).capacity n
        go (yes e) = absurd (taken (subst (Free leaf_kind first_bytes (head_in st).capacity) e f))
        go (no d) = (f.0, sym (leaf_free_same st first_bytes n (other n d)) ∙ f.1)

    same_array : (n : ℕ) → array_in first_bytes n ≡ array_in st n
    same_array n = array_stays s₁ first_head n ∙ leaf_arrays one n

    pub first_accepted : ((i : ℕ) → i < used first_bytes → get_or first_bytes i 0 < 256) → Accepted first_bytes (some (leaf a k v))
    first_accepted bytes = record {
      bytes = bytes;
      head =
          right_again st first_bytes (right st none acc) first_size (mark_stays s₁ first_head ∙ one.others.mark) (ap (λ (z : Header). z.capacity) first_head_lem)
          (subst (λ (z : Header). z.leaves ≤ z.capacity) (sym first_head_lem) (omega (arith, room)))
          (subst (λ (z : Header). z.branches ≤ z.capacity) (sym first_head_lem) (right st none acc).branches);
      held = is;
      rooted = ap (λ (z : Header). z.root) first_head_lem;
      picture = is_key;
      free_leaves = first_free.0;
      leaves =
          subst (λ (z : Header). Accounted (Free leaf_kind first_bytes z.capacity) (leaf_kind.next first_bytes) last (leaf_uses (some (leaf a k v))) z.leaves z.capacity z.leaf first_free.0) (sym first_head_lem)
          (account_take (Free leaf_kind st (head_in st).capacity) (leaf_kind.next st) last (leaf_uses none) (head_in st).leaves (head_in st).capacity small
          (Free leaf_kind first_bytes (head_in st).capacity) (leaf_kind.next first_bytes) (leaf_uses (some (leaf a k v))) a a first_free.0
          (subst (Accounted (Free leaf_kind st (head_in st).capacity) (leaf_kind.next st) last (leaf_uses none) (head_in st).leaves (head_in st).capacity a) first_free.1 acc.leaves)
          (λ r. omega arith)
          (λ n d f. (f.0, leaf_free_same st first_bytes n (other n d) ∙ f.1))
          (λ n d f. ap (λ (z : Leaf). z.next) (other n d))
          down taken);
      free_branches = acc.free_branches;
      branches =
          subst (λ (z : Header). Accounted (Free branch_kind first_bytes z.capacity) (branch_kind.next first_bytes) last (branch_uses (some (leaf a k v))) z.branches z.capacity z.branch acc.free_branches) (sym first_head_lem)
          (account_keep (Free branch_kind st (head_in st).capacity) (branch_kind.next st) last (branch_uses none) (head_in st).branches (head_in st).capacity small
          (Free branch_kind first_bytes (head_in st).capacity) (branch_kind.next first_bytes) (branch_uses (some (leaf a k v))) (head_in st).branch acc.free_branches acc.branches
          (λ r. refl)
          (λ n f. (f.0, branch_free_same st first_bytes n (same_array n) ∙ f.1))
          (λ n f. branch_next_same st first_bytes n (same_array n))
          (λ n f. (f.0, sym (branch_free_same st first_bytes n (same_array n)) ∙ f.1)));
    }

-- ---- a stored key

module _ (st : List ℕ) (t : Tree) (acc : Accepted st (some t)) (k : List ℕ) (v : ℕ) (is_key : IsKey k) (is-value : v < value_bound) (stored : k ≡ (closest k t).key) where
  abbrev n : ℕ
  n = (closest k t).number

  abbrev pub set_bytes : List ℕ
  set_bytes = set_value st n v

  one_value : LeafWritten n st set_bytes
  one_value = value_written st n v

  has : Some (λ l. k ≡ l) t
  has = closest_some (λ l. k ≡ l) k t acc.picture stored

  pub n_below : n < (head_in st).capacity
  n_below = (inside st t acc).leaves n (number_within k t acc.picture has)

  was : (u : ℕ) × Is (leaf_in st n) k u
  was =
      let (u, i, g) = hits st (head_in st).capacity (few st (some t) acc) k t acc.held acc.picture in
      (u, subst (λ (z : List ℕ). Is (leaf_in st n) z u) (sym stored) i)

  now_is : Is (leaf_in set_bytes n) k v
  now_is = value_is st n (block_in st (head_in st).capacity n (fits st (some t) acc) n_below) v k was.0 is-value was.1

  asked : AskedSet (memory_of st) (memory_of set_bytes) k v t
  asked = record {
    picture = acc.picture;
    stored = has;
    once = acc.leaves.once;
    held = acc.held;
    leaf = now_is;
    leaves = λ m h d l u i. subst (λ (z : Leaf). Is z l u) (sym (one_value.others.leaves m d)) i;
    branches = λ m h r e. ap entries (leaf_arrays one_value m) ∙ e;
  }

  low : (head_in st).capacity ≤ last
  low = few_last st (some t) acc

  pub set_head_lem : head_in set_bytes ≡ head_in st
  set_head_lem = one_value.others.head

  pub set_size : length set_bytes ≡ length st
  set_size = one_value.others.size

  away : (m : ℕ) → Free leaf_kind st (head_in st).capacity m → m ≢ n
  away m f e = used_leaf st n k was.0 was.1 (subst (λ (z : ℕ). leaf_kind.is_free st z ≡ true) e f.1)

  away_now : (m : ℕ) → Free leaf_kind set_bytes (head_in st).capacity m → m ≢ n
  away_now m f e = used_leaf set_bytes n k v now_is (subst (λ (z : ℕ). leaf_kind.is_free set_bytes z ≡ true) e f.1)

  pub set_accepted : ((i : ℕ) → i < used set_bytes → get_or set_bytes i 0 < 256) → Accepted set_bytes (some (set_t k v t))
  set_accepted bytes = record {
    bytes = bytes;
    head =
        right_again st set_bytes (right st (some t) acc) set_size one_value.others.mark (ap (λ (z : Header). z.capacity) set_head_lem)
        (subst (λ (z : Header). z.leaves ≤ z.capacity) (sym set_head_lem) (right st (some t) acc).leaves)
        (subst (λ (z : Header). z.branches ≤ z.capacity) (sym set_head_lem) (right st (some t) acc).branches);
    held = set_stored (memory_of st) (memory_of set_bytes) k v t asked;
    rooted = ap (λ (z : Header). z.root) set_head_lem ∙ acc.rooted ∙ ap (λ c. item_of (link_to c)) (sym (set_root_lem k v t));
    picture = (set_good k v t acc.picture has).picture;
    free_leaves = acc.free_leaves;
    leaves =
        subst (λ (z : Header). Accounted (Free leaf_kind set_bytes z.capacity) (leaf_kind.next set_bytes) last (leaf_uses (some (set_t k v t))) z.leaves z.capacity z.leaf acc.free_leaves) (sym set_head_lem)
        (account_keep (Free leaf_kind st (head_in st).capacity) (leaf_kind.next st) last (leaf_uses (some t)) (head_in st).leaves (head_in st).capacity low
        (Free leaf_kind set_bytes (head_in st).capacity) (leaf_kind.next set_bytes) (leaf_uses (some (set_t k v t))) (head_in st).leaf acc.free_leaves acc.leaves
        (λ r. set_tally (at r) (λ m p. 0) k v t)
        (λ m f. (f.0, leaf_free_same st set_bytes m (one_value.others.leaves m (away m f)) ∙ f.1))
        (λ m f. ap (λ (z : Leaf). z.next) (one_value.others.leaves m (away m f)))
        (λ m f. (f.0, sym (leaf_free_same st set_bytes m (one_value.others.leaves m (away_now m f))) ∙ f.1)));
    free_branches = acc.free_branches;
    branches =
        subst (λ (z : Header). Accounted (Free branch_kind set_bytes z.capacity) (branch_kind.next set_bytes) last (branch_uses (some (set_t k v t))) z.branches z.capacity z.branch acc.free_branches) (sym set_head_lem)
        (account_keep (Free branch_kind st (head_in st).capacity) (branch_kind.next st) last (branch_uses (some t)) (head_in st).branches (head_in st).capacity low
        (Free branch_kind set_bytes (head_in st).capacity) (branch_kind.next set_bytes) (branch_uses (some (set_t k v t))) (head_in st).branch acc.free_branches acc.branches
        (λ r. set_tally (λ m. 0) (λ m p. at r m) k v t)
        (λ m f. (f.0, branch_free_same st set_bytes m (leaf_arrays one_value m) ∙ f.1))
        (λ m f. branch_next_same st set_bytes m (leaf_arrays one_value m))
        (λ m f. (f.0, sym (branch_free_same st set_bytes m (leaf_arrays one_value m)) ∙ f.1)));
  }

-- Insertion into an accepted store: the answer is the one of the tree that it holds, and the store after it is accepted and holds the tree with the key.
-- Assumes nothing.
use Prim.Native.Nat.{ℕ, suc, ◌+◌, ◌≤◌, ◌<◌}
use mathlib.Core.Path.{◌≡◌, refl, sym, ap, subst, ◌∙◌}
use mathlib.Core.Logic.{◌≢◌}
use mathlib.Core.Bool.{Bool, true, false, not, ◌&&◌}
use mathlib.Core.List.{List}
use mathlib.Core.Option.{Option, none, some}
use native.Mathlib.Omega.{arith}
use native.Mathlib.Decide.{dec_lt}
use lib.Dec.{leb, eqb}
use lib.ListN.{length, get_or}
use borrow.Author.Tests.{lt-ltb, lt-leb, le-leb, eq-eqb, ne_eqb}
use Rattle.model.specs.Key.{key_limit, IsKey}
use Rattle.model.specs.Numbers.{used, value_bound}
use Rattle.model.specs.Nibble.{nibble, critical}
use Rattle.model.specs.Answers.{Answer, DONE, REPLACED, STORE, HEIGHT, FULL, number}
use Rattle.model.specs.Map.{pick}
use Rattle.model.specs.Picture.{Tree, leaf, branch, StartsAt, listing, member, closest, too_long, too_high}
use Rattle.model.proofs.KeyLaws.{key_discrete, key_same, key_other}
use Rattle.model.proofs.Unique.{listing_some}
use Rattle.model.proofs.Bounds.{picture_keys}
use Rattle.model.proofs.Height.{critical_bound}
use Rattle.model.proofs.Closest.{closest_every}
use Rattle.model.proofs.NibbleAt.{nibble_slot}
use Rattle.pictures.specs.Tree.{New, new_slot}
use Rattle.pictures.specs.Calls.{insert_answer, insert_root}
use Rattle.pictures.specs.Stored.{Child, root, Site, whole, grows, under, site, Changes}
use Rattle.pictures.proofs.Tally.{leaves_length}
use Rattle.pictures.proofs.SiteLaws.{is_grow, grows_passed}
use Rattle.pictures.proofs.StoredInsert.{site_within}
use Rattle.node.specs.Child.{item_of, to_leaf as leaf_link, to_branch as branch_link}
use Rattle.node.specs.Header.{head_in, set_head}
use Rattle.node.specs.Leaf.{leaf_in, set_leaf, set_value}
use Rattle.node.specs.Branch.{set_child}
use Rattle.records.specs.Chain.{Free, leaves as leaf_kind, branches as branch_kind, taken}
use Rattle.node.specs.declared.header.Header.{Header}
use Rattle.node.proofs.ChildLaws.{item_fits}
use Rattle.node.proofs.HeaderLaws.{Fits}
use Rattle.trie_spec.specs.Accepted.{link_to, Accepted}
use Rattle.trie_spec.specs.Walk.{steps, step, walk, first}
use Rattle.trie_spec.specs.Writes.{with_root, relinked, joined, Outcome, outcome, insert_in, put_near, placed, hung, forked, Put}
use Rattle.trie_spec.specs.declared.insert.Inserted.TheVariants.{New as Added, Replaced}
use Rattle.trie_spec.specs.declared.insert.PutError.TheVariants.{Store, Height, Full}
use Rattle.trie_spec.specs.declared.descent.Spot.{Spot}
use Rattle.trie_spec.specs.declared.descent.Spot.TheVariants.{Root, Under}
use Rattle.trie_spec.specs.declared.descent.Step.{Step}
use Rattle.trie_spec.specs.declared.descent.Walked.{Walked}
use Rattle.trie_spec.specs.declared.descent.Walked.TheVariants.{At as Reached, Missing}
use Rattle.trie_spec.proofs.AcceptedLaws.{no_leaves, right, few, fits, inside, leaf_count_lem, root_link, at_closest, limit_fits, root_fits, leaf_next_fits, branch_fits, branch_next_fits}
use Rattle.trie_spec.proofs.HeldLaws.{Linkable, hits}
use Rattle.trie_spec.proofs.SeekLaws.{Ends, seeks}
use Rattle.trie_spec.proofs.InsertLaws.{Wrote, x, differs, near, far, free_leaf_lem, free_branch_lem, branch_room, insert_accepted}
use Rattle.trie_spec.proofs.AddLaws.{Adds, SiteFits, site_fits, add_grows, add_whole, add_under}
use Rattle.trie_spec.proofs.FirstLaws.{room, first_free, first_size, first_head_lem, first_accepted, set_accepted, set_head_lem, set_size}
use Rattle.std.specs.Prelude.{Result, Ok, Err}
use Rattle.node.specs.declared.NotAStore.{NotAStore}

-- an insertion's answer by document 01's names
abbrev pub answer_of : Put → Answer
answer_of (Ok Added) = DONE
answer_of (Ok Replaced) = REPLACED
answer_of (Err Height) = HEIGHT
answer_of (Err Full) = FULL
answer_of (Err Store) = STORE

-- What an insertion into a store that holds o comes to.
pub record Inserts (st : List ℕ) (o : Option Tree) (k : List ℕ) (v : ℕ) (r : Outcome Put) : Type 0 where
  pub answer : answer_of r.answer ≡ insert_answer (head_in st).capacity (head_in st).limit k o
  pub refused : 10 ≤ number (answer_of r.answer) → r.bytes ≡ st
  pub limit : (head_in r.bytes).limit ≡ (head_in st).limit
  pub size : length r.bytes ≡ length st
  pub accepted : ((i : ℕ) → i < used r.bytes → get_or r.bytes i 0 < 256) → number (answer_of r.answer) < 10
      → Accepted r.bytes (insert_root (head_in st).leaf (head_in st).branch k v o)

-- a key is not too long
key_fits : (k : List ℕ) → IsKey k → too_long k ≡ false
key_fits k i = lt-leb (suc key_limit) (length k) (omega (arith, i.fits))

-- a refusal
refuse : (st : List ℕ) (o : Option Tree) (k : List ℕ) (v : ℕ) (a : Put) → 10 ≤ number (answer_of a) → answer_of a ≡ insert_answer (head_in st).capacity (head_in st).limit k o → Inserts st o k v (outcome a st)
refuse st o k v a h e = record { answer = e; refused = λ q. refl; limit = refl; size = refl; accepted = λ b q. absurd (omega arith) }

-- ---- an empty store

pub insert_first : (st : List ℕ) (acc : Accepted st none) (k : List ℕ) (v : ℕ) → IsKey k → v < value_bound → Inserts st none k v (insert_in st (head_in st) k v)
insert_first st acc k v i f =
    let z : (head_in st).leaves ≡ 0 = no_leaves st acc in
    rw (eq-eqb (head_in st).leaves 0 z, lt-ltb (head_in st).leaf (head_in st).capacity (first_free st acc).3, lt-ltb (head_in st).leaves (head_in st).capacity (room st acc), (first_free st acc).2.1)
    (record {
      answer = rw (key_fits k i);
      refused = λ q. absurd (omega arith);
      limit = ap (λ (h : Header). h.limit) (first_head_lem st acc k v i f);
      size = first_size st acc k v i f;
      accepted = λ b q. first_accepted st acc k v i f b;
    })

-- ---- a stored key

module _ (st : List ℕ) (t : Tree) (acc : Accepted st (some t)) (k : List ℕ) (v : ℕ) (is_key : IsKey k) (is-value : v < value_bound) where
  abbrev h : Header
  h = head_in st

  abbrev q : List ℕ
  q = (closest k t).key

  abbrev d : ℕ
  d = length (closest k t).path

  -- the insertion begins at the closest leaf, whose key is read back
  key_read : (leaf_in st (closest k t).number).key ≡ q
  key_read = (hits st h.capacity (few st (some t) acc) k t acc.held acc.picture).1.key

  some_leaves : eqb h.leaves 0 ≡ false
  some_leaves = ne_eqb h.leaves 0 (λ e. omega (arith, leaf_count_lem st t acc, leaves_length t, listing_some t acc.picture))

  begins : insert_in st h k v ≡ put_near st h k v (link_to (root t)) (closest k t).number d
  begins = rw (some_leaves, root_link st t acc, at_closest st t acc k)

  stored_is : k ≡ q → put_near st h k v (link_to (root t)) (closest k t).number d ≡ outcome (Ok Replaced) (set_value st (closest k t).number v)
  stored_is e = rw (key_read) (key_same e _ _)

  new_is : k ≢ q → put_near st h k v (link_to (root t)) (closest k t).number d
      ≡ placed st h k v d (critical k q) (nibble q (critical k q)) (walk st h.capacity k (critical k q + 1) steps (first (link_to (root t))))
  new_is ne = rw (key_read) (key_other ne _ _)

  -- the answer, by whether the key is the closest leaf's
  stored_answer_lem : k ≡ q → REPLACED ≡ insert_answer h.capacity h.limit k (some t)
  stored_answer_lem e = sym (rw (key_fits k is_key) (key_same e _ _))

  abbrev new_answer : Answer
  new_answer = pick (too_high h.limit k (closest k t)) HEIGHT (pick (eqb (length (listing t)) h.capacity) FULL DONE)

  new_answer_lem : k ≢ q → new_answer ≡ insert_answer h.capacity h.limit k (some t)
  new_answer_lem ne = sym (rw (key_fits k is_key) (key_other ne _ _))

  pub insert_stored_key : k ≡ q → Inserts st (some t) k v (insert_in st h k v)
  insert_stored_key e =
      subst (Inserts st (some t) k v) (sym (begins ∙ stored_is e))
      (record {
        answer = stored_answer_lem e;
        refused = λ z. absurd (omega arith);
        limit = ap (λ (z : Header). z.limit) (set_head_lem st t acc k v is_key is-value e);
        size = set_size st t acc k v is_key is-value e;
        accepted = λ b z. subst (λ (u : Tree). Accepted (set_value st (closest k t).number v) (some u)) (sym (key_same e _ _)) (set_accepted st t acc k v is_key is-value e b);
      })

  -- ---- a new key

  module _ (ne : k ≢ q) where
    abbrev y : New
    y = x st t acc k v is_key ne

    abbrev cap : ℕ
    cap = h.capacity

    abbrev w : Result Walked NotAStore
    w = walk st cap k (y.place + 1) steps (first (link_to (root t)))

    starts : (u : Tree) → StartsAt 0 u
    starts (leaf n l e) = tt
    starts (branch n p ks) = omega arith

    ends : Ends y Root (site y t) w
    ends =
        seeks st cap (few st (some t) acc) y t acc.held acc.picture (inside st t acc) (near st t acc k v is_key ne) (far st t acc k v is_key ne)
        0 steps (starts t) (omega arith) (omega arith) Root Root

    passed : (g : Bool) → is_grow (site y t) ≡ g → member y.place (closest k t).path ≡ g
    passed g e = sym (grows_passed y t acc.picture (near st t acc k v is_key ne)) ∙ e

    is_full : cap ≤ h.leaves → eqb (length (listing t)) cap ≡ true
    is_full f = eq-eqb (length (listing t)) cap (omega (arith, f, (right st (some t) acc).leaves, leaf_count_lem st t acc, leaves_length t))

    not_full : h.leaves < cap → eqb (length (listing t)) cap ≡ false
    not_full f = ne_eqb (length (listing t)) cap (λ e. omega (arith, f, leaf_count_lem st t acc, leaves_length t))

    answers : (m f : Bool) → too_high h.limit k (closest k t) ≡ m → eqb (length (listing t)) cap ≡ f → pick m HEIGHT (pick f FULL DONE) ≡ insert_answer cap h.limit k (some t)
    answers m f i j = ap (λ (z : Bool). pick z HEIGHT (pick f FULL DONE)) (sym i) ∙ ap (λ (z : Bool). pick (too_high h.limit k (closest k t)) HEIGHT (pick z FULL DONE)) (sym j) ∙ new_answer_lem ne

    high : (m l : Bool) → is_grow (site y t) ≡ m → leb h.limit d ≡ l → too_high h.limit k (closest k t) ≡ not m && l
    high m l g e = ap (λ (z : Bool). not z && leb h.limit d) (passed m g) ∙ ap (λ (z : Bool). not m && z) e

    -- refused
    too_high_lem : is_grow (site y t) ≡ false → h.limit ≤ d → Inserts st (some t) k v (outcome (Err Height) st)
    too_high_lem g l =
        refuse st (some t) k v (Err Height) (omega arith)
        (answers true (eqb (length (listing t)) cap) (high false true g (le-leb h.limit d l)) refl)

    no_room : too_high h.limit k (closest k t) ≡ false → cap ≤ h.leaves → Inserts st (some t) k v (outcome (Err Full) st)
    no_room g l = refuse st (some t) k v (Err Full) (omega arith) (answers false true g (is_full l))

    -- added
    module _ (room-left : h.leaves < cap) where
      abbrev a : ℕ
      a = h.leaf

      abbrev b : ℕ
      b = h.branch

      leaf_free : a < cap
      leaf_free = (free_leaf_lem st t acc k v is_key ne room-left).3

      branch_free : b < cap
      branch_free = (free_branch_lem st t acc k v is_key ne room-left).3

      few_branches : h.branches < cap
      few_branches = branch_room st t acc k v is_key ne room-left

      adds : Adds st cap y
      adds = record {
        few = few st (some t) acc;
        fits = fits st (some t) acc;
        key = is_key;
        value = is-value;
        leaf = leaf_free;
        branch = branch_free;
        place = omega (arith, critical_bound k q is_key closest_key ne);
        other = omega (arith, nibble_slot q y.place closest_key.bytes);
        differs = differs st t acc k v is_key ne;
      }
        where
          closest_key : IsKey q
          closest_key = closest_every IsKey k t acc.picture (picture_keys t acc.picture)

      -- the header with a leaf taken, and with a branch taken too
      abbrev one : Header
      one = leaf_kind.with h (leaf_kind.next st a) (h.leaves + 1)

      abbrev two : Header
      two = branch_kind.with one (branch_kind.next st b) (h.branches + 1)

      one_fits : Fits one
      one_fits = record {
        capacity = omega (arith, few st (some t) acc);
        limit = limit_fits st (some t) acc;
        leaves = omega (arith, few st (some t) acc, room-left);
        branches = omega (arith, few st (some t) acc, few_branches);
        root = root_fits st (some t) acc;
        leaf = leaf_next_fits st (some t) acc a leaf_free;
        branch = branch_fits st (some t) acc;
      }

      two_fits : Fits two
      two_fits = record {
        capacity = omega (arith, few st (some t) acc);
        limit = limit_fits st (some t) acc;
        leaves = omega (arith, few st (some t) acc, room-left);
        branches = omega (arith, few st (some t) acc, few_branches);
        root = root_fits st (some t) acc;
        leaf = leaf_next_fits st (some t) acc a leaf_free;
        branch = branch_next_fits st (some t) acc b branch_free;
      }

      root_two_fits : Fits (with_root two (item_of (branch_link b y.place)))
      root_two_fits = record {
        capacity = omega (arith, few st (some t) acc);
        limit = limit_fits st (some t) acc;
        leaves = omega (arith, few st (some t) acc, room-left);
        branches = omega (arith, few st (some t) acc, few_branches);
        root = item_fits (branch_link b y.place) (omega (arith, few st (some t) acc, branch_free)) adds.place;
        leaf = leaf_next_fits st (some t) acc a leaf_free;
        branch = branch_next_fits st (some t) acc b branch_free;
      }

      taken_leaf_lem : taken leaf_kind st h ≡ some (a, one)
      taken_leaf_lem = rw (lt-ltb a cap leaf_free, lt-ltb h.leaves cap room-left, (free_leaf_lem st t acc k v is_key ne room-left).2.1)

      taken_branch_lem : taken branch_kind st one ≡ some (b, two)
      taken_branch_lem = rw (lt-ltb b cap branch_free, lt-ltb h.branches cap few_branches, (free_branch_lem st t acc k v is_key ne room-left).2.1)

      added : (st' : List ℕ) → too_high h.limit k (closest k t) ≡ false → Wrote st st' y (root t) (site y t) → Inserts st (some t) k v (outcome (Ok Added) st')
      added st' g u = record {
        answer = answers false false g (not_full room-left);
        refused = λ z. absurd (omega arith);
        limit = ap (λ (z : Header). z.limit) u.head;
        size = u.size;
        accepted = λ bytes z. subst (λ (s : Tree). Accepted st' (some s)) (sym (key_other ne _ _)) (insert_accepted st t acc k v is_key ne room-left st' u bytes);
      }

      grow_bytes : (n : ℕ) → n < cap → site y t ≡ grows n → Inserts st (some t) k v (hung st h k v (Under (record { 0 = n }) (new_slot y)))
      grow_bytes n l e =
          rw taken_leaf_lem
          (added (set_head (set_child (set_leaf st a k v) n (new_slot y) (leaf_link a 0)) one) (high true (leb h.limit d) (ap is_grow e) refl)
          (subst (Wrote st (set_head (set_child (set_leaf st a k v) n (new_slot y) (leaf_link a 0)) one) y (root t)) (sym e)
          (add_grows st cap y adds n l one (root t) one_fits (ap (λ (z : ℕ). with_root one z) acc.rooted))))

      abbrev over : Child → List ℕ
      over c = joined (set_leaf st a k v) b (new_slot y) a y.other (link_to c)

      fork_bytes : (c : Child) (at above : Spot) (st' : List ℕ) → relinked (over c) two at (branch_link b y.place) ≡ st' → d < h.limit → is_grow (site y t) ≡ false
          → Wrote st st' y (root t) (site y t) → Inserts st (some t) k v (forked st h k v (step (link_to c) at above) y.place y.other)
      fork_bytes c at above st' e l g u =
          rw (taken_leaf_lem, taken_branch_lem, e) (added st' (high false false g (lt-leb h.limit d l)) u)

      whole_bytes : (c : Child) (above : Spot) → Linkable (link_to c) → d < h.limit → site y t ≡ whole c
          → Inserts st (some t) k v (forked st h k v (step (link_to c) Root above) y.place y.other)
      whole_bytes c above f l e =
          let top : Header = with_root two (item_of (branch_link b y.place)) in
          fork_bytes c Root above (set_head (over c) top) refl l (ap is_grow e)
          (subst (Wrote st (set_head (over c) top) y (root t)) (sym e) (add_whole st cap y adds c f top (root t) root_two_fits refl))

      under_bytes : (n s : ℕ) (c : Child) (above : Spot) → SiteFits st cap (few st (some t) acc) y is_key.bytes (under n s c) → d < h.limit → site y t ≡ under n s c
          → Inserts st (some t) k v (forked st h k v (step (link_to c) (Under (record { 0 = n }) s) above) y.place y.other)
      under_bytes n s c above f l e =
          let st' : List ℕ = set_head (set_child (over c) n s (branch_link b y.place)) two in
          fork_bytes c (Under (record { 0 = n }) s) above st' refl l (ap is_grow e)
          (subst (Wrote st st' y (root t)) (sym e)
          (add_under st cap y adds c f.2 n s f.0 f.1 apart two (root t) two_fits (ap (λ (z : ℕ). with_root two z) acc.rooted)))
        where
          -- a branch in use is not the first free one
          apart : n ≢ b
          apart q = acc.branches.apart n (site_within y n t (subst (λ (z : Site). Changes z n) (sym e) refl)) (subst (λ (z : ℕ). Free branch_kind st cap z) (sym q) (free_branch_lem st t acc k v is_key ne room-left).2)

    -- a new key, by where it goes and by whether there is room
    abbrev Placed : Result Walked NotAStore → Type 0
    Placed u = Inserts st (some t) k v (placed st h k v d y.place y.other u)

    at_grow : (n : ℕ) → n < cap → site y t ≡ grows n → Dec (h.leaves < cap) → Placed (Ok (Missing (record { 0 = n }) (new_slot y)))
    at_grow n l e (yes r) = rw (lt-leb cap h.leaves r) (grow_bytes r n l e)
    at_grow n l e (no f) = rw (le-leb cap h.leaves (omega arith)) (no_room (high true (leb h.limit d) (ap is_grow e) refl) (omega arith))

    at_fork : (u : Step) → is_grow (site y t) ≡ false → ((r : h.leaves < cap) → d < h.limit → Inserts st (some t) k v (forked st h k v u y.place y.other))
        → Dec (d < h.limit) → Dec (h.leaves < cap) → Placed (Ok (Reached u.child u))
    at_fork u g f (no l) r = rw (le-leb h.limit d (omega arith)) (too_high_lem g (omega arith))
    at_fork u g f (yes l) (yes r) = rw (lt-leb h.limit d l, lt-leb cap h.leaves r) (f r l)
    at_fork u g f (yes l) (no r) = rw (lt-leb h.limit d l, le-leb cap h.leaves (omega arith)) (no_room (high false false g (lt-leb h.limit d l)) (omega arith))

    by_site : (z : Site) → site y t ≡ z → SiteFits st cap (few st (some t) acc) y is_key.bytes z → Ends y Root z w → Placed w
    by_site (grows n) e f g = subst Placed (sym g) (at_grow n f e (dec_lt h.leaves cap))
    by_site (whole c) e f (above, g) =
        subst Placed (sym g) (at_fork (step (link_to c) Root above) (ap is_grow e) (λ r l. whole_bytes r c above f l e) (dec_lt d h.limit) (dec_lt h.leaves cap))
    by_site (under n s c) e f (above, g) =
        subst Placed (sym g) (at_fork (step (link_to c) (Under (record { 0 = n }) s) above) (ap is_grow e) (λ r l. under_bytes r n s c above f l e) (dec_lt d h.limit) (dec_lt h.leaves cap))

    pub insert_new_key : Inserts st (some t) k v (insert_in st h k v)
    insert_new_key =
        subst (Inserts st (some t) k v) (sym (begins ∙ new_is ne))
        (by_site (site y t) refl (site_fits st cap (few st (some t) acc) y is_key.bytes t acc.picture (inside st t acc)) ends)

-- Insertion into an accepted store.
pub insert_means : (st : List ℕ) (o : Option Tree) → Accepted st o → (k : List ℕ) (v : ℕ) → IsKey k → v < value_bound → Inserts st o k v (insert_in st (head_in st) k v)
insert_means st none acc k v i f = insert_first st acc k v i f
insert_means st (some t) acc k v i f = go (key_discrete k (closest k t).key)
  where
    go : Dec (k ≡ (closest k t).key) → Inserts st (some t) k v (insert_in st (head_in st) k v)
    go (yes e) = insert_stored_key st t acc k v i f e
    go (no ne) = insert_new_key st t acc k v i f ne

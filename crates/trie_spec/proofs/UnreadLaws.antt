-- "Bytes past 128 x (capacity + 1) are neither read nor written": two slices with the same header and the same blocks give lookup, insertion and removal
-- the same answers, and hold the same header and blocks after them, whatever the bytes are and whatever lies past the blocks.
-- Assumes nothing.
use Prim.Native.Nat.{ℕ, zero, suc, ◌+◌, ◌≤◌, ◌<◌, Ordering}
use mathlib.Core.Path.{◌≡◌, refl, sym, ap, subst, ◌∙◌}
use mathlib.Core.Bool.{Bool, true, false, cond, ◌&&◌}
use mathlib.Core.List.{List}
use mathlib.Core.Option.{Option, none, some}
use native.Mathlib.Omega.{arith}
use lib.Dec.{eqb, leb, ltb}
use lib.ListN.{length, take, get_or}
use lib.Seq.{get_or-take}
use borrow.Author.Tests.{ltb-true}
use Rattle.model.specs.Key.{Bytes, order, on_equal}
use Rattle.model.specs.Numbers.{block_size, capacity_of}
use Rattle.model.specs.Nibble.{nibble, critical}
use Rattle.model.proofs.KeyLaws.{Ordered, before, equal, after, ordered}
use Rattle.fields.specs.Part.{part, splice}
use Rattle.fields.specs.Number.{little, little_bytes}
use Rattle.fields.proofs.PartLaws.{part_agree, length_splice, take_splice}
use Rattle.fields.proofs.NumberLaws.{little_agree}
use Rattle.sparse_array.specs.Array.{size, entries, cleared, with_slot, without_slot}
use Rattle.bitmap.specs.Entries.{Entry, lookup, head, erase}
use Rattle.sparse_array.specs.Answers.{or_else}
use Rattle.node.specs.Layout.{start, array_at, size_at, value_at}
use Rattle.node.specs.Child.{number_in, link_of, item_of, to_leaf, to_branch, Linked}
use Rattle.node.specs.Header.{set_head, set_mark}
use Rattle.node.specs.Leaf.{Leaf as LeafRecord, key_size, leaf_in, set_leaf, set_value, free_leaf}
use Rattle.node.specs.Branch.{array_in, children_in, linked, linked_in, near_in, head_link, set_child, remove_child, two_slots, make_branch, free_branch}
use Rattle.records.specs.Chain.{Kind, leaves, branches, taken}
use Rattle.records.specs.Create.{next_after, freed_below, new_head, created}
use Rattle.node.specs.declared.child.Child.{Child}
use Rattle.node.specs.declared.child.Child.TheVariants.{Leaf as LeafChild, Branch}
use Rattle.node.specs.declared.child.BranchNo.{BranchNo}
use Rattle.node.specs.declared.child.Link.{Link}
use Rattle.node.specs.declared.header.Header.{Header}
use Rattle.node.proofs.ChildLaws.{within}
use Rattle.trie_spec.specs.Walk.{steps, step, link_in, on_linked, on_root, on_node, walk, near, first, Within, Lands, leaf_at}
use Rattle.trie_spec.specs.Find.{no_stop, on_walked, find_from, find_in, Exact}
use Rattle.trie_spec.specs.Writes.{relinked, Outcome, outcome, on_taken, hung, joined, planted, forked, placed, put_beside, put_near, on_closest, put_under, insert_in, shrunk, lifted, remove_under, Put, done, no_tree}
use Rattle.trie_spec.specs.declared.descent.Spot.{Spot}
use Rattle.trie_spec.specs.declared.descent.Spot.TheVariants.{Root, Under}
use Rattle.trie_spec.specs.declared.descent.Step.{Step}
use Rattle.trie_spec.specs.declared.descent.Walked.{Walked}
use Rattle.trie_spec.specs.declared.descent.Walked.TheVariants.{At, Missing}
use Rattle.trie_spec.specs.declared.descent.Closest.{Closest}
use Rattle.trie_spec.specs.declared.insert.Inserted.TheVariants.{New, Replaced}
use Rattle.trie_spec.specs.declared.insert.PutError.TheVariants.{Store, Height, Full}
use Rattle.trie_spec.proofs.WalkLaws.{linked_below}
use Rattle.trie_spec.proofs.KeepLaws.{walk_lies, Low, near_low}
use Rattle.std.specs.Prelude.{Result, Ok, Err, Some, None}
use Rattle.node.specs.NotAStore.{not_a_store}
use Rattle.node.specs.declared.NotAStore.{NotAStore}

-- Both slices have the header and the first blocks, and these are the same bytes.
pub record Alike (cap : ℕ) (st su : List ℕ) : Type 0 where
  pub left : start cap ≤ length st
  pub right : start cap ≤ length su
  pub same : take (start cap) st ≡ take (start cap) su

-- ---- what is read

module _ {cap : ℕ} {st su : List ℕ} (a : Alike cap st su) where
  pub byte_alike : (i : ℕ) → i < start cap → get_or su i 0 ≡ get_or st i 0
  byte_alike i h = sym (get_or-take (start cap) su i 0 h) ∙ ap (λ (z : List ℕ). get_or z i 0) (sym a.same) ∙ get_or-take (start cap) st i 0 h

  module _ (n : ℕ) (h : n < cap) where
    inside : start n + block_size ≤ start cap
    inside = omega arith

    pub leaf_alike : leaf_in su n ≡ leaf_in st n
    unfolding leaf_in
    leaf_alike =
        let s : get_or su (size_at n) 0 ≡ get_or st (size_at n) 0 = byte_alike (size_at n) (omega (arith, inside)) in
        let z : ℕ = key_size (get_or st (size_at n) 0) in
        let k : part su (start n) z ≡ part st (start n) z = part_agree su st (start n) (start n) z (omega (arith, inside, a.right)) (omega (arith, inside, a.left)) (λ i l. byte_alike (start n + i) (omega (arith, inside))) in
        let v : little 4 su (value_at n) ≡ little 4 st (value_at n) = little_agree 4 su st (value_at n) (value_at n) (λ i l. byte_alike (value_at n + i) (omega (arith, inside))) in
        let x : little 2 su (value_at n) ≡ little 2 st (value_at n) = little_agree 2 su st (value_at n) (value_at n) (λ i l. byte_alike (value_at n + i) (omega (arith, inside))) in
        rw (s, k, v, x)

    pub array_alike : array_in su n ≡ array_in st n
    unfolding array_in
    array_alike =
        part_agree su st (array_at n) (array_at n) size (omega (arith, inside, a.right)) (omega (arith, inside, a.left)) (λ i l. byte_alike (array_at n + i) (omega (arith, inside)))

    pub children_alike : children_in su n ≡ children_in st n
    children_alike = ap entries array_alike

-- ---- the descents and the lookup

module _ {cap : ℕ} {st su : List ℕ} (a : Alike cap st su) (k : List ℕ) where
  module _ (stop f : ℕ) (s : Step) (rest : (m : Step) → number_in m.child < cap → walk su cap k stop f m ≡ walk st cap k stop f m) where
    abbrev slot : ℕ
    slot = nibble k s.position

    abbrev next : List ℕ → BranchNo → Linked → Result Walked NotAStore
    next sv b l = on_linked (λ m. walk sv cap k stop f (step m (Under b slot) s.at)) (Ok (Missing b slot)) (Err not_a_store) l

    by_link : (b : BranchNo) (o : Option ℕ) (l : Linked) → linked cap o ≡ l → next su b l ≡ next st b l
    by_link b o (Ok (Some m)) e = rest (step m (Under b slot) s.at) (linked_below cap o m e)
    by_link b o (Ok None) e = refl
    by_link b o (Err r) e = refl

    by_child : (c : Child) → number_in c < cap
        → on_node (λ n. Ok (At s.child s)) (λ b. cond (leb stop s.position) (Ok (At s.child s)) (next su b (linked_in cap slot (children_in su b.0)))) c
        ≡ on_node (λ n. Ok (At s.child s)) (λ b. cond (leb stop s.position) (Ok (At s.child s)) (next st b (linked_in cap slot (children_in st b.0)))) c
    by_child (LeafChild n) h = refl
    by_child (Branch b) h =
        ap (λ (es : List Entry). cond (leb stop s.position) (Ok (At s.child s)) (next su b (linked_in cap slot es))) (children_alike a b.0 h)
        ∙ ap (λ (w : Result Walked NotAStore). cond (leb stop s.position) (Ok (At s.child s)) w) (by_link b (lookup slot (children_in st b.0)) (linked_in cap slot (children_in st b.0)) refl)

  pub walk_alike : (stop f : ℕ) (s : Step) → number_in s.child < cap → walk su cap k stop f s ≡ walk st cap k stop f s
  unfolding walk
  walk_alike stop zero s h = refl
  walk_alike stop (suc f) s h = by_child stop f s (λ m q. walk_alike stop f m q) s.child h

  module _ (f d : ℕ) (p : ℕ) (rest : (e : ℕ) (m : Link) → number_in m.child < cap → near su cap k f e m ≡ near st cap k f e m) where
    abbrev on : List ℕ → Linked → Result Closest NotAStore
    on sv l = on_linked (λ m. near sv cap k f (d + 1) m) (Err not_a_store) (Err not_a_store) l

    near_link : (o : Option ℕ) (l : Linked) → linked cap o ≡ l → on su l ≡ on st l
    near_link o (Ok (Some m)) e = rest (d + 1) m (linked_below cap o m e)
    near_link o (Ok None) e = refl
    near_link o (Err r) e = refl

    near_child : (c : Child) → number_in c < cap
        → on_node (λ n. Ok (leaf_at n d)) (λ b. on su (near_in cap (nibble k p) (children_in su b.0))) c ≡ on_node (λ n. Ok (leaf_at n d)) (λ b. on st (near_in cap (nibble k p) (children_in st b.0))) c
    near_child (LeafChild n) h = refl
    near_child (Branch b) h =
        ap (λ (es : List Entry). on su (near_in cap (nibble k p) es)) (children_alike a b.0 h)
        ∙ near_link (or_else (lookup (nibble k p) (children_in st b.0)) (head (children_in st b.0))) (near_in cap (nibble k p) (children_in st b.0)) refl

  pub near_alike : (f d : ℕ) (l : Link) → number_in l.child < cap → near su cap k f d l ≡ near st cap k f d l
  unfolding near
  near_alike zero d l h = refl
  near_alike (suc f) d l h = near_child f d l.position (λ e m q. near_alike f e m q) l.child h

  matched_alike : (s : Step) (c : Child) → number_in c < cap
      → on_node (λ n. on_equal {A = Exact} (order k (leaf_in su n.0).key) (Ok (Some (n, s))) (Ok None)) (λ b. Err not_a_store) c
      ≡ on_node (λ n. on_equal {A = Exact} (order k (leaf_in st n.0).key) (Ok (Some (n, s))) (Ok None)) (λ b. Err not_a_store) c
  matched_alike s (LeafChild n) h = ap (λ (x : LeafRecord). on_equal {A = Exact} (order k x.key) (Ok (Some (n, s))) (Ok None)) (leaf_alike a n.0 h)
  matched_alike s (Branch b) h = refl

  walked_alike : (w : Result Walked NotAStore) → Lands cap w → on_walked su k w ≡ on_walked st k w
  walked_alike (Ok (At c s)) l = matched_alike s c (rw l.3 l.0)
  walked_alike (Ok (Missing b s)) l = refl
  walked_alike (Err e) l = refl

  module _ (bytes : Bytes k) where
    pub find_alike : (h : Header) → h.capacity ≡ cap → find_in su h k ≡ find_in st h k
    find_alike h e = go (eqb h.leaves 0) (link_of h.capacity h.root) refl
      where
        from : (m : Link) → number_in m.child < cap → find_from su cap k m ≡ find_from st cap k m
        from m q =
            ap (on_walked su k) (walk_alike no_stop steps (first m) q)
            ∙ walked_alike (walk st cap k no_stop steps (first m)) (walk_lies st cap k bytes no_stop steps (first m) q tt tt)

        go : (o : Bool) (l : Result Link NotAStore) → link_of h.capacity h.root ≡ l
            → cond o (Ok None) (on_root (λ root. find_from su h.capacity k root) (Err not_a_store) l)
            ≡ cond o (Ok None) (on_root (λ root. find_from st h.capacity k root) (Err not_a_store) l)
        go true l q = refl
        go false (Ok m) q = rw e (from m (subst (λ (z : ℕ). number_in m.child < z) e (within h.capacity h.root m q)))
        go false (Err e) q = refl

-- ---- what is written

pub splice_alike : {cap : ℕ} {st su : List ℕ} → Alike cap st su → (at : ℕ) (ys : List ℕ) → Alike cap (splice st at ys) (splice su at ys)
splice_alike {cap} {st} {su} a at ys = record {
  left = rw (length_splice st at ys) a.left;
  right = rw (length_splice su at ys) a.right;
  same = take_splice (start cap) st at ys ∙ ap (λ (z : List ℕ). splice z at ys) a.same ∙ sym (take_splice (start cap) su at ys);
}

module _ {cap : ℕ} {st su : List ℕ} (a : Alike cap st su) where
  pub head_alike : (h : Header) → Alike cap (set_head st h) (set_head su h)
  unfolding set_head
  head_alike h = splice_alike a _ _

  pub value_alike : (n v : ℕ) → Alike cap (set_value st n v) (set_value su n v)
  unfolding set_value
  value_alike n v = splice_alike a _ _

  leaf_set_alike : (n : ℕ) (k : List ℕ) (v : ℕ) → Alike cap (set_leaf st n k v) (set_leaf su n k v)
  unfolding set_leaf
  leaf_set_alike n k v = splice_alike (splice_alike (splice_alike a _ _) _ _) _ _

  leaf_freed_alike : (n x : ℕ) → Alike cap (free_leaf st n x) (free_leaf su n x)
  unfolding free_leaf
  leaf_freed_alike n x = splice_alike (splice_alike a _ _) _ _

  -- another array in a record, made from the one that is there
  module _ (n : ℕ) (h : n < cap) where
    array_set_alike : (f : List ℕ → List ℕ) → Alike cap (splice st (array_at n) (f (array_in st n))) (splice su (array_at n) (f (array_in su n)))
    array_set_alike f =
        subst (λ (z : List ℕ). Alike cap (splice st (array_at n) (f (array_in st n))) (splice su (array_at n) (f z))) (sym (array_alike a n h))
        (splice_alike a (array_at n) (f (array_in st n)))

    child_alike : (s : ℕ) (l : Link) → Alike cap (set_child st n s l) (set_child su n s l)
    unfolding set_child
    child_alike s l = array_set_alike (with_slot s (item_of l))

    removed_alike : (s : ℕ) → Alike cap (remove_child st n s) (remove_child su n s)
    unfolding remove_child
    removed_alike s = array_set_alike (without_slot s)

    made_alike : (s : ℕ) (l : Link) (r : ℕ) (m : Link) → Alike cap (make_branch st n s l r m) (make_branch su n s l r m)
    unfolding make_branch
    made_alike s l r m = array_set_alike (two_slots s (item_of l) r (item_of m))

    branch_freed_alike : (x : ℕ) → Alike cap (free_branch st n x) (free_branch su n x)
    unfolding free_branch
    branch_freed_alike x = array_set_alike (λ z. splice (cleared z) 4 (little_bytes 2 x))

    joined_alike : (s m r : ℕ) (l : Link) → Alike cap (joined st n s m r l) (joined su n s m r l)
    joined_alike s m r l = go (ltb s r)
      where
        go : (o : Bool) → Alike cap (cond o (make_branch st n s (to_leaf m 0) r l) (make_branch st n r l s (to_leaf m 0))) (cond o (make_branch su n s (to_leaf m 0) r l) (make_branch su n r l s (to_leaf m 0)))
        go true = made_alike s (to_leaf m 0) r l
        go false = made_alike r l s (to_leaf m 0)

-- the link of a spot, and the header
relinked_alike : {cap : ℕ} {st su : List ℕ} → Alike cap st su → (h : Header) (spot : Spot) (l : Link) → Within cap spot → Alike cap (relinked st h spot l) (relinked su h spot l)
relinked_alike a h Root l w = head_alike a _
relinked_alike a h (Under b s) l w = head_alike (child_alike a b.0 w.0 s l) h

-- ---- records taken

module _ {cap : ℕ} {st su : List ℕ} (a : Alike cap st su) where
  module _ (K : Kind) (free : (n : ℕ) → n < cap → K.is_free su n ≡ K.is_free st n) (next : (n : ℕ) → n < cap → K.next su n ≡ K.next st n) (h : Header) (e : h.capacity ≡ cap) where
    abbrev some_taken : List ℕ → Bool → Option (ℕ × Header)
    some_taken sv b = cond (b && (ltb (K.used h) h.capacity && K.is_free sv (K.first h))) (some (K.first h, K.with h (K.next sv (K.first h)) (K.used h + 1))) none

    taken_alike : taken K su h ≡ taken K st h
    taken_alike = go (ltb (K.first h) h.capacity) refl
      where
        go : (b : Bool) → ltb (K.first h) h.capacity ≡ b → some_taken su b ≡ some_taken st b
        go true q = let l : K.first h < cap = subst (λ (z : ℕ). K.first h < z) e (ltb-true (K.first h) h.capacity q) in rw (free (K.first h) l, next (K.first h) l)
        go false q = refl

  leaves_alike : (h : Header) → h.capacity ≡ cap → taken leaves su h ≡ taken leaves st h
  leaves_alike h e =
      taken_alike leaves (λ n l. ap (λ (x : LeafRecord). eqb x.size 255) (leaf_alike a n l)) (λ n l. ap (λ (x : LeafRecord). x.next) (leaf_alike a n l)) h e

  branches_alike : (h : Header) → h.capacity ≡ cap → taken branches su h ≡ taken branches st h
  branches_alike h e =
      taken_alike branches (λ n l. ap (λ (es : List Entry). eqb (length es) 0) (children_alike a n l)) (λ n l. ap (λ (z : List ℕ). little 2 z 4) (array_alike a n l)) h e

-- ---- insertion

-- The same answer, and the same header and blocks.
pub record Agrees {A : Type 0} (cap : ℕ) (o p : Outcome A) : Type 0 where
  pub answer : o.answer ≡ p.answer
  pub bytes : Alike cap o.bytes p.bytes

pub agrees : {A : Type 0} {cap : ℕ} (x : A) {st su : List ℕ} → Alike cap st su → Agrees cap (outcome x st) (outcome x su)
agrees x a = record { answer = refl; bytes = a }

module _ {cap : ℕ} {st su : List ℕ} (a : Alike cap st su) where
  -- by whether a record is taken, which both slices say alike
  by_taken : (K : Kind) (h : Header) (f g : ℕ → Header → Outcome Put) (o p : Outcome Put) → taken K su h ≡ taken K st h
      → (K.first h < h.capacity → (h' : Header) → h'.capacity ≡ (K.with h (K.next st (K.first h)) (K.used h + 1)).capacity → Agrees cap (f (K.first h) h') (g (K.first h) h'))
      → Agrees cap o p → Agrees cap (on_taken f o (taken K st h)) (on_taken g p (taken K su h))
  by_taken K h f g o p e there nothing =
      subst (λ (z : Option (ℕ × Header)). Agrees cap (on_taken f o (taken K st h)) (on_taken g p z)) (sym e)
      (go (ltb (K.first h) h.capacity) (ltb (K.used h) h.capacity && K.is_free st (K.first h)) refl)
    where
      found : Bool → Option (ℕ × Header)
      found b = cond b (some (K.first h, K.with h (K.next st (K.first h)) (K.used h + 1))) none

      go : (b c : Bool) → ltb (K.first h) h.capacity ≡ b → Agrees cap (on_taken f o (found (b && c))) (on_taken g p (found (b && c)))
      go true true q = there (ltb-true (K.first h) h.capacity q) _ refl
      go true false q = nothing
      go false c q = nothing

  module _ (k : List ℕ) (v : ℕ) where
    hung_alike : (h : Header) → h.capacity ≡ cap → (spot : Spot) → Within cap spot → Agrees cap (hung st h k v spot) (hung su h k v spot)
    hung_alike h e spot w =
        by_taken leaves h
        (λ n g. outcome (Ok New) (relinked (set_leaf st n k v) g spot (to_leaf n 0)))
        (λ n g. outcome (Ok New) (relinked (set_leaf su n k v) g spot (to_leaf n 0)))
        (outcome (Err Store) st) (outcome (Err Store) su) (leaves_alike a h e)
        (λ l g q. agrees (Ok New) (relinked_alike (leaf_set_alike a h.leaf k v) g spot (to_leaf h.leaf 0) w))
        (agrees (Err Store) a)

    planted_alike : (h : Header) (n b : ℕ) (s : Step) (p r : ℕ) → b < cap → Within cap s.at → Alike cap (planted st h k v n b s p r) (planted su h k v n b s p r)
    planted_alike h n b s p r l w = relinked_alike (joined_alike (leaf_set_alike a n k v) b l (nibble k p) n r (link_in s)) h s.at (to_branch b p) w

    forked_alike : (h : Header) → h.capacity ≡ cap → (s : Step) (p r : ℕ) → Within cap s.at → Agrees cap (forked st h k v s p r) (forked su h k v s p r)
    forked_alike h e s p r w =
        by_taken leaves h
        (λ n one. on_taken (λ b two. outcome (Ok New) (planted st two k v n b s p r)) (outcome (Err Store) st) (taken branches st one))
        (λ n one. on_taken (λ b two. outcome (Ok New) (planted su two k v n b s p r)) (outcome (Err Store) su) (taken branches su one))
        (outcome (Err Store) st) (outcome (Err Store) su) (leaves_alike a h e)
        (λ l one q.
        by_taken branches one
        (λ b two. outcome (Ok New) (planted st two k v h.leaf b s p r))
        (λ b two. outcome (Ok New) (planted su two k v h.leaf b s p r))
        (outcome (Err Store) st) (outcome (Err Store) su) (branches_alike a one (q ∙ e))
        (λ m two z. agrees (Ok New) (planted_alike two h.leaf one.branch s p r (omega (arith, q, e)) w))
        (agrees (Err Store) a))
        (agrees (Err Store) a)

    placed_alike : (h : Header) → h.capacity ≡ cap → (d p r : ℕ) (w : Result Walked NotAStore) → Lands cap w → Agrees cap (placed st h k v d p r w) (placed su h k v d p r w)
    placed_alike h e d p r (Ok (Missing b s)) l = go (leb h.capacity h.leaves)
      where
        go : (o : Bool) → Agrees cap (cond o (outcome (Err Full) st) (hung st h k v (Under b s))) (cond o (outcome (Err Full) su) (hung su h k v (Under b s)))
        go true = agrees (Err Full) a
        go false = hung_alike h e (Under b s) l
    placed_alike h e d p r (Ok (At c s)) l = go (leb h.limit d) (leb h.capacity h.leaves)
      where
        go : (o q : Bool) → Agrees cap (cond o (outcome (Err Height) st) (cond q (outcome (Err Full) st) (forked st h k v s p r))) (cond o (outcome (Err Height) su) (cond q (outcome (Err Full) su) (forked su h k v s p r)))
        go true q = agrees (Err Height) a
        go false true = agrees (Err Full) a
        go false false = forked_alike h e s p r l.1
    placed_alike h e d p r (Err z) l = agrees (Err Store) a

    module _ (bytes : Bytes k) (h : Header) (e : h.capacity ≡ cap) where
      beside_alike : (root : Link) → number_in root.child < cap → (n d : ℕ) → n < cap → Agrees cap (put_beside st h k v root n d) (put_beside su h k v root n d)
      beside_alike root i n d j =
          let c : ℕ = critical k (leaf_in st n).key in
          let same : walk su h.capacity k (c + 1) steps (first root) ≡ walk st h.capacity k (c + 1) steps (first root) = rw e (walk_alike a k (c + 1) steps (first root) i) in
          subst (λ (x : LeafRecord). let z = critical k x.key in Agrees cap (put_beside st h k v root n d) (placed su h k v d z (nibble x.key z) (walk su h.capacity k (z + 1) steps (first root)))) (sym (leaf_alike a n j))
          (subst (λ (w : Result Walked NotAStore). Agrees cap (put_beside st h k v root n d) (placed su h k v d c (nibble (leaf_in st n).key c) w)) (sym same)
          (placed_alike h e d c (nibble (leaf_in st n).key c) (walk st h.capacity k (c + 1) steps (first root)) (rw e (walk_lies st cap k bytes (c + 1) steps (first root) i tt tt))))

      near_put_alike : (root : Link) → number_in root.child < cap → (n d : ℕ) → n < cap → Agrees cap (put_near st h k v root n d) (put_near su h k v root n d)
      near_put_alike root i n d j =
          subst (λ (x : LeafRecord). Agrees cap (put_near st h k v root n d) (on_equal (order k x.key) (outcome (Ok Replaced) (set_value su n v)) (put_beside su h k v root n d))) (sym (leaf_alike a n j))
          (go (ordered k (leaf_in st n).key))
        where
          go : {o : Ordering} → Ordered k (leaf_in st n).key o
              → Agrees cap (on_equal o (outcome (Ok Replaced) (set_value st n v)) (put_beside st h k v root n d)) (on_equal o (outcome (Ok Replaced) (set_value su n v)) (put_beside su h k v root n d))
          go (before q) = beside_alike root i n d j
          go (equal q) = agrees (Ok Replaced) (value_alike a n v)
          go (after q) = beside_alike root i n d j

      under_alike : (root : Link) → number_in root.child < cap → Agrees cap (put_under st h k v root) (put_under su h k v root)
      under_alike root i =
          let same : near su h.capacity k steps 0 root ≡ near st h.capacity k steps 0 root = rw e (near_alike a k steps 0 root i) in
          subst (λ (c : Result Closest NotAStore). Agrees cap (put_under st h k v root) (on_closest (λ n d. put_near su h k v root n d) (outcome (Err Store) su) c)) (sym same)
          (go (near st h.capacity k steps 0 root) (subst (λ (c : ℕ). Low st cap k bytes (near st c k steps 0 root)) (sym e) (near_low st cap k bytes steps 0 root i)))
        where
          go : (c : Result Closest NotAStore) → Low st cap k bytes c
              → Agrees cap (on_closest (λ n d. put_near st h k v root n d) (outcome (Err Store) st) c) (on_closest (λ n d. put_near su h k v root n d) (outcome (Err Store) su) c)
          go (Ok c) l = near_put_alike root i c.leaf.0 c.depth l
          go (Err e) l = agrees (Err Store) a

      pub insert_alike : Agrees cap (insert_in st h k v) (insert_in su h k v)
      insert_alike = go (eqb h.leaves 0) (link_of h.capacity h.root) refl
        where
          go : (o : Bool) (l : Result Link NotAStore) → link_of h.capacity h.root ≡ l
              → Agrees cap (cond o (hung st h k v Root) (on_root (λ root. put_under st h k v root) (outcome (Err Store) st) l))
              (cond o (hung su h k v Root) (on_root (λ root. put_under su h k v root) (outcome (Err Store) su) l))
          go true l q = hung_alike h e Root tt
          go false (Ok m) q = under_alike m (subst (λ (z : ℕ). number_in m.child < z) e (within h.capacity h.root m q))
          go false (Err e) q = agrees (Err Store) a

-- ---- removal

pub remove_alike : {cap : ℕ} {st su : List ℕ} → Alike cap st su → (h : Header) (n : ℕ) (at above : Spot) → Within cap at → Within cap above
    → Agrees cap (remove_under st h n at above) (remove_under su h n at above)
remove_alike a h n Root above w u = agrees _ (head_alike (leaf_freed_alike a n h.leaf) _)
remove_alike {cap} {st} {su} a h n (Under b s) above w u =
    subst (λ (es : List Entry). Agrees cap (remove_under st h n (Under b s) above) (cond (eqb (length es) 2) (on_linked (λ l. outcome done (lifted su h n b.0 above l)) (outcome no_tree su) (outcome no_tree su) (head_link h.capacity (erase s es))) (outcome done (shrunk su h n b.0 s)))) (sym (children_alike a b.0 w.0))
    (go (eqb (length (children_in st b.0)) 2) (head_link h.capacity (erase s (children_in st b.0))))
  where
    go : (o : Bool) (l : Linked)
        → Agrees cap (cond o (on_linked (λ m. outcome done (lifted st h n b.0 above m)) (outcome no_tree st) (outcome no_tree st) l) (outcome done (shrunk st h n b.0 s)))
        (cond o (on_linked (λ m. outcome done (lifted su h n b.0 above m)) (outcome no_tree su) (outcome no_tree su) l) (outcome done (shrunk su h n b.0 s)))
    go true (Ok (Some m)) = agrees _ (relinked_alike (branch_freed_alike (leaf_freed_alike a n h.leaf) b.0 w.0 _) _ above m u)
    go true (Ok None) = agrees _ a
    go true (Err e) = agrees _ a
    go false l = agrees _ (head_alike (removed_alike (leaf_freed_alike a n h.leaf) b.0 w.0 s) _)

-- ---- creation

module _ {cap : ℕ} {st su : List ℕ} (a : Alike cap st su) where
  freed_alike : (n : ℕ) → n ≤ cap → Alike cap (freed_below cap n st) (freed_below cap n su)
  unfolding freed_below
  freed_alike zero l = a
  freed_alike (suc n) l = branch_freed_alike (leaf_freed_alike (freed_alike n (omega arith)) n (next_after cap n)) n (omega arith) (next_after cap n)

mark_alike : {cap : ℕ} {st su : List ℕ} → Alike cap st su → Alike cap (set_mark st) (set_mark su)
unfolding set_mark
mark_alike a = splice_alike a _ _

pub created_alike : (limit : ℕ) {st su : List ℕ} → capacity_of (length st) ≡ capacity_of (length su) → Alike (capacity_of (length st)) st su
    → Alike (capacity_of (length st)) (created limit st) (created limit su)
unfolding created
created_alike limit {st} {su} e a =
    let cap : ℕ = capacity_of (length st) in
    subst (λ (c : ℕ). Alike cap (set_head (set_mark (freed_below cap cap st)) (new_head cap limit)) (set_head (set_mark (freed_below c c su)) (new_head c limit))) e
    (head_alike (mark_alike (freed_alike a cap (omega arith))) (new_head cap limit))

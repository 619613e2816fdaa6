-- What insertion and removal keep on any bytes: the length, all past the last block, and, where they are refused, every byte. Assumes nothing.
use Prim.Native.Nat.{ℕ, zero, suc, ◌+◌, ◌≤◌, ◌<◌, Ordering}
use mathlib.Core.Path.{◌≡◌, refl, sym, subst, ◌∙◌}
use mathlib.Core.Bool.{Bool, true, false, cond, ◌&&◌}
use mathlib.Core.List.{List}
use mathlib.Core.Option.{Option, none, some}
use native.Mathlib.Omega.{arith}
use lib.Dec.{eqb, leb, ltb}
use lib.ListN.{length, drop}
use borrow.Author.Tests.{ltb-true}
use Rattle.model.specs.Key.{key_limit, Bytes, on_equal}
use Rattle.model.specs.Nibble.{nibble, critical}
use Rattle.model.specs.Answers.{number}
use Rattle.model.proofs.KeyLaws.{Ordered, before, equal, after, ordered}
use Rattle.model.proofs.NibbleAt.{nibble_slot}
use Rattle.bitmap.specs.Entries.{lookup, head, erase}
use Rattle.sparse_array.specs.Answers.{or_else}
use Rattle.node.specs.Layout.{start, Room}
use Rattle.node.specs.Child.{number_in, link_of, to_leaf, to_branch, Linked}
use Rattle.node.specs.Header.{set_head}
use Rattle.node.specs.Leaf.{leaf_in, set_leaf, set_value, free_leaf}
use Rattle.node.specs.Branch.{children_in, linked, linked_in, near_in, head_link, set_child, remove_child}
use Rattle.records.specs.Chain.{Kind, leaves, branches, taken}
use Rattle.node.specs.declared.child.Child.{Child}
use Rattle.node.specs.declared.child.Child.TheVariants.{Leaf as LeafChild, Branch}
use Rattle.node.specs.declared.child.BranchNo.{BranchNo}
use Rattle.node.specs.declared.child.Link.{Link}
use Rattle.node.specs.declared.header.Header.{Header}
use Rattle.node.proofs.ChildLaws.{within}
use Rattle.node.proofs.Frames.{OtherBlocks}
use Rattle.node.proofs.HeaderLaws.{length_head, past_stays, block_in}
use Rattle.node.proofs.RecordLaws.{leaf_written, value_written, leaf_freed, child_written, removal_written, branch_freed}
use Rattle.trie_spec.specs.Walk.{steps, step, link_in, on_linked, on_root, on_node, walk, near, first, Within, Lands, leaf_at}
use Rattle.trie_spec.specs.Find.{no_stop, find_from, find_in, Stands}
use Rattle.trie_spec.specs.Writes.{relinked, Outcome, outcome, on_taken, hung, planted, forked, placed, put_beside, put_near, on_closest, put_under, insert_in, emptied, shrunk, lifted, remove_under, Put, Removed, done, no_tree}
use Rattle.trie_spec.specs.declared.insert.Inserted.TheVariants.{New, Replaced}
use Rattle.trie_spec.specs.declared.insert.PutError.TheVariants.{Store, Height, Full}
use Rattle.trie_spec.specs.declared.descent.Spot.{Spot}
use Rattle.trie_spec.specs.declared.descent.Spot.TheVariants.{Root, Under}
use Rattle.trie_spec.specs.declared.descent.Step.{Step}
use Rattle.trie_spec.specs.declared.descent.Walked.{Walked}
use Rattle.trie_spec.specs.declared.descent.Walked.TheVariants.{At, Missing}
use Rattle.trie_spec.specs.declared.descent.Closest.{Closest}
use Rattle.trie_spec.proofs.FindLaws.{walked_stands}
use Rattle.trie_spec.proofs.WalkLaws.{linked_below}
use Rattle.trie_spec.proofs.AddLaws.{joined_written}
use Rattle.trie_spec.proofs.PutLaws.{answer_of}
use Rattle.std.specs.Prelude.{Result, Ok, Err, None, Some}
use Rattle.node.specs.NotAStore.{not_a_store}
use Rattle.node.specs.declared.NotAStore.{NotAStore}

-- the slice keeps its length, and all past the last block
pub record Keeps (cap : ℕ) (st st' : List ℕ) : Type 0 where
  pub size : length st' ≡ length st
  pub past : drop (start cap) st' ≡ drop (start cap) st

pub keeps_refl : (cap : ℕ) (st : List ℕ) → Keeps cap st st
keeps_refl cap st = record { size = refl; past = refl }

pub keeps_then : {cap : ℕ} {st st' st'' : List ℕ} → Keeps cap st st' → Keeps cap st' st'' → Keeps cap st st''
keeps_then k l = record { size = l.size ∙ k.size; past = l.past ∙ k.past }

keeps_block : (cap n : ℕ) {st st' : List ℕ} → n < cap → OtherBlocks n st st' → Keeps cap st st'
keeps_block cap n h o = record { size = o.size; past = o.past cap h }

pub keeps_head : (cap : ℕ) (st : List ℕ) (h : Header) → Keeps cap st (set_head st h)
keeps_head cap st h = record { size = length_head st h; past = past_stays st h cap }

pub keeps_value : (cap : ℕ) (st : List ℕ) (n v : ℕ) → n < cap → Keeps cap st (set_value st n v)
keeps_value cap st n v h = keeps_block cap n h (value_written st n v).others

-- ---- what a descent meets lies in the store, on any bytes

module _ (st : List ℕ) (cap : ℕ) (k : List ℕ) (bytes : Bytes k) where
  slot : (p : ℕ) → nibble k p ≤ 16
  slot p = omega (arith, nibble_slot k p bytes)

  -- one step of a descent, from what the rest of it meets
  module _ (stop f : ℕ) (s : Step) (rest : (m : Step) → number_in m.child < cap → Within cap m.at → Within cap m.above → Lands cap (walk st cap k stop f m))
      (h : number_in s.child < cap) (i : Within cap s.at) (j : Within cap s.above) where
    abbrev p : ℕ
    p = s.position

    by_link : (b : BranchNo) → b.0 < cap → (l : Linked) → linked_in cap (nibble k p) (children_in st b.0) ≡ l
        → Lands cap (on_linked (λ m. walk st cap k stop f (step m (Under b (nibble k p)) s.at)) (Ok (Missing b (nibble k p))) (Err not_a_store) l)
    by_link b q (Ok (Some m)) e = rest (step m (Under b (nibble k p)) s.at) (linked_below cap (lookup (nibble k p) (children_in st b.0)) m e) (q, slot p) i
    by_link b q (Ok None) e = (q, slot p)
    by_link b q (Err r) e = tt

    by_stop : (b : BranchNo) → b.0 < cap → (o : Bool)
        → Lands cap (cond o (Ok (At s.child s)) (on_linked (λ m. walk st cap k stop f (step m (Under b (nibble k p)) s.at)) (Ok (Missing b (nibble k p))) (Err not_a_store) (linked_in cap (nibble k p) (children_in st b.0))))
    by_stop b q true = (h, i, j, refl)
    by_stop b q false = by_link b q (linked_in cap (nibble k p) (children_in st b.0)) refl

    by_child : (c : Child) → number_in c < cap
        → Lands cap (on_node (λ n. Ok (At s.child s)) (λ b. cond (leb stop p) (Ok (At s.child s)) (on_linked (λ m. walk st cap k stop f (step m (Under b (nibble k p)) s.at)) (Ok (Missing b (nibble k p))) (Err not_a_store) (linked_in cap (nibble k p) (children_in st b.0)))) c)
    by_child (LeafChild n) q = (h, i, j, refl)
    by_child (Branch b) q = by_stop b q (leb stop p)

  pub walk_lies : (stop f : ℕ) (s : Step) → number_in s.child < cap → Within cap s.at → Within cap s.above → Lands cap (walk st cap k stop f s)
  unfolding walk
  walk_lies stop zero s h i j = tt
  walk_lies stop (suc f) s h i j = by_child stop f s (λ m q r t. walk_lies stop f m q r t) h i j s.child h

  -- the closest leaf's record is one of the store's
  abbrev pub Low : Result Closest NotAStore → Type 0
  Low (Ok c) = c.leaf.0 < cap
  Low (Err e) = Unit {0}

  near_link : (f d : ℕ) → ((e : ℕ) (m : Link) → number_in m.child < cap → Low (near st cap k f e m)) → (o : Option ℕ) (l : Linked) → linked cap o ≡ l
      → Low (on_linked (λ m. near st cap k f (d + 1) m) (Err not_a_store) (Err not_a_store) l)
  near_link f d rest o (Ok (Some m)) e = rest (d + 1) m (linked_below cap o m e)
  near_link f d rest o (Ok None) e = tt
  near_link f d rest o (Err r) e = tt

  near_child : (f d p : ℕ) → ((e : ℕ) (m : Link) → number_in m.child < cap → Low (near st cap k f e m)) → (c : Child) → number_in c < cap
      → Low (on_node (λ n. Ok (leaf_at n d)) (λ b. on_linked (λ m. near st cap k f (d + 1) m) (Err not_a_store) (Err not_a_store) (near_in cap (nibble k p) (children_in st b.0))) c)
  near_child f d p rest (LeafChild n) q = q
  near_child f d p rest (Branch b) q = near_link f d rest (or_else (lookup (nibble k p) (children_in st b.0)) (head (children_in st b.0))) (near_in cap (nibble k p) (children_in st b.0)) refl

  pub near_low : (f d : ℕ) (l : Link) → number_in l.child < cap → Low (near st cap k f d l)
  unfolding near
  near_low zero d l h = tt
  near_low (suc f) d l h = near_child f d l.position (λ e m q. near_low f e m q) l.child h

-- ---- insertion

-- What holds of an insertion on any bytes.
pub record Decent (cap : ℕ) (st : List ℕ) (r : Outcome Put) : Type 0 where
  pub keeps : Keeps cap st r.bytes
  pub refused : 10 ≤ number (answer_of r.answer) → r.bytes ≡ st

unchanged : (cap : ℕ) (st : List ℕ) (a : Put) → Decent cap st (outcome a st)
unchanged cap st a = record { keeps = keeps_refl cap st; refused = λ q. refl }

changed : (cap : ℕ) (st st' : List ℕ) (a : Put) → number (answer_of a) < 10 → Keeps cap st st' → Decent cap st (outcome a st')
changed cap st st' a l k = record { keeps = k; refused = λ q. absurd (omega arith) }

-- by whether a record is taken: its number is one of the store's
module _ (K : Kind) (st : List ℕ) (h : Header) where
  by_taken : {A : Type 0} (P : A → Type 0) (f : ℕ → Header → A) (a : A) → (K.first h < h.capacity → P (f (K.first h) (K.with h (K.next st (K.first h)) (K.used h + 1)))) → P a
      → P (on_taken f a (taken K st h))
  by_taken {A} P f a there none_left = go (ltb (K.first h) h.capacity) (ltb (K.used h) h.capacity && K.is_free st (K.first h)) refl
    where
      go : (b c : Bool) → ltb (K.first h) h.capacity ≡ b → P (on_taken f a (cond (b && c) (some (K.first h, K.with h (K.next st (K.first h)) (K.used h + 1))) none))
      go true true e = there (ltb-true (K.first h) h.capacity e)
      go true false e = none_left
      go false c e = none_left

module _ (st : List ℕ) (cap : ℕ) (fits : start cap ≤ length st) where
  -- a later state of the same slice has room for the same blocks
  still : {st' : List ℕ} → Keeps cap st st' → start cap ≤ length st'
  still k = rw k.size fits

  keeps_child : {st' : List ℕ} (n s : ℕ) (l : Link) → Keeps cap st st' → n < cap → Keeps cap st (set_child st' n s l)
  keeps_child {st'} n s l k h = keeps_then k (keeps_block cap n h (child_written st' n (block_in st' cap n (still k) h) s l).others)

  keeps_relink : {st' : List ℕ} (h : Header) (spot : Spot) (l : Link) → Keeps cap st st' → Within cap spot → Keeps cap st (relinked st' h spot l)
  keeps_relink {st'} h Root l k w = keeps_then k (keeps_head cap st' _)
  keeps_relink {st'} h (Under b s) l k w = keeps_then (keeps_child b.0 s l k w.0) (keeps_head cap (set_child st' b.0 s l) h)

  module _ (k : List ℕ) (v : ℕ) (short : length k ≤ key_limit) where
    keeps_leaf : (n : ℕ) → n < cap → Keeps cap st (set_leaf st n k v)
    keeps_leaf n h = keeps_block cap n h (leaf_written st n k v short).others

    hung_decent : (h : Header) → h.capacity ≡ cap → (spot : Spot) → Within cap spot → Decent cap st (hung st h k v spot)
    hung_decent h e spot w =
        by_taken leaves st h (Decent cap st) (λ n g. outcome (Ok New) (relinked (set_leaf st n k v) g spot (to_leaf n 0))) (outcome (Err Store) st)
        (λ l. changed cap st _ (Ok New) (omega arith) (keeps_relink _ spot (to_leaf h.leaf 0) (keeps_leaf h.leaf (omega arith)) w))
        (unchanged cap st (Err Store))

    planted_keeps : (h : Header) (n b : ℕ) (s : Step) (p r : ℕ) → n < cap → b < cap → Within cap s.at → Keeps cap st (planted st h k v n b s p r)
    planted_keeps h n b s p r i j w =
        let one : Keeps cap st (set_leaf st n k v) = keeps_leaf n i in
        let room : Room (set_leaf st n k v) b = block_in (set_leaf st n k v) cap b (still one) j in
        keeps_relink h s.at (to_branch b p)
        (keeps_then one (keeps_block cap b j (joined_written (set_leaf st n k v) b (nibble k p) n r (link_in s) room).1.others)) w

    forked_decent : (h : Header) → h.capacity ≡ cap → (s : Step) (p r : ℕ) → Within cap s.at → Decent cap st (forked st h k v s p r)
    forked_decent h e s p r w =
        by_taken leaves st h (Decent cap st) (λ n one. on_taken (λ b two. outcome (Ok New) (planted st two k v n b s p r)) (outcome (Err Store) st) (taken branches st one)) (outcome (Err Store) st)
        (λ i.
        let one : Header = leaves.with h (leaves.next st h.leaf) (h.leaves + 1) in
        by_taken branches st one (Decent cap st) (λ b two. outcome (Ok New) (planted st two k v h.leaf b s p r)) (outcome (Err Store) st)
        (λ j. changed cap st _ (Ok New) (omega arith) (planted_keeps _ h.leaf h.branch s p r (omega arith) (omega arith) w))
        (unchanged cap st (Err Store)))
        (unchanged cap st (Err Store))

    placed_decent : (h : Header) → h.capacity ≡ cap → (d p r : ℕ) (w : Result Walked NotAStore) → Lands cap w → Decent cap st (placed st h k v d p r w)
    placed_decent h e d p r (Ok (Missing b s)) l = go (leb h.capacity h.leaves)
      where
        go : (o : Bool) → Decent cap st (cond o (outcome (Err Full) st) (hung st h k v (Under b s)))
        go true = unchanged cap st (Err Full)
        go false = hung_decent h e (Under b s) l
    placed_decent h e d p r (Ok (At c s)) l = go (leb h.limit d) (leb h.capacity h.leaves)
      where
        go : (o q : Bool) → Decent cap st (cond o (outcome (Err Height) st) (cond q (outcome (Err Full) st) (forked st h k v s p r)))
        go true q = unchanged cap st (Err Height)
        go false true = unchanged cap st (Err Full)
        go false false = forked_decent h e s p r l.1
    placed_decent h e d p r (Err z) l = unchanged cap st (Err Store)

    module _ (bytes : Bytes k) (h : Header) (e : h.capacity ≡ cap) where
      beside_decent : (root : Link) → number_in root.child < cap → (n d : ℕ) → Decent cap st (put_beside st h k v root n d)
      beside_decent root i n d =
          let c : ℕ = critical k (leaf_in st n).key in
          placed_decent h e d c (nibble (leaf_in st n).key c) (walk st h.capacity k (c + 1) steps (first root)) (rw e (walk_lies st cap k bytes (c + 1) steps (first root) i tt tt))

      near_decent : (root : Link) → number_in root.child < cap → (n d : ℕ) → n < cap → Decent cap st (put_near st h k v root n d)
      near_decent root i n d j = go (ordered k (leaf_in st n).key)
        where
          go : {o : Ordering} → Ordered k (leaf_in st n).key o → Decent cap st (on_equal o (outcome (Ok Replaced) (set_value st n v)) (put_beside st h k v root n d))
          go (before q) = beside_decent root i n d
          go (equal q) = changed cap st (set_value st n v) (Ok Replaced) (omega arith) (keeps_value cap st n v j)
          go (after q) = beside_decent root i n d

      under_decent : (root : Link) → number_in root.child < cap → Decent cap st (put_under st h k v root)
      under_decent root i = go (near st h.capacity k steps 0 root) (subst (λ (c : ℕ). Low st cap k bytes (near st c k steps 0 root)) (sym e) (near_low st cap k bytes steps 0 root i))
        where
          go : (c : Result Closest NotAStore) → Low st cap k bytes c → Decent cap st (on_closest (λ n d. put_near st h k v root n d) (outcome (Err Store) st) c)
          go (Ok c) l = near_decent root i c.leaf.0 c.depth l
          go (Err e) l = unchanged cap st (Err Store)

      pub insert_decent : Decent cap st (insert_in st h k v)
      insert_decent = go (eqb h.leaves 0) (link_of h.capacity h.root) refl
        where
          go : (o : Bool) (l : Result Link NotAStore) → link_of h.capacity h.root ≡ l
              → Decent cap st (cond o (hung st h k v Root) (on_root (λ root. put_under st h k v root) (outcome (Err Store) st) l))
          go true l q = hung_decent h e Root tt
          go false (Ok m) q = under_decent m (subst (λ (z : ℕ). number_in m.child < z) e (within h.capacity h.root m q))
          go false (Err e) q = unchanged cap st (Err Store)

  -- ---- removal

  -- What holds of a removal on any bytes.
  pub record DecentCut (r : Outcome Removed) : Type 0 where
    pub keeps : Keeps cap st r.bytes
    pub refused : r.answer ≡ no_tree → r.bytes ≡ st

  no_cut : DecentCut (outcome no_tree st)
  no_cut = record { keeps = keeps_refl cap st; refused = λ q. refl }

  cut_done : (st' : List ℕ) → Keeps cap st st' → DecentCut (outcome done st')
  cut_done st' k = record { keeps = k; refused = λ q. absurd (let z : ◌≡◌ {A = ℕ} 0 1 = cc in omega arith) }

  keeps_freed : (n x : ℕ) → n < cap → Keeps cap st (free_leaf st n x)
  keeps_freed n x h = keeps_block cap n h (leaf_freed st n x).others

  pub remove_decent : (h : Header) (n : ℕ) (at above : Spot) → n < cap → Within cap at → Within cap above → DecentCut (remove_under st h n at above)
  remove_decent h n Root above i w u = cut_done (emptied st h n) (keeps_then (keeps_freed n h.leaf i) (keeps_head cap (free_leaf st n h.leaf) _))
  remove_decent h n (Under b s) above i w u = go (eqb (length (children_in st b.0)) 2) (head_link h.capacity (erase s (children_in st b.0)))
    where
      one : Keeps cap st (free_leaf st n h.leaf)
      one = keeps_freed n h.leaf i

      room : Room (free_leaf st n h.leaf) b.0
      room = block_in (free_leaf st n h.leaf) cap b.0 (still one) w.0

      go : (o : Bool) (l : Linked)
          → DecentCut (cond o (on_linked (λ m. outcome done (lifted st h n b.0 above m)) (outcome no_tree st) (outcome no_tree st) l) (outcome done (shrunk st h n b.0 s)))
      go true (Ok (Some m)) =
          cut_done (lifted st h n b.0 above m)
          (keeps_relink _ above m (keeps_then one (keeps_block cap b.0 w.0 (branch_freed (free_leaf st n h.leaf) b.0 room _).others)) u)
      go true (Ok None) = no_cut
      go true (Err e) = no_cut
      go false l =
          cut_done (shrunk st h n b.0 s)
          (keeps_then one (keeps_then (keeps_block cap b.0 w.0 (removal_written (free_leaf st n h.leaf) b.0 room s).others) (keeps_head cap (remove_child (free_leaf st n h.leaf) b.0 s) _)))

-- ---- lookup

-- what is found lies in the store, on any bytes
pub find_stands : (st : List ℕ) (h : Header) (k : List ℕ) → Bytes k → Stands h.capacity (find_in st h k)
find_stands st h k bytes = go (eqb h.leaves 0) (link_of h.capacity h.root) refl
  where
    go : (o : Bool) (l : Result Link NotAStore) → link_of h.capacity h.root ≡ l
        → Stands h.capacity (cond o (Ok None) (on_root (λ root. find_from st h.capacity k root) (Err not_a_store) l))
    go true l q = tt
    go false (Ok m) q =
        walked_stands st k h.capacity (walk st h.capacity k no_stop steps (first m))
        (walk_lies st h.capacity k bytes no_stop steps (first m) (within h.capacity h.root m q) tt tt)
    go false (Err e) q = tt

-- What the writers of a removal write is what the cut asks, and removal from an accepted store: the store after it is accepted and holds the tree without the
-- key. Assumes nothing.
use Prim.Native.Nat.{ℕ, ◌-◌, ◌≤◌, ◌<◌}
use mathlib.Core.Path.{◌≡◌, refl, sym, ap, subst, ◌∙◌}
use mathlib.Core.Logic.{◌≢◌, inl, inr}
use mathlib.Core.Bool.{true}
use mathlib.Core.List.{List}
use mathlib.Core.Option.{some}
use native.Mathlib.Omega.{arith}
use lib.Dec.{eqb}
use lib.ListN.{length, get_or}
use borrow.Author.Tests.{eq-eqb, ne_eqb}
use Rattle.model.specs.Numbers.{used, most, header_size}
use Rattle.model.specs.Picture.{Tree, closest}
use Rattle.pictures.specs.Tree.{remove_t}
use Rattle.pictures.specs.Stored.{Child, root, Cut, gone, lifts, shrinks, relinks, cut, Touches}
use Rattle.pictures.proofs.StoredRemove.{cut_within}
use Rattle.bitmap.specs.Entries.{Entry, insert, erase, Rising}
use Rattle.fields.specs.Part.{splice}
use Rattle.fields.specs.Number.{little_bytes}
use Rattle.sparse_array.specs.Array.{entries, with_slot, without_slot, cleared}
use Rattle.sparse_array.proofs.ArrayLaws.{rising}
use Rattle.node.specs.Layout.{start, free_size, Room}
use Rattle.node.specs.Header.{header, head_in, set_head}
use Rattle.node.specs.Leaf.{leaf_in, free_leaf}
use Rattle.node.specs.Branch.{array_in, children_in, set_child, remove_child, free_branch}
use Rattle.records.specs.Chain.{leaves as leaf_kind, branches as branch_kind, gave}
use Rattle.records.specs.Create.{no_root}
use Rattle.node.specs.declared.header.Header.{Header}
use Rattle.node.proofs.ChildLaws.{item_fits}
use Rattle.node.proofs.HeaderLaws.{Fits, head_back, length_head, mark_stays, leaf_stays, array_stays, block_in}
use Rattle.node.proofs.RecordLaws.{LeafWritten, leaf_freed, freed_size, freed_next, leaf_arrays, ArrayWritten, child_written, child_set, removal_written, child_removed, branch_freed, children_freed, after_freed, array_leaves}
use Rattle.trie_spec.specs.Accepted.{link_to, Accepted}
use Rattle.trie_spec.specs.Writes.{with_root, emptied, shrunk, lifted, Outcome, outcome, remove_under, Removed, done}
use Rattle.trie_spec.specs.declared.descent.Spot.{Spot}
use Rattle.trie_spec.specs.declared.descent.Spot.TheVariants.{Root, Under}
use Rattle.trie_spec.specs.declared.descent.Step.{Step}
use Rattle.trie_spec.proofs.AcceptedLaws.{right, few, fits, inside, limit_fits, root_fits, leaf_fits, branch_fits}
use Rattle.trie_spec.proofs.HeldLaws.{Linkable}
use Rattle.trie_spec.proofs.RowCodes.{item_to, codes_set, codes_drop, insert_some, erase_length}
use Rattle.trie_spec.proofs.FoundLaws.{Stood}
use Rattle.trie_spec.proofs.InsertLaws.{branch_free_same, branch_next_same}
use Rattle.trie_spec.proofs.RemoveLaws.{Took, head_less, a_below, remove_accepted}

-- a store, the leaf that goes, and the numbers that its record and a branch's are given to the chain with
pub record Gives (st : List ℕ) (cap a : ℕ) : Type 0 where
  pub few : cap ≤ most
  pub fits : start cap ≤ length st
  pub leaf : a < cap
  pub leaf_next : (head_in st).leaf < 65536
  pub branch_next : (head_in st).branch < 65536

module _ (st : List ℕ) (cap a : ℕ) (w : Gives st cap a) where
  abbrev h : Header
  h = head_in st

  abbrev s₁ : List ℕ
  s₁ = free_leaf st a h.leaf

  one : LeafWritten a st s₁
  one = leaf_freed st a h.leaf

  room_a : Room st a
  room_a = block_in st cap a w.fits w.leaf

  is_free_lem : leaf_kind.is_free s₁ a ≡ true
  is_free_lem = eq-eqb (leaf_in s₁ a).size free_size (freed_size st a room_a h.leaf)

  next_is : leaf_kind.next s₁ a ≡ h.leaf
  next_is = freed_next st a room_a h.leaf w.leaf_next

  still_fits : start cap ≤ length s₁
  still_fits = rw one.others.size w.fits

  long : (z : List ℕ) → length z ≡ length st → header_size ≤ length z
  long z e = omega (arith, w.fits, e)

  -- the leaf alone
  pub take_gone : (g : Header) (d : Child) → Fits g → g ≡ head_less h a gone no_root → Took st (set_head s₁ g) a d gone
  take_gone g d f e = record {
    size = length_head s₁ g ∙ one.others.size;
    mark = mark_stays s₁ g ∙ one.others.mark;
    head = head_back s₁ g (long s₁ one.others.size) f ∙ e;
    leaf = ap (λ z. eqb z.size free_size) (leaf_stays s₁ g a) ∙ is_free_lem;
    leaf_next = ap (λ z. z.next) (leaf_stays s₁ g a) ∙ next_is;
    leaves = λ m ne. leaf_stays s₁ g m ∙ one.others.leaves m ne;
    arrays = λ m c. array_stays s₁ g m ∙ leaf_arrays one m;
    freed = tt;
    unlinked = tt;
    filled = tt;
  }

  -- a slot of branch n
  module _ (n s : ℕ) (below-n : n < cap) (more : 3 ≤ length (children_in st n)) where
    abbrev s₂ : List ℕ
    s₂ = remove_child s₁ n s

    room_n : Room s₁ n
    room_n = block_in s₁ cap n still_fits below-n

    two : ArrayWritten n (without_slot s (array_in s₁ n)) s₁ s₂
    two = removal_written s₁ n room_n s

    pub take_shrinks : (g : Header) (d : Child) → Fits g → g ≡ head_less h a (shrinks n s) (item_to d) → Took st (set_head s₂ g) a d (shrinks n s)
    take_shrinks g d f e = record {
      size = length_head s₂ g ∙ two.others.size ∙ one.others.size;
      mark = mark_stays s₂ g ∙ two.others.mark ∙ one.others.mark;
      head = head_back s₂ g (long s₂ (two.others.size ∙ one.others.size)) f ∙ e;
      leaf = ap (λ z. eqb z.size free_size) (leaf_stays s₂ g a ∙ array_leaves two a) ∙ is_free_lem;
      leaf_next = ap (λ z. z.next) (leaf_stays s₂ g a ∙ array_leaves two a) ∙ next_is;
      leaves = λ m ne. leaf_stays s₂ g m ∙ array_leaves two m ∙ one.others.leaves m ne;
      arrays = λ m c. array_stays s₂ g m ∙ two.others.arrays m c ∙ leaf_arrays one m;
      freed = tt;
      unlinked = λ r c q z. children ∙ ap (erase s) q ∙ codes_drop s r;
      filled = λ z. omega (arith, more, erase_length s (children_in st n), ap length (sym children ∙ z));
    }
      where
        children : children_in (set_head s₂ g) n ≡ erase s (children_in st n)
        children = ap entries (array_stays s₂ g n) ∙ child_removed s₁ n room_n s ∙ ap (λ z. erase s (entries z)) (leaf_arrays one n)

  -- branch f, whose other child is c
  module _ (f : ℕ) (below_f : f < cap) (c : Child) (l : Linkable (link_to c)) where
    abbrev s₃ : List ℕ
    s₃ = free_branch s₁ f h.branch

    room_f : Room s₁ f
    room_f = block_in s₁ cap f still_fits below_f

    three : ArrayWritten f (splice (cleared (array_in s₁ f)) 4 (little_bytes 2 h.branch)) s₁ s₃
    three = branch_freed s₁ f room_f h.branch

    branch_free : branch_kind.is_free s₃ f ≡ true
    branch_free = ap (λ (z : List Entry). eqb (length z) 0) (children_freed s₁ f room_f h.branch)

    branch_after : branch_kind.next s₃ f ≡ h.branch
    branch_after = after_freed s₁ f room_f h.branch w.branch_next

    pub take_lifts : (g : Header) (d : Child) → Fits g → g ≡ head_less h a (lifts f c) (item_to c) → Took st (set_head s₃ g) a d (lifts f c)
    take_lifts g d i e = record {
      size = length_head s₃ g ∙ three.others.size ∙ one.others.size;
      mark = mark_stays s₃ g ∙ three.others.mark ∙ one.others.mark;
      head = head_back s₃ g (long s₃ (three.others.size ∙ one.others.size)) i ∙ e;
      leaf = ap (λ z. eqb z.size free_size) (leaf_stays s₃ g a ∙ array_leaves three a) ∙ is_free_lem;
      leaf_next = ap (λ z. z.next) (leaf_stays s₃ g a ∙ array_leaves three a) ∙ next_is;
      leaves = λ m ne. leaf_stays s₃ g m ∙ array_leaves three m ∙ one.others.leaves m ne;
      arrays = λ m t. array_stays s₃ g m ∙ three.others.arrays m t ∙ leaf_arrays one m;
      freed = (branch_free_same s₃ (set_head s₃ g) f (array_stays s₃ g f) ∙ branch_free, branch_next_same s₃ (set_head s₃ g) f (array_stays s₃ g f) ∙ branch_after);
      unlinked = tt;
      filled = tt;
    }

    -- whose place in branch n that child takes
    module _ (n s : ℕ) (below-n : n < cap) (fits-s : s ≤ 16) (apart : n ≢ f) where
      abbrev s₄ : List ℕ
      s₄ = set_child s₃ n s (link_to c)

      room_four : Room s₃ n
      room_four = block_in s₃ cap n (rw three.others.size still_fits) below-n

      four : ArrayWritten n (with_slot s (item_to c) (array_in s₃ n)) s₃ s₄
      four = child_written s₃ n room_four s (link_to c)

      pub take_relinks : (g : Header) (d : Child) → Fits g → g ≡ head_less h a (relinks n s f c) (item_to d) → Took st (set_head s₄ g) a d (relinks n s f c)
      take_relinks g d i e = record {
        size = length_head s₄ g ∙ sizes;
        mark = mark_stays s₄ g ∙ four.others.mark ∙ three.others.mark ∙ one.others.mark;
        head = head_back s₄ g (long s₄ sizes) i ∙ e;
        leaf = ap (λ z. eqb z.size free_size) (leaf_stays s₄ g a ∙ array_leaves four a ∙ array_leaves three a) ∙ is_free_lem;
        leaf_next = ap (λ z. z.next) (leaf_stays s₄ g a ∙ array_leaves four a ∙ array_leaves three a) ∙ next_is;
        leaves = λ m ne. leaf_stays s₄ g m ∙ array_leaves four m ∙ array_leaves three m ∙ one.others.leaves m ne;
        arrays = λ m t. array_stays s₄ g m ∙ four.others.arrays m (λ q. t (inl q)) ∙ three.others.arrays m (λ q. t (inr q)) ∙ leaf_arrays one m;
        freed = (branch_free_same s₃ (set_head s₄ g) f freed_stays ∙ branch_free, branch_next_same s₃ (set_head s₄ g) f freed_stays ∙ branch_after);
        unlinked = λ r q m z. children ∙ ap (insert s (item_to c)) m ∙ codes_set s 0 17 c q r (subst (Rising 0 17) m (rising (array_in st n))) z;
        filled = λ z. insert_some s (item_to c) (children_in st n) (sym children ∙ z);
      }
        where
          sizes : length s₄ ≡ length st
          sizes = four.others.size ∙ three.others.size ∙ one.others.size

          freed_stays : array_in (set_head s₄ g) f ≡ array_in s₃ f
          freed_stays = array_stays s₄ g f ∙ four.others.arrays f (λ q. apart (sym q))

          children : children_in (set_head s₄ g) n ≡ insert s (item_to c) (children_in st n)
          children =
              ap entries (array_stays s₄ g n)
              ∙ child_set s₃ n room_four s (link_to c) fits-s l.number l.position
              ∙ ap (λ z. insert s (item_to c) (entries z)) (three.others.arrays n apart ∙ leaf_arrays one n)

-- What a removal from a store that holds t comes to.
pub record Removes (st : List ℕ) (t : Tree) (k : List ℕ) (r : Outcome Removed) : Type 0 where
  pub done : r.answer ≡ done
  pub limit : (head_in r.bytes).limit ≡ (head_in st).limit
  pub size : length r.bytes ≡ length st
  pub accepted : ((i : ℕ) → i < used r.bytes → get_or r.bytes i 0 < 256) → Accepted r.bytes (remove_t k t)

module _ (st : List ℕ) (t : Tree) (acc : Accepted st (some t)) (k : List ℕ) (stored : k ≡ (closest k t).key) where
  abbrev g : Header
  g = head_in st

  abbrev n : ℕ
  n = (closest k t).number

  abbrev size_of : ℕ
  size_of = (head_in st).capacity

  abbrev low : size_of ≤ most
  low = few st (some t) acc

  gives : Gives st size_of n
  gives = record {
    few = low;
    fits = fits st (some t) acc;
    leaf = a_below st t acc k stored;
    leaf_next = leaf_fits st (some t) acc;
    branch_next = branch_fits st (some t) acc;
  }

  -- the header after it, with any root and any branches
  less_fits : (branches root branch : ℕ) → branches ≤ g.branches → root < 16777216 → branch < 65536 → Fits (header g.capacity g.limit (g.leaves - 1) branches root n branch)
  less_fits branches root branch b r f = record {
    capacity = omega (arith, low);
    limit = limit_fits st (some t) acc;
    leaves = omega (arith, low, (right st (some t) acc).leaves);
    branches = omega (arith, low, b, (right st (some t) acc).branches);
    root = r;
    leaf = omega (arith, low, a_below st t acc k stored);
    branch = f;
  }

  removes : (st' : List ℕ) → Took st st' n (root t) (cut k t) → Removes st t k (outcome done st')
  removes st' w = record {
    done = refl;
    limit = ap (λ (z : Header). z.limit) w.head;
    size = w.size;
    accepted = λ bytes. remove_accepted st t acc k stored st' w bytes;
  }

  within : (m : ℕ) → Touches (cut k t) m → m < size_of
  within m c = (inside st t acc).branches m (cut_within k m t c)

  by_cut : (z : Cut) → cut k t ≡ z → (s : Step) → Stood st size_of low k z Root Root s → Removes st t k (remove_under st g n s.at s.above)
  by_cut gone e s (at, above) =
      rw at (removes (emptied st g n) (subst (Took st (emptied st g n) n (root t)) (sym e)
      (take_gone st size_of n gives (with_root (gave leaf_kind g n) no_root) (root t) (less_fits g.branches no_root g.branch (omega arith) (omega arith) (branch_fits st (some t) acc)) refl)))
  by_cut (lifts f c) e s (q, at, above, p) =
      let below_f : f < size_of = within f (subst (λ (z : Cut). Touches z f) (sym e) refl) in
      rw (at, above, p.two, p.other)
      (removes (lifted st g n f Root (link_to c)) (subst (Took st (lifted st g n f Root (link_to c)) n (root t)) (sym e)
      (take_lifts st size_of n gives f below_f c p.fits (with_root (gave branch_kind (gave leaf_kind g n) f) (item_to c)) (root t)
      (less_fits (g.branches - 1) (item_to c) f (omega arith) (item_fits (link_to c) p.fits.number p.fits.position) (omega (arith, low))) refl)))
  by_cut (shrinks m o) e s (at, more) =
      let below_m : m < size_of = within m (subst (λ (z : Cut). Touches z m) (sym e) refl) in
      rw (at, ne_eqb (length (children_in st m)) 2 (λ z. omega (arith, more)))
      (removes (shrunk st g n m o) (subst (Took st (shrunk st g n m o) n (root t)) (sym e)
      (take_shrinks st size_of n gives m o below_m more (gave leaf_kind g n) (root t)
      (less_fits g.branches g.root g.branch (omega arith) (root_fits st (some t) acc) (branch_fits st (some t) acc))
      (ap (λ (z : ℕ). with_root (gave leaf_kind g n) z) acc.rooted))))
  by_cut (relinks m o f c) e s (q, at, above, p, fits-o, apart) =
      let below_f : f < size_of = within f (subst (λ (z : Cut). Touches z f) (sym e) (inr refl)) in
      let below_m : m < size_of = within m (subst (λ (z : Cut). Touches z m) (sym e) (inl refl)) in
      let spot : Spot = Under (record { 0 = m }) o in
      rw (at, above, p.two, p.other)
      (removes (lifted st g n f spot (link_to c)) (subst (Took st (lifted st g n f spot (link_to c)) n (root t)) (sym e)
      (take_relinks st size_of n gives f below_f c p.fits m o below_m fits-o apart (gave branch_kind (gave leaf_kind g n) f) (root t)
      (less_fits (g.branches - 1) g.root f (omega arith) (root_fits st (some t) acc) (omega (arith, low)))
      (ap (λ (z : ℕ). with_root (gave branch_kind (gave leaf_kind g n) f) z) acc.rooted))))

  -- Removal from an accepted store, where a lookup stood.
  pub remove_means : (s : Step) → Stood st size_of low k (cut k t) Root Root s → Removes st t k (remove_under st g n s.at s.above)
  remove_means s w = by_cut (cut k t) refl s w

-- What the writers of an insertion write is what the site asks: the leaf, the branch over it where one is needed, the link to it, and the header.
-- Assumes nothing.
use Prim.Native.Nat.{ℕ, ◌≤◌, ◌<◌, Ordering}
use mathlib.Core.Path.{◌≡◌, refl, sym, ap, subst, ◌∙◌}
use mathlib.Core.Logic.{◌≢◌, ◌⊎◌, inl, inr}
use mathlib.Core.Bool.{Bool, true, false, cond}
use mathlib.Core.List.{List, [], ◌∷◌}
use native.Mathlib.Omega.{arith}
use lib.Dec.{ltb}
use lib.ListN.{length}
use borrow.Author.Tests.{lt-ltb, le-ltb}
use Rattle.model.specs.Key.{IsKey, Bytes}
use Rattle.model.specs.Numbers.{most, value_bound, header_size}
use Rattle.model.specs.Nibble.{nibble}
use Rattle.model.specs.Map.{choose}
use Rattle.model.specs.Picture.{Tree, leaf, branch, Kids, end, kid, Picture}
use Rattle.model.proofs.Compare.{Said, lower, same, higher, said, number_other}
use Rattle.model.proofs.NibbleAt.{nibble_slot}
use Rattle.pictures.specs.Tree.{New, new_slot}
use Rattle.pictures.specs.Stored.{Child, to_leaf, to_branch, At, Lacks, Site, whole, grows, under, below, site, site_k}
use Rattle.pictures.proofs.Children.{tree_ind, at_or_lacks, picture_at, site_at}
use Rattle.bitmap.specs.Entries.{insert, Rising}
use Rattle.sparse_array.specs.Array.{entries, with_slot}
use Rattle.sparse_array.proofs.ArrayLaws.{rising}
use Rattle.node.specs.Layout.{start, Room}
use Rattle.node.specs.Child.{item_of, to_leaf as leaf_link, to_branch as branch_link}
use Rattle.node.specs.Header.{head_in, set_head}
use Rattle.node.specs.Leaf.{Is, leaf_in, set_leaf}
use Rattle.node.specs.Branch.{array_in, children_in, set_child, make_branch}
use Rattle.node.specs.declared.header.Header.{Header}
use Rattle.node.specs.declared.child.Link.{Link}
use Rattle.node.proofs.HeaderLaws.{Fits, head_back, length_head, mark_stays, leaf_stays, array_stays, block_in}
use Rattle.node.proofs.RecordLaws.{LeafWritten, leaf_written, leaf_is, leaf_arrays, ArrayWritten, child_written, child_set, branch_written, children_made, array_leaves}
use Rattle.trie_spec.specs.Accepted.{link_to}
use Rattle.trie_spec.specs.Writes.{joined}
use Rattle.trie_spec.proofs.HeldLaws.{Linkable, Inside, inside_at, own, linkable}
use Rattle.trie_spec.proofs.RowCodes.{item_to, pair_of, codes_add, codes_set, codes_pair, insert_some, pair_some}
use Rattle.trie_spec.proofs.InsertLaws.{Wrote, head_after}

not_both : {A : Type 0} → ◌≡◌ {A = Bool} true false → A
not_both q = absurd (let z : ◌≡◌ {A = ℕ} 0 1 = cc in omega arith)

-- ---- the child at a site

module _ (st : List ℕ) (cap : ℕ) (few : cap ≤ most) (x : New) (bytes : Bytes x.key) where
  abbrev pub SiteFits : Site → Type 0
  SiteFits (whole c) = Linkable (link_to c)
  SiteFits (grows n) = n < cap
  SiteFits (under n s c) = (n < cap) × (s ≤ 16) × Linkable (link_to c)

  fits_below : (n s : ℕ) → n < cap → s ≤ 16 → (z : Site) → SiteFits z → SiteFits (below n s z)
  fits_below n s h i (whole c) f = (h, i, f)
  fits_below n s h i (grows m) f = f
  fits_below n s h i (under m r c) f = f

  site_lacks : (n s : ℕ) (ks : Kids) → Lacks s ks → site_k x n s ks ≡ grows n
  site_lacks n s end d = refl
  site_lacks n s (kid r t ks) d = number_other d.0 (below n s (site x t)) (site_k x n s ks) ∙ site_lacks n s ks d.1

  pub site_fits : (t : Tree) → Picture t → Inside st cap few t → SiteFits (site x t)
  site_fits =
      tree_ind (λ t. Picture t → Inside st cap few t → SiteFits (site x t))
      (λ n k v pic i. linkable st cap few (leaf n k v) pic i)
      (λ n p ks ih pic i. go n p ks pic i ih (said x.place p) (at_or_lacks (nibble x.key p) ks))
    where
      go : (n p : ℕ) (ks : Kids) (pic : Picture (branch n p ks)) (i : Inside st cap few (branch n p ks)) → ((s : ℕ) (u : Tree) → At s u ks → Picture u → Inside st cap few u → SiteFits (site x u))
          → {o : Ordering} → Said x.place p o → ((u : Tree) × At (nibble x.key p) u ks) ⊎ Lacks (nibble x.key p) ks
          → SiteFits (choose o (whole (to_branch n p)) (grows n) (site_k x n (nibble x.key p) ks))
      go n p ks pic i ih (lower q) a = linkable st cap few (branch n p ks) pic i
      go n p ks pic i ih (same q) a = own st cap few n p ks i
      go n p ks pic i ih (higher q) (inl (u, a)) =
          rw (site_at x n a)
          (fits_below n (nibble x.key p) (own st cap few n p ks i) (omega (arith, nibble_slot x.key p bytes)) (site x u)
          (ih (nibble x.key p) u a (picture_at p pic.0 a pic.1).0 (inside_at st cap few a i)))
      go n p ks pic i ih (higher q) (inr d) = rw (site_lacks n (nibble x.key p) ks d) (own st cap few n p ks i)

-- ---- a branch over two children

module _ (st : List ℕ) (b s n r : ℕ) (l : Link) (room : Room st b) where
  pub joined_written : (ys : List ℕ) × ArrayWritten b ys st (joined st b s n r l)
  joined_written = go (ltb s r)
    where
      go : (o : Bool) → (ys : List ℕ) × ArrayWritten b ys st (cond o (make_branch st b s (leaf_link n 0) r l) (make_branch st b r l s (leaf_link n 0)))
      go true = (_, branch_written st b room s (leaf_link n 0) r l)
      go false = (_, branch_written st b room r l s (leaf_link n 0))

  pub joined_children : s ≢ r → s ≤ 16 → r ≤ 16 → n < most → Linkable l → children_in (joined st b s n r l) b ≡ pair_of s (item_of (leaf_link n 0)) r (item_of l)
  joined_children d i j h f = go (said s r)
    where
      go : {o : Ordering} → Said s r o
          → children_in (joined st b s n r l) b ≡ choose o ((s, item_of (leaf_link n 0)) ∷ (r, item_of l) ∷ []) [] ((r, item_of l) ∷ (s, item_of (leaf_link n 0)) ∷ [])
      go (lower q) = rw (lt-ltb s r q) (children_made st b room s (leaf_link n 0) r l q j h (omega arith) f.number f.position)
      go (same q) = absurd (d q)
      go (higher q) = rw (le-ltb s r (omega arith)) (children_made st b room r l s (leaf_link n 0) q i f.number f.position h (omega arith))

-- ---- what is written

-- a store, the key that is added, and the records that it takes
pub record Adds (st : List ℕ) (cap : ℕ) (x : New) : Type 0 where
  pub few : cap ≤ most
  pub fits : start cap ≤ length st
  pub key : IsKey x.key
  pub value : x.value < value_bound
  pub leaf : x.leaf_no < cap
  pub branch : x.branch_no < cap
  pub place : x.place < 256
  pub other : x.other ≤ 16
  pub differs : new_slot x ≢ x.other

module _ (st : List ℕ) (cap : ℕ) (x : New) (w : Adds st cap x) where
  abbrev a : ℕ
  a = x.leaf_no

  abbrev b : ℕ
  b = x.branch_no

  abbrev s₁ : List ℕ
  s₁ = set_leaf st a x.key x.value

  one : LeafWritten a st s₁
  one = leaf_written st a x.key x.value w.key.fits

  is_leaf : Is (leaf_in s₁ a) x.key x.value
  is_leaf = leaf_is st a (block_in st cap a w.fits w.leaf) x.key x.value w.key.fits w.value

  still_fits : start cap ≤ length s₁
  still_fits = rw one.others.size w.fits

  slot : new_slot x ≤ 16
  slot = omega (arith, nibble_slot x.key x.place w.key.bytes)

  long : (z : List ℕ) → length z ≡ length st → header_size ≤ length z
  long z e = omega (arith, w.fits, e)

  -- one child more
  module _ (n : ℕ) (below-n : n < cap) where
    abbrev s₂ : List ℕ
    s₂ = set_child s₁ n (new_slot x) (leaf_link a 0)

    room_n : Room s₁ n
    room_n = block_in s₁ cap n still_fits below-n

    two : ArrayWritten n (with_slot (new_slot x) (item_of (leaf_link a 0)) (array_in s₁ n)) s₁ s₂
    two = child_written s₁ n room_n (new_slot x) (leaf_link a 0)

    grown_children : children_in s₂ n ≡ insert (new_slot x) (item_to (to_leaf a)) (children_in st n)
    grown_children =
        child_set s₁ n room_n (new_slot x) (leaf_link a 0) slot (omega (arith, w.leaf, w.few)) (omega arith)
        ∙ ap (λ z. insert (new_slot x) (item_to (to_leaf a)) (entries z)) (leaf_arrays one n)

    pub add_grows : (h : Header) (d : Child) → Fits h → h ≡ head_after st (head_in st) true (item_to d) → Wrote st (set_head s₂ h) x d (grows n)
    add_grows h d f e = record {
      size = length_head s₂ h ∙ two.others.size ∙ one.others.size;
      mark = mark_stays s₂ h ∙ two.others.mark ∙ one.others.mark;
      head = head_back s₂ h (long s₂ (two.others.size ∙ one.others.size)) f ∙ e;
      leaf = subst (λ z. Is z x.key x.value) (sym (leaf_stays s₂ h a ∙ array_leaves two a)) is_leaf;
      leaves = λ m ne. leaf_stays s₂ h m ∙ array_leaves two m ∙ one.others.leaves m ne;
      arrays = λ m g c. array_stays s₂ h m ∙ two.others.arrays m c ∙ leaf_arrays one m;
      written = λ r g free. children ∙ ap (insert (new_slot x) (item_to (to_leaf a))) g ∙ codes_add (new_slot x) (to_leaf a) r free;
      filled = λ m c g. insert_some (new_slot x) (item_to (to_leaf a)) (children_in st n) (sym children ∙ subst (λ (z : ℕ). children_in (set_head s₂ h) z ≡ []) c g);
      forked = λ q. not_both q;
    }
      where
        children : children_in (set_head s₂ h) n ≡ insert (new_slot x) (item_to (to_leaf a)) (children_in st n)
        children = ap entries (array_stays s₂ h n) ∙ grown_children

  -- a new branch over the new leaf and the child c
  module _ (c : Child) (f : Linkable (link_to c)) where
    abbrev s₃ : List ℕ
    s₃ = joined s₁ b (new_slot x) a x.other (link_to c)

    room_b : Room s₁ b
    room_b = block_in s₁ cap b still_fits w.branch

    three : ArrayWritten b (joined_written s₁ b (new_slot x) a x.other (link_to c) room_b).0 s₁ s₃
    three = (joined_written s₁ b (new_slot x) a x.other (link_to c) room_b).1

    over : children_in s₃ b ≡ pair_of (new_slot x) (item_to (to_leaf a)) x.other (item_to c)
    over = joined_children s₁ b (new_slot x) a x.other (link_to c) room_b w.differs slot w.other (omega (arith, w.leaf, w.few)) f

    pub add_whole : (h : Header) (d : Child) → Fits h → h ≡ head_after st (head_in st) false (item_to (to_branch b x.place)) → Wrote st (set_head s₃ h) x d (whole c)
    add_whole h d g e = record {
      size = length_head s₃ h ∙ three.others.size ∙ one.others.size;
      mark = mark_stays s₃ h ∙ three.others.mark ∙ one.others.mark;
      head = head_back s₃ h (long s₃ (three.others.size ∙ one.others.size)) g ∙ e;
      leaf = subst (λ z. Is z x.key x.value) (sym (leaf_stays s₃ h a ∙ array_leaves three a)) is_leaf;
      leaves = λ m ne. leaf_stays s₃ h m ∙ array_leaves three m ∙ one.others.leaves m ne;
      arrays = λ m ne c. array_stays s₃ h m ∙ three.others.arrays m (ne refl) ∙ leaf_arrays one m;
      written = children ∙ codes_pair (new_slot x) (to_leaf a) x.other c;
      filled = λ m c. absurd c;
      forked = λ q z. pair_some (new_slot x) (item_to (to_leaf a)) x.other (item_to c) w.differs (sym children ∙ z);
    }
      where
        children : children_in (set_head s₃ h) b ≡ pair_of (new_slot x) (item_to (to_leaf a)) x.other (item_to c)
        children = ap entries (array_stays s₃ h b) ∙ over

    -- whose link goes to a slot of branch n
    module _ (n s : ℕ) (below-n : n < cap) (fits-s : s ≤ 16) (apart : n ≢ b) where
      abbrev s₄ : List ℕ
      s₄ = set_child s₃ n s (branch_link b x.place)

      room_four : Room s₃ n
      room_four = block_in s₃ cap n (rw three.others.size still_fits) below-n

      four : ArrayWritten n (with_slot s (item_of (branch_link b x.place)) (array_in s₃ n)) s₃ s₄
      four = child_written s₃ n room_four s (branch_link b x.place)

      set_children : children_in s₄ n ≡ insert s (item_to (to_branch b x.place)) (children_in st n)
      set_children =
          child_set s₃ n room_four s (branch_link b x.place) fits-s (omega (arith, w.branch, w.few)) w.place
          ∙ ap (λ z. insert s (item_to (to_branch b x.place)) (entries z)) (three.others.arrays n apart ∙ leaf_arrays one n)

      pub add_under : (h : Header) (d : Child) → Fits h → h ≡ head_after st (head_in st) false (item_to d) → Wrote st (set_head s₄ h) x d (under n s c)
      add_under h d g e = record {
        size = length_head s₄ h ∙ sizes;
        mark = mark_stays s₄ h ∙ four.others.mark ∙ three.others.mark ∙ one.others.mark;
        head = head_back s₄ h (long s₄ sizes) g ∙ e;
        leaf = subst (λ z. Is z x.key x.value) (sym (leaf_stays s₄ h a ∙ array_leaves four a ∙ array_leaves three a)) is_leaf;
        leaves = λ m ne. leaf_stays s₄ h m ∙ array_leaves four m ∙ array_leaves three m ∙ one.others.leaves m ne;
        arrays = λ m ne c. array_stays s₄ h m ∙ four.others.arrays m c ∙ three.others.arrays m (ne refl) ∙ leaf_arrays one m;
        written = (
          children ∙ codes_pair (new_slot x) (to_leaf a) x.other c,
          λ r q g z. links ∙ ap (insert s (item_to (to_branch b x.place))) g
              ∙ codes_set s 0 17 (to_branch b x.place) q r (subst (Rising 0 17) g (rising (array_in st n))) z,
        );
        filled = λ m q z. insert_some s (item_to (to_branch b x.place)) (children_in st n) (sym links ∙ subst (λ (i : ℕ). children_in (set_head s₄ h) i ≡ []) q z);
        forked = λ q z. pair_some (new_slot x) (item_to (to_leaf a)) x.other (item_to c) w.differs (sym children ∙ z);
      }
        where
          sizes : length s₄ ≡ length st
          sizes = four.others.size ∙ three.others.size ∙ one.others.size

          children : children_in (set_head s₄ h) b ≡ pair_of (new_slot x) (item_to (to_leaf a)) x.other (item_to c)
          children = ap entries (array_stays s₄ h b ∙ four.others.arrays b (λ q. apart (sym q))) ∙ over

          links : children_in (set_head s₄ h) n ≡ insert s (item_to (to_branch b x.place)) (children_in st n)
          links = ap entries (array_stays s₄ h n) ∙ set_children

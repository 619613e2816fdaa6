-- "Bytes past 128 x (capacity + 1) are neither read ..": two slices with the same header and the same blocks give the same page, whatever the bytes are.
-- Assumes nothing.
use Prim.Native.Nat.{ℕ, zero, suc, ◌+◌, ◌*◌, ◌<◌}
use mathlib.Core.Path.{◌≡◌, refl, ap, ap₂, subst, ◌∙◌}
use mathlib.Core.Bool.{Bool, true, false, cond}
use mathlib.Core.List.{List, [], ◌∷◌, ◌++◌}
use mathlib.Core.Option.{some}
use lib.Dec.{leb, eqb}
use lib.ListN.{length, drop}
use Rattle.model.specs.Key.{Bytes, starts_with}
use Rattle.model.specs.Nibble.{nibble, critical}
use Rattle.pictures.specs.After.{passes}
use Rattle.bitmap.specs.Entries.{Entry as Item, lookup, below as place_of}
use Rattle.node.specs.Child.{number_in, link_of, Linked}
use Rattle.node.specs.Leaf.{Leaf as LeafRecord, leaf_in}
use Rattle.node.specs.Branch.{children_in, linked_in}
use Rattle.node.specs.declared.child.Child.{Child}
use Rattle.node.specs.declared.child.Child.TheVariants.{Leaf as LeafChild, Branch}
use Rattle.node.specs.declared.child.Link.{Link}
use Rattle.node.specs.declared.header.Header.{Header}
use Rattle.node.proofs.ChildLaws.{within}
use Rattle.trie_spec.specs.Walk.{depth, steps, link_in, on_linked, on_root, on_node, walk, near, first, Lands}
use Rattle.trie_spec.specs.Writes.{outcome, on_closest}
use Rattle.trie_spec.specs.declared.descent.Walked.{Walked}
use Rattle.trie_spec.specs.declared.descent.Walked.TheVariants.{At, Missing}
use Rattle.trie_spec.specs.declared.descent.Closest.{Closest}
use Rattle.trie_spec.proofs.WalkLaws.{linked_below}
use Rattle.trie_spec.proofs.KeepLaws.{walk_lies, Low, near_low}
use Rattle.trie_spec.proofs.UnreadLaws.{Alike, leaf_alike, children_alike, walk_alike, near_alike}
use Rattle.walk.specs.Walk.{entry_in, Met, nothing_right, kids, below, after, puts}
use Rattle.iterator.specs.Page.{nothing, blank, listed, list_beside, list_under, on_walked, list_from, list_in}
use Rattle.std.specs.Prelude.{Result, Ok, Err, Some, None}
use Rattle.node.specs.declared.NotAStore.{NotAStore}
use Rattle.node.specs.NotAStore.{not_a_store}

kids_same : (cap : ℕ) (g h : Link → List Met) → ((m : Link) → number_in m.child < cap → g m ≡ h m) → (es : List Item) → kids cap g es ≡ kids cap h es
unfolding kids
kids_same cap g h same [] = refl
kids_same cap g h same (e ∷ es) = ap₂ (λ (x : List Met) (y : List Met). x ++ y) (go (link_of cap e.1) refl) (kids_same cap g h same es)
  where
    go : (l : Result Link NotAStore) → link_of cap e.1 ≡ l → on_root g nothing_right l ≡ on_root h nothing_right l
    go (Ok m) q = same m (within cap e.1 m q)
    go (Err e) q = refl

module _ {cap : ℕ} {st su : List ℕ} (a : Alike cap st su) where
  one_alike : (n : ℕ) → n < cap → some (entry_in su n) ∷ [] ≡ some (entry_in st n) ∷ []
  one_alike n h = ap (λ (x : LeafRecord). some (x.key, x.value) ∷ []) (leaf_alike a n h)

  -- ---- the walk below a link

  module _ (f i : ℕ) (rest : (m : Link) → number_in m.child < cap → below su cap f 0 m ≡ below st cap f 0 m) where
    branch_alike : (b : ℕ) → b < cap
        → cond (eqb (length (children_in su b)) 0) nothing_right (kids cap (λ m. below su cap f 0 m) (drop i (children_in su b)))
        ≡ cond (eqb (length (children_in st b)) 0) nothing_right (kids cap (λ m. below st cap f 0 m) (drop i (children_in st b)))
    branch_alike b h =
        ap (λ (es : List Item). cond (eqb (length es) 0) nothing_right (kids cap (λ m. below su cap f 0 m) (drop i es))) (children_alike a b h)
        ∙ ap (λ (xs : List Met). cond (eqb (length (children_in st b)) 0) nothing_right xs) (kids_same cap (λ m. below su cap f 0 m) (λ m. below st cap f 0 m) rest (drop i (children_in st b)))

    node_alike : (c : Child) → number_in c < cap
        → on_node (λ n. some (entry_in su n.0) ∷ []) (λ b. cond (eqb (length (children_in su b.0)) 0) nothing_right (kids cap (λ m. below su cap f 0 m) (drop i (children_in su b.0)))) c
        ≡ on_node (λ n. some (entry_in st n.0) ∷ []) (λ b. cond (eqb (length (children_in st b.0)) 0) nothing_right (kids cap (λ m. below st cap f 0 m) (drop i (children_in st b.0)))) c
    node_alike (LeafChild n) h = one_alike n.0 h
    node_alike (Branch b) h = branch_alike b.0 h

  pub below_alike : (f i : ℕ) (l : Link) → number_in l.child < cap → below su cap f i l ≡ below st cap f i l
  unfolding below
  below_alike zero i l h = go l.child h
    where
      go : (c : Child) → number_in c < cap → on_node (λ n. some (entry_in su n.0) ∷ []) (λ b. nothing_right) c ≡ on_node (λ n. some (entry_in st n.0) ∷ []) (λ b. nothing_right) c
      go (LeafChild n) q = one_alike n.0 q
      go (Branch b) q = refl
  below_alike (suc f) i l h = node_alike f i (λ m q. below_alike f 0 m q) l.child h

  -- ---- from a key on

  module _ (b : List ℕ) (c : ℕ) (up : Bool) where
    leaf_after : (n : ℕ) → n < cap → cond up (some (entry_in su n) ∷ []) [] ≡ cond up (some (entry_in st n) ∷ []) []
    leaf_after n h = ap (λ (xs : List Met). cond up xs []) (one_alike n h)

    module _ (f : ℕ) (l : Link) (hl : number_in l.child < cap) (rest : (m : Link) → number_in m.child < cap → after su cap b c up f m ≡ after st cap b c up f m) where
      abbrev s : ℕ
      s = nibble b l.position

      abbrev inside : List ℕ → List Item → Linked → List Met
      inside sv cs x = on_linked (λ m. after sv cap b c up f m ++ below sv cap (suc f) (place_of s cs + 1) l) (below sv cap (suc f) (place_of s cs) l) nothing_right x

      by_link : (cs : List Item) (x : Linked) → linked_in cap s cs ≡ x → inside su cs x ≡ inside st cs x
      by_link cs (Ok (Some m)) q = ap₂ (λ (x : List Met) (y : List Met). x ++ y) (rest m (linked_below cap (lookup s cs) m q)) (below_alike (suc f) (place_of s cs + 1) l hl)
      by_link cs (Ok None) q = below_alike (suc f) (place_of s cs) l hl
      by_link cs (Err e) q = refl

      abbrev branch_of : List ℕ → ℕ → List Met
      branch_of sv n = cond (leb l.position c) (inside sv (children_in sv n) (linked_in cap s (children_in sv n))) (cond up (below sv cap (suc f) 0 l) [])

      by_branch : (n : ℕ) → n < cap → branch_of su n ≡ branch_of st n
      by_branch n h =
          ap (λ (cs : List Item). cond (leb l.position c) (inside su cs (linked_in cap s cs)) (cond up (below su cap (suc f) 0 l) [])) (children_alike a n h)
          ∙ ap₂ (λ (x : List Met) (y : List Met). cond (leb l.position c) x (cond up y [])) (by_link (children_in st n) (linked_in cap s (children_in st n)) refl) (below_alike (suc f) 0 l hl)

      by_child : (d : Child) → number_in d < cap
          → on_node (λ n. cond up (some (entry_in su n.0) ∷ []) []) (λ n. branch_of su n.0) d ≡ on_node (λ n. cond up (some (entry_in st n.0) ∷ []) []) (λ n. branch_of st n.0) d
      by_child (LeafChild n) h = leaf_after n.0 h
      by_child (Branch n) h = by_branch n.0 h

    pub after_alike : (f : ℕ) (l : Link) → number_in l.child < cap → after su cap b c up f l ≡ after st cap b c up f l
    unfolding after
    after_alike zero l h = go l.child h
      where
        go : (d : Child) → number_in d < cap → on_node (λ n. cond up (some (entry_in su n.0) ∷ []) []) (λ n. nothing_right) d ≡ on_node (λ n. cond up (some (entry_in st n.0) ∷ []) []) (λ n. nothing_right) d
        go (LeafChild n) q = leaf_after n.0 q
        go (Branch n) q = refl
    after_alike (suc f) l h = by_child f l h (λ m q. after_alike f m q) l.child h

  -- ---- a page

  module _ (q b : List ℕ) (qs : Bytes q) (bs : Bytes b) (too : Bool) (n : ℕ) (out : List ℕ) where
    under_alike : (l : Link) → number_in l.child < cap → list_under su cap q b too n out l ≡ list_under st cap q b too n out l
    under_alike l h =
        ap (on_closest (λ m d. list_beside su cap q b too n out l (leaf_in su m).key) (outcome (Err not_a_store) out)) (near_alike a b steps 0 l h)
        ∙ go (near st cap b steps 0 l) (near_low st cap b bs steps 0 l h)
      where
        go : (c : Result Closest NotAStore) → Low st cap b bs c
            → on_closest (λ m d. list_beside su cap q b too n out l (leaf_in su m).key) (outcome (Err not_a_store) out) c ≡ on_closest (λ m d. list_beside st cap q b too n out l (leaf_in st m).key) (outcome (Err not_a_store) out) c
        go (Ok c) r =
            ap (λ (x : LeafRecord). list_beside su cap q b too n out l x.key) (leaf_alike a c.leaf.0 r)
            ∙ (let k = (leaf_in st c.leaf.0).key in
            ap (λ (xs : List Met). cond (starts_with q k) (listed n (puts xs (blank out n))) (outcome (Ok nothing) out)) (after_alike b (critical b k) (passes too b k) depth l h))
        go (Err e) r = refl

    walked_alike : (w : Result Walked NotAStore) → Lands cap w → on_walked su cap q b too n out w ≡ on_walked st cap q b too n out w
    walked_alike (Ok (At c s)) r = under_alike (link_in s) r.0
    walked_alike (Ok (Missing m s)) r = refl
    walked_alike (Err e) r = refl

    from_alike : (root : Link) → number_in root.child < cap → list_from su cap q b too n out root ≡ list_from st cap q b too n out root
    from_alike root h =
        ap (on_walked su cap q b too n out) (walk_alike a q (2 * length q) steps (first root) h)
        ∙ walked_alike (walk st cap q (2 * length q) steps (first root)) (walk_lies st cap q qs (2 * length q) steps (first root) h tt tt)

    pub page_alike : (h : Header) → h.capacity ≡ cap → list_in su h q b too n out ≡ list_in st h q b too n out
    page_alike h e = go (eqb h.leaves 0) (link_of h.capacity h.root) refl
      where
        go : (o : Bool) (l : Result Link NotAStore) → link_of h.capacity h.root ≡ l
            → cond o (outcome (Ok nothing) out) (on_root (λ root. list_from su h.capacity q b too n out root) (outcome (Err not_a_store) out) l)
            ≡ cond o (outcome (Ok nothing) out) (on_root (λ root. list_from st h.capacity q b too n out root) (outcome (Err not_a_store) out) l)
        go true l z = refl
        go false (Ok m) z = rw e (from_alike m (subst (λ (y : ℕ). number_in m.child < y) e (within h.capacity h.root m z)))
        go false (Err e) z = refl

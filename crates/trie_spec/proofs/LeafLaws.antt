-- The leaf that an exact lookup finds, without the way to it: one step at a time, as the loop takes them, and that it is the leaf of the lookup with the way.
-- Assumes nothing.
use Prim.Native.Nat.{ℕ, zero, suc, ◌-◌, ◌/◌, ◌%◌, ◌<◌, ◌≤◌, Ordering}
use mathlib.Core.Path.{◌≡◌, refl, sym, ap, subst, ◌∙◌}
use mathlib.Core.Logic.{◌≢◌}
use mathlib.Core.Bool.{Bool, true, false, cond}
use mathlib.Core.List.{List}
use mathlib.Core.Option.{Option as Maybe, none, some}
use native.Mathlib.Numerals.{sub-one}
use native.Mathlib.Omega.{arith}
use lib.Dec.{ltb}
use borrow.Author.Tests.{ne_eqb}
use Rattle.model.specs.Key.{on_equal}
use Rattle.model.specs.Nibble.{nibble}
use Rattle.model.specs.Numbers.{most}
use Rattle.model.proofs.KeyLaws.{Ordered, before, equal, after, ordered, key_same, key_other}
use Rattle.fields.specs.Common.{Says}
use Rattle.bitmap.specs.Entries.{lookup}
use Rattle.node.specs.Child.{Linked, link_of, to_leaf, to_branch}
use Rattle.node.specs.Leaf.{leaf_in}
use Rattle.node.specs.Branch.{children_in, linked, linked_in}
use Rattle.node.specs.declared.child.LeafNo.{LeafNo}
use Rattle.node.specs.declared.child.BranchNo.{BranchNo}
use Rattle.node.specs.declared.child.Child.{Child}
use Rattle.node.specs.declared.child.Child.TheVariants.{Leaf as LeafChild, Branch}
use Rattle.node.specs.declared.child.Link.{Link}
use Rattle.trie_spec.proofs.WalkLaws.{link_some, same_link, same_leaf, walk_leaf, walk_step}
use Rattle.trie_spec.specs.Walk.{steps, step, on_linked, on_node, walk, first}
use Rattle.trie_spec.specs.Find.{no_stop, on_walked, find_from, leaf_of, found_at, ends, compared, Found}
use Rattle.trie_spec.specs.declared.descent.Spot.{Spot}
use Rattle.trie_spec.specs.declared.descent.Spot.TheVariants.{Root, Under}
use Rattle.trie_spec.specs.declared.descent.Step.{Step}
use Rattle.trie_spec.specs.declared.descent.Walked.{Walked}
use Rattle.trie_spec.specs.declared.descent.Walked.TheVariants.{At, Missing}
use Rattle.std.specs.Prelude.{Option, Some, None, Result, Ok, Err}
use Rattle.node.specs.NotAStore.{not_a_store}
use Rattle.node.specs.declared.NotAStore.{NotAStore}

-- ---- one step

module _ (st : List ℕ) (cap : ℕ) (k : List ℕ) where
  ends_leaf : (f : ℕ) (l : Link) (n : LeafNo) → l.child ≡ LeafChild n → ends st cap k (suc f) l ≡ Ok (Some n)
  unfolding ends
  ends_leaf f l n e = rw e

  ends_step : (f : ℕ) (l : Link) (b : BranchNo) → l.child ≡ Branch b → (r : Linked) → r ≡ linked_in cap (nibble k l.position) (children_in st b.0)
      → ends st cap k (suc f) l ≡ on_linked (λ m. ends st cap k f m) (Ok None) (Err not_a_store) r
  unfolding ends
  ends_step f l b e r q = rw (e, q)

  pub ends_over : (f : ℕ) (l : Link) (a : Found) → ends st cap k f l ≡ a → f ≤ 0 → Err not_a_store ≡ a
  unfolding ends
  ends_over f l a inv z = let e : f ≡ 0 = omega arith in rw e at inv

  root_leaf : (f : ℕ) (l : Link) (n : LeafNo) → 0 < f → l.child ≡ LeafChild n → Ok (Some n) ≡ ends st cap k f l
  root_leaf zero l n ne e = absurd (omega arith)
  root_leaf (suc f) l n ne e = sym (ends_leaf f l n e)

  pub seek_leaf : (l : Link) (n : LeafNo) → l.child ≡ LeafChild n → Ok (Some n) ≡ ends st cap k steps l
  seek_leaf l n e = root_leaf steps l n (omega arith) e

  module _ (f number p : ℕ) (a : Found) (inv : ends st cap k f (to_branch number p) ≡ a) (ne : 0 < f) (slot : ℕ) (is : slot ≡ nibble k p) (r : Linked)
      (q : r ≡ linked_in cap slot (children_in st number)) where
    abbrev on_down : Linked → Found
    on_down = on_linked (λ m. ends st cap k (f - 1) m) (Ok None) (Err not_a_store)

    stepped : on_down r ≡ a
    stepped = go f ne inv
      where
        go : (g : ℕ) → 0 < g → ends st cap k g (to_branch number p) ≡ a → on_linked (λ m. ends st cap k (g - 1) m) (Ok None) (Err not_a_store) r ≡ a
        go zero h i = absurd (omega arith)
        go (suc g) h i = rw sub-one (sym (ends_step g (to_branch number p) (record { 0 = number }) refl r (rw (← is) q)) ∙ i)

    pub ends_wrong : (e : NotAStore) → r ≡ Err e → Err not_a_store ≡ a
    ends_wrong e g = ap on_down (sym g) ∙ stepped

    module _ (o : Option Link) (i : r ≡ Ok o) where
      pub ends_missing : o ≡ None → Ok None ≡ a
      ends_missing g = ap on_down (sym (i ∙ ap Ok g)) ∙ stepped

      module _ (l : Link) (j : o ≡ Some l) where
        ends_to : ends st cap k (f - 1) l ≡ a
        ends_to = ap on_down (sym (i ∙ ap Ok j)) ∙ stepped

        pub ends_on : (g : ℕ) (b : BranchNo) → l.child ≡ Branch b → g ≡ f - 1 → ends st cap k g (to_branch b.0 l.position) ≡ a
        ends_on g b c gone = rw gone (ap (ends st cap k (f - 1)) (sym (same_link l b c)) ∙ ends_to)

        module _ (n : LeafNo) (c : l.child ≡ LeafChild n) where
          to_leaf_lem : ends st cap k (f - 1) (to_leaf n.0 l.position) ≡ a
          to_leaf_lem = ap (ends st cap k (f - 1)) (sym (same_leaf l n c)) ∙ ends_to

          pub ends_end : f ≤ 1 → Err not_a_store ≡ a
          ends_end z = ends_over (f - 1) l a ends_to (omega arith)

          pub ends_met : 1 < f → Ok (Some n) ≡ a
          ends_met z = root_leaf (f - 1) l n (omega arith) c ∙ ends_to

-- ---- the same leaf as with the way

abbrev ended : Result Walked NotAStore → Found
ended (Ok (At c s)) = on_node (λ n. Ok (Some n)) (λ b. Err not_a_store) c
ended (Ok (Missing b s)) = Ok None
ended (Err e) = Err not_a_store

-- a position of the store is one byte
placed : (cap item : ℕ) (l : Link) → link_of cap item ≡ Ok l → l.position < 256
placed cap item l e = go (ltb code cap) (ltb code most) (ltb (code - most) cap) e
  where
    code : ℕ
    code = item % 65536

    p : ℕ
    p = item / 65536 % 256

    go : (s t u : Bool) → cond s (Ok (to_leaf code p)) (cond t (Err not_a_store) (cond u (Ok (to_branch (code - most) p)) (Err not_a_store))) ≡ Ok l → l.position < 256
    go true t u e = let q : to_leaf code p ≡ l = cc in rw (← q) (omega arith)
    go false true u e = absurd (let z : ◌≡◌ {A = ℕ} 0 1 = cc in omega arith)
    go false false true e = let q : to_branch (code - most) p ≡ l = cc in rw (← q) (omega arith)
    go false false false e = absurd (let z : ◌≡◌ {A = ℕ} 0 1 = cc in omega arith)

linked_placed : (cap : ℕ) (o : Maybe ℕ) (l : Link) → linked cap o ≡ Ok (Some l) → l.position < 256
linked_placed cap none l e = absurd (let z : ◌≡◌ {A = ℕ} 0 1 = cc in omega arith)
linked_placed cap (some x) l e = placed cap x l (link_some (link_of cap x) l e)

module _ (st : List ℕ) (cap : ℕ) (k : List ℕ) where
  abbrev Same : ℕ → Type 0
  Same f = (l : Link) (at above : Spot) → l.position < 256 → ended (walk st cap k no_stop f (step l at above)) ≡ ends st cap k f l

  by_link : (f : ℕ) → Same f → (b : BranchNo) (slot : ℕ) (at : Spot) (o : Maybe ℕ) (r : Linked) → r ≡ linked cap o
      → ended (on_linked (λ m. walk st cap k no_stop f (step m (Under b slot) at)) (Ok (Missing b slot)) (Err not_a_store) r) ≡ on_linked (λ m. ends st cap k f m) (Ok None) (Err not_a_store) r
  by_link f same b slot at o (Ok (Some m)) e = same m (Under b slot) at (linked_placed cap o m (sym e))
  by_link f same b slot at o (Ok None) e = refl
  by_link f same b slot at o (Err r) e = refl

  by_child : (f : ℕ) → Same f → (l : Link) (at above : Spot) → l.position < 256 → (c : Child) → l.child ≡ c
      → ended (walk st cap k no_stop (suc f) (step l at above)) ≡ ends st cap k (suc f) l
  by_child f same l at above h (LeafChild n) e =
      ap ended (walk_leaf st cap k no_stop (step l at above) f n e)
      ∙ ap (on_node (λ m. Ok (Some m)) (λ b. Err not_a_store)) e
      ∙ sym (ends_leaf st cap k f l n e)
  by_child f same l at above h (Branch b) e =
      let o = lookup (nibble k l.position) (children_in st b.0) in
      ap ended (walk_step st cap k no_stop (step l at above) f b e h (linked cap o) refl)
      ∙ by_link f same b (nibble k l.position) at o (linked cap o) refl
      ∙ sym (ends_step st cap k f l b e (linked cap o) refl)

  walk_ends : (f : ℕ) → Same f
  unfolding walk ends
  walk_ends zero l at above h = refl
  walk_ends (suc f) l at above h = by_child f (walk_ends f) l at above h l.child refl

leaf_equal : (n : LeafNo) (s : Step) {xs ys : List ℕ} {o : Ordering} → Ordered xs ys o → leaf_of (on_equal o (Ok (Some (n, s))) (Ok None)) ≡ on_equal o (Ok (Some n)) (Ok None)
leaf_equal n s (before z) = refl
leaf_equal n s (equal z) = refl
leaf_equal n s (after z) = refl

walked_leaf : (st k : List ℕ) (w : Result Walked NotAStore) → leaf_of (on_walked st k w) ≡ compared st k (ended w)
walked_leaf st k (Ok (At (LeafChild n) s)) = leaf_equal n s (ordered k (leaf_in st n.0).key)
walked_leaf st k (Ok (At (Branch b) s)) = refl
walked_leaf st k (Ok (Missing b s)) = refl
walked_leaf st k (Err e) = refl

-- ---- the leaf met

module _ (st k : List ℕ) (n : LeafNo) (q : List ℕ) (key : q ≡ (leaf_in st n.0).key) (f : Bool) (says : Says f (k ≡ q)) where
  pub compared_same : f ≡ true → Ok (Some n) ≡ compared st k (Ok (Some n))
  compared_same e =
      let w : k ≡ (leaf_in st n.0).key = subst (λ (b : Bool). Says b (k ≡ q)) e says ∙ key in
      sym (key_same w (Ok (Some n)) (Ok None))

  pub compared_other : f ≡ false → Ok None ≡ compared st k (Ok (Some n))
  compared_other e =
      let w : k ≢ (leaf_in st n.0).key = λ z. subst (λ (b : Bool). Says b (k ≡ q)) e says (z ∙ sym key) in
      sym (key_other w (Ok (Some n)) (Ok None))

-- ---- the root

module _ (st : List ℕ) (cap leaves root : ℕ) (k : List ℕ) where
  module _ (r : Result Link NotAStore) (is : r ≡ link_of cap root) (ne : leaves ≡ 0 → ⊥) where
    pub leaf_found : (m : Link) (w a : Found) → r ≡ Ok m → w ≡ ends st cap k steps m → a ≡ compared st k w → a ≡ found_at st cap leaves root k
    leaf_found m w a e p q =
        let here : found_at st cap leaves root k ≡ leaf_of (find_from st cap k m) = rw (ne_eqb leaves 0 ne, ← is, e) in
        q ∙ ap (compared st k) (p ∙ sym (walk_ends st cap k steps m Root Root (placed cap root m (sym is ∙ e))))
        ∙ sym (walked_leaf st k (walk st cap k no_stop steps (first m)))
        ∙ sym here

    module _ (m : Link) (e : r ≡ Ok m) (w : Found) (p : w ≡ ends st cap k steps m) where
      compared_found : compared st k w ≡ found_at st cap leaves root k
      compared_found = leaf_found m w (compared st k w) e p refl

      pub leaf_astray : (z : NotAStore) → w ≡ Err z → Err not_a_store ≡ found_at st cap leaves root k
      leaf_astray z i = ap (compared st k) (sym i) ∙ compared_found

      module _ (o : Option LeafNo) (i : w ≡ Ok o) where
        pub leaf_missing : o ≡ None → Ok None ≡ found_at st cap leaves root k
        leaf_missing j = ap (compared st k) (sym (i ∙ ap Ok j)) ∙ compared_found

        module _ (n : LeafNo) (j : o ≡ Some n) (q : List ℕ) (key : q ≡ (leaf_in st n.0).key) (f : Bool) (says : Says f (k ≡ q)) where
          pub leaf_same : f ≡ true → Ok (Some n) ≡ found_at st cap leaves root k
          leaf_same t = compared_same st k n q key f says t ∙ ap (compared st k) (sym (i ∙ ap Ok j)) ∙ compared_found

          pub leaf_other : f ≡ false → Ok None ≡ found_at st cap leaves root k
          leaf_other t = compared_other st k n q key f says t ∙ ap (compared st k) (sym (i ∙ ap Ok j)) ∙ compared_found

-- The walk below a link from a key on: a law for each way out of it. Assumes nothing.
use Prim.Native.Nat.{ℕ, zero, suc, ◌+◌, ◌-◌, ◌≤◌, ◌<◌}
use mathlib.Core.Path.{◌≡◌, refl, sym, ap, ◌∙◌}
use mathlib.Core.Bool.{Bool, true, false, cond}
use mathlib.Core.List.{List, [], ◌∷◌, ◌++◌}
use mathlib.Core.Option.{none, some}
use native.Mathlib.Numerals.{sub-one}
use native.Mathlib.Omega.{arith}
use borrow.Author.Tests.{le-leb, lt-leb}
use Rattle.model.specs.Nibble.{nibble}
use Rattle.bitmap.specs.Entries.{below as place_of}
use Rattle.node.specs.Branch.{children_in, linked_in}
use Rattle.node.specs.declared.child.BranchNo.{BranchNo}
use Rattle.node.specs.declared.child.LeafNo.{LeafNo}
use Rattle.node.specs.declared.child.Child.TheVariants.{Leaf as LeafChild, Branch}
use Rattle.node.specs.declared.child.Link.{Link}
use Rattle.trie_spec.specs.Walk.{on_linked}
use Rattle.walk.specs.Walk.{entry_in, Met, nothing_right, below, after, Sheet, sheet, is_stopped, put, puts, wrongly}
use Rattle.walk.specs.declared.walk.Progress.{Progress}
use Rattle.walk.proofs.SheetLaws.{puts_append, puts_stopped, puts_one, wrong_is}
use Rattle.std.specs.Prelude.{Option, Ok, Err, Some, None}
use Rattle.node.specs.declared.NotAStore.{NotAStore}
use Rattle.node.specs.Child.{Linked}

module _ (st : List ℕ) (cap : ℕ) (k : List ℕ) (c : ℕ) (up : Bool) (f : ℕ) (l : Link) where
  pub after_leaf : (n : LeafNo) → l.child ≡ LeafChild n → after st cap k c up f l ≡ cond up (some (entry_in st n.0) ∷ []) []
  unfolding after
  after_leaf n e = go f
    where
      go : (z : ℕ) → after st cap k c up z l ≡ cond up (some (entry_in st n.0) ∷ []) []
      go zero = rw e
      go (suc z) = rw e

  module _ (b : BranchNo) (e : l.child ≡ Branch b) where
    after_deep : f ≡ 0 → after st cap k c up f l ≡ nothing_right
    unfolding after
    after_deep z = go f z
      where
        go : (y : ℕ) → y ≡ 0 → after st cap k c up y l ≡ nothing_right
        go zero q = rw e
        go (suc y) q = absurd (omega arith)

    pub after_past : (f ≡ 0 → ⊥) → c < l.position → after st cap k c up f l ≡ cond up (below st cap f 0 l) []
    unfolding after
    after_past nf h = go f nf
      where
        go : (y : ℕ) → (y ≡ 0 → ⊥) → after st cap k c up y l ≡ cond up (below st cap y 0 l) []
        go zero q = absurd (q refl)
        go (suc y) q = rw (e, lt-leb l.position c h)

    pub after_in_lem : (f ≡ 0 → ⊥) → l.position ≤ c
        → after st cap k c up f l
        ≡ on_linked (λ m. after st cap k c up (f - 1) m ++ below st cap f (place_of (nibble k l.position) (children_in st b.0) + 1) l)
        (below st cap f (place_of (nibble k l.position) (children_in st b.0)) l) nothing_right
        (linked_in cap (nibble k l.position) (children_in st b.0))
    unfolding after
    after_in_lem nf h = go f nf
      where
        go : (y : ℕ) → (y ≡ 0 → ⊥)
            → after st cap k c up y l
            ≡ on_linked (λ m. after st cap k c up (y - 1) m ++ below st cap y (place_of (nibble k l.position) (children_in st b.0) + 1) l)
            (below st cap y (place_of (nibble k l.position) (children_in st b.0)) l) nothing_right
            (linked_in cap (nibble k l.position) (children_in st b.0))
        go zero q = absurd (q refl)
        go (suc y) q = rw (e, le-leb l.position c h, sub-one)

  module _ (out : List ℕ) (p : Progress) where
    abbrev Whole : List ℕ → Progress → Type 0
    Whole out' r = sheet out' r ≡ puts (after st cap k c up f l) (sheet out p)

    whole : (xs : List Met) (s : Sheet) → after st cap k c up f l ≡ xs → s ≡ puts xs (sheet out p) → s ≡ puts (after st cap k c up f l) (sheet out p)
    whole xs s e q = q ∙ ap (λ (ys : List Met). puts ys (sheet out p)) (sym e)

    module _ (n : LeafNo) (e : l.child ≡ LeafChild n) where
      pub from_leaf : (out' : List ℕ) (r : Progress) → up ≡ true → sheet out' r ≡ put (some (entry_in st n.0)) (sheet out p) → Whole out' r
      from_leaf out' r u q = whole (some (entry_in st n.0) ∷ []) (sheet out' r) (after_leaf n e ∙ rw u) (q ∙ sym (puts_one (some (entry_in st n.0)) (sheet out p)))

      pub from_leaf_before : up ≡ false → Whole out p
      unfolding puts
      from_leaf_before u = whole [] (sheet out p) (after_leaf n e ∙ rw u) refl

    module _ (b : BranchNo) (e : l.child ≡ Branch b) where
      pub from_deep : (r : Progress) → f ≡ 0 → r ≡ wrongly p → Whole out r
      from_deep r z q = whole nothing_right (sheet out r) (after_deep b e z) (wrong_is out p r q ∙ sym (puts_one none (sheet out p)))

      module _ (nf : f ≡ 0 → ⊥) where
        pub from_past : (out' : List ℕ) (r : Progress) → c < l.position → up ≡ true → sheet out' r ≡ puts (below st cap f 0 l) (sheet out p) → Whole out' r
        from_past out' r h u q = whole (below st cap f 0 l) (sheet out' r) (after_past b e nf h ∙ rw u) q

        pub from_past_before : c < l.position → up ≡ false → Whole out p
        unfolding puts
        from_past_before h u = whole [] (sheet out p) (after_past b e nf h ∙ rw u) refl

        module _ (h : l.position ≤ c) (s : ℕ) (slot : s ≡ nibble k l.position) (x : Linked) (is : x ≡ linked_in cap s (children_in st b.0)) where
          abbrev i : ℕ
          i = place_of s (children_in st b.0)

          by_slot : after st cap k c up f l ≡ on_linked (λ m. after st cap k c up (f - 1) m ++ below st cap f (i + 1) l) (below st cap f i l) nothing_right x
          by_slot = rw (is, slot) (after_in_lem b e nf h)

          pub from_absent : (o : Option Link) (out' : List ℕ) (r : Progress) (j : ℕ) → x ≡ Ok o → o ≡ None → j ≡ i → sheet out' r ≡ puts (below st cap f j l) (sheet out p) → Whole out' r
          from_absent o out' r j g n at q = whole (below st cap f i l) (sheet out' r) (by_slot ∙ rw (g, n)) (q ∙ ap (λ (x : ℕ). puts (below st cap f x l) (sheet out p)) at)

          pub from_wrong : (e : NotAStore) (r : Progress) → x ≡ Err e → r ≡ wrongly p → Whole out r
          from_wrong e r g q = whole nothing_right (sheet out r) (by_slot ∙ rw g) (wrong_is out p r q ∙ sym (puts_one none (sheet out p)))

          module _ (next : Link) (g : x ≡ Ok (Some next)) (out₁ : List ℕ) (r₁ : Progress) (w : sheet out₁ r₁ ≡ puts (after st cap k c up (f - 1) next) (sheet out p)) where
            both : after st cap k c up f l ≡ after st cap k c up (f - 1) next ++ below st cap f (i + 1) l
            both = by_slot ∙ rw g

            then : puts (after st cap k c up (f - 1) next ++ below st cap f (i + 1) l) (sheet out p) ≡ puts (below st cap f (i + 1) l) (sheet out₁ r₁)
            then = puts_append (after st cap k c up (f - 1) next) (below st cap f (i + 1) l) (sheet out p) ∙ ap (puts (below st cap f (i + 1) l)) (sym w)

            pub from_both : (out' : List ℕ) (r : Progress) (j : ℕ) → j ≡ i → sheet out' r ≡ puts (below st cap f (j + 1) l) (sheet out₁ r₁) → Whole out' r
            from_both out' r j at q = whole _ (sheet out' r) both (q ∙ (ap (λ (x : ℕ). puts (below st cap f (x + 1) l) (sheet out₁ r₁)) at ∙ sym then))

            pub from_stopped : (t : Bool) → t ≡ is_stopped r₁.stop → t ≡ true → Whole out₁ r₁
            from_stopped t q z = whole _ (sheet out₁ r₁) both (sym (puts_stopped (below st cap f (i + 1) l) (sheet out₁ r₁) (sym q ∙ z)) ∙ sym then)

-- The walk below a link: a law for each way out of it and for each step of its loop. Assumes nothing.
use Prim.Native.Nat.{ℕ, zero, suc, ◌+◌, ◌-◌, ◌≤◌, ◌<◌}
use mathlib.Core.Path.{◌≡◌, refl, sym, ap, ◌∙◌}
use mathlib.Core.Bool.{Bool, true}
use mathlib.Core.List.{List, [], ◌∷◌, ◌++◌}
use mathlib.Core.Option.{Option, none, some}
use native.Mathlib.Numerals.{sub-one}
use native.Mathlib.Omega.{arith}
use lib.ListN.{length, drop}
use borrow.Author.Tests.{eq-eqb, ne_eqb}
use Rattle.bitmap.specs.Entries.{Entry as Item, nth}
use Rattle.bitmap.proofs.EntryLaws.{drop_nth}
use Rattle.node.specs.Child.{number_in, link_of, Linked}
use Rattle.node.specs.Branch.{children_in, some_link, linked}
use Rattle.node.specs.declared.child.BranchNo.{BranchNo}
use Rattle.node.specs.declared.child.LeafNo.{LeafNo}
use Rattle.node.specs.declared.child.Child.TheVariants.{Leaf as LeafChild, Branch}
use Rattle.node.specs.declared.child.Link.{Link}
use Rattle.trie_spec.specs.Walk.{on_linked, on_root}
use Rattle.trie_spec.proofs.WalkLaws.{linked_below, leaf_below}
use Rattle.walk.specs.Walk.{entry_in, Met, nothing_right, kids, below, Sheet, sheet, is_stopped, put, puts, wrongly}
use Rattle.walk.specs.declared.walk.Progress.{Progress}
use Rattle.walk.proofs.SheetLaws.{puts_append, puts_stopped, puts_one, puts_wrong, wrong_is}
use Rattle.std.specs.Prelude.{Result, Ok, Err, Some, None}
use Rattle.node.specs.declared.NotAStore.{NotAStore}

-- ---- the list of children

nth_some : (i : ℕ) (es : List Item) → i < length es → (x : ℕ) × (nth i es ≡ some x)
unfolding nth
nth_some i [] h = absurd (omega arith)
nth_some zero (e ∷ es) h = (e.1, refl)
nth_some (suc i) (e ∷ es) h = nth_some i es (omega arith)

drop_past : (i : ℕ) (es : List Item) → length es ≤ i → drop i es ≡ []
drop_past zero [] h = refl
drop_past zero (e ∷ es) h = absurd (omega arith)
drop_past (suc i) [] h = refl
drop_past (suc i) (e ∷ es) h = drop_past i es (omega arith)

-- from a place on: what its link leads to, and what is left
kids_from : (cap : ℕ) (g : Link → List Met) (es : List Item) (i x : ℕ) → nth i es ≡ some x
    → kids cap g (drop i es) ≡ on_root g nothing_right (link_of cap x) ++ kids cap g (drop (suc i) es)
unfolding kids
kids_from cap g es i x e = let (s, d) = drop_nth i es x e in rw d

-- what is not a link is nothing right
no_link : (g : Link → List Met) (l : Linked) → ((m : Link) → l ≡ Ok (Some m) → ⊥) → on_linked g nothing_right nothing_right l ≡ nothing_right
no_link g (Ok (Some m)) n = absurd (n m refl)
no_link g (Ok None) n = refl
no_link g (Err e) n = refl

-- ---- below a link

module _ (st : List ℕ) (cap : ℕ) (f i : ℕ) (l : Link) where
  pub below_leaf : (n : LeafNo) → l.child ≡ LeafChild n → below st cap f i l ≡ some (entry_in st n.0) ∷ []
  unfolding below
  below_leaf n e = go f
    where
      go : (z : ℕ) → below st cap z i l ≡ some (entry_in st n.0) ∷ []
      go zero = rw e
      go (suc z) = rw e

  module _ (b : BranchNo) (e : l.child ≡ Branch b) where
    below_deep : f ≡ 0 → below st cap f i l ≡ nothing_right
    unfolding below
    below_deep z = go f z
      where
        go : (y : ℕ) → y ≡ 0 → below st cap y i l ≡ nothing_right
        go zero q = rw e
        go (suc y) q = absurd (omega arith)

    below_empty : length (children_in st b.0) ≡ 0 → below st cap f i l ≡ nothing_right
    unfolding below
    below_empty z = go f
      where
        go : (y : ℕ) → below st cap y i l ≡ nothing_right
        go zero = rw e
        go (suc y) = rw (e, eq-eqb (length (children_in st b.0)) 0 z)

    pub below_kids : (f ≡ 0 → ⊥) → (length (children_in st b.0) ≡ 0 → ⊥) → below st cap f i l ≡ kids cap (λ m. below st cap (f - 1) 0 m) (drop i (children_in st b.0))
    unfolding below
    below_kids nf nc = go f nf
      where
        go : (y : ℕ) → (y ≡ 0 → ⊥) → below st cap y i l ≡ kids cap (λ m. below st cap (y - 1) 0 m) (drop i (children_in st b.0))
        go zero q = absurd (q refl)
        go (suc y) q = rw (e, ne_eqb (length (children_in st b.0)) 0 nc, sub-one)

-- ---- the ways out

module _ (st : List ℕ) (cap : ℕ) (f i : ℕ) (l : Link) (out : List ℕ) (p : Progress) where
  pub emit_leaf : (n : LeafNo) (out' : List ℕ) (r : Progress) → l.child ≡ LeafChild n → sheet out' r ≡ put (some (entry_in st n.0)) (sheet out p)
      → sheet out' r ≡ puts (below st cap f i l) (sheet out p)
  emit_leaf n out' r e q = q ∙ sym (ap (λ (xs : List Met). puts xs (sheet out p)) (below_leaf st cap f i l n e) ∙ puts_one (some (entry_in st n.0)) (sheet out p))

  module _ (b : BranchNo) (e : l.child ≡ Branch b) where
    pub emit_deep : (r : Progress) → f ≡ 0 → r ≡ wrongly p → sheet out r ≡ puts (below st cap f i l) (sheet out p)
    emit_deep r z q = wrong_is out p r q ∙ sym (ap (λ (xs : List Met). puts xs (sheet out p)) (below_deep st cap f i l b e z) ∙ puts_one none (sheet out p))

    pub emit_empty : (r : Progress) (n : ℕ) → n ≡ length (children_in st b.0) → n ≡ 0 → r ≡ wrongly p → sheet out r ≡ puts (below st cap f i l) (sheet out p)
    emit_empty r n c z q = wrong_is out p r q ∙ sym (ap (λ (xs : List Met). puts xs (sheet out p)) (below_empty st cap f i l b e (sym c ∙ z)) ∙ puts_one none (sheet out p))

-- ---- the loop

-- what the children from a place on do to a page
abbrev pub rest : (st : List ℕ) (cap f : ℕ) (b i : ℕ) → Sheet → Sheet
rest st cap f b i s = puts (kids cap (λ m. below st cap (f - 1) 0 m) (drop i (children_in st b))) s

-- one step of it: a is the whole answer
module _ (st : List ℕ) (cap f : ℕ) (b : ℕ) (a : Sheet) (i n : ℕ) (count : n ≡ length (children_in st b)) (out : List ℕ) (p : Progress)
    (inv : rest st cap f b i (sheet out p) ≡ a) where
  pub walk_end : n ≤ i → sheet out p ≡ a
  unfolding kids puts
  walk_end h = sym (ap (λ (es : List Item). puts (kids cap (λ m. below st cap (f - 1) 0 m) es) (sheet out p)) (drop_past i (children_in st b) (omega arith))) ∙ inv

  module _ (h : i < n) (l : Linked) (is : l ≡ linked cap (nth i (children_in st b))) where
    at_place : (x : ℕ) × (nth i (children_in st b) ≡ some x)
    at_place = nth_some i (children_in st b) (omega arith)

    abbrev g : Link → List Met
    g m = below st cap (f - 1) 0 m

    leads : (r : Result Link NotAStore) → on_root g nothing_right r ≡ on_linked g nothing_right nothing_right (some_link r)
    leads (Ok m) = refl
    leads (Err e) = refl

    on_link : on_root g nothing_right (link_of cap at_place.0) ≡ on_linked g nothing_right nothing_right l
    on_link = leads (link_of cap at_place.0) ∙ ap (on_linked g nothing_right nothing_right) (sym (is ∙ ap (linked cap) at_place.1))

    split : rest st cap f b i (sheet out p) ≡ rest st cap f b (suc i) (puts (on_linked g nothing_right nothing_right l) (sheet out p))
    split =
        ap (λ (xs : List Met). puts xs (sheet out p)) (kids_from cap g (children_in st b) i at_place.0 at_place.1)
        ∙ ap (λ (z : List Met). puts (z ++ kids cap g (drop (suc i) (children_in st b))) (sheet out p)) on_link
        ∙ puts_append (on_linked g nothing_right nothing_right l) (kids cap g (drop (suc i) (children_in st b))) (sheet out p)

    pub walk_lost : ((m : Link) → l ≡ Ok (Some m) → ⊥) → (r : Progress) → r ≡ wrongly p → sheet out r ≡ a
    walk_lost m r q =
        wrong_is out p r q
        ∙ sym (puts_wrong (kids cap g (drop (suc i) (children_in st b))) (sheet out p))
        ∙ sym (split ∙ ap (λ (xs : List Met). rest st cap f b (suc i) (puts xs (sheet out p))) (no_link g l m) ∙ first_wrong)
        ∙ inv
      where
        first_wrong : rest st cap f b (suc i) (puts nothing_right (sheet out p)) ≡ puts (none ∷ kids cap g (drop (suc i) (children_in st b))) (sheet out p)
        first_wrong = sym (puts_append nothing_right (kids cap g (drop (suc i) (children_in st b))) (sheet out p))

    module _ (next : Link) (e : l ≡ Ok (Some next)) (out' : List ℕ) (r : Progress) (w : sheet out' r ≡ puts (below st cap (f - 1) 0 next) (sheet out p)) where
      stepped : rest st cap f b (suc i) (sheet out' r) ≡ a
      stepped = sym (split ∙ ap (λ (z : Linked). rest st cap f b (suc i) (puts (on_linked g nothing_right nothing_right z) (sheet out p))) e ∙ ap (rest st cap f b (suc i)) (sym w)) ∙ inv

      pub walk_next : rest st cap f b (i + 1) (sheet out' r) ≡ a
      walk_next = let one : i + 1 ≡ suc i = omega arith in rw one stepped

      pub walk_stopped : (t : Bool) → t ≡ is_stopped r.stop → t ≡ true → sheet out' r ≡ a
      walk_stopped t q z = sym (puts_stopped (kids cap g (drop (suc i) (children_in st b))) (sheet out' r) (sym q ∙ z)) ∙ stepped

-- what the loop does is what the walk does
module _ (st : List ℕ) (cap : ℕ) (f i : ℕ) (l : Link) (b : BranchNo) (e : l.child ≡ Branch b) (n : ℕ) (count : n ≡ length (children_in st b.0)) where
  pub whole_walk : (s s₀ : Sheet) → (f ≡ 0 → ⊥) → (n ≡ 0 → ⊥) → s ≡ rest st cap f b.0 i s₀ → s ≡ puts (below st cap f i l) s₀
  whole_walk s s₀ nf nn q = q ∙ ap (λ (xs : List Met). puts xs s₀) (sym (below_kids st cap f i l b e nf (λ z. nn (count ∙ z))))

pub next_below : (cap : ℕ) (o : Option ℕ) (l : Linked) (next : Link) → l ≡ linked cap o → l ≡ Ok (Some next) → number_in next.child < cap
next_below cap o l next p e = linked_below cap o next (sym p ∙ e)

pub next_leaf_below : (cap : ℕ) (o : Option ℕ) (l : Linked) (next : Link) (n : LeafNo) → l ≡ linked cap o → l ≡ Ok (Some next) → next.child ≡ LeafChild n → n.0 < cap
next_leaf_below cap o l next n p e i = leaf_below cap next.child n (next_below cap o l next p e) i

-- the measure falls
pub left_falls : (f t : ℕ) → f ≡ t → (f ≡ 0 → ⊥) → f - 1 < t
left_falls f t e n = omega arith

-- The way down by the key's nibbles, as far as it goes: one step at a time, as the loop takes them; that the closest leaf lies below where it ends, and that a
-- descent past its highest position ends there, too. Assumes nothing.
use Prim.Native.Nat.{ℕ, zero, suc, ◌+◌, ◌-◌, ◌≤◌, ◌<◌}
use mathlib.Core.Path.{◌≡◌, refl, sym, ap, subst, ◌∙◌}
use mathlib.Core.Bool.{Bool, true, false, cond}
use mathlib.Core.List.{List}
use mathlib.Core.Option.{Option as Maybe, none, some}
use native.Mathlib.Numerals.{sub-one}
use native.Mathlib.Omega.{arith}
use lib.Dec.{ltb}
use borrow.Author.Tests.{ltb-true, ltb-false}
use Rattle.model.specs.Nibble.{nibble}
use Rattle.sparse_array.specs.Answers.{or_else}
use Rattle.bitmap.specs.Entries.{lookup, head}
use Rattle.node.specs.Child.{Linked, link_of, to_leaf, to_branch}
use Rattle.node.specs.Branch.{children_in, some_link, linked, linked_in, near_in}
use Rattle.node.specs.declared.child.LeafNo.{LeafNo}
use Rattle.node.specs.declared.child.BranchNo.{BranchNo}
use Rattle.node.specs.declared.child.Child.{Child}
use Rattle.node.specs.declared.child.Child.TheVariants.{Leaf as LeafChild, Branch}
use Rattle.node.specs.declared.child.Link.{Link}
use Rattle.trie_spec.proofs.WalkLaws.{refused, same_link, same_leaf, walk_leaf, walk_step, near_leaf, near_step}
use Rattle.trie_spec.specs.Walk.{steps, step, link_in, first, on_linked, walk, near, higher, way, closest_of, EndsAt, leaf_at}
use Rattle.trie_spec.specs.declared.descent.Spot.{Spot}
use Rattle.trie_spec.specs.declared.descent.Spot.TheVariants.{Root, Under}
use Rattle.trie_spec.specs.declared.descent.Step.{Step}
use Rattle.trie_spec.specs.declared.descent.Walked.{Walked}
use Rattle.trie_spec.specs.declared.descent.Walked.TheVariants.{At, Missing}
use Rattle.trie_spec.specs.declared.descent.Way.{Way}
use Rattle.trie_spec.specs.declared.descent.Near.{Near}
use Rattle.trie_spec.specs.declared.descent.Closest.{Closest}
use Rattle.std.specs.Prelude.{Option, Some, None, Result, Ok, Err}
use Rattle.std.specs.Result.{IsErr}
use Rattle.node.specs.NotAStore.{not_a_store}
use Rattle.node.specs.declared.NotAStore.{NotAStore}

-- ---- the higher of two positions

higher_first : (a b : ℕ) → a ≤ higher a b
higher_first a b = go (ltb a b) refl
  where
    go : (t : Bool) → ltb a b ≡ t → a ≤ cond t b a
    go true e = omega (arith, ltb-true a b e)
    go false e = omega arith

higher_second : (a b : ℕ) → b ≤ higher a b
higher_second a b = go (ltb a b) refl
  where
    go : (t : Bool) → ltb a b ≡ t → b ≤ cond t b a
    go true e = omega arith
    go false e = omega (arith, ltb-false a b e)

-- ---- one step

module _ (st : List ℕ) (cap : ℕ) (k : List ℕ) where
  way_leaf : (f d t : ℕ) (s : Step) (n : LeafNo) → s.child ≡ LeafChild n → way st cap k (suc f) d t s ≡ Ok (Way.Leaf n d s t)
  unfolding way
  way_leaf f d t s n e = rw e

  way_step : (f d t : ℕ) (s : Step) (b : BranchNo) → s.child ≡ Branch b → (r : Linked) → r ≡ linked_in cap (nibble k s.position) (children_in st b.0)
      → way st cap k (suc f) d t s
      ≡ on_linked (λ m. way st cap k f (d + 1) (higher t s.position) (step m (Under b (nibble k s.position)) s.at))
      (Ok (Way.Off b (nibble k s.position) s.position d (higher t s.position))) (Err not_a_store) r
  unfolding way
  way_step f d t s b e r q = rw (e, q)

  -- a branch's way does not hang on where the link to the branch above it stands
  any_above : (f d t number p : ℕ) (at x y : Spot) → way st cap k f d t (step (to_branch number p) at x) ≡ way st cap k f d t (step (to_branch number p) at y)
  unfolding way
  any_above zero d t number p at x y = refl
  any_above (suc f) d t number p at x y = refl

  pub way_over : (f d t : ℕ) (s : Step) (a : Result Way NotAStore) → way st cap k f d t s ≡ a → f ≤ 0 → Err not_a_store ≡ a
  unfolding way
  way_over f d t s a inv z = let e : f ≡ 0 = omega arith in rw e at inv

  last_leaf : (f d t : ℕ) (s : Step) (n : LeafNo) → 0 < f → s.child ≡ LeafChild n → Ok (Way.Leaf n d s t) ≡ way st cap k f d t s
  last_leaf zero d t s n ne e = absurd (omega arith)
  last_leaf (suc f) d t s n ne e = sym (way_leaf f d t s n e)

  pub way_of_leaf : (l : Link) (n : LeafNo) → l.child ≡ LeafChild n
      → Ok (Way.Leaf n 0 (record { child = LeafChild n; position = l.position; at = Root; above = Root }) 0) ≡ way st cap k steps 0 0 (first l)
  way_of_leaf l n e =
      subst (λ (c : Child). Ok (Way.Leaf n 0 (record { child = c; position = l.position; at = Root; above = Root }) 0) ≡ way st cap k steps 0 0 (first l)) e
      (last_leaf steps 0 0 (first l) n (omega arith) e)

  module _ (f d t number p : ℕ) (at above : Spot) (a : Result Way NotAStore) (inv : way st cap k f d t (step (to_branch number p) at above) ≡ a) (ne : 0 < f) (slot : ℕ) (is : slot ≡ nibble k p)
      (u : ℕ) (top : u ≡ higher t p) (r : Linked) (q : r ≡ linked_in cap slot (children_in st number)) where
    abbrev here : Step
    here = step (to_branch number p) at above

    abbrev on_down : Linked → Result Way NotAStore
    on_down =
        on_linked (λ m. way st cap k (f - 1) (d + 1) u (step m (Under (record { 0 = number }) slot) at)) (Ok (Way.Off (record { 0 = number }) slot p d u)) (Err not_a_store)

    stepped : on_down r ≡ a
    stepped = go f ne inv
      where
        go : (g : ℕ) → 0 < g → way st cap k g d t here ≡ a
            → on_linked (λ m. way st cap k (g - 1) (d + 1) u (step m (Under (record { 0 = number }) slot) at)) (Ok (Way.Off (record { 0 = number }) slot p d u)) (Err not_a_store) r ≡ a
        go zero h i = absurd (omega arith)
        go (suc g) h i = rw (sub-one, top, is) (sym (way_step g d t here (record { 0 = number }) refl r (rw (← is) q)) ∙ i)

    pub way_wrong : (e : NotAStore) → r ≡ Err e → Err not_a_store ≡ a
    way_wrong e g = ap on_down (sym g) ∙ stepped

    module _ (o : Option Link) (i : r ≡ Ok o) where
      pub way_off : o ≡ None → Ok (Way.Off (record { 0 = number }) slot p d u) ≡ a
      way_off g = ap on_down (sym (i ∙ ap Ok g)) ∙ stepped

      module _ (l : Link) (j : o ≡ Some l) where
        way_to : way st cap k (f - 1) (d + 1) u (step l (Under (record { 0 = number }) slot) at) ≡ a
        way_to = ap on_down (sym (i ∙ ap Ok j)) ∙ stepped

        pub way_on : (g e : ℕ) (b : BranchNo) (above' : Spot) → l.child ≡ Branch b → g ≡ f - 1 → e ≡ d + 1
            → way st cap k g e u (step (to_branch b.0 l.position) (Under (record { 0 = number }) slot) above') ≡ a
        way_on g e b above' c gone deeper =
            any_above g e u b.0 l.position (Under (record { 0 = number }) slot) above' at
            ∙ rw (gone, deeper) (ap (λ (m : Link). way st cap k (f - 1) (d + 1) u (step m (Under (record { 0 = number }) slot) at)) (sym (same_link l b c)) ∙ way_to)

        module _ (n : LeafNo) (c : l.child ≡ LeafChild n) where
          pub way_end : f ≤ 1 → Err not_a_store ≡ a
          way_end z = way_over (f - 1) (d + 1) u (step l (Under (record { 0 = number }) slot) at) a way_to (omega arith)

          pub way_met : (e : ℕ) → 1 < f → e ≡ d + 1
              → Ok (Way.Leaf n e (record { child = LeafChild n; position = l.position; at = Under (record { 0 = number }) slot; above = at }) u) ≡ a
          way_met e z h =
              let last = ap (λ (m : Link). way st cap k (f - 1) (d + 1) u (step m (Under (record { 0 = number }) slot) at)) (sym (same_leaf l n c)) ∙ way_to in
              rw h (last_leaf (f - 1) (d + 1) u (step (to_leaf n.0 l.position) (Under (record { 0 = number }) slot) at) n (omega arith) refl ∙ last)

-- ---- the closest leaf lies below where the way ends

-- an item leads somewhere or is wrong
never_absent : (r : Result Link NotAStore) → some_link r ≡ Ok None → ⊥
never_absent (Ok l) e = cc
never_absent (Err z) e = cc

module _ (st : List ℕ) (cap : ℕ) (k : List ℕ) where
  abbrev near_of : Result Way NotAStore → Result Closest NotAStore
  near_of (Ok (Way.Leaf n d s t)) = Ok (leaf_at n d)
  near_of (Ok (Way.Off b s p d t)) = near st cap k (steps - d) d (to_branch b.0 p)
  near_of (Err e) = Err not_a_store

  abbrev Closes : ℕ → Type 0
  Closes f = (d t : ℕ) (s : Step) → f + d ≡ steps → near_of (way st cap k f d t s) ≡ near st cap k f d (link_in s)

  by_slot : (f : ℕ) → Closes f → (d t p : ℕ) (b : BranchNo) (at : Spot) → suc f + d ≡ steps → (o h : Maybe ℕ) (r : Linked) → r ≡ linked cap o
      → near st cap k (suc f) d (to_branch b.0 p) ≡ on_linked (λ m. near st cap k f (d + 1) m) (Err not_a_store) (Err not_a_store) (linked cap (or_else o h))
      → near_of (on_linked (λ m. way st cap k f (d + 1) (higher t p) (step m (Under b (nibble k p)) at)) (Ok (Way.Off b (nibble k p) p d (higher t p))) (Err not_a_store) r)
      ≡ near st cap k (suc f) d (to_branch b.0 p)
  by_slot f same d t p b at e none h (Ok (Some m)) i j = absurd (let z : ◌≡◌ {A = ℕ} 0 1 = cc in omega arith)
  by_slot f same d t p b at e none h (Ok None) i j = let w : steps - d ≡ suc f = omega arith in ap (λ (z : ℕ). near st cap k z d (to_branch b.0 p)) w
  by_slot f same d t p b at e none h (Err r) i j = absurd (let z : ◌≡◌ {A = ℕ} 0 1 = cc in omega arith)
  by_slot f same d t p b at e (some y) h (Ok (Some m)) i j =
      same (d + 1) (higher t p) (step m (Under b (nibble k p)) at) (omega arith) ∙ ap (on_linked (λ m. near st cap k f (d + 1) m) (Err not_a_store) (Err not_a_store)) i ∙ sym j
  by_slot f same d t p b at e (some y) h (Ok None) i j = absurd (never_absent (link_of cap y) (sym i))
  by_slot f same d t p b at e (some y) h (Err r) i j = ap (on_linked (λ m. near st cap k f (d + 1) m) (Err not_a_store) (Err not_a_store)) i ∙ sym j

  by_child : (f : ℕ) → Closes f → (d t : ℕ) (s : Step) → suc f + d ≡ steps → (c : Child) → s.child ≡ c
      → near_of (way st cap k (suc f) d t s) ≡ near st cap k (suc f) d (link_in s)
  by_child f same d t s e (LeafChild n) i = ap near_of (way_leaf st cap k f d t s n i) ∙ sym (near_leaf st cap k d (link_in s) f n i)
  by_child f same d t s e (Branch b) i =
      let slot = nibble k s.position in
      let es = children_in st b.0 in
      ap near_of (way_step st cap k f d t s b i (linked_in cap slot es) refl)
      ∙ by_slot f same d t s.position b s.at e (lookup slot es) (head es) (linked_in cap slot es) refl
      (near_step st cap k d (to_branch b.0 s.position) f b refl (near_in cap slot es) refl)
      ∙ ap (near st cap k (suc f) d) (sym (same_link (link_in s) b i))

  closes : (f : ℕ) → Closes f
  unfolding way near
  closes zero d t s e = refl
  closes (suc f) d t s e = by_child f (closes f) d t s e s.child refl

  -- ---- a descent past the highest position ends there, too

  module _ (stop : ℕ) where
    -- no position of the way is higher than t, and a descent past t ends where the way does
    abbrev Ends : ℕ → Result Way NotAStore → Result Walked NotAStore → Type 0
    Ends t (Ok (Way.Leaf n d s u)) w = (t ≤ u) × (u < stop → w ≡ Ok (At (LeafChild n) s))
    Ends t (Ok (Way.Off b s p d u)) w = (t ≤ u) × (u < stop → w ≡ Ok (Missing b s))
    Ends t (Err e) w = Unit {0}

    abbrev Offs : ℕ → Type 0
    Offs f = (d t : ℕ) (s : Step) → Ends t (way st cap k f d t s) (walk st cap k stop f s)

    lower : (t u : ℕ) (x : Result Way NotAStore) (w v : Result Walked NotAStore) → t ≤ u → (u < stop → v ≡ w) → Ends u x w → Ends t x v
    lower t u (Ok (Way.Leaf n d s z)) w v h e i = (omega (arith, i.0), λ y. e (omega (arith, i.0)) ∙ i.1 y)
    lower t u (Ok (Way.Off b s p d z)) w v h e i = (omega (arith, i.0), λ y. e (omega (arith, i.0)) ∙ i.1 y)
    lower t u (Err r) w v h e i = tt

    off_slot : (f : ℕ) → Offs f → (d t p : ℕ) (b : BranchNo) (at : Spot) (v : Result Walked NotAStore) (r : Linked)
        → (p < stop → v ≡ on_linked (λ m. walk st cap k stop f (step m (Under b (nibble k p)) at)) (Ok (Missing b (nibble k p))) (Err not_a_store) r)
        → Ends t (on_linked (λ m. way st cap k f (d + 1) (higher t p) (step m (Under b (nibble k p)) at)) (Ok (Way.Off b (nibble k p) p d (higher t p))) (Err not_a_store) r) v
    off_slot f same d t p b at v (Ok (Some m)) e =
        lower t (higher t p) (way st cap k f (d + 1) (higher t p) (step m (Under b (nibble k p)) at)) (walk st cap k stop f (step m (Under b (nibble k p)) at)) v (higher_first t p)
        (λ y. e (omega (arith, higher_second t p)))
        (same (d + 1) (higher t p) (step m (Under b (nibble k p)) at))
    off_slot f same d t p b at v (Ok None) e = (higher_first t p, λ y. e (omega (arith, higher_second t p)))
    off_slot f same d t p b at v (Err r) e = tt

    off_child : (f : ℕ) → Offs f → (d t : ℕ) (s : Step) (c : Child) → s.child ≡ c → Ends t (way st cap k (suc f) d t s) (walk st cap k stop (suc f) s)
    off_child f same d t s (LeafChild n) i =
        subst (λ (x : Result Way NotAStore). Ends t x (walk st cap k stop (suc f) s)) (sym (way_leaf st cap k f d t s n i))
        (omega arith, λ y. walk_leaf st cap k stop s f n i ∙ ap (λ (c : Child). Ok (At c s)) i)
    off_child f same d t s (Branch b) i =
        let r = linked_in cap (nibble k s.position) (children_in st b.0) in
        subst (λ (x : Result Way NotAStore). Ends t x (walk st cap k stop (suc f) s)) (sym (way_step st cap k f d t s b i r refl))
        (off_slot f same d t s.position b s.at (walk st cap k stop (suc f) s) r (λ y. walk_step st cap k stop s f b i y r refl))

    offs : (f : ℕ) → Offs f
    unfolding way walk
    offs zero d t s = tt
    offs (suc f) d t s = off_child f (offs f) d t s s.child refl

-- ---- the ways out of `find_near`

module _ (st : List ℕ) (cap : ℕ) (k : List ℕ) (root : Link) (w : Result Way NotAStore) (is : w ≡ way st cap k steps 0 0 (first root)) where
  its_near : near_of st cap k w ≡ near st cap k steps 0 root
  its_near = ap (near_of st cap k) is ∙ closes st cap k steps 0 0 (first root) (omega arith)

  its_end : (stop : ℕ) → Ends st cap k stop 0 w (walk st cap k stop steps (first root))
  its_end stop = subst (λ (x : Result Way NotAStore). Ends st cap k stop 0 x (walk st cap k stop steps (first root))) (sym is) (offs st cap k stop steps 0 0 (first root))

  pub on_wrong : (e : NotAStore) (r : Result Near NotAStore) → w ≡ Err e → IsErr r → closest_of r ≡ near st cap k steps 0 root
  on_wrong e r i f = ap closest_of (sym (refused r f)) ∙ ap (near_of st cap k) (sym i) ∙ its_near

  module _ (x : Way) (o : w ≡ Ok x) (n : LeafNo) (d : ℕ) (s : Step) (t : ℕ) (e : x ≡ Way.Leaf n d s t) where
    ends_in_leaf : w ≡ Ok (Way.Leaf n d s t)
    ends_in_leaf = o ∙ ap Ok e

    pub leaf_near : Ok (leaf_at n d) ≡ near st cap k steps 0 root
    leaf_near = ap (near_of st cap k) (sym ends_in_leaf) ∙ its_near

    pub leaf_ended : EndsAt st cap k root (At (LeafChild n) s) t
    leaf_ended stop h = (subst (λ (y : Result Way NotAStore). Ends st cap k stop 0 y (walk st cap k stop steps (first root))) ends_in_leaf (its_end stop)).1 h

  module _ (x : Way) (o : w ≡ Ok x) (b : BranchNo) (s p d t : ℕ) (e : x ≡ Way.Off b s p d t) where
    ends_off : w ≡ Ok (Way.Off b s p d t)
    ends_off = o ∙ ap Ok e

    pub off_ended : EndsAt st cap k root (Missing b s) t
    off_ended stop h = (subst (λ (y : Result Way NotAStore). Ends st cap k stop 0 y (walk st cap k stop steps (first root))) ends_off (its_end stop)).1 h

    module _ (c : Result Closest NotAStore) (q : c ≡ near st cap k (steps - d) d (to_branch b.0 p)) where
      below_off : c ≡ near st cap k steps 0 root
      below_off = q ∙ ap (near_of st cap k) (sym ends_off) ∙ its_near

      pub off_near : (y : Closest) → c ≡ Ok y → Ok (leaf_at y.leaf y.depth) ≡ near st cap k steps 0 root
      off_near y i = sym i ∙ below_off

      pub off_wrong : (z : NotAStore) (r : Result Near NotAStore) → c ≡ Err z → IsErr r → closest_of r ≡ near st cap k steps 0 root
      off_wrong z r i f = ap closest_of (sym (refused r f)) ∙ sym i ∙ below_off

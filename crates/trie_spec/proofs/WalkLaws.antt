-- The descents over bytes, one step at a time, as the loops take them: `a` is the whole answer. Assumes nothing.
use Prim.Native.Nat.{ℕ, zero, suc, ◌+◌, ◌-◌, ◌≤◌, ◌<◌}
use mathlib.Core.Path.{◌≡◌, refl, sym, ap, ◌∙◌, subst}
use mathlib.Core.List.{List}
use mathlib.Core.Option.{Option as Maybe, none, some}
use native.Mathlib.Numerals.{sub-one}
use native.Mathlib.Omega.{arith}
use borrow.Author.Tests.{le-leb, lt-leb}
use lib.ListN.{length}
use Rattle.model.specs.Nibble.{nibble, slot_count}
use Rattle.node.specs.Child.{Linked, number_in, link_of, to_leaf, to_branch}
use Rattle.bitmap.specs.Entries.{Entry, lookup}
use Rattle.node.specs.Layout.{start, Room}
use Rattle.node.specs.Branch.{children_in, some_link, linked, linked_in, near_in}
use Rattle.node.proofs.ChildLaws.{within}
use Rattle.node.proofs.HeaderLaws.{block_in}
use Rattle.node.specs.declared.child.BranchNo.{BranchNo}
use Rattle.node.specs.declared.child.LeafNo.{LeafNo}
use Rattle.node.specs.declared.child.Child.{Child}
use Rattle.node.specs.declared.child.Child.TheVariants.{Leaf as LeafChild, Branch}
use Rattle.node.specs.declared.child.Link.{Link}
use Rattle.trie_spec.specs.Walk.{steps, step, first, on_linked, walk, near, leaf_at}
use Rattle.trie_spec.specs.declared.descent.Spot.{Spot}
use Rattle.trie_spec.specs.declared.descent.Spot.TheVariants.{Root, Under}
use Rattle.trie_spec.specs.declared.descent.Step.{Step}
use Rattle.trie_spec.specs.declared.descent.Walked.{Walked}
use Rattle.trie_spec.specs.declared.descent.Walked.TheVariants.{At, Missing}
use Rattle.trie_spec.specs.declared.descent.Closest.{Closest}
use Rattle.std.specs.Prelude.{Option, Some, None, Result, Ok, Err}
use Rattle.std.specs.Result.{IsErr}
use Rattle.node.specs.NotAStore.{not_a_store}
use Rattle.node.specs.declared.NotAStore.{NotAStore}

-- what a `?` hands on
pub refused : {A : Type 0} (r : Result A NotAStore) → IsErr r → Err not_a_store ≡ r
refused (Ok x) f = cc
refused (Err e) f = refl

module _ (st : List ℕ) (cap : ℕ) (k : List ℕ) where
  module _ (stop : ℕ) (s : Step) where
    pub walk_leaf : (f : ℕ) (n : LeafNo) → s.child ≡ LeafChild n → walk st cap k stop (suc f) s ≡ Ok (At s.child s)
    unfolding walk
    walk_leaf f n e = rw e

    pub walk_stop : (f : ℕ) (b : BranchNo) → s.child ≡ Branch b → stop ≤ s.position → walk st cap k stop (suc f) s ≡ Ok (At s.child s)
    unfolding walk
    walk_stop f b e h = rw (e, le-leb stop s.position h)

    pub walk_step : (f : ℕ) (b : BranchNo) → s.child ≡ Branch b → s.position < stop → (r : Linked) → r ≡ linked_in cap (nibble k s.position) (children_in st b.0)
        → walk st cap k stop (suc f) s
        ≡ on_linked (λ l. walk st cap k stop f (step l (Under b (nibble k s.position)) s.at)) (Ok (Missing b (nibble k s.position))) (Err not_a_store) r
    unfolding walk
    walk_step f b e h r q = rw (e, lt-leb stop s.position h, q)

    module _ (a : Result Walked NotAStore) where
      pub met_end : (f : ℕ) → walk st cap k stop f s ≡ a → f ≤ 0 → Err not_a_store ≡ a
      unfolding walk
      met_end zero inv e = inv
      met_end (suc f) inv e = absurd (omega arith)

      met_leaf : (f : ℕ) (n : LeafNo) (c : Child) → walk st cap k stop f s ≡ a → 0 < f → s.child ≡ LeafChild n → c ≡ LeafChild n → Ok (At c s) ≡ a
      met_leaf zero n c inv ne e i = absurd (omega arith)
      met_leaf (suc f) n c inv ne e i = ap (λ (z : Child). Ok (At z s)) (i ∙ sym e) ∙ sym (walk_leaf f n e) ∙ inv

      met_stop : (f : ℕ) (b : BranchNo) (c : Child) → walk st cap k stop f s ≡ a → 0 < f → s.child ≡ Branch b → c ≡ Branch b → stop ≤ s.position → Ok (At c s) ≡ a
      met_stop zero b c inv ne e i h = absurd (omega arith)
      met_stop (suc f) b c inv ne e i h = ap (λ (z : Child). Ok (At z s)) (i ∙ sym e) ∙ sym (walk_stop f b e h) ∙ inv

      module _ (slot : ℕ) (is : slot ≡ nibble k s.position) (b : BranchNo) (e : s.child ≡ Branch b) (h : s.position < stop)
          (r : Linked) (q : r ≡ linked_in cap slot (children_in st b.0)) where
        stepped : (f : ℕ) → walk st cap k stop (suc f) s ≡ a → on_linked (λ l. walk st cap k stop f (step l (Under b slot) s.at)) (Ok (Missing b slot)) (Err not_a_store) r ≡ a
        stepped f inv = rw is (sym (walk_step f b e h r (rw (← is) q)) ∙ inv)

        met_missing : (f : ℕ) → walk st cap k stop f s ≡ a → 0 < f → r ≡ Ok None → Ok (Missing b slot) ≡ a
        met_missing zero inv ne g = absurd (omega arith)
        met_missing (suc f) inv ne g = rw g at (stepped f inv)

        met_wrong : (f : ℕ) → walk st cap k stop f s ≡ a → 0 < f → r ≡ Err not_a_store → Err not_a_store ≡ a
        met_wrong zero inv ne g = absurd (omega arith)
        met_wrong (suc f) inv ne g = rw g at (stepped f inv)

        met_next : (f : ℕ) (l : Link) → walk st cap k stop f s ≡ a → 0 < f → r ≡ Ok (Some l) → walk st cap k stop (f - 1) (step l (Under b slot) s.at) ≡ a
        met_next zero l inv ne g = absurd (omega arith)
        met_next (suc f) l inv ne g = rw sub-one (rw g at (stepped f inv))

-- a link to a branch is that of its number and position
pub same_link : (l : Link) (b : BranchNo) → l.child ≡ Branch b → l ≡ to_branch b.0 l.position
same_link l b e = ap (λ (c : Child). record { child = c; position = l.position }) e

pub same_leaf : (l : Link) (n : LeafNo) → l.child ≡ LeafChild n → l ≡ to_leaf n.0 l.position
same_leaf l n e = ap (λ (c : Child). record { child = c; position = l.position }) e

-- ---- the closest descent

module _ (st : List ℕ) (cap : ℕ) (k : List ℕ) (d : ℕ) (m : Link) where
  pub near_leaf : (f : ℕ) (n : LeafNo) → m.child ≡ LeafChild n → near st cap k (suc f) d m ≡ Ok (leaf_at n d)
  unfolding near
  near_leaf f n e = rw e

  pub near_step : (f : ℕ) (b : BranchNo) → m.child ≡ Branch b → (r : Linked) → r ≡ near_in cap (nibble k m.position) (children_in st b.0)
      → near st cap k (suc f) d m ≡ on_linked (λ l. near st cap k f (d + 1) l) (Err not_a_store) (Err not_a_store) r
  unfolding near
  near_step f b e r q = rw (e, q)

  module _ (a : Result Closest NotAStore) where
    pub close_end : (f : ℕ) → near st cap k f d m ≡ a → f ≤ 0 → Err not_a_store ≡ a
    unfolding near
    close_end zero inv e = inv
    close_end (suc f) inv e = absurd (omega arith)

    close_leaf : (f : ℕ) (n : LeafNo) → near st cap k f d m ≡ a → 0 < f → m.child ≡ LeafChild n → Ok (leaf_at n d) ≡ a
    close_leaf zero n inv ne e = absurd (omega arith)
    close_leaf (suc f) n inv ne e = sym (near_leaf f n e) ∙ inv

    module _ (slot : ℕ) (is : slot ≡ nibble k m.position) (b : BranchNo) (e : m.child ≡ Branch b) (r : Linked) (q : r ≡ near_in cap slot (children_in st b.0)) where
      closed_in : (f : ℕ) → near st cap k (suc f) d m ≡ a → on_linked (λ l. near st cap k f (d + 1) l) (Err not_a_store) (Err not_a_store) r ≡ a
      closed_in f inv = sym (near_step f b e r (rw (← is) q)) ∙ inv

      close_missing : (f : ℕ) → near st cap k f d m ≡ a → 0 < f → r ≡ Ok None → Err not_a_store ≡ a
      close_missing zero inv ne g = absurd (omega arith)
      close_missing (suc f) inv ne g = rw g at (closed_in f inv)

      close_wrong : (f : ℕ) → near st cap k f d m ≡ a → 0 < f → r ≡ Err not_a_store → Err not_a_store ≡ a
      close_wrong zero inv ne g = absurd (omega arith)
      close_wrong (suc f) inv ne g = rw g at (closed_in f inv)

      close_next : (f : ℕ) (l : Link) → near st cap k f d m ≡ a → 0 < f → r ≡ Ok (Some l) → near st cap k (f - 1) (d + 1) l ≡ a
      close_next zero l inv ne g = absurd (omega arith)
      close_next (suc f) l inv ne g = rw sub-one (rw g at (closed_in f inv))

-- ---- from a branch on, as the loops go: `number` and `p` are the branch and its position, f the steps left, and r what the branch's slot leads to

module _ (st : List ℕ) (cap : ℕ) (k : List ℕ) (d number p : ℕ) (a : Result Closest NotAStore) (slot : ℕ) (is : slot ≡ nibble k p) (r : Linked)
    (q : r ≡ near_in cap slot (children_in st number)) (f : ℕ) (inv : near st cap k f d (to_branch number p) ≡ a) (ne : 0 < f) where
  pub near_wrong : (e : NotAStore) → r ≡ Err e → Err not_a_store ≡ a
  near_wrong e g = close_wrong st cap k d (to_branch number p) a slot is (record { 0 = number }) refl r q f inv ne g

  module _ (o : Option Link) (i : r ≡ Ok o) where
    pub near_missing : o ≡ None → Err not_a_store ≡ a
    near_missing g = close_missing st cap k d (to_branch number p) a slot is (record { 0 = number }) refl r q f inv ne (i ∙ ap Ok g)

    module _ (l : Link) (j : o ≡ Some l) where
      near_to : near st cap k (f - 1) (d + 1) l ≡ a
      near_to = close_next st cap k d (to_branch number p) a slot is (record { 0 = number }) refl r q f l inv ne (i ∙ ap Ok j)

      pub near_on : (g e : ℕ) (b : BranchNo) → l.child ≡ Branch b → g ≡ f - 1 → e ≡ d + 1 → near st cap k g e (to_branch b.0 l.position) ≡ a
      near_on g e b c gone deeper = rw (gone, deeper) (ap (near st cap k (f - 1) (d + 1)) (sym (same_link l b c)) ∙ near_to)

      module _ (n : LeafNo) (c : l.child ≡ LeafChild n) where
        to_leaf_lem : near st cap k (f - 1) (d + 1) (to_leaf n.0 l.position) ≡ a
        to_leaf_lem = ap (near st cap k (f - 1) (d + 1)) (sym (same_leaf l n c)) ∙ near_to

        pub near_end : f ≤ 1 → Err not_a_store ≡ a
        near_end z = close_end st cap k (d + 1) l a (f - 1) near_to (omega arith)

        pub near_met : (e : ℕ) → 1 < f → e ≡ d + 1 → Ok (leaf_at n e) ≡ a
        near_met e z t = rw t (close_leaf st cap k (d + 1) l a (f - 1) n near_to (omega arith) c)

module _ (st : List ℕ) (cap : ℕ) (k : List ℕ) (stop number p : ℕ) (at above : Spot) (a : Result Walked NotAStore) (f : ℕ)
    (inv : walk st cap k stop f (step (to_branch number p) at above) ≡ a) (ne : 0 < f) where
  abbrev here : Step
  here = step (to_branch number p) at above

  pub walk_stopped : stop ≤ p → Ok (At (Branch (record { 0 = number })) (step (to_branch number p) at above)) ≡ a
  walk_stopped h = met_stop st cap k stop here a f (record { 0 = number }) (Branch (record { 0 = number })) inv ne refl refl h

  module _ (h : p < stop) (slot : ℕ) (is : slot ≡ nibble k p) (r : Linked) (q : r ≡ linked_in cap slot (children_in st number)) where
    pub walk_wrong : (e : NotAStore) → r ≡ Err e → Err not_a_store ≡ a
    walk_wrong e g = met_wrong st cap k stop here a slot is (record { 0 = number }) refl h r q f inv ne g

    module _ (o : Option Link) (i : r ≡ Ok o) where
      pub walk_missing : o ≡ None → Ok (Missing (record { 0 = number }) slot) ≡ a
      walk_missing g = met_missing st cap k stop here a slot is (record { 0 = number }) refl h r q f inv ne (i ∙ ap Ok g)

      module _ (l : Link) (j : o ≡ Some l) where
        walk_to : walk st cap k stop (f - 1) (step l (Under (record { 0 = number }) slot) at) ≡ a
        walk_to = met_next st cap k stop here a slot is (record { 0 = number }) refl h r q f l inv ne (i ∙ ap Ok j)

        pub walk_on : (g : ℕ) (b : BranchNo) → l.child ≡ Branch b → g ≡ f - 1 → walk st cap k stop g (step (to_branch b.0 l.position) (Under (record { 0 = number }) slot) at) ≡ a
        walk_on g b c gone =
            rw gone (ap (λ (m : Link). walk st cap k stop (f - 1) (step m (Under (record { 0 = number }) slot) at)) (sym (same_link l b c)) ∙ walk_to)

        module _ (n : LeafNo) (c : l.child ≡ LeafChild n) where
          pub walk_end : f ≤ 1 → Err not_a_store ≡ a
          walk_end z = met_end st cap k stop (step l (Under (record { 0 = number }) slot) at) a (f - 1) walk_to (omega arith)

          pub walk_met : 1 < f → Ok (At (LeafChild n) (record { child = LeafChild n; position = l.position; at = Under (record { 0 = number }) slot; above = at })) ≡ a
          walk_met z =
              let last = ap (λ (m : Link). walk st cap k stop (f - 1) (step m (Under (record { 0 = number }) slot) at)) (sym (same_leaf l n c)) ∙ walk_to in
              met_leaf st cap k stop (step (to_leaf n.0 l.position) (Under (record { 0 = number }) slot) at) a (f - 1) n (LeafChild n) last (omega arith) refl refl

-- ---- from the root on

module _ (st : List ℕ) (cap : ℕ) (k : List ℕ) (l : Link) where
  pub first_leaf_lem : (stop : ℕ) (n : LeafNo) → l.child ≡ LeafChild n
      → Ok (At (LeafChild n) (record { child = LeafChild n; position = l.position; at = Root; above = Root })) ≡ walk st cap k stop steps (first l)
  first_leaf_lem stop n e =
      subst (λ (c : Child). Ok (At c (record { child = c; position = l.position; at = Root; above = Root })) ≡ walk st cap k stop steps (first l)) e
      (met_leaf st cap k stop (first l) (walk st cap k stop steps (first l)) steps n l.child refl (omega arith) e e)

  pub first_near : (n : LeafNo) → l.child ≡ LeafChild n → Ok (leaf_at n 0) ≡ near st cap k steps 0 l
  first_near n e = close_leaf st cap k 0 l (near st cap k steps 0 l) steps n refl (omega arith) e

-- ---- what is met lies in the store

pub link_some : (r : Result Link NotAStore) (l : Link) → some_link r ≡ Ok (Some l) → r ≡ Ok l
link_some (Ok m) l e = cc
link_some (Err z) l e = cc

pub linked_below : (cap : ℕ) (o : Maybe ℕ) (l : Link) → linked cap o ≡ Ok (Some l) → number_in l.child < cap
linked_below cap none l e = absurd (let z : ◌≡◌ {A = ℕ} 0 1 = cc in omega arith)
linked_below cap (some x) l e = within cap x l (link_some (link_of cap x) l e)

pub branch_room : (st : List ℕ) (cap : ℕ) (c : Child) (b : BranchNo) → start cap ≤ length st → number_in c < cap → c ≡ Branch b → Room st b.0
branch_room st cap c b fits h e = block_in st cap b.0 fits (rw e at h)

pub branch_below : (cap : ℕ) (c : Child) (b : BranchNo) → number_in c < cap → c ≡ Branch b → b.0 < cap
branch_below cap c b h e = rw e at h

pub leaf_below : (cap : ℕ) (c : Child) (n : LeafNo) → number_in c < cap → c ≡ LeafChild n → n.0 < cap
leaf_below cap c n h e = rw e at h

pub link_below : (cap slot : ℕ) (es : List Entry) (r : Linked) (l : Link) → r ≡ linked_in cap slot es → r ≡ Ok (Some l) → number_in l.child < cap
link_below cap slot es r l p q = linked_below cap (lookup slot es) l (sym p ∙ q)

-- the branch that a slot leads to
pub number_below : (cap : ℕ) (r : Linked) (o : Maybe ℕ) (x : Option Link) (l : Link) (b : BranchNo) (m : ℕ) → r ≡ linked cap o → r ≡ Ok x → x ≡ Some l → l.child ≡ Branch b → m ≡ b.0
    → m < cap
number_below cap r o x l b m is i j e g = rw g (branch_below cap l.child b (linked_below cap o l (sym is ∙ i ∙ ap Ok j)) e)

pub slot_fits : (slot : ℕ) → slot < slot_count → slot ≤ 16
slot_fits slot h = omega arith

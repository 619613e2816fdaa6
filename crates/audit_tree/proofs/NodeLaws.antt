-- The check of a node over bytes, one slot at a time, as the loop takes them. Assumes nothing.
use Prim.Native.Nat.{ℕ, zero, suc, ◌+◌, ◌-◌, ◌≤◌, ◌<◌}
use mathlib.Core.Path.{◌≡◌, refl, sym, ap, subst, ◌∙◌}
use mathlib.Core.Logic.{◌⊎◌, inl, inr}
use mathlib.Core.List.{List}
use mathlib.Core.Option.{Option, none, some}
use native.Mathlib.Omega.{arith}
use borrow.Author.Tests.{lt-ltb, le-ltb}
use Rattle.std.specs.Prelude.{Option as Maybe, Some, None, Result, Ok, Err}
use Rattle.model.specs.Nibble.{slot_count}
use Rattle.bitmap.specs.Entries.{Entry, lookup}
use Rattle.node.specs.Child.{Linked, link_of}
use Rattle.node.specs.declared.NotAStore.{NotAStore}
use Rattle.node.specs.Branch.{children_in, some_link, linked, linked_in}
use Rattle.node.specs.declared.child.LeafNo.{LeafNo}
use Rattle.node.specs.declared.child.BranchNo.{BranchNo}
use Rattle.node.specs.declared.child.Child.TheVariants.{Leaf, Branch}
use Rattle.node.specs.declared.child.Link.{Link}
use Rattle.trie_spec.specs.Walk.{on_linked, on_root}
use Rattle.audit_tree.specs.Walk.{none_yet, leaf_seen, add_kid, finish, on_counted, kids_seen, seen, Sound, Grown}
use Rattle.audit_tree.specs.declared.tree.Seen.{Seen}
use Rattle.audit_tree.specs.declared.tree.Tally.{Tally}
use Rattle.audit_tree.proofs.SlotLaws.{from, from_low, from_end, at_slot, no_slot, children_rise}

-- an item stands for a child or for no record, never for nothing
item_there : {A : Type 0} (f : Link → A) (a w : A) (r : Result Link NotAStore) → on_linked f a w (some_link r) ≡ on_root f w r
item_there f a w (Ok l) = refl
item_there f a w (Err e) = refl

one_less : (f : ℕ) → f ≡ suc f - 1
one_less f = omega arith

-- the check of the links below a branch at position p, with one branch less on a path
abbrev pub below : List ℕ → (cap left p : ℕ) → ℕ → Link → Maybe Seen
below st cap left p m k = seen st cap (left - 1) (p + 1) m k

-- the check of the children from a slot on
abbrev pub rest : List ℕ → (cap left p budget b slot : ℕ) → Tally → Maybe Seen
rest st cap left p budget b slot t = kids_seen st cap p budget (below st cap left p) (from slot (children_in st b)) t

module _ (st : List ℕ) (cap left low budget : ℕ) (link : Link) where
  pub node_leaf : (n : LeafNo) (r : Maybe Seen) → link.child ≡ Leaf n → r ≡ leaf_seen st n link.position budget → r ≡ seen st cap left low budget link
  unfolding seen
  node_leaf n r e q = q ∙ go left
    where
      go : (f : ℕ) → leaf_seen st n link.position budget ≡ seen st cap f low budget link
      go zero = rw e
      go (suc f) = rw e

  module _ (b : BranchNo) (e : link.child ≡ Branch b) where
    pub node_deep : left ≡ 0 → None ≡ seen st cap left low budget link
    unfolding seen
    node_deep z = rw (z, e)

    pub node_low : (left ≡ 0 → ⊥) → link.position < low → None ≡ seen st cap left low budget link
    unfolding seen
    node_low ne h = go left ne
      where
        go : (f : ℕ) → (f ≡ 0 → ⊥) → None ≡ seen st cap f low budget link
        go zero ne = absurd (ne refl)
        go (suc f) ne = rw (e, lt-ltb link.position low h)

    pub node_off : (left ≡ 0) ⊎ ((left ≡ 0 → ⊥) × (link.position < low)) → None ≡ seen st cap left low budget link
    node_off (inl z) = node_deep z
    node_off (inr n) = node_low n.0 n.1

    module _ (ne : left ≡ 0 → ⊥) (h : low ≤ link.position) where
      pub node_branch : rest st cap left link.position budget b.0 0 none_yet ≡ seen st cap left low budget link
      unfolding seen
      node_branch = go left ne
        where
          go : (f : ℕ) → (f ≡ 0 → ⊥) → rest st cap f link.position budget b.0 0 none_yet ≡ seen st cap f low budget link
          go zero ne = absurd (ne refl)
          go (suc f) ne =
              subst
              (λ (d : ℕ). kids_seen st cap link.position budget (λ m k. seen st cap d (link.position + 1) m k) (from 0 (children_in st b.0)) none_yet
              ≡ seen st cap (suc f) low budget link)
              (one_less f)
              (rw (e, le-ltb link.position low h, from_low 0 slot_count 0 (children_in st b.0) (children_rise st b.0) (omega arith)))

      -- the loop: in a slot, with a tally of those before it
      module _ (slot : ℕ) (t : Tally) (inv : rest st cap left link.position budget b.0 slot t ≡ rest st cap left link.position budget b.0 0 none_yet) where
        abbrev p : ℕ
        p = link.position

        abbrev es : List Entry
        es = children_in st b.0

        abbrev onward : Tally → Maybe Seen
        onward t' = rest st cap left p budget b.0 (slot + 1) t'

        abbrev turn : Linked → Maybe Seen
        turn r = on_linked (λ l. on_counted onward None (add_kid st p slot t (below st cap left p (budget - t.leaves) l))) (onward t) None r

        turned : (r : Linked) → r ≡ linked_in cap slot es → turn r ≡ rest st cap left p budget b.0 slot t
        unfolding kids_seen
        turned r q = rw q (go (lookup slot es) refl)
          where
            go : (o : Option ℕ) → lookup slot es ≡ o → turn (linked cap o) ≡ rest st cap left p budget b.0 slot t
            go none i = ap (λ (z : List Entry). kids_seen st cap p budget (below st cap left p) z t) (sym (no_slot slot es i))
            go (some x) i =
                rw (at_slot 0 slot_count slot x es (children_rise st b.0) i)
                (item_there (λ l. on_counted onward None (add_kid st p slot t (below st cap left p (budget - t.leaves) l))) (onward t) None (link_of cap x))

        pub node_end : slot_count ≤ slot → (r : Maybe Seen) → r ≡ finish t → r ≡ seen st cap left low budget link
        unfolding kids_seen
        node_end l r q =
            let z : finish t ≡ rest st cap left p budget b.0 slot t = rw (from_end 0 slot_count slot es (children_rise st b.0) l) in
            q ∙ z ∙ inv ∙ node_branch

        module _ (r : Linked) (q : r ≡ linked_in cap slot es) where
          pub node_wrong : (e : NotAStore) → r ≡ Err e → None ≡ seen st cap left low budget link
          node_wrong e i = (rw i at (turned r q)) ∙ inv ∙ node_branch

          module _ (o : Maybe Link) (led : r ≡ Ok o) where
            pub node_none : o ≡ None → (u : Tally) → u ≡ t → rest st cap left p budget b.0 (slot + 1) u ≡ rest st cap left p budget b.0 0 none_yet
            node_none n u e = let j : r ≡ Ok None = led ∙ ap Ok n in rw e ((rw j at (turned r q)) ∙ inv)

            module _ (m : Link) (to : o ≡ Some m) (k : Maybe Seen) (kid : k ≡ seen st cap (left - 1) (p + 1) (budget - t.leaves) m) where
              i : r ≡ Ok (Some m)
              i = led ∙ ap Ok to

              pub node_lost : k ≡ None → (x : Maybe Seen) → x ≡ None → x ≡ seen st cap left low budget link
              unfolding add_kid
              node_lost j x e =
                  let z : seen st cap (left - 1) (p + 1) (budget - t.leaves) m ≡ None = sym kid ∙ j in
                  e ∙ (rw z at (rw i at (turned r q))) ∙ inv ∙ node_branch

              module _ (s : Seen) (found : k ≡ Some s) (c : Maybe Tally) (add : c ≡ add_kid st p slot t (Some s)) where
                taken : on_counted onward None c ≡ rest st cap left p budget b.0 slot t
                taken = rw (add, ← found, kid) (rw i at (turned r q))

                pub node_stop : c ≡ None → (x : Maybe Seen) → x ≡ None → x ≡ seen st cap left low budget link
                node_stop j x e = e ∙ (rw j at taken) ∙ inv ∙ node_branch

                pub node_going : (t' : Tally) → c ≡ Some t' → (u : Tally) → u ≡ t' → rest st cap left p budget b.0 (slot + 1) u ≡ rest st cap left p budget b.0 0 none_yet
                node_going t' j u e = rw e ((rw j at taken) ∙ inv)

-- the tally that goes on is sound
pub sound_going : (cap budget : ℕ) (c : Maybe Tally) (t u : Tally) → Grown cap budget c → c ≡ Some t → u ≡ t → Sound cap budget u
sound_going cap budget c t u g i e = rw e (rw i at g)

pub sound_stays : (cap budget : ℕ) (t u : Tally) → Sound cap budget t → u ≡ t → Sound cap budget u
sound_stays cap budget t u h e = rw e h

-- Exact lookup: a law for each way out. Assumes nothing.
use Prim.Native.Nat.{ℕ, ◌<◌, Ordering}
use mathlib.Core.Path.{◌≡◌, sym, ap, subst, ◌∙◌}
use mathlib.Core.Logic.{◌≢◌}
use mathlib.Core.Bool.{Bool, true, false}
use mathlib.Core.List.{List}
use Rattle.model.specs.Key.{order, on_equal}
use Rattle.model.proofs.KeyLaws.{Ordered, before, equal, after, ordered, key_same, key_other}
use Rattle.fields.specs.Common.{Says}
use Rattle.node.specs.Child.{number_in}
use Rattle.node.specs.Leaf.{leaf_in}
use Rattle.node.specs.declared.child.LeafNo.{LeafNo}
use Rattle.node.specs.declared.child.Child.{Child}
use Rattle.node.specs.declared.child.Child.TheVariants.{Leaf as LeafChild, Branch}
use Rattle.trie_spec.specs.Walk.{on_node, Within, Lands}
use Rattle.trie_spec.specs.Find.{matched, on_walked, Stands, Exact}
use Rattle.trie_spec.specs.declared.descent.Step.{Step}
use Rattle.trie_spec.specs.declared.descent.Walked.{Walked}
use Rattle.trie_spec.specs.declared.descent.Walked.TheVariants.{At, Missing}
use Rattle.std.specs.Prelude.{Result, Ok, Err, Some, None}
use Rattle.node.specs.NotAStore.{not_a_store}
use Rattle.node.specs.declared.NotAStore.{NotAStore}

-- ---- the leaf met

module _ (st k : List ℕ) (c : Child) (s : Step) where
  module _ (n : LeafNo) (is : c ≡ LeafChild n) where
    at_leaf : matched st k c s ≡ on_equal (order k (leaf_in st n.0).key) (Ok (Some (n, s))) (Ok None)
    at_leaf = ap (on_node (λ m. on_equal (order k (leaf_in st m.0).key) (Ok (Some (m, s))) (Ok None)) (λ b. Err not_a_store)) is

    module _ (q : List ℕ) (key : q ≡ (leaf_in st n.0).key) (f : Bool) (says : Says f (k ≡ q)) where
      pub is_leaf : f ≡ true → Ok (Some (n, s)) ≡ matched st k c s
      is_leaf e =
          let w : k ≡ (leaf_in st n.0).key = subst (λ (b : Bool). Says b (k ≡ q)) e says ∙ key in
          sym (at_leaf ∙ key_same w (Ok (Some (n, s))) (Ok None))

      pub is_other : f ≡ false → Ok None ≡ matched st k c s
      is_other e =
          let w : k ≢ (leaf_in st n.0).key = λ z. subst (λ (b : Bool). Says b (k ≡ q)) e says (z ∙ sym key) in
          sym (at_leaf ∙ key_other w (Ok (Some (n, s))) (Ok None))

  module _ (cap : ℕ) (i : Within cap s.at) (j : Within cap s.above) where
    by_order : (n : LeafNo) → n.0 < cap → {o : Ordering} → Ordered k (leaf_in st n.0).key o → Stands cap (on_equal o (Ok (Some (n, s))) (Ok None))
    by_order n q (before z) = tt
    by_order n q (equal z) = (q, i, j)
    by_order n q (after z) = tt

    -- what is found lies in the store
    pub matched_stands : (m : Child) → number_in m < cap → Stands cap (on_node (λ n. on_equal (order k (leaf_in st n.0).key) (Ok (Some (n, s))) (Ok None)) (λ b. Err not_a_store) m)
    matched_stands (LeafChild n) q = by_order n q (ordered k (leaf_in st n.0).key)
    matched_stands (Branch b) q = tt

pub walked_stands : (st k : List ℕ) (cap : ℕ) (w : Result Walked NotAStore) → Lands cap w → Stands cap (on_walked st k w)
walked_stands st k cap (Ok (At c s)) l = matched_stands st k c s cap l.1 l.2 c (rw l.3 l.0)
walked_stands st k cap (Ok (Missing b s)) l = tt
walked_stands st k cap (Err e) l = tt

-- ---- the descent

pub from_stands : (st : List ℕ) (cap : ℕ) (k : List ℕ) (w : Result Walked NotAStore) (x : Walked) (c : Child) (s : Step) (r : Exact) → Lands cap w → w ≡ Ok x → x ≡ At c s → r ≡ matched st k c s
    → Stands cap r
from_stands st cap k w x c s r l i e q = subst (Stands cap) (sym q) (walked_stands st k cap (Ok (At c s)) (subst (Lands cap) (i ∙ ap Ok e) l))

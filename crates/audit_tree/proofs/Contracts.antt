-- The check over bytes: a law for each way out of the functions that follow it. Assumes nothing.
use Prim.Native.Nat.{ℕ, suc, ◌+◌, ◌-◌, ◌≤◌, ◌<◌}
use mathlib.Core.Path.{◌≡◌, sym, ◌∙◌}
use mathlib.Core.Bool.{Bool, true, false, ◌&&◌}
use mathlib.Core.List.{List}
use native.Mathlib.Omega.{arith}
use lib.ListN.{length}
use lib.Dec.{ltb, eqb}
use borrow.Author.Tests.{lt-ltb, le-ltb}
use Rattle.node.specs.Layout.{last, start}
use Rattle.node.specs.declared.child.LeafNo.{LeafNo}
use Rattle.records.specs.Chain.{Kind}
use Rattle.node.specs.Header.{head_of}
use Rattle.node.proofs.HeaderLaws.{good_right, blocks_fit}
use Rattle.node.specs.declared.header.Header.{Header}
use Rattle.node.specs.declared.NotAStore.{NotAStore}
use Rattle.std.specs.Prelude.{Some, Result, Ok, Err}
use Rattle.audit_tree.specs.Walk.{good, finish}
use Rattle.audit_tree.specs.Accepts.{chain_right, records_right, accepts_in}
use Rattle.audit_tree.specs.declared.tree.Tally.{Tally}

-- ---- the end of a branch

pub two_kids : (t : Tally) (n : LeafNo) → t.first ≡ Some n → 2 ≤ t.kids → good n t.leaves (t.branches + 1) ≡ finish t
unfolding finish
two_kids t n e h = rw (e, le-ltb t.kids 2 h)

-- ---- the whole store

module _ (st : List ℕ) (r : Result Header NotAStore) (is : r ≡ head_of st) where
  pub head_bad : (x : NotAStore) → r ≡ Err x → false ≡ accepts_in st
  unfolding accepts_in
  head_bad x e = rw (← is, e)

  module _ (h : Header) (e : r ≡ Ok h) where
    pub head_room : start h.capacity ≤ length st
    head_room = let g = good_right st h (sym is ∙ e) in omega (arith, g.capacity, blocks_fit (length st) g.long)

    pub head_good : (b : Bool) → b ≡ records_right st h → b ≡ accepts_in st
    unfolding accepts_in
    head_good b q = rw (← is, e) q

-- ---- chains, of either kind: `a` is the whole answer, so many records are met of `cap`

module _ (K : Kind) (st : List ℕ) (cap met x : ℕ) (a : Bool) (inv : chain_right K st cap (cap - met) x ≡ a) where
  pub chain_end : cap ≤ met → eqb x last ≡ a
  unfolding chain_right
  chain_end h = let q : cap - met ≡ 0 = omega arith in (rw q at inv)

  module _ (h : met < cap) where
    chain_step : (ltb x cap && (K.is_free st x && chain_right K st cap (cap - (met + 1)) (K.next st x))) ≡ a
    unfolding chain_right
    chain_step = let q : cap - met ≡ suc (cap - (met + 1)) = omega arith in (rw q at inv)

    pub chain_out : cap ≤ x → false ≡ a
    chain_out l = rw (le-ltb x cap l) at chain_step

    module _ (l : x < cap) (f : Bool) (free : f ≡ K.is_free st x) where
      pub chain_used : f ≡ false → false ≡ a
      chain_used e = rw (lt-ltb x cap l, ← free, e) at chain_step

      pub chain_next : f ≡ true → (y : ℕ) → y ≡ K.next st x → chain_right K st cap (cap - (met + 1)) y ≡ a
      chain_next e y q = rw q (rw (lt-ltb x cap l, ← free, e) at chain_step)

-- The test of a chain over bytes says exactly that there is one. Assumes nothing.
use Prim.Native.Nat.{ℕ, zero, suc}
use mathlib.Core.Path.{◌≡◌, refl, ap}
use mathlib.Core.Bool.{true, ◌&&◌}
use mathlib.Core.List.{List, [], ◌∷◌}
use lib.Dec.{ltb}
use lib.ListN.{length}
use borrow.Author.Tests.{eq-eqb, eqb-true, lt-ltb, ltb-true}
use Rattle.node.specs.Layout.{last}
use Rattle.records.specs.Chain.{Kind}
use Rattle.node.proofs.HeaderLaws.{and_left, and_right}
use Rattle.records.proofs.ChainLaws.{ChainIn}
use Rattle.audit_tree.specs.Accepts.{chain_right}

module _ (K : Kind) (st : List ℕ) (cap : ℕ) where
  pub right_chain : (n x : ℕ) → chain_right K st cap n x ≡ true → (xs : List ℕ) × ChainIn K st cap x xs × (length xs ≡ n)
  unfolding chain_right
  right_chain zero x h = ([], eqb-true x last h, refl)
  right_chain (suc n) x h =
      let in_store = and_left (ltb x cap) (K.is_free st x && chain_right K st cap n (K.next st x)) h in
      let more = and_right (ltb x cap) (K.is_free st x && chain_right K st cap n (K.next st x)) h in
      let free = and_left (K.is_free st x) (chain_right K st cap n (K.next st x)) more in
      let (xs, c, l) = right_chain n (K.next st x) (and_right (K.is_free st x) (chain_right K st cap n (K.next st x)) more) in
      (x ∷ xs, (refl, (ltb-true x cap in_store, free), c), ap suc l)

  pub chain_right_lem : (x : ℕ) (xs : List ℕ) → ChainIn K st cap x xs → chain_right K st cap (length xs) x ≡ true
  unfolding chain_right
  chain_right_lem x [] c = eq-eqb x last c
  chain_right_lem x (y ∷ xs) c = rw (c.0, lt-ltb y cap c.1.0, c.1.1) (chain_right_lem (K.next st y) xs c.2)

-- The chains of free records in the bytes of a store. What taking and giving do is said once, for both kinds. Assumes nothing.
use mathlib.Core.Path.{◌≡◌, ap, ◌∙◌}
use mathlib.Core.Logic.{◌≢◌}
use mathlib.Core.Bool.{true}
use mathlib.Core.List.{List, ◌∷◌}
use mathlib.Core.Option.{some}
use Prim.Native.Nat.{ℕ, ◌+◌, ◌≤◌, ◌<◌}
use native.Mathlib.Omega.{arith}
use lib.Dec.{eqb}
use lib.ListN.{length}
use borrow.Author.Tests.{lt-ltb, eq-eqb}
use Rattle.pictures.specs.Chain.{Chain, times}
use Rattle.pictures.proofs.ChainLaws.{chain_give}
use Rattle.node.specs.Layout.{last, free_size, start, Room}
use Rattle.node.specs.Leaf.{Leaf}
use Rattle.records.specs.Chain.{Kind, Free, leaves, branches, taken}
use Rattle.node.specs.declared.header.Header.{Header}
use Rattle.node.proofs.HeaderLaws.{block_in}
use Rattle.node.proofs.RecordLaws.{leaf_freed, freed_size, freed_next, branch_freed, children_freed, after_freed}

-- from x on goes the chain xs of free records of a kind
abbrev pub ChainIn : Kind → List ℕ → (cap x : ℕ) → List ℕ → Type 0
ChainIn K st cap x xs = Chain (Free K st cap) (K.next st) last x xs

-- What a kind's write of a free record does: that record is free, with the number after it, and no other changes.
pub record Lawful (K : Kind) : Type 0 where
  pub marks : (st : List ℕ) (n x : ℕ) → Room st n → K.is_free (K.freed st n x) n ≡ true
  pub names : (st : List ℕ) (n x : ℕ) → Room st n → x < 65536 → K.next (K.freed st n x) n ≡ x
  pub keeps : (st : List ℕ) (n x : ℕ) → Room st n → (m : ℕ) → m ≢ n → K.is_free (K.freed st n x) m ≡ K.is_free st m
  pub keeps_next : (st : List ℕ) (n x : ℕ) → Room st n → (m : ℕ) → m ≢ n → K.next (K.freed st n x) m ≡ K.next st m

pub leaves_lawful : Lawful leaves
leaves_lawful = record {
  marks = λ st n x room. eq-eqb _ free_size (freed_size st n room x);
  names = λ st n x room h. freed_next st n room x h;
  keeps = λ st n x room m ne. ap (λ (l : Leaf). eqb l.size free_size) ((leaf_freed st n x).others.leaves m ne);
  keeps_next = λ st n x room m ne. ap (λ (l : Leaf). l.next) ((leaf_freed st n x).others.leaves m ne);
}

pub branches_lawful : Lawful branches
branches_lawful = record {
  marks = λ st n x room. rw (children_freed st n room x);
  names = λ st n x room h. after_freed st n room x h;
  keeps = λ st n x room m ne. rw ((branch_freed st n room x).others.arrays m ne);
  keeps_next = λ st n x room m ne. rw ((branch_freed st n room x).others.arrays m ne);
}

module _ (K : Kind) (st : List ℕ) (cap : ℕ) where
  -- The first of a chain is taken, and the rest is a chain from where it pointed.
  pub take_first : (h : Header) (y : ℕ) (ys : List ℕ) → h.capacity ≡ cap → K.used h < cap → ChainIn K st cap (K.first h) (y ∷ ys)
      → taken K st h ≡ some (y, K.with h (K.next st y) (K.used h + 1))
  take_first h y ys e u c =
      let f : K.first h < h.capacity = omega (arith, c.0, c.1.0) in
      let g : K.is_free st (K.first h) ≡ true = ap (K.is_free st) c.0 ∙ c.1.1 in
      rw (lt-ltb (K.first h) h.capacity f, lt-ltb (K.used h) h.capacity (omega arith), g, c.0)

  pub take_rest : (x y : ℕ) (ys : List ℕ) → ChainIn K st cap x (y ∷ ys) → ChainIn K st cap (K.next st y) ys
  take_rest x y ys c = c.2

  -- A record that is in no chain is given, and comes first.
  pub give_first : Lawful K → start cap ≤ length st → (n x : ℕ) (xs : List ℕ) → n < cap → x < 65536 → times n xs ≡ 0 → ChainIn K st cap x xs
      → ChainIn K (K.freed st n x) cap n (n ∷ xs)
  give_first law fits n x xs h f z c =
      let room : Room st n = block_in st cap n fits h in
      chain_give (Free K st cap) (Free K (K.freed st n x) cap) (K.next st) (K.next (K.freed st n x)) last x n xs z
      (h, law.marks st n x room) (law.names st n x room f)
      (λ m ne g. (g.0, law.keeps st n x room m ne ∙ g.1))
      (λ m ne g. law.keeps_next st n x room m ne) c

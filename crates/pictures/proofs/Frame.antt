-- Trees held by a memory: what stays held where records stay the same, and the child that a descent finds.
-- Assumes nothing.
use Prim.Native.Nat.{ℕ, suc, ◌≤◌, ◌<◌, Ordering}
use mathlib.Core.Path.{◌≡◌, sym, ◌∙◌}
use mathlib.Core.Logic.{◌≢◌, ◌⊎◌, inl, inr}
use mathlib.Core.List.{List}
use native.Mathlib.Omega.{arith}
use Rattle.model.specs.Key.{on_equal}
use Rattle.model.specs.Nibble.{nibble}
use Rattle.model.specs.Picture.{Tree, leaf, branch, Kids, end, kid, Everys, SlotsRise, Below, Pictures}
use Rattle.model.proofs.Compare.{Said, lower, same, higher, said, compare_self}
use Rattle.model.proofs.TreeLaws.{From, kids_from, every_map}
use Rattle.model.proofs.Closest.{Some, Somes, some_every, somes_everys}
use Rattle.pictures.specs.Records.{tally, tallies, at, leaf_times, branch_times}
use Rattle.pictures.specs.Stored.{Row, row, Memory, Holds, HoldsAll, At, here, there, Lacks}
use Rattle.pictures.proofs.Children.{replace, at_or_lacks}

-- A child's records are among its branch's.
pub tally_at : (f : ℕ → ℕ) (g : ℕ → ℕ → ℕ) {s : ℕ} {u : Tree} {ks : Kids} → At s u ks → tally f g u ≤ tallies f g ks
tally_at f g here = omega arith
tally_at f g (there d a) = let i = tally_at f g a in omega arith

pub at_self : (n : ℕ) → at n n ≡ 1
at_self n = rw (compare_self n)

pub at_same : (m n : ℕ) → m ≡ n → at m n ≡ 1
at_same m n e = rw e (at_self n)

-- From a memory M to N, over the records that a tree reaches.
module _ (M N : Memory) where
  abbrev pub SameLeaf : ℕ → Type 0
  SameLeaf n = (k : List ℕ) (v : ℕ) → M.Leaf n k v → N.Leaf n k v

  abbrev pub SameBranch : ℕ → Type 0
  SameBranch n = (r : Row) → M.Branch n r → N.Branch n r

  -- A tree whose records are the same is held as before.
  mutual
    pub frame : (t : Tree) → ((n : ℕ) → 1 ≤ leaf_times n t → SameLeaf n) → ((n : ℕ) → 1 ≤ branch_times n t → SameBranch n) → Holds M t → Holds N t
    frame (leaf n k v) l b h = l n (omega (arith, at_self n)) k v h
    frame (branch n p ks) l b h =
        (b n (omega (arith, at_self n)) (row ks) h.0, frames ks (λ m q. l m (omega arith)) (λ m q. b m (omega arith)) h.1)

    pub frames : (ks : Kids) → ((n : ℕ) → 1 ≤ tallies (at n) (λ m p. 0) ks → SameLeaf n) → ((n : ℕ) → 1 ≤ tallies (λ m. 0) (λ m p. at n m) ks → SameBranch n)
        → HoldsAll M ks → HoldsAll N ks
    frames end l b h = tt
    frames (kid s t ks) l b h =
        (frame t (λ m q. l m (omega arith)) (λ m q. b m (omega arith)) h.0, frames ks (λ m q. l m (omega arith)) (λ m q. b m (omega arith)) h.1)

  -- One child is replaced by what N holds; the records of the others are the same.
  pub replace_holds : (v : Tree) {s : ℕ} {u : Tree} {ks : Kids} → At s u ks → Holds N v
      → ((n : ℕ) → leaf_times n u < tallies (at n) (λ m p. 0) ks → SameLeaf n)
      → ((n : ℕ) → branch_times n u < tallies (λ m. 0) (λ m p. at n m) ks → SameBranch n)
      → HoldsAll M ks → HoldsAll N (replace s v ks)
  replace_holds v {s} {u} (here {ks}) hv l b h = rw (compare_self s) (hv, frames ks (λ m q. l m (omega arith)) (λ m q. b m (omega arith)) h.1)
  replace_holds v {s} {u} (there {r} {t} {ks} d a) hv l b h =
      go (said s r) (replace_holds v a hv (λ m q. l m (omega arith)) (λ m q. b m (omega arith)) h.1)
    where
      first : Holds N t
      first = frame t (λ m q. l m (omega (arith, tally_at (at m) (λ z p. 0) a))) (λ m q. b m (omega (arith, tally_at (λ z. 0) (λ z p. at m z) a))) h.0

      go : {o : Ordering} → Said s r o → HoldsAll N (replace s v ks) → HoldsAll N (on_equal o (kid r v ks) (kid r t (replace s v ks)))
      go (lower e) rest = (first, rest)
      go (same e) rest = absurd (d e)
      go (higher e) rest = (first, rest)

-- A descent that looks for leaves of which P holds, all of them in one slot, finds a child there and such a leaf in it.
pub lacks_every : (p : ℕ) (w : List ℕ) (s : ℕ) (ks : Kids) → Pictures p w ks → Lacks s ks → Everys (λ l. nibble l p ≢ s) ks
lacks_every p w s end h d = tt
lacks_every p w s (kid r t ks) h d = (every_map (λ l b e. d.0 (sym e ∙ b.slot)) t h.2, lacks_every p w s ks h.3 d.1)

some_at : (P : List ℕ → Type 0) (p : ℕ) (w : List ℕ) {s : ℕ} {u : Tree} {ks : Kids} (low : ℕ) → At s u ks → ((l : List ℕ) → P l → nibble l p ≡ s)
    → Pictures p w ks → SlotsRise low ks → Somes P ks → Some P u
some_at P p w low here f h m (inl a) = a
some_at P p w low (here {ks}) f h m (inr a) =
    let q = somes_everys P (From p w _) ks a (kids_from p w _ ks h.3 m.1) in
    absurd (omega (arith, f q.0 q.1, q.2.slot))
some_at P p w low (there {r} {t} d z) f h m (inl a) =
    let q = some_every P (Below p w r) t a h.2 in
    absurd (d (sym (f q.0 q.1) ∙ q.2.slot))
some_at P p w low (there {r} d z) f h m (inr a) = some_at P p w (suc r) z f h.3 m.1 a

pub child_of : (P : List ℕ → Type 0) (p : ℕ) (w : List ℕ) (s : ℕ) (ks : Kids) → ((l : List ℕ) → P l → nibble l p ≡ s) → Pictures p w ks → SlotsRise 0 ks → Somes P ks
    → (u : Tree) × At s u ks × Some P u
child_of P p w s ks f h m a = go (at_or_lacks s ks)
  where
    go : ((u : Tree) × At s u ks) ⊎ Lacks s ks → (u : Tree) × At s u ks × Some P u
    go (inl (u, z)) = (u, z, some_at P p w 0 z f h m a)
    go (inr d) =
        let q = somes_everys P (λ l. nibble l p ≢ s) ks a (lacks_every p w s ks h d) in
        absurd (q.2 (f q.0 q.1))

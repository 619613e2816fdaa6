-- A memory holds one tree at most below a child: what is stored determines the tree.
-- Assumes nothing.
use Prim.Native.Nat.{ℕ}
use mathlib.Core.Path.{◌≡◌, refl, sym, ap, subst}
use mathlib.Core.List.{List}
use native.Mathlib.Omega.{arith}
use Rattle.model.specs.Picture.{Tree, leaf, branch, Kids, end, kid}
use Rattle.pictures.specs.Stored.{Child, root, Row, row, Memory, Holds, HoldsAll}

-- A record holds one thing.
pub record Decided (M : Memory) : Type 0 where
  pub key : (n : ℕ) (k l : List ℕ) (v w : ℕ) → M.Leaf n k v → M.Leaf n l w → k ≡ l
  pub value : (n : ℕ) (k l : List ℕ) (v w : ℕ) → M.Leaf n k v → M.Leaf n l w → v ≡ w
  pub children : (n : ℕ) (r s : Row) → M.Branch n r → M.Branch n s → r ≡ s

module _ (M : Memory) (d : Decided M) where
  mutual
    pub held_one : (t u : Tree) → root t ≡ root u → Holds M t → Holds M u → t ≡ u
    held_one (leaf n k v) (leaf m l w) e h g =
        let a : n ≡ m = cc in
        let g' : M.Leaf n l w = subst (λ (i : ℕ). M.Leaf i l w) (sym a) g in
        let b : k ≡ l = d.key n k l v w h g' in
        let c : v ≡ w = d.value n k l v w h g' in
        cc
    held_one (leaf n k v) (branch m q us) e h g = absurd (let z : ◌≡◌ {A = ℕ} 0 1 = cc in omega arith)
    held_one (branch n p ks) (leaf m l w) e h g = absurd (let z : ◌≡◌ {A = ℕ} 0 1 = cc in omega arith)
    held_one (branch n p ks) (branch m q us) e h g =
        let a : n ≡ m = cc in
        let b : p ≡ q = cc in
        let g' : M.Branch n (row us) = subst (λ (i : ℕ). M.Branch i (row us)) (sym a) g.0 in
        let c : ks ≡ us = held_all ks us (d.children n (row ks) (row us) h.0 g') h.1 g.1 in
        cc

    held_all : (ks us : Kids) → row ks ≡ row us → HoldsAll M ks → HoldsAll M us → ks ≡ us
    held_all end end e h g = refl
    held_all end (kid s u us) e h g = absurd (let z : ◌≡◌ {A = ℕ} 0 1 = cc in omega arith)
    held_all (kid r t ks) end e h g = absurd (let z : ◌≡◌ {A = ℕ} 0 1 = cc in omega arith)
    held_all (kid r t ks) (kid s u us) e h g =
        let f : ◌≡◌ {A = ℕ × Child} (r, root t) (s, root u) = cc in
        let a : r ≡ s = ap (λ (z : ℕ × Child). z.0) f in
        let b : t ≡ u = held_one t u (ap (λ (z : ℕ × Child). z.1) f) h.0 g.0 in
        let c : ks ≡ us = held_all ks us (cc) h.1 g.1 in
        cc

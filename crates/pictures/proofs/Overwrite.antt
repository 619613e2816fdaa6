-- The value of a stored key is replaced: the keys and records stay where they are, and the listing is the old one with the value put in.
-- Assumes nothing.
use Prim.Native.Nat.{ℕ, suc}
use mathlib.Core.Path.{◌≡◌, sym, ap}
use mathlib.Core.List.{List, [], ◌∷◌}
use native.Mathlib.Omega.{arith}
use Rattle.model.specs.Map.{Entry, put}
use Rattle.model.specs.Nibble.{nibble, Agree}
use Rattle.model.specs.Picture.{Tree, leaf, branch, Kids, end, kid, Every, Everys, SlotsRise, StartsAt, Below, Picture, Pictures}
use Rattle.model.proofs.Compare.{said}
use Rattle.model.proofs.KeyLaws.{order_eq}
use Rattle.model.proofs.TreeLaws.{From, kids_from}
use Rattle.model.proofs.Closest.{Some, Somes, somes_everys}
use Rattle.pictures.specs.Tree.{set_t, set_k}
use Rattle.pictures.proofs.Put.{Put, PutK, everys_step, put_step, turn}

module _ (k : List ℕ) (v : ℕ) where
  pub starts_set : (low : ℕ) (t : Tree) → StartsAt low t → StartsAt low (set_t k v t)
  starts_set low (leaf n l w) a = a
  starts_set low (branch n p ks) a = a

  mutual
    pub every_set : (P : List ℕ → Type 0) (t : Tree) → Every P t → Every P (set_t k v t)
    every_set P (leaf n l w) a = a
    every_set P (branch n p ks) a = everys_set P (nibble k p) ks a

    everys_set : (P : List ℕ → Type 0) (s : ℕ) (ks : Kids) → Everys P ks → Everys P (set_k k v s ks)
    everys_set P s end a = tt
    everys_set P s (kid r t ks) a =
        everys_step P s r t (set_t k v t) ks (set_k k v s ks) a.0 a.1 (every_set P t a.0) (everys_set P s ks a.1) (said s r)

  leaf_lists : (l : List ℕ) (u : ℕ) → k ≡ l → (l, v) ∷ [] ≡ put k v ((l, u) ∷ [])
  leaf_lists l u e = rw (order_eq e) (ap {B = List Entry} (λ (z : List ℕ). (z, v) ∷ []) (sym e))

  agrees : (p : ℕ) (w : List ℕ) (ks : Kids) → Somes (λ l. k ≡ l) ks → Everys (From p w 0) ks → Agree p w k
  agrees p w ks a b = let q = somes_everys (λ l. k ≡ l) (From p w 0) ks a b in rw q.1 q.2.agree

  in_slot : (p : ℕ) (l : List ℕ) → k ≡ l → nibble k p ≡ nibble l p
  in_slot p l e = ap (λ (z : List ℕ). nibble z p) e

  mutual
    pub set_good : (t : Tree) → Picture t → Some (λ l. k ≡ l) t → Put k v t (set_t k v t)
    set_good (leaf n l u) h a = record { picture = h; lists = leaf_lists l u a }
    set_good (branch n p ks) h a =
        let i = sets_good p h.0 (agrees p h.0 ks a (kids_from p h.0 0 ks h.1 h.2)) 0 ks h.1 h.2 a in
        record { picture = (h.0, i.pictures, i.rising, omega arith); lists = i.lists }

    sets_good : (p : ℕ) (w : List ℕ) → Agree p w k → (low : ℕ) (ks : Kids) → Pictures p w ks → SlotsRise low ks → Somes (λ l. k ≡ l) ks
        → PutK k v p w low ks (set_k k v (nibble k p) ks)
    sets_good p w g low end h m a = absurd a
    sets_good p w g low (kid r t ks) h m a =
        put_step k (λ l. k ≡ l) p w (in_slot p) v g
        low r t (set_t k v t) ks (set_k k v (nibble k p) ks) h m
        (starts_set (suc p) t h.1) (λ new. every_set (Below p w r) t h.2)
        (λ y. set_good t h.0 y) (λ y. sets_good p w g (suc r) ks h.3 m.1 y)
        (turn k (λ l. k ≡ l) p w (in_slot p) low r t ks h m (said (nibble k p) r) a)

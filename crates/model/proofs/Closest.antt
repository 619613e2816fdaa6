-- The closest leaf: it is in the tree, and no leaf agrees with the key longer than it does.
-- Assumes nothing.
use Prim.Native.Nat.{ℕ, suc, ◌≤◌, ◌<◌, Ordering}
use mathlib.Core.Path.{◌≡◌, refl, sym, ◌∙◌, subst}
use mathlib.Core.Logic.{◌≢◌, ◌⊎◌, inl, inr, ⊎_elim, ⊎_map}
use mathlib.Core.List.{List}
use native.Mathlib.Omega.{arith}
use native.Mathlib.Decide.{dec_lt}
use Rattle.model.specs.Key.{on_equal}
use Rattle.model.specs.Nibble.{nibble, Agree}
use Rattle.model.specs.Picture.{Tree, leaf, branch, Kids, end, kid, Every, Everys, SlotsRise, Below, Picture, Pictures, count, Descent, closest, closest_k, first}
use Rattle.model.proofs.Compare.{Said, lower, same, higher, said}
use Rattle.model.proofs.TreeLaws.{From, kids_from, every_map, everys_map}

-- P holds of some key of a tree
abbrev mutual
  pub Some : (List ℕ → Type 0) → Tree → Type 0
  Some P (leaf n k v) = P k
  Some P (branch n p ks) = Somes P ks

  pub Somes : (List ℕ → Type 0) → Kids → Type 0
  Somes P end = ⊥
  Somes P (kid s t ks) = Some P t ⊎ Somes P ks

-- what holds of some key and of every key holds of one key both ways
mutual
  pub some_every : (P Q : List ℕ → Type 0) (t : Tree) → Some P t → Every Q t → (l : List ℕ) × P l × Q l
  some_every P Q (leaf n l v) a b = (l, a, b)
  some_every P Q (branch n p ks) a b = somes_everys P Q ks a b

  pub somes_everys : (P Q : List ℕ → Type 0) (ks : Kids) → Somes P ks → Everys Q ks → (l : List ℕ) × P l × Q l
  somes_everys P Q end a b = absurd a
  somes_everys P Q (kid s t ks) (inl a) b = some_every P Q t a b.0
  somes_everys P Q (kid s t ks) (inr a) b = somes_everys P Q ks a b.1

-- The closest leaf is in the tree.
module _ (P : List ℕ → Type 0) (k : List ℕ) where
  step_some : (t : Tree) (ks : Kids) (d e : Descent) {n m : ℕ} {o : Ordering} → Said n m o
      → (P (closest k t).key → Some P t) → (P e.key → Somes P ks ⊎ P d.key)
      → P (on_equal o (closest k t) e).key → Somes P (kid m t ks) ⊎ P d.key
  step_some t ks d e (lower h) f g a = ⊎_map (λ x. inr x) (λ x. x) (g a)
  step_some t ks d e (same h) f g a = inl (inl (f a))
  step_some t ks d e (higher h) f g a = ⊎_map (λ x. inr x) (λ x. x) (g a)

  mutual
    pub closest_some : (t : Tree) → Picture t → P (closest k t).key → Some P t
    closest_some (leaf n l v) h a = a
    closest_some (branch n p ks) h a = ⊎_elim (λ x. x) (λ x. first_some p h.0 ks h.1 h.3 x) (closest_somes (nibble k p) p h.0 ks (first k ks) h.1 a)

    closest_somes : (s p : ℕ) (w : List ℕ) (ks : Kids) (d : Descent) → Pictures p w ks → P (closest_k k s ks d).key → Somes P ks ⊎ P d.key
    closest_somes s p w end d h a = inr a
    closest_somes s p w (kid r t ks) d h a =
        step_some t ks d (closest_k k s ks d) (said s r) (λ x. closest_some t h.0 x) (λ x. closest_somes s p w ks d h.3 x) a

    first_some : (p : ℕ) (w : List ℕ) (ks : Kids) → Pictures p w ks → 2 ≤ count ks → P (first k ks).key → Somes P ks
    first_some p w end h c a = absurd (omega arith)
    first_some p w (kid r t ks) h c a = inl (closest_some t h.0 a)

-- So what holds of every key holds of it.
pub closest_every : (P : List ℕ → Type 0) (k : List ℕ) (t : Tree) → Picture t → Every P t → P (closest k t).key
closest_every P k t h a =
    let r : (l : List ℕ) × (l ≡ (closest k t).key) × P l = some_every (λ l. l ≡ (closest k t).key) P t (closest_some (λ l. l ≡ (closest k t).key) k t h refl) a in
    subst P r.1 r.2

-- A key in another slot than k's nibble does not agree with k past the position where k leaves q, if the branch's keys agree with q.
apart : {p c : ℕ} {w k l q : List ℕ} → Agree p w l → nibble k p ≢ nibble l p → Agree p w q → nibble k c ≢ nibble q c → Agree (suc c) k l → ⊥
apart {p} {c} a d b e f = go (dec_lt c p)
  where
    go : Dec (c < p) → ⊥
    go (yes h) = e (f.on c (omega arith) ∙ sym (a.on c h) ∙ b.on c h)
    go (no h) = d (f.on p (omega arith))

first_agree : (k : List ℕ) (p : ℕ) (w : List ℕ) (ks : Kids) → Pictures p w ks → 2 ≤ count ks → Agree p w (first k ks).key
first_agree k p w end h c = absurd (omega arith)
first_agree k p w (kid r t ks) h c = closest_every (Agree p w) k t h.0 (every_map (λ l b. b.agree) t h.2)

module _ (k : List ℕ) (c : ℕ) where
  -- k and l do not agree on the nibbles up to c and at c
  abbrev pub Far : List ℕ → Type 0
  Far l = Agree (suc c) k l → ⊥

  -- the descent among the children ends at a key that agrees before the branch's position
  met : (s p : ℕ) (w : List ℕ) (ks : Kids) (d : Descent) → Pictures p w ks → Agree p w d.key → Agree p w (closest_k k s ks d).key
  met s p w end d h a = a
  met s p w (kid r t ks) d h a = go (said s r) (met s p w ks d h.3 a)
    where
      go : {o : Ordering} → Said s r o → Agree p w (closest_k k s ks d).key → Agree p w (on_equal o (closest k t) (closest_k k s ks d)).key
      go (lower q) x = x
      go (same q) x = closest_every (Agree p w) k t h.0 (every_map (λ l b. b.agree) t h.2)
      go (higher q) x = x

  step_far : (p : ℕ) (w : List ℕ) (r : ℕ) (t : Tree) (ks : Kids) (e : Descent) → Picture t → Every (Below p w r) t → Everys (From p w (suc r)) ks → Agree p w e.key
      → (nibble k c ≢ nibble (closest k t).key c → Every Far t) → (nibble k c ≢ nibble e.key c → Everys Far ks)
      → {o : Ordering} → Said (nibble k p) r o → nibble k c ≢ nibble (on_equal o (closest k t) e).key c → Every Far t × Everys Far ks
  step_far p w r t ks e h a b m f g (lower q) d = (every_map (λ l x. apart x.agree (omega arith) m d) t a, g d)
  step_far p w r t ks e h a b m f g (same q) d =
      (f d, everys_map (λ l x. apart x.agree (omega arith) (closest_every (Agree p w) k t h (every_map (λ l y. y.agree) t a)) d) ks b)
  step_far p w r t ks e h a b m f g (higher q) d = (every_map (λ l x. apart x.agree (omega arith) m d) t a, g d)

  mutual
    -- Where the key leaves the closest leaf, it has left every leaf.
    pub closest_far : (t : Tree) → Picture t → nibble k c ≢ nibble (closest k t).key c → Every Far t
    closest_far (leaf n l v) h d = λ a. d (a.on c (omega arith))
    closest_far (branch n p ks) h d = closest_fars p h.0 0 ks (first k ks) h.1 h.2 (first_agree k p h.0 ks h.1 h.3) d

    closest_fars : (p : ℕ) (w : List ℕ) (low : ℕ) (ks : Kids) (d : Descent) → Pictures p w ks → SlotsRise low ks → Agree p w d.key
        → nibble k c ≢ nibble (closest_k k (nibble k p) ks d).key c → Everys Far ks
    closest_fars p w low end d h r m e = tt
    closest_fars p w low (kid s t ks) d h r m e =
        step_far p w s t ks (closest_k k (nibble k p) ks d) h.0 h.2 (kids_from p w (suc s) ks h.3 r.1) (met (nibble k p) p w ks d h.3 m)
        (λ x. closest_far t h.0 x) (λ x. closest_fars p w (suc s) ks d h.3 r.1 m x) (said (nibble k p) s) e

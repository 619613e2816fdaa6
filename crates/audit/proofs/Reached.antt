-- In a held picture each record is reached once. Two ways to one leaf part at some branch and ask two values of one nibble. Two ways to one branch record lead to the
-- same children, whose keys would stand below two slots, or the record would lie below itself. So the check needs no marks.
-- Assumes nothing.
use Prim.Native.Nat.{ℕ, zero, suc, ◌+◌, ◌≤◌}
use mathlib.Core.Path.{◌≡◌, refl, sym, ap, subst, ◌∙◌}
use mathlib.Core.Logic.{◌⊎◌, inl, inr}
use mathlib.Core.List.{List, []}
use native.Mathlib.Omega.{arith}
use mathlib.Core.Bool.{true}
use lib.ListN.{length}
use borrow.Author.Tests.{eqb-true}
use Rattle.model.specs.Numbers.{most}
use Rattle.model.specs.Nibble.{nibble}
use Rattle.model.specs.Picture.{Tree, leaf, branch, Kids, end, kid, Every, Everys, SlotsRise, Picture, Pictures, count}
use Rattle.model.proofs.TreeLaws.{every_map, everys_map, kids_from}
use Rattle.model.proofs.Closest.{closest_every}
use Rattle.pictures.specs.Records.{tallies, at, leaf_times, branch_times, branches as branch_count}
use Rattle.pictures.specs.Stored.{Child, to_leaf, to_branch, root, row, Holds, HoldsAll, here}
use Rattle.pictures.proofs.Frame.{at_same}
use Rattle.pictures.proofs.ChainLaws.{at_split}
use Rattle.bitmap.specs.Entries.{Entry}
use Rattle.node.specs.Child.{number_in, link_of, item_of}
use Rattle.node.specs.Layout.{free_size}
use Rattle.node.specs.Leaf.{Is, leaf_in}
use Rattle.records.specs.Chain.{leaves, branches}
use Rattle.node.specs.Branch.{children_in}
use Rattle.node.specs.declared.child.Link.{Link}
use Rattle.std.specs.Prelude.{Result, Ok}
use Rattle.node.specs.declared.NotAStore.{NotAStore}
use Rattle.trie_spec.specs.Accepted.{link_to, codes, memory_of}
use Rattle.trie_spec.proofs.HeldLaws.{Inside, inside_at, link_back}

pub some_or_none : (n : ℕ) → (1 ≤ n) ⊎ (n ≡ 0)
some_or_none zero = inr refl
some_or_none (suc n) = inl (omega arith)

-- ---- a link leads to one child

link_root : (c d : Child) → link_to c ≡ link_to d → c ≡ d
link_root (to_leaf n) (to_leaf m) e = let a : n ≡ m = ap (λ (l : Link). number_in l.child) e in cc
link_root (to_leaf n) (to_branch m q) e = absurd (let f = ap (λ (l : Link). l.child) e in let z : ◌≡◌ {A = ℕ} 0 1 = cc in omega arith)
link_root (to_branch n p) (to_leaf m) e = absurd (let f = ap (λ (l : Link). l.child) e in let z : ◌≡◌ {A = ℕ} 0 1 = cc in omega arith)
link_root (to_branch n p) (to_branch m q) e =
    let a : n ≡ m = ap (λ (l : Link). number_in l.child) e in
    let b : p ≡ q = ap (λ (l : Link). l.position) e in
    cc

module _ (st : List ℕ) (cap : ℕ) (few : cap ≤ most) where
  abbrev pub In : Tree → Type 0
  In t = Inside st cap few t

  abbrev pub Held : Tree → Type 0
  Held t = Holds (memory_of st) t

  abbrev pub HeldAll : Kids → Type 0
  HeldAll ks = HoldsAll (memory_of st) ks

  pub inside_rest : (n p s : ℕ) (t : Tree) (ks : Kids) → In (branch n p (kid s t ks)) → In (branch n p ks)
  inside_rest n p s t ks i = record { leaves = λ m h. i.leaves m (omega arith); branches = λ m h. i.branches m (omega arith) }

  same_root : (t u : Tree) → Picture t → Picture u → In t → In u → item_of (link_to (root t)) ≡ item_of (link_to (root u)) → root t ≡ root u
  same_root t u h g i j e =
      let a : ◌≡◌ {A = Result Link NotAStore} (Ok (link_to (root t))) (Ok (link_to (root u))) = sym (link_back st cap few t h i) ∙ ap (link_of cap) e ∙ link_back st cap few u g j in
      let b : link_to (root t) ≡ link_to (root u) = cc in
      link_root (root t) (root u) b

  -- what is stored below a child determines the tree
  mutual
    one_tree : (t u : Tree) → root t ≡ root u → Held t → Held u → Picture t → Picture u → In t → In u → t ≡ u
    one_tree (leaf n k v) (leaf m l w) e h g a b i j =
        let q : n ≡ m = cc in
        let x : k ≡ l = sym h.key ∙ ap (λ (z : ℕ). (leaf_in st z).key) q ∙ g.key in
        let y : v ≡ w = sym h.value ∙ ap (λ (z : ℕ). (leaf_in st z).value) q ∙ g.value in
        cc
    one_tree (leaf n k v) (branch m q us) e h g a b i j = absurd (let z : ◌≡◌ {A = ℕ} 0 1 = cc in omega arith)
    one_tree (branch n p ks) (leaf m l w) e h g a b i j = absurd (let z : ◌≡◌ {A = ℕ} 0 1 = cc in omega arith)
    one_tree (branch n p ks) (branch m q us) e h g a b i j =
        let x : n ≡ m = cc in
        let y : p ≡ q = cc in
        let z : ks ≡ us = one_row n p m q a.0 b.0 ks us (sym h.0 ∙ ap (children_in st) x ∙ g.0) h.1 g.1 a.1 b.1 i j in
        cc

    one_row : (n p m q : ℕ) (w v : List ℕ) (ks us : Kids) → codes (row ks) ≡ codes (row us) → HeldAll ks → HeldAll us → Pictures p w ks → Pictures q v us
        → In (branch n p ks) → In (branch m q us) → ks ≡ us
    one_row n p m q w v end end e h g a b i j = refl
    one_row n p m q w v end (kid s u us) e h g a b i j = absurd (let z : ◌≡◌ {A = ℕ} 0 1 = cc in omega arith)
    one_row n p m q w v (kid r t ks) end e h g a b i j = absurd (let z : ◌≡◌ {A = ℕ} 0 1 = cc in omega arith)
    one_row n p m q w v (kid r t ks) (kid s u us) e h g a b i j =
        let f : ◌≡◌ {A = Entry} (r, item_of (link_to (root t))) (s, item_of (link_to (root u))) = cc in
        let x : r ≡ s = ap (λ (z : Entry). z.0) f in
        let k : root t ≡ root u = same_root t u a.0 b.0 (inside_at st cap few here i) (inside_at st cap few here j) (ap (λ (z : Entry). z.1) f) in
        let y : t ≡ u = one_tree t u k h.0 g.0 a.0 b.0 (inside_at st cap few here i) (inside_at st cap few here j) in
        let z : ks ≡ us = one_row n p m q w v ks us (cc) h.1 g.1 a.3 b.3 (inside_rest n p r t ks i) (inside_rest m q s u us j) in
        cc

  -- ---- leaves

  -- what holds of every key holds of that of a leaf record that is reached
  mutual
    leaf_found : (P : List ℕ → Type 0) (r : ℕ) (t : Tree) → 1 ≤ leaf_times r t → Held t → Every P t → P (leaf_in st r).key
    leaf_found P r (leaf n k v) l h a = go (at_split r n)
      where
        go : (r ≡ n) ⊎ (at r n ≡ 0) → P (leaf_in st r).key
        go (inl e) = subst P (sym (ap (λ (z : ℕ). (leaf_in st z).key) e ∙ h.key)) a
        go (inr z) = absurd (omega arith)
    leaf_found P r (branch n p ks) l h a = leaf_founds P r ks (omega arith) h.1 a

    leaf_founds : (P : List ℕ → Type 0) (r : ℕ) (ks : Kids) → 1 ≤ tallies (at r) (λ m q. 0) ks → HeldAll ks → Everys P ks → P (leaf_in st r).key
    leaf_founds P r end l h a = absurd (omega arith)
    leaf_founds P r (kid s t ks) l h a =
        here_or_there (some_or_none (leaf_times r t)) (λ q. leaf_found P r t q h.0 a.0) (λ q. leaf_founds P r ks q h.1 a.1)
      where
        here_or_there : (1 ≤ leaf_times r t) ⊎ (leaf_times r t ≡ 0) → (1 ≤ leaf_times r t → P (leaf_in st r).key)
            → (1 ≤ tallies (at r) (λ m q. 0) ks → P (leaf_in st r).key) → P (leaf_in st r).key
        here_or_there (inl q) f g = f q
        here_or_there (inr q) f g = g (omega arith)

  mutual
    pub leaf_once : (r : ℕ) (t : Tree) → Held t → Picture t → leaf_times r t ≤ 1
    leaf_once r (leaf n k v) h a = go (at_split r n)
      where
        go : (r ≡ n) ⊎ (at r n ≡ 0) → at r n ≤ 1
        go (inl e) = omega (arith, at_same r n e)
        go (inr z) = omega arith
    leaf_once r (branch n p ks) h a = omega (arith, leaves_once r p a.0 0 ks h.1 a.1 a.2)

    leaves_once : (r p : ℕ) (w : List ℕ) (low : ℕ) (ks : Kids) → HeldAll ks → Pictures p w ks → SlotsRise low ks → tallies (at r) (λ m q. 0) ks ≤ 1
    leaves_once r p w low end h a o = omega arith
    leaves_once r p w low (kid s t ks) h a o =
        go (some_or_none (leaf_times r t)) (some_or_none (tallies (at r) (λ m q. 0) ks)) (leaf_once r t h.0 a.0) (leaves_once r p w (suc s) ks h.1 a.3 o.1)
      where
        go : (1 ≤ leaf_times r t) ⊎ (leaf_times r t ≡ 0) → (1 ≤ tallies (at r) (λ m q. 0) ks) ⊎ (tallies (at r) (λ m q. 0) ks ≡ 0)
            → leaf_times r t ≤ 1 → tallies (at r) (λ m q. 0) ks ≤ 1 → leaf_times r t + tallies (at r) (λ m q. 0) ks ≤ 1
        go (inl x) (inl y) u v =
            absurd (omega (
              arith,
              leaf_found (λ k. nibble k p ≡ s) r t x h.0 (every_map (λ k b. b.slot) t a.2),
              leaf_founds (λ k. suc s ≤ nibble k p) r ks y h.1 (everys_map (λ k b. b.slot) ks (kids_from p w (suc s) ks a.3 o.1)),
            ))
        go (inl x) (inr y) u v = omega arith
        go (inr x) y u v = omega arith

  -- a leaf record that is reached is that of a key
  mutual
    leaf_is : (r : ℕ) (t : Tree) → 1 ≤ leaf_times r t → Held t → (k : List ℕ) × (v : ℕ) × Is (leaf_in st r) k v
    leaf_is r (leaf n k v) l h = go (at_split r n)
      where
        go : (r ≡ n) ⊎ (at r n ≡ 0) → (k : List ℕ) × (v : ℕ) × Is (leaf_in st r) k v
        go (inl e) = (k, v, subst (λ (z : ℕ). Is (leaf_in st z) k v) (sym e) h)
        go (inr z) = absurd (omega arith)
    leaf_is r (branch n p ks) l h = leaf_are r ks (omega arith) h.1

    leaf_are : (r : ℕ) (ks : Kids) → 1 ≤ tallies (at r) (λ m q. 0) ks → HeldAll ks → (k : List ℕ) × (v : ℕ) × Is (leaf_in st r) k v
    leaf_are r end l h = absurd (omega arith)
    leaf_are r (kid s t ks) l h = go (some_or_none (leaf_times r t)) (λ q. leaf_is r t q h.0) (λ q. leaf_are r ks q h.1)
      where
        go : (1 ≤ leaf_times r t) ⊎ (leaf_times r t ≡ 0) → (1 ≤ leaf_times r t → (k : List ℕ) × (v : ℕ) × Is (leaf_in st r) k v)
            → (1 ≤ tallies (at r) (λ m q. 0) ks → (k : List ℕ) × (v : ℕ) × Is (leaf_in st r) k v) → (k : List ℕ) × (v : ℕ) × Is (leaf_in st r) k v
        go (inl q) f g = f q
        go (inr q) f g = g (omega arith)

  -- so it is not marked as free
  pub leaf_apart : (r : ℕ) (t : Tree) → 1 ≤ leaf_times r t → Held t → leaves.is_free st r ≡ true → ⊥
  leaf_apart r t l h e =
      let (k, v, i) = leaf_is r t l h in
      omega (arith, i.size, i.fits, eqb-true (leaf_in st r).size free_size e)

  -- ---- branches

  -- the children of a branch record that is reached: what holds of every key holds of theirs
  record Sub (b total : ℕ) (All : (List ℕ → Type 0) → Type 0) : Type 1 where
    place : ℕ
    kids : Kids
    held : Held (branch b place kids)
    picture : Picture (branch b place kids)
    inside : In (branch b place kids)
    small : branch_count (branch b place kids) ≤ total
    keys : (P : List ℕ → Type 0) → All P → Everys P kids

  mutual
    branch_found : (b : ℕ) (t : Tree) → 1 ≤ branch_times b t → Held t → Picture t → In t → Sub b (branch_count t) (λ P. Every P t)
    branch_found b (leaf n k v) l h a i = absurd (omega arith)
    branch_found b (branch n p ks) l h a i = go (at_split b n) (λ q. branch_founds b n p a.0 ks q h.1 a.1 i)
      where
        go : (b ≡ n) ⊎ (at b n ≡ 0) → (1 ≤ tallies (λ m. 0) (λ m q. at b m) ks → Sub b (tallies (λ m. 0) (λ m q. 1) ks) (λ P. Everys P ks))
            → Sub b (branch_count (branch n p ks)) (λ P. Every P (branch n p ks))
        go (inl e) f =
            subst (λ (z : ℕ). Sub z (branch_count (branch n p ks)) (λ P. Every P (branch n p ks))) (sym e)
            (record { place = p; kids = ks; held = h; picture = a; inside = i; small = omega arith; keys = λ P x. x })
        go (inr z) f =
            let u = f (omega arith) in
            record { place = u.place; kids = u.kids; held = u.held; picture = u.picture; inside = u.inside; small = omega (arith, u.small); keys = u.keys }

    branch_founds : (b n p : ℕ) (w : List ℕ) (ks : Kids) → 1 ≤ tallies (λ m. 0) (λ m q. at b m) ks → HeldAll ks → Pictures p w ks → In (branch n p ks)
        → Sub b (tallies (λ m. 0) (λ m q. 1) ks) (λ P. Everys P ks)
    branch_founds b n p w end l h a i = absurd (omega arith)
    branch_founds b n p w (kid s t ks) l h a i =
        go (some_or_none (branch_times b t)) (λ q. branch_found b t q h.0 a.0 (inside_at st cap few here i))
        (λ q. branch_founds b n p w ks q h.1 a.3 (inside_rest n p s t ks i))
      where
        go : (1 ≤ branch_times b t) ⊎ (branch_times b t ≡ 0) → (1 ≤ branch_times b t → Sub b (branch_count t) (λ P. Every P t))
            → (1 ≤ tallies (λ m. 0) (λ m q. at b m) ks → Sub b (tallies (λ m. 0) (λ m q. 1) ks) (λ P. Everys P ks))
            → Sub b (tallies (λ m. 0) (λ m q. 1) (kid s t ks)) (λ P. Everys P (kid s t ks))
        go (inl q) f g =
            let u = f q in
            record { place = u.place; kids = u.kids; held = u.held; picture = u.picture; inside = u.inside; small = omega (arith, u.small); keys = λ P x. u.keys P x.0 }
        go (inr q) f g =
            let u = g (omega arith) in
            record { place = u.place; kids = u.kids; held = u.held; picture = u.picture; inside = u.inside; small = omega (arith, u.small); keys = λ P x. u.keys P x.1 }

  -- a branch record that is reached has children, so it is not marked as free
  pub branch_apart : (r : ℕ) (t : Tree) → 1 ≤ branch_times r t → Held t → Picture t → In t → branches.is_free st r ≡ true → ⊥
  branch_apart r t l h a i e =
      let u = branch_found r t l h a i in
      omega (arith, u.picture.3, row_count u.kids, ap (length {A = Entry}) u.held.0, eqb-true (length (children_in st r)) 0 e)
    where
      row_count : (ks : Kids) → length (codes (row ks)) ≡ count ks
      row_count end = refl
      row_count (kid s v ks) = ap suc (row_count ks)

  -- two ways to one record lead to the same children
  same_kids : {b m n : ℕ} {A B : (List ℕ → Type 0) → Type 0} (u : Sub b m A) (v : Sub b n B) → u.kids ≡ v.kids
  same_kids {b} u v =
      one_row b u.place b v.place u.picture.0 v.picture.0 u.kids v.kids (sym u.held.0 ∙ v.held.0) u.held.1 v.held.1
      u.picture.1 v.picture.1 u.inside v.inside

  mutual
    pub branch_once : (b : ℕ) (t : Tree) → Held t → Picture t → In t → branch_times b t ≤ 1
    branch_once b (leaf n k v) h a i = omega arith
    branch_once b (branch n p ks) h a i =
        go (at_split b n) (some_or_none (tallies (λ m. 0) (λ m q. at b m) ks)) (branches_once b n p a.0 0 ks h.1 a.1 a.2 i)
      where
        go : (b ≡ n) ⊎ (at b n ≡ 0) → (1 ≤ tallies (λ m. 0) (λ m q. at b m) ks) ⊎ (tallies (λ m. 0) (λ m q. at b m) ks ≡ 0)
            → tallies (λ m. 0) (λ m q. at b m) ks ≤ 1 → at b n + tallies (λ m. 0) (λ m q. at b m) ks ≤ 1
        go (inl e) (inl y) v =
            let u = branch_founds b n p a.0 ks y h.1 a.1 i in
            let q : ks ≡ u.kids = one_row n p b u.place a.0 u.picture.0 ks u.kids (sym h.0 ∙ ap (children_in st) (sym e) ∙ u.held.0) h.1 u.held.1
            a.1 u.picture.1 i u.inside in
            absurd (omega (arith, u.small, ap (λ (z : Kids). tallies (λ m. 0) (λ m q. 1) z) q))
        go (inl e) (inr y) v = omega (arith, at_same b n e)
        go (inr x) y v = omega arith

    branches_once : (b n p : ℕ) (w : List ℕ) (low : ℕ) (ks : Kids) → HeldAll ks → Pictures p w ks → SlotsRise low ks → In (branch n p ks)
        → tallies (λ m. 0) (λ m q. at b m) ks ≤ 1
    branches_once b n p w low end h a o i = omega arith
    branches_once b n p w low (kid s t ks) h a o i =
        go (some_or_none (branch_times b t)) (some_or_none (tallies (λ m. 0) (λ m q. at b m) ks)) (branch_once b t h.0 a.0 (inside_at st cap few here i))
        (branches_once b n p w (suc s) ks h.1 a.3 o.1 (inside_rest n p s t ks i))
      where
        go : (1 ≤ branch_times b t) ⊎ (branch_times b t ≡ 0) → (1 ≤ tallies (λ m. 0) (λ m q. at b m) ks) ⊎ (tallies (λ m. 0) (λ m q. at b m) ks ≡ 0)
            → branch_times b t ≤ 1 → tallies (λ m. 0) (λ m q. at b m) ks ≤ 1 → branch_times b t + tallies (λ m. 0) (λ m q. at b m) ks ≤ 1
        go (inl x) (inl y) f g =
            let u = branch_found b t x h.0 a.0 (inside_at st cap few here i) in
            let v = branch_founds b n p w ks y h.1 a.3 (inside_rest n p s t ks i) in
            let past = v.keys (λ k. suc s ≤ nibble k p) (everys_map (λ k z. z.slot) ks (kids_from p w (suc s) ks a.3 o.1)) in
            absurd (omega (
              arith,
              closest_every (λ k. nibble k p ≡ s) [] (branch b u.place u.kids) u.picture (u.keys (λ k. nibble k p ≡ s) (every_map (λ k z. z.slot) t a.2)),
              closest_every (λ k. suc s ≤ nibble k p) [] (branch b u.place u.kids) u.picture
                  (subst (Everys (λ k. suc s ≤ nibble k p)) (sym (same_kids u v)) past),
            ))
        go (inl x) (inr y) f g = omega arith
        go (inr x) y f g = omega arith

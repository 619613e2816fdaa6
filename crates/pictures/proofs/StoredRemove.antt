-- What removal from a stored tree comes to: at most one branch record changed and one freed. Whoever writes that, and leaves the records of what is left of the
-- tree, has stored the tree without the key.
-- Assumes nothing.
use Prim.Native.Nat.{ℕ, suc, ◌+◌, ◌≤◌, ◌<◌, compare, Ordering}
use mathlib.Core.Path.{◌≡◌, refl, sym, ◌∙◌, ap, subst}
use mathlib.Core.Logic.{◌≢◌, inl, inr}
use mathlib.Core.List.{List, [], ◌∷◌}
use mathlib.Core.Option.{Option, none, some}
use native.Mathlib.Omega.{arith}
use Rattle.model.specs.Key.{on_equal}
use Rattle.model.specs.Nibble.{nibble}
use Rattle.model.specs.Picture.{Tree, leaf, branch, Kids, end, kid, count, Picture, closest, closest_k, first, attach}
use Rattle.model.proofs.Compare.{Said, lower, same, higher, said, compare_self, number_other}
use Rattle.model.proofs.KeyLaws.{order_eq}
use Rattle.model.proofs.Closest.{Some}
use Rattle.pictures.specs.Tree.{join, remove_t, remove_k}
use Rattle.pictures.specs.Records.{tallies, at, leaf_times, branch_times}
use Rattle.pictures.specs.Stored.{Child, root, Row, row, child_at, set_row, drop_row, Memory, Holds, HoldsAll, HoldsLeft, At, here, there, Cut, gone, lifts, shrinks, relinks, cut_leaf, cut_above, cut, cut_k, Touches, Unlinked, root_left, root_of}
use Rattle.pictures.proofs.Children.{row_at, tree_ind, replace, holds_at, picture_at, closest_at, row_replace, row_same}
use Rattle.pictures.proofs.Frame.{tally_at, at_self, at_same, SameLeaf, SameBranch, frame, frames, replace_holds}
use Rattle.pictures.proofs.StoredSet.{key_child, number_within}

-- The children without the one in a slot.
abbrev pub drop : ℕ → Kids → Kids
drop s end = end
drop s (kid r t ks) = on_equal (compare s r) ks (kid r t (drop s ks))

pub row_drop : {s : ℕ} {u : Tree} {ks : Kids} → At s u ks → row (drop s ks) ≡ drop_row s (row ks)
row_drop {s} here = rw (compare_self s)
row_drop {s} (there {r} {t} {ks} d a) =
    ap row (number_other d ks (kid r t (drop s ks))) ∙ ap {B = Row} (λ z. (r, root t) ∷ z) (row_drop a) ∙ sym (number_other d (row ks) ((r, root t) ∷ drop_row s (row ks)))

pub count_replace : (v : Tree) (s : ℕ) (ks : Kids) → count (replace s v ks) ≡ count ks
count_replace v s end = refl
count_replace v s (kid r t ks) = go (said s r) (count_replace v s ks)
  where
    go : {o : Ordering} → Said s r o → count (replace s v ks) ≡ count ks → count (on_equal o (kid r v ks) (kid r t (replace s v ks))) ≡ suc (count ks)
    go (lower e) ih = ap suc ih
    go (same e) ih = refl
    go (higher e) ih = ap suc ih

-- What a removal does below a branch is what it does at the child.
pub remove_none : (k : List ℕ) {s : ℕ} {u : Tree} {ks : Kids} → At s u ks → remove_t k u ≡ none → remove_k k s ks ≡ drop s ks
remove_none k {s} {u} (here {ks}) e = rw (compare_self s) (ap (λ (o : Option Tree). attach s o ks) e)
remove_none k {s} (there {r} {t} {ks} d a) e =
    number_other d (attach r (remove_t k t) ks) (kid r t (remove_k k s ks)) ∙ ap (kid r t) (remove_none k a e) ∙ sym (number_other d ks (kid r t (drop s ks)))

pub remove_some : (k : List ℕ) (v : Tree) {s : ℕ} {u : Tree} {ks : Kids} → At s u ks → remove_t k u ≡ some v → remove_k k s ks ≡ replace s v ks
remove_some k v {s} {u} (here {ks}) e = rw (compare_self s) (ap (λ (o : Option Tree). attach s o ks) e)
remove_some k v {s} (there {r} {t} {ks} d a) e =
    number_other d (attach r (remove_t k t) ks) (kid r t (remove_k k s ks)) ∙ ap (kid r t) (remove_some k v a e) ∙ sym (number_other d (kid r v ks) (kid r t (replace s v ks)))

pub cut_at : (k : List ℕ) (n : ℕ) (c : Row) {s : ℕ} {u : Tree} {ks : Kids} → At s u ks → cut_k k n s c ks ≡ cut_above n s c (cut k u)
cut_at k n c {s} here = rw (compare_self s)
cut_at k n c {s} (there {r} {t} {ks} d a) = number_other d (cut_above n s c (cut k t)) (cut_k k n s c ks) ∙ cut_at k n c a

pub join_some : (n p : ℕ) (ks : Kids) → 2 ≤ count ks → join n p ks ≡ some (branch n p ks)
join_some n p end h = absurd (omega arith)
join_some n p (kid s t end) h = absurd (omega arith)
join_some n p (kid s t (kid r u ks)) h = refl

-- The children but one, whose records are the same.
drop_holds : (M N : Memory) {s : ℕ} {u : Tree} {ks : Kids} → At s u ks
    → ((n : ℕ) → leaf_times n u < tallies (at n) (λ m p. 0) ks → SameLeaf M N n)
    → ((n : ℕ) → branch_times n u < tallies (λ m. 0) (λ m p. at n m) ks → SameBranch M N n)
    → HoldsAll M ks → HoldsAll N (drop s ks)
drop_holds M N {s} {u} (here {ks}) l b h = rw (compare_self s) (frames M N ks (λ m q. l m (omega arith)) (λ m q. b m (omega arith)) h.1)
drop_holds M N {s} {u} (there {r} {t} {ks} d a) l b h =
    rw (number_other d ks (kid r t (drop s ks))) (
      frame M N t (λ m q. l m (omega (arith, tally_at (at m) (λ z p. 0) a))) (λ m q. b m (omega (arith, tally_at (λ z. 0) (λ z p. at m z) a))) h.0,
      drop_holds M N a (λ m q. l m (omega arith)) (λ m q. b m (omega arith)) h.1,
    )

-- The branches that a cut touches are the tree's.
leaf_within : (m n s : ℕ) (c : Row) → Touches (cut_leaf n s c) m → m ≡ n
leaf_within m n s [] e = absurd e
leaf_within m n s (a ∷ []) e = e
leaf_within m n s (a ∷ b ∷ c) e = e

above_within : (m n s : ℕ) (c : Row) (a : ℕ) (z : Cut) → (Touches z m → 1 ≤ a) → Touches (cut_above n s c z) m → 1 ≤ at m n + a
above_within m n s c a gone f e = omega (arith, at_same m n (leaf_within m n s (drop_row s c) e))
above_within m n s c a (lifts g d) f (inl e) = omega (arith, at_same m n e)
above_within m n s c a (lifts g d) f (inr e) = let i = f e in omega arith
above_within m n s c a (shrinks q r) f e = let i = f e in omega arith
above_within m n s c a (relinks q r g d) f e = let i = f e in omega arith

kid_within : (m n s r a b : ℕ) (y z : Cut) → (Touches y m → 1 ≤ at m n + a) → (Touches z m → 1 ≤ at m n + b)
    → {o : Ordering} → Said s r o → Touches (on_equal o y z) m → 1 ≤ at m n + (a + b)
kid_within m n s r a b y z f g (lower e) c = let i = g c in omega arith
kid_within m n s r a b y z f g (same e) c = let i = f c in omega arith
kid_within m n s r a b y z f g (higher e) c = let i = g c in omega arith

module _ (k : List ℕ) (m : ℕ) where
  mutual
    pub cut_within : (t : Tree) → Touches (cut k t) m → 1 ≤ branch_times m t
    cut_within (leaf n l v) c = absurd c
    cut_within (branch n p ks) c = cuts_within n (nibble k p) (row ks) ks c

    cuts_within : (n s : ℕ) (c : Row) (ks : Kids) → Touches (cut_k k n s c ks) m → 1 ≤ at m n + tallies (λ i. 0) (λ i p. at m i) ks
    cuts_within n s c end e = absurd e
    cuts_within n s c (kid r t ks) e =
        kid_within m n s r (branch_times m t) (tallies (λ i. 0) (λ i p. at m i) ks) (cut_above n s c (cut k t)) (cut_k k n s c ks)
        (λ d. above_within m n s c (branch_times m t) (cut k t) (λ q. cut_within t q) d) (λ d. cuts_within n s c ks d) (said s r) e

not_above : (n s m : ℕ) (c : Row) (z : Cut) → m ≢ n → (Touches z m → ⊥) → Touches (cut_above n s c z) m → ⊥
not_above n s m c gone d f e = d (leaf_within m n s (drop_row s c) e)
not_above n s m c (lifts g q) d f (inl e) = d e
not_above n s m c (lifts g q) d f (inr e) = f e
not_above n s m c (shrinks q r) d f e = f e
not_above n s m c (relinks q r g x) d f e = f e

module _ (M N : Memory) (k : List ℕ) where
  unlinked_above : (n s : ℕ) (c : Row) (z : Cut) → Unlinked M N (cut_above n s c z) → Unlinked M N z
  unlinked_above n s c gone w = tt
  unlinked_above n s c (lifts f d) w = tt
  unlinked_above n s c (shrinks m r) w = w
  unlinked_above n s c (relinks m r f d) w = w

  -- What is asked of a tree and of the two memories.
  pub record AskedCut (t : Tree) : Type 0 where
    pub picture : Picture t
    pub stored : Some (λ l. k ≡ l) t
    pub once_leaf : (n : ℕ) → leaf_times n t ≤ 1
    pub once : (n : ℕ) → branch_times n t ≤ 1
    pub held : Holds M t
    pub leaves : (n : ℕ) → 1 ≤ leaf_times n t → n ≢ (closest k t).number → SameLeaf M N n
    pub branches : (n : ℕ) → 1 ≤ branch_times n t → (Touches (cut k t) n → ⊥) → SameBranch M N n
    pub unlinked : Unlinked M N (cut k t)

  -- What follows.
  pub record StoredCut (t : Tree) : Type 0 where
    pub held : HoldsLeft N (remove_t k t)
    pub child : root_of (remove_t k t) ≡ root_left (cut k t) (root t)

  -- what is left of a branch, and its child
  abbrev Left : Option Tree → Option Child → Type 0
  Left o c = HoldsLeft N o × (root_of o ≡ c)

  -- a branch that lost a leaf, with the children ds left
  lost : (n p s : ℕ) (r : Row) (c : Child) (ds : Kids) → row ds ≡ drop_row s r → M.Branch n r → child_at s r ≡ some c → HoldsAll N ds → Unlinked M N (cut_leaf n s (row ds))
      → Left (join n p ds) (root_left (cut_leaf n s (row ds)) (root (branch n p ds)))
  lost n p s r c end e b d h w = (tt, refl)
  lost n p s r c (kid q t end) e b d h w = (h.0, refl)
  lost n p s r c (kid q t (kid q' u ds)) e b d h w = ((subst (N.Branch n) (sym e) (w r c b d), h), refl)

  -- a branch one of whose children was changed
  changed : (n p : ℕ) (us : Kids) → 2 ≤ count us → N.Branch n (row us) → HoldsAll N us → Left (join n p us) (some (root (branch n p us)))
  changed n p us c b h = rw (join_some n p us c) ((b, h), refl)

  -- the child in the key's slot, with what is left of it
  finish : (n p s : ℕ) (ks : Kids) (u : Tree) → At s u ks → 2 ≤ count ks → M.Branch n (row ks) → HoldsAll N (drop s ks)
      → ((v : Tree) → Holds N v → HoldsAll N (replace s v ks))
      → (z : Cut) (o : Option Tree) → remove_t k u ≡ o → Left o (root_left z (root u))
      → ((Touches (cut_above n s (row ks) z) n → ⊥) → SameBranch M N n) → (Touches z n → ⊥) → Unlinked M N (cut_above n s (row ks) z)
      → Left (join n p (remove_k k s ks)) (root_left (cut_above n s (row ks) z) (root (branch n p ks)))
  finish n p s ks u a c b d f gone none e g bs t w =
      rw (remove_none k a e)
      (rw (← row_drop a) (lost n p s (row ks) (root u) (drop s ks) (row_drop a) b (row_at a) d (rw (← row_drop a) at w)))
  finish n p s ks u a c b d f gone (some v) e g bs t w = absurd (let y : ◌≡◌ {A = ℕ} 0 1 = cc in omega arith)
  finish n p s ks u a c b d f (lifts m x) none e g bs t w = absurd (let y : ◌≡◌ {A = ℕ} 0 1 = cc in omega arith)
  finish n p s ks u a c b d f (lifts m x) (some v) e g bs t w =
      let y : root v ≡ x = cc in
      rw (remove_some k v a e)
      (changed n p (replace s v ks) (omega (arith, count_replace v s ks))
      (subst (N.Branch n) (ap (λ (q : Child). set_row s q (row ks)) (sym y) ∙ sym (row_replace v a)) (w (row ks) (root u) b (row_at a))) (f v g.0))
  finish n p s ks u a c b d f (shrinks m r) none e g bs t w = absurd (let y : ◌≡◌ {A = ℕ} 0 1 = cc in omega arith)
  finish n p s ks u a c b d f (shrinks m r) (some v) e g bs t w =
      let y : root v ≡ root u = cc in
      rw (remove_some k v a e)
      (changed n p (replace s v ks) (omega (arith, count_replace v s ks)) (subst (N.Branch n) (sym (row_same v a y)) (bs t (row ks) b)) (f v g.0))
  finish n p s ks u a c b d f (relinks m r q x) none e g bs t w = absurd (let y : ◌≡◌ {A = ℕ} 0 1 = cc in omega arith)
  finish n p s ks u a c b d f (relinks m r q x) (some v) e g bs t w =
      let y : root v ≡ root u = cc in
      rw (remove_some k v a e)
      (changed n p (replace s v ks) (omega (arith, count_replace v s ks)) (subst (N.Branch n) (sym (row_same v a y)) (bs t (row ks) b)) (f v g.0))

  descend : (n p : ℕ) (ks : Kids) (u : Tree) → At (nibble k p) u ks → (AskedCut u → StoredCut u) → Some (λ l. k ≡ l) u → AskedCut (branch n p ks)
      → Left (join n p (remove_k k (nibble k p) ks)) (root_left (cut_above n (nibble k p) (row ks) (cut k u)) (root (branch n p ks)))
  descend n p ks u a ih b q =
      finish n p (nibble k p) ks u a q.picture.3 q.held.0
      (drop_holds M N a other_leaves other_branches q.held.1)
      (λ v h. replace_holds M N v a h other_leaves other_branches q.held.1)
      (cut k u) (remove_t k u) refl (i.held, i.child)
      (bs n (omega (arith, at_self n))) away (rw z at q.unlinked)
    where
      pic : Picture u
      pic = (picture_at p q.picture.0 a q.picture.1).0

      z : cut_k k n (nibble k p) (row ks) ks ≡ cut_above n (nibble k p) (row ks) (cut k u)
      z = cut_at k n (row ks) a

      e : closest_k k (nibble k p) ks (first k ks) ≡ closest k u
      e = closest_at k (first k ks) a

      bs : (m : ℕ) → 1 ≤ branch_times m (branch n p ks) → (Touches (cut_above n (nibble k p) (row ks) (cut k u)) m → ⊥) → SameBranch M N m
      bs m j c = q.branches m j (λ y. c (rw z at y))

      ls : (m : ℕ) → 1 ≤ leaf_times m (branch n p ks) → m ≢ (closest k u).number → SameLeaf M N m
      ls m j c = q.leaves m j (rw e c)

      in_leaves : (m : ℕ) → leaf_times m u ≤ tallies (at m) (λ j r. 0) ks
      in_leaves m = tally_at (at m) (λ j r. 0) a

      in_branches : (m : ℕ) → branch_times m u ≤ tallies (λ j. 0) (λ j r. at m j) ks
      in_branches m = tally_at (λ j. 0) (λ j r. at m j) a

      away : Touches (cut k u) n → ⊥
      away c = omega (arith, cut_within k n u c, in_branches n, q.once n, at_self n)

      other_leaves : (m : ℕ) → leaf_times m u < tallies (at m) (λ j r. 0) ks → SameLeaf M N m
      other_leaves m j = ls m (omega arith) (λ g. omega (arith, j, q.once_leaf m, subst (λ (y : ℕ). 1 ≤ leaf_times y u) (sym g) (number_within k u pic b)))

      other_branches : (m : ℕ) → branch_times m u < tallies (λ j. 0) (λ j r. at m j) ks → SameBranch M N m
      other_branches m j =
          bs m (omega arith)
          (not_above n (nibble k p) m (row ks) (cut k u) (λ g. omega (arith, j, q.once m, at_same m n g)) (λ c. omega (arith, j, q.once m, cut_within k m u c)))

      i : StoredCut u
      i =
          ih (record {
            picture = pic;
            stored = b;
            once_leaf = λ m. omega (arith, in_leaves m, q.once_leaf m);
            once = λ m. omega (arith, in_branches m, q.once m);
            held = holds_at M a q.held.1;
            leaves = λ m j c. ls m (omega (arith, in_leaves m)) c;
            branches = λ m j c.
                bs m (omega (arith, in_branches m)) (not_above n (nibble k p) m (row ks) (cut k u) (λ g. omega (arith, j, in_branches m, q.once m, at_same m n g)) c);
            unlinked = unlinked_above n (nibble k p) (row ks) (cut k u) (rw z at q.unlinked);
          })

  -- Whoever writes what the cut asks, and keeps the other records, has stored the tree without the key.
  pub remove_stored : (t : Tree) → AskedCut t → StoredCut t
  remove_stored =
      tree_ind (λ t. AskedCut t → StoredCut t)
      (λ n l v q. record { held = rw (order_eq q.stored) tt; child = rw (order_eq q.stored) refl })
      (λ n p ks ih q.
      let (u, a, b) = key_child k p q.picture.0 ks q.picture.1 q.picture.2 q.stored in
      let r = descend n p ks u a (ih (nibble k p) u a) b q in
      record { held = r.0; child = r.1 ∙ ap (λ (c : Cut). root_left c (root (branch n p ks))) (sym (cut_at k n (row ks) a)) })

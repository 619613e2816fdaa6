-- Insertion into a picture: the result is a picture, and its listing is the old one with the key put in.
-- Assumes nothing.
use Prim.Native.Nat.{ℕ, suc, ◌≤◌, ◌<◌, Ordering}
use mathlib.Core.Path.{◌≡◌, refl, sym, ◌∙◌, ap}
use mathlib.Core.Logic.{◌≢◌}
use mathlib.Core.List.{List, [], ◌∷◌, ◌++◌, append-nil}
use native.Mathlib.Omega.{arith}
use Rattle.model.specs.Key.{on_equal, IsKey}
use Rattle.model.specs.Map.{Entry, put, choose}
use Rattle.model.specs.Nibble.{nibble, Agree}
use Rattle.model.specs.Picture.{Tree, leaf, branch, Kids, end, kid, listing, listings, Every, Everys, SlotsRise, StartsAt, Below, Picture, Pictures, closest}
use Rattle.model.proofs.Compare.{Said, lower, same, higher, said}
use Rattle.model.proofs.Less.{Less}
use Rattle.model.proofs.KeyLaws.{agree_refl, agree_sym, agree_trans, agree_less, agree_more, critical_agree, critical_differs, Ordered, before, equal, after, ordered, less_differs}
use Rattle.model.proofs.MapLaws.{put_first, put_right}
use Rattle.model.proofs.TreeLaws.{From, kids_from, every_map, everys_map, everys_both, all_listing}
use Rattle.model.proofs.Closest.{Some, Somes, Far, somes_everys, closest_some, closest_far}
use Rattle.pictures.specs.Tree.{New, new_leaf, new_slot, new_for, fork, add_kid, insert_at, insert_k, insert_t, set_t}
use Rattle.pictures.specs.Stored.{Lacks}
use Rattle.pictures.proofs.Put.{Put, PutK, all_above, all_under, everys_step, put_step, turn, lacks}
use Rattle.pictures.proofs.Overwrite.{set_good}

-- The new key and what its place says of a leaf: they agree up to there, and the leaf has the nibble `other` there.
pub record Near (x : New) (l : List ℕ) : Type 0 where
  pub agree : Agree x.place x.key l
  pub slot : nibble l x.place ≡ x.other

pub near_slot : (x : New) (p : ℕ) → p < x.place → (l : List ℕ) → Near x l → nibble x.key p ≡ nibble l p
near_slot x p past l n = n.agree.on p past

-- A branch at position p that has a leaf near the new key, and none that agrees with it longer.
module _ (x : New) (p : ℕ) (w : List ℕ) (ks : Kids) (h : Pictures p w ks) (m : SlotsRise 0 ks) (a : Somes (Near x) ks) where
  one : (l : List ℕ) × Near x l × From p w 0 l
  one = somes_everys (Near x) (From p w 0) ks a (kids_from p w 0 ks h m)

  -- where the new place is above the branch every leaf is near
  pub near_all : x.place < p → Everys (Near x) ks
  near_all q = everys_map near ks (kids_from p w 0 ks h m)
    where
      near : (l : List ℕ) → From p w 0 l → Near x l
      near l y =
          let both : Agree p one.0 l = agree_trans (agree_sym one.2.agree) y.agree in
          record { agree = agree_trans one.1.agree (agree_less (omega arith) both); slot = sym (both.on x.place q) ∙ one.1.slot }

  -- otherwise the new key belongs below the branch
  pub key_agrees : p ≤ x.place → Agree p w x.key
  key_agrees q = agree_trans one.2.agree (agree_sym (agree_less q one.1.agree))

  -- and where its place is the branch's its slot is free
  pub slot_free : Everys (Far x.key x.place) ks → x.place ≡ p → Lacks (new_slot x) ks
  slot_free b q = lacks p w (new_slot x) ks h (everys_map free ks (everys_both (Far x.key x.place) (From p w 0) ks b (kids_from p w 0 ks h m)))
    where
      free : (l : List ℕ) → Far x.key x.place l × From p w 0 l → nibble l p ≢ new_slot x
      free l y z =
          y.0 (rw q (agree_more (agree_trans (agree_sym (key_agrees (omega arith))) y.1.agree) (ap (nibble x.key) (sym q) ∙ sym z)))

-- What holds of the new key and of every old one holds of every key after.
module _ (x : New) (P : List ℕ → Type 0) (new : P x.key) where
  every_fork : (t : Tree) → Every P t → Every P (fork x t)
  every_fork t a = go (said (new_slot x) x.other)
    where
      go : {o : Ordering} → Said (new_slot x) x.other o
          → Everys P (choose o (kid (new_slot x) (new_leaf x) (kid x.other t end)) end (kid x.other t (kid (new_slot x) (new_leaf x) end)))
      go (lower h) = (new, (a, tt))
      go (same h) = tt
      go (higher h) = (a, (new, tt))

  everys_add : (s : ℕ) (ks : Kids) → Everys P ks → Everys P (add_kid s (new_leaf x) ks)
  everys_add s end a = (new, tt)
  everys_add s (kid r t ks) a = go (said s r) (everys_add s ks a.1)
    where
      go : {o : Ordering} → Said s r o → Everys P (add_kid s (new_leaf x) ks)
          → Everys P (choose o (kid s (new_leaf x) (kid r t ks)) (kid r t ks) (kid r t (add_kid s (new_leaf x) ks)))
      go (lower h) b = (new, a)
      go (same h) b = a
      go (higher h) b = (a.0, b)

  step_branch : (n p : ℕ) (ks us : Kids) → Everys P ks → Everys P us → {o : Ordering} → Said x.place p o
      → Every P (choose o (fork x (branch n p ks)) (branch n p (add_kid (new_slot x) (new_leaf x) ks)) (branch n p us))
  step_branch n p ks us a b (lower h) = every_fork (branch n p ks) a
  step_branch n p ks us a b (same h) = everys_add (new_slot x) ks a
  step_branch n p ks us a b (higher h) = b

  mutual
    pub every_insert : (t : Tree) → Every P t → Every P (insert_at x t)
    every_insert (leaf n l v) a = every_fork (leaf n l v) a
    every_insert (branch n p ks) a = step_branch n p ks (insert_k x (nibble x.key p) ks) a (everys_insert (nibble x.key p) ks a) (said x.place p)

    everys_insert : (s : ℕ) (ks : Kids) → Everys P ks → Everys P (insert_k x s ks)
    everys_insert s end a = tt
    everys_insert s (kid r t ks) a =
        everys_step P s r t (insert_at x t) ks (insert_k x s ks) a.0 a.1 (every_insert t a.0) (everys_insert s ks a.1) (said s r)

-- The root of the result stands no higher than the new place or the old root.
starts_insert : (x : New) (low : ℕ) (t : Tree) → low ≤ x.place → StartsAt low t → StartsAt low (insert_at x t)
starts_insert x low (leaf n l v) h a = h
starts_insert x low (branch n p ks) h a = go (said x.place p)
  where
    go : {o : Ordering} → Said x.place p o
        → StartsAt low (choose o (fork x (branch n p ks)) (branch n p (add_kid (new_slot x) (new_leaf x) ks)) (branch n p (insert_k x (nibble x.key p) ks)))
    go (lower q) = h
    go (same q) = a
    go (higher q) = a

module _ (x : New) (is_key : IsKey x.key) (differs : new_slot x ≢ x.other) where
  -- a new branch over the new leaf and a tree
  fork_good : (t : Tree) → Picture t → StartsAt (suc x.place) t → Every (Near x) t → Put x.key x.value t (fork x t)
  fork_good t h st a = go (said (new_slot x) x.other)
    where
      below : Every (Below x.place x.key x.other) t
      below = every_map (λ l n. record { agree = n.agree; slot = n.slot }) t a

      self : Below x.place x.key (new_slot x) x.key
      self = record { agree = agree_refl x.place x.key; slot = refl }

      left : Kids
      left = kid (new_slot x) (new_leaf x) (kid x.other t end)

      right : Kids
      right = kid x.other t (kid (new_slot x) (new_leaf x) end)

      go : {o : Ordering} → Said (new_slot x) x.other o → Put x.key x.value t (branch x.branch_no x.place (choose o left end right))
      go (lower q) =
          record {
            picture = (x.key, (is_key, tt, self, (h, st, below, tt)), omega arith, omega arith);
            lists =
                ap {B = List Entry} (λ r. (x.key, x.value) ∷ r) (append-nil (listing t))
                ∙ sym (put_first x.key x.value (listing t)
                (all_listing (Less x.key) t (every_map (λ l n. record { place = x.place; agree = n.agree; rises = omega arith }) t a)));
          }
      go (same q) = absurd (differs q)
      go (higher q) =
          record {
            picture = (x.key, (h, st, below, (is_key, tt, self, tt)), omega arith, omega arith);
            lists =
                sym (ap (put x.key x.value) (sym (append-nil (listing t)))
                ∙ put_right x.key x.value (listing t) []
                (all_listing (λ l. Less l x.key) t (every_map (λ l n. record { place = x.place; agree = agree_sym n.agree; rises = omega arith }) t a)));
          }

  -- one child more in a branch at position p
  module _ (p : ℕ) (w : List ℕ) (s : ℕ) (new : Below p w s x.key) where
    add_good : (low : ℕ) (ks : Kids) → low ≤ s → Pictures p w ks → SlotsRise low ks → Lacks s ks
        → PutK x.key x.value p w low ks (add_kid s (new_leaf x) ks)
    add_good low end m h r a = record { pictures = (is_key, tt, new, tt); rising = (m, tt); grows = omega arith; lists = refl }
    add_good low (kid q t ks) m h r a = go (said s q) (λ g. add_good (suc q) ks g h.3 r.1 a.1)
      where
        go : {o : Ordering} → Said s q o → (suc q ≤ s → PutK x.key x.value p w (suc q) ks (add_kid s (new_leaf x) ks))
            → PutK x.key x.value p w low (kid q t ks) (choose o (kid s (new_leaf x) (kid q t ks)) (kid q t ks) (kid q t (add_kid s (new_leaf x) ks)))
        go (lower g) ih =
            record {
              pictures = (is_key, tt, new, h);
              rising = (m, (g, r.1));
              grows = omega arith;
              lists = sym (put_first x.key x.value (listings (kid q t ks)) (all_above p w s x.key (kid q t ks) new (kids_from p w (suc s) (kid q t ks) h (g, r.1))));
            }
        go (same g) ih = absurd (a.0 g)
        go (higher g) ih =
            let i = ih g in
            record {
              pictures = (h.0, h.1, h.2, i.pictures);
              rising = (r.0, i.rising);
              grows = omega arith;
              lists =
                  ap (λ (z : List Entry). listing t ++ z) i.lists
                  ∙ sym (put_right x.key x.value (listing t) (listings ks) (all_under p w q x.key t h.2 (record { agree = new.agree; slot = omega arith })));
            }

  -- a branch: the new place is above it, at it, or below it
  step_tree : (n p : ℕ) (ks : Kids) (h : Picture (branch n p ks)) → Somes (Near x) ks → Everys (Far x.key x.place) ks
      → (p < x.place → Agree p h.0 x.key → PutK x.key x.value p h.0 0 ks (insert_k x (nibble x.key p) ks))
      → {o : Ordering} → Said x.place p o
      → Put x.key x.value (branch n p ks) (choose o (fork x (branch n p ks)) (branch n p (add_kid (new_slot x) (new_leaf x) ks)) (branch n p (insert_k x (nibble x.key p) ks)))
  step_tree n p ks h a b f (lower q) = fork_good (branch n p ks) h q (near_all x p h.0 ks h.1 h.2 a q)
  step_tree n p ks h a b f (same q) =
      let new : Below p h.0 (new_slot x) x.key = record { agree = key_agrees x p h.0 ks h.1 h.2 a (omega arith); slot = ap (nibble x.key) (sym q) } in
      let i = add_good p h.0 (new_slot x) new 0 ks (omega arith) h.1 h.2 (slot_free x p h.0 ks h.1 h.2 a b q) in
      record { picture = (h.0, i.pictures, i.rising, omega arith); lists = i.lists }
  step_tree n p ks h a b f (higher q) =
      let i = f q (key_agrees x p h.0 ks h.1 h.2 a (omega arith)) in
      record { picture = (h.0, i.pictures, i.rising, omega arith); lists = i.lists }

  mutual
    pub insert_good : (t : Tree) → Picture t → Some (Near x) t → Every (Far x.key x.place) t → Put x.key x.value t (insert_at x t)
    insert_good (leaf n l v) h a b = fork_good (leaf n l v) h tt a
    insert_good (branch n p ks) h a b =
        step_tree n p ks h a b (λ past agrees. inserts_good p h.0 past agrees 0 ks h.1 h.2 a b) (said x.place p)

    inserts_good : (p : ℕ) (w : List ℕ) → p < x.place → Agree p w x.key → (low : ℕ) (ks : Kids) → Pictures p w ks → SlotsRise low ks
        → Somes (Near x) ks → Everys (Far x.key x.place) ks → PutK x.key x.value p w low ks (insert_k x (nibble x.key p) ks)
    inserts_good p w past agrees low end h m a b = absurd a
    inserts_good p w past agrees low (kid r t ks) h m a b =
        put_step x.key (Near x) p w (near_slot x p past) x.value agrees
        low r t (insert_at x t) ks (insert_k x (nibble x.key p) ks) h m
        (starts_insert x (suc p) t past h.1) (λ new. every_insert x (Below p w r) new t h.2)
        (λ y. insert_good t h.0 y b.0) (λ y. inserts_good p w past agrees (suc r) ks h.3 m.1 y b.1)
        (turn x.key (Near x) p w (near_slot x p past) low r t ks h m (said (nibble x.key p) r) a)

-- What the closest leaf says of a key that is not stored.
pub new_near : (a b : ℕ) (k : List ℕ) (v : ℕ) (q : List ℕ) → Near (new_for a b k v q) q
new_near a b k v q = record { agree = critical_agree k q; slot = refl }

-- The whole insertion.
pub insert_put : (a b : ℕ) (k : List ℕ) (v : ℕ) (t : Tree) → IsKey k → Picture t → Put k v t (insert_t a b k v t)
insert_put a b k v t is_key h = go (ordered k q)
  where
    q : List ℕ
    q = (closest k t).key

    x : New
    x = new_for a b k v q

    new : k ≢ q → Put k v t (insert_at x t)
    new d =
        insert_good x is_key (critical_differs k q d) t h
        (closest_some (Near x) k t h (new_near a b k v q)) (closest_far k x.place t h (critical_differs k q d))

    go : {o : Ordering} → Ordered k q o → Put k v t (on_equal o (set_t k v t) (insert_at x t))
    go (before r) = new (less_differs r)
    go (equal r) = set_good k v t h (closest_some (λ l. k ≡ l) k t h r)
    go (after r) = new (λ e. less_differs r (sym e))

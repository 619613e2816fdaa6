-- HEIGHT falls where the Rust refuses, and elsewhere the Rust makes the same tree.
-- Assumes nothing.
use Prim.Native.Nat.{ℕ, ◌<◌, Ordering}
use mathlib.Core.Path.{◌≡◌, refl, sym, ◌∙◌, ap, subst}
use mathlib.Core.Logic.{◌≢◌, ◌⊎◌, inl, inr}
use mathlib.Core.Bool.{Bool, true, false, ◌&&◌, not}
use mathlib.Core.List.{List, ◌∷◌}
use mathlib.Core.Option.{Option, none, some}
use native.Mathlib.Omega.{arith}
use lib.ListN.{length}
use lib.Dec.{leb}
use Rattle.model.specs.Key.{order, on_equal}
use Rattle.model.specs.Map.{pick, choose}
use Rattle.model.specs.Nibble.{nibble, Agree}
use Rattle.model.specs.Picture.{Tree, leaf, branch, Kids, end, kid, Descent, Below, Picture, closest, closest_k, first, member, too_high}
use Rattle.model.proofs.Compare.{Said, lower, same, higher, said, compare_lt, compare_eq, compare_gt, compare_self, number_other}
use Rattle.model.proofs.KeyLaws.{Ordered, before, equal, after, ordered, critical_agree, critical_differs, less_differs}
use Rattle.model.proofs.Closest.{closest_every}
use Rattle.model.proofs.Bounds.{path_rises, place_bound, member_low}
use Rattle.pictures.specs.Tree.{New, new_leaf, new_slot, new_for, fork, add_kid, insert_at, insert_k, insert_t, set_t}
use Rattle.pictures.specs.Stored.{At, here, there, Lacks}
use Rattle.pictures.proofs.Children.{tree_ind, at_or_lacks, closest_at, insert_at_lem, picture_at, replace}
use Rattle.pictures.proofs.Frame.{lacks_every}
use Rattle.promises.specs.Rust.{gone, passed, branched, loop, loop_k, rust_insert}

-- The child in a slot replaced, unless it was refused.
abbrev replaced : ℕ → Option Tree → Kids → Option Kids
replaced s none ks = none
replaced s (some v) ks = some (replace s v ks)

module _ (limit height : ℕ) (x : New) where
  loop_at : {s : ℕ} {u : Tree} {ks : Kids} → At s u ks → loop_k limit height x s ks ≡ some (replaced s (loop limit height x u) ks)
  loop_at {s} {u} (here {ks}) = rw (compare_self s) (go (loop limit height x u))
    where
      go : (o : Option Tree) → ◌≡◌ {A = Option (Option Kids)} (some (gone s o ks)) (some (replaced s o (kid s u ks)))
      go none = refl
      go (some v) = rw (compare_self s)
  loop_at {s} {u} (there {r} {t} {ks} d a) =
      number_other d (some (gone r (loop limit height x t) ks)) (passed r t (loop_k limit height x s ks))
      ∙ ap (passed r t) (loop_at a)
      ∙ go (loop limit height x u)
    where
      go : (o : Option Tree) → passed r t (some (replaced s o ks)) ≡ some (replaced s o (kid r t ks))
      go none = refl
      go (some v) = ap {B = Option (Option Kids)} (λ z. some (some z)) (sym (number_other d (kid r v ks) (kid r t (replace s v ks))))

  loop_lacks : (s : ℕ) (ks : Kids) → Lacks s ks → loop_k limit height x s ks ≡ none
  loop_lacks s end d = refl
  loop_lacks s (kid r t ks) d =
      number_other d.0 (some (gone r (loop limit height x t) ks)) (passed r t (loop_k limit height x s ks)) ∙ ap (passed r t) (loop_lacks s ks d.1)

module _ (limit height : ℕ) (x : New) where
  abbrev says : List ℕ → Tree → Option Tree
  says ps t = pick (not (member x.place ps) && leb limit height) none (some (insert_at x t))

  Right : Tree → Type 0
  Right t =
      Picture t → Agree x.place x.key (closest x.key t).key → nibble x.key x.place ≢ nibble (closest x.key t).key x.place
      → loop limit height x t ≡ says (closest x.key t).path t

  -- at a branch above the place
  below : (n p : ℕ) (ks : Kids) (u : Tree) → At (nibble x.key p) u ks → p < x.place → loop limit height x u ≡ says (closest x.key u).path u
      → branched x n p ks (loop_k limit height x (nibble x.key p) ks)
      ≡ pick (not (member x.place (p ∷ (closest x.key u).path)) && leb limit height) none (some (branch n p (insert_k x (nibble x.key p) ks)))
  below n p ks u a l e =
      ap (branched x n p ks) (loop_at limit height x a ∙ ap (λ (z : Option Tree). some (replaced (nibble x.key p) z ks)) e)
      ∙ rw (compare_gt l) (go (not (member x.place (closest x.key u).path) && leb limit height))
    where
      go : (b : Bool) → branched x n p ks (some (replaced (nibble x.key p) (pick b none (some (insert_at x u))) ks))
          ≡ pick b none (some (branch n p (insert_k x (nibble x.key p) ks)))
      go true = refl
      go false = ap {B = Option Tree} (λ z. some (branch n p z)) (sym (insert_at_lem x a))

  right_leaf : (n : ℕ) (k : List ℕ) (v : ℕ) → Right (leaf n k v)
  unfolding Right
  right_leaf n k v h a d = refl

  right_branch : (n p : ℕ) (ks : Kids) → ((s : ℕ) (u : Tree) → At s u ks → Right u) → Right (branch n p ks)
  unfolding Right
  right_branch n p ks ih h a d = go (said x.place p) (at_or_lacks s ks)
    where
      s : ℕ
      s = nibble x.key p

      q : List ℕ
      q = (closest x.key (branch n p ks)).key

      goal : Type 0
      goal = loop limit height x (branch n p ks) ≡ says (closest x.key (branch n p ks)).path (branch n p ks)

      way : (u : Tree) → At s u ks → closest_k x.key s ks (first x.key ks) ≡ closest x.key u
      way u b = closest_at x.key (first x.key ks) b

      go : {o : Ordering} → Said x.place p o → ((u : Tree) × At s u ks) ⊎ Lacks s ks → goal
      go (lower l) f =
          rw (
            compare_gt l,
            member_low x.place p (closest x.key (branch n p ks)).path l
                (path_rises x.key p (branch n p ks) (let z = place_bound n p ks h in omega arith) h (omega arith)),
            compare_lt l,
          )
      go (same l) (inl (u, b)) =
          absurd (d (sym (ap (λ z. nibble z x.place) (ap (λ z. z.key) (way u b))
          ∙ subst (λ (c : ℕ). nibble (closest x.key u).key c ≡ nibble x.key c) (sym l)
          (closest_every (Below p h.0 s) x.key u (picture_at p h.0 b h.1).0 (picture_at p h.0 b h.1).2).slot)))
      go (same l) (inr b) = rw (compare_eq l, compare_eq (sym l), loop_lacks limit height x s ks b) (ap (λ (c : ℕ). some (branch n p (add_kid (nibble x.key c) (new_leaf x) ks))) (sym l))
      go (higher l) (inr b) =
          absurd (closest_every (λ z. nibble z p ≢ s) x.key (branch n p ks) h (lacks_every p h.0 s ks h.1 b) (sym (a.on p l)))
      go (higher l) (inl (u, b)) =
          let e = below n p ks u b l (ih s u b (picture_at p h.0 b h.1).0
          (subst (λ z. Agree x.place x.key z.key) (way u b) a) (subst (λ z. nibble x.key x.place ≢ nibble z.key x.place) (way u b) d)) in
          rw (compare_lt l)
          (e
          ∙ sym (ap (λ (z : Descent). says (p ∷ z.path) (branch n p ks)) (way u b)
          ∙ ap (λ (o : Ordering). pick (not (member x.place (p ∷ (closest x.key u).path)) && leb limit height) none
          (some (choose o (fork x (branch n p ks)) (branch n p (add_kid (new_slot x) (new_leaf x) ks)) (branch n p (insert_k x s ks))))) (compare_gt l)))

  loop_right : (t : Tree) → Right t
  loop_right t = tree_ind Right right_leaf right_branch t

-- A stored key's value is replaced; a new key is refused exactly by document 01's rule, and goes where the model puts it otherwise.
pub rust_insert_lem : (limit a b : ℕ) (k : List ℕ) (v : ℕ) (t : Tree) → Picture t
    → rust_insert limit a b k v t
    ≡ on_equal (order k (closest k t).key) (some (insert_t a b k v t)) (pick (too_high limit k (closest k t)) none (some (insert_t a b k v t)))
unfolding Right
rust_insert_lem limit a b k v t h = go (ordered k q)
  where
    q : List ℕ
    q = (closest k t).key

    x : New
    x = new_for a b k v q

    new : k ≢ q → loop limit (length (closest k t).path) x t ≡ pick (too_high limit k (closest k t)) none (some (insert_at x t))
    new d = loop_right limit (length (closest k t).path) x t h (critical_agree k q) (critical_differs k q d)

    go : {o : Ordering} → Ordered k q o
        → on_equal o (some (set_t k v t)) (loop limit (length (closest k t).path) x t)
        ≡ on_equal o (some (on_equal o (set_t k v t) (insert_at x t))) (pick (too_high limit k (closest k t)) none (some (on_equal o (set_t k v t) (insert_at x t))))
    go (before r) = new (less_differs r)
    go (equal r) = refl
    go (after r) = new (λ e. less_differs r (sym e))

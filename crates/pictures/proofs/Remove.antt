-- Removal from a picture: nothing or a picture is left, and its listing is the old one without the key.
-- Assumes nothing.
use Prim.Native.Nat.{ℕ, suc, ◌≤◌, Ordering}
use mathlib.Core.Path.{◌≡◌, refl, sym, ◌∙◌, ap₂}
use mathlib.Core.Logic.{◌≢◌}
use mathlib.Core.List.{List, [], ◌∷◌, ◌++◌, append-nil}
use mathlib.Core.Option.{Option, none, some}
use native.Mathlib.Omega.{arith}
use Rattle.model.specs.Key.{on_equal, IsKey}
use Rattle.model.specs.Map.{Entry, del}
use Rattle.model.specs.Nibble.{nibble}
use Rattle.model.specs.Picture.{Tree, leaf, branch, Kids, end, kid, listing, listings, Every, Everys, SlotsRise, StartsAt, Below, Picture, Pictures, attach, entries, Pictured}
use Rattle.model.proofs.Compare.{Said, lower, same, higher, said}
use Rattle.model.proofs.KeyLaws.{Ordered, before, equal, after, ordered}
use Rattle.model.proofs.MapLaws.{del_none, del_append}
use Rattle.model.proofs.TreeLaws.{From, kids_from, every_map, everys_map, all_listing, all_listings, slot_differs, slot_above}
use Rattle.pictures.specs.Tree.{join, remove_t, remove_k}

-- of what is left, nothing or a tree: every key, and where the root stands
abbrev EveryLeft : (List ℕ → Type 0) → Option Tree → Type 0
EveryLeft P none = Unit {0}
EveryLeft P (some t) = Every P t

abbrev StartsLeft : ℕ → Option Tree → Type 0
StartsLeft low none = Unit {0}
StartsLeft low (some t) = StartsAt low t

pub starts_less : {low m : ℕ} (t : Tree) → low ≤ m → StartsAt m t → StartsAt low t
starts_less (leaf n k v) h a = tt
starts_less (branch n p ks) h a = omega arith

rising_less : {low m : ℕ} (ks : Kids) → low ≤ m → SlotsRise m ks → SlotsRise low ks
rising_less end h a = tt
rising_less (kid s t ks) h a = (omega arith, a.1)

-- A branch that is left with the children ks.
join_lists : (n p : ℕ) (ks : Kids) → entries (join n p ks) ≡ listings ks
join_lists n p end = refl
join_lists n p (kid s t end) = sym (append-nil (listing t))
join_lists n p (kid s t (kid r u ks)) = refl

join_picture : (n p : ℕ) (w : List ℕ) (ks : Kids) → Pictures p w ks → SlotsRise 0 ks → Pictured (join n p ks)
join_picture n p w end h r = tt
join_picture n p w (kid s t end) h r = h.0
join_picture n p w (kid s t (kid q u ks)) h r = (w, h, r, omega arith)

join_starts : (n p : ℕ) (w : List ℕ) (ks : Kids) → Pictures p w ks → StartsLeft p (join n p ks)
join_starts n p w end h = tt
join_starts n p w (kid s t end) h = starts_less t (omega arith) h.1
join_starts n p w (kid s t (kid q u ks)) h = omega arith

join_every : (P : List ℕ → Type 0) (n p : ℕ) (ks : Kids) → Everys P ks → EveryLeft P (join n p ks)
join_every P n p end a = tt
join_every P n p (kid s t end) a = a.0
join_every P n p (kid s t (kid q u ks)) a = a

left_starts_less : {low m : ℕ} (o : Option Tree) → low ≤ m → StartsLeft m o → StartsLeft low o
left_starts_less none h a = tt
left_starts_less (some t) h a = starts_less t h a

module _ (k : List ℕ) where
  -- What holds of every key still does.
  leaf_every : (P : List ℕ → Type 0) (n : ℕ) (l : List ℕ) (v : ℕ) → P l → {o : Ordering} → Ordered k l o → EveryLeft P (on_equal o none (some (leaf n l v)))
  leaf_every P n l v a (before h) = a
  leaf_every P n l v a (equal h) = tt
  leaf_every P n l v a (after h) = a

  attach_every : (P : List ℕ → Type 0) (r : ℕ) (o : Option Tree) (ks : Kids) → EveryLeft P o → Everys P ks → Everys P (attach r o ks)
  attach_every P r none ks a b = b
  attach_every P r (some t) ks a b = (a, b)

  kid_every : (P : List ℕ → Type 0) (s r : ℕ) (t : Tree) (u : Option Tree) (ks us : Kids) → Every P t → Everys P ks → EveryLeft P u → Everys P us
      → {o : Ordering} → Said s r o → Everys P (on_equal o (attach r u ks) (kid r t us))
  kid_every P s r t u ks us a b d e (lower h) = (a, e)
  kid_every P s r t u ks us a b d e (same h) = attach_every P r u ks d b
  kid_every P s r t u ks us a b d e (higher h) = (a, e)

  mutual
    pub every_remove : (P : List ℕ → Type 0) (t : Tree) → Every P t → EveryLeft P (remove_t k t)
    every_remove P (leaf n l v) a = leaf_every P n l v a (ordered k l)
    every_remove P (branch n p ks) a = join_every P n p (remove_k k (nibble k p) ks) (everys_remove P (nibble k p) ks a)

    everys_remove : (P : List ℕ → Type 0) (s : ℕ) (ks : Kids) → Everys P ks → Everys P (remove_k k s ks)
    everys_remove P s end a = tt
    everys_remove P s (kid r t ks) a =
        kid_every P s r t (remove_t k t) ks (remove_k k s ks) a.0 a.1 (every_remove P t a.0) (everys_remove P s ks a.1) (said s r)

  -- What is to be shown of a tree, and of a branch's children.
  pub record Removed (t : Tree) (o : Option Tree) : Type 0 where
    pub picture : Pictured o
    pub lists : entries o ≡ del k (listing t)
    pub starts : (low : ℕ) → StartsAt low t → StartsLeft low o

  record RemovedK (p : ℕ) (w : List ℕ) (low : ℕ) (ks us : Kids) : Type 0 where
    pub pictures : Pictures p w us
    pub rising : SlotsRise low us
    pub lists : listings us ≡ del k (listings ks)

  leaf_good : (n : ℕ) (l : List ℕ) (v : ℕ) → IsKey l → Removed (leaf n l v) (remove_t k (leaf n l v))
  leaf_good n l v h = record { picture = pic (ordered k l); lists = list (ordered k l); starts = λ low a. start low (ordered k l) }
    where
      left : Ordering → Option Tree
      left o = on_equal o none (some (leaf n l v))

      pic : {o : Ordering} → Ordered k l o → Pictured (left o)
      pic (before q) = h
      pic (equal q) = tt
      pic (after q) = h

      list : {o : Ordering} → Ordered k l o → entries (left o) ≡ on_equal o [] ((l, v) ∷ [])
      list (before q) = refl
      list (equal q) = refl
      list (after q) = refl

      start : (low : ℕ) {o : Ordering} → Ordered k l o → StartsLeft low (left o)
      start low (before q) = tt
      start low (equal q) = tt
      start low (after q) = tt

  branch_good : (n p : ℕ) (w : List ℕ) (ks us : Kids) → RemovedK p w 0 ks us → Removed (branch n p ks) (join n p us)
  branch_good n p w ks us i =
      record {
        picture = join_picture n p w us i.pictures i.rising;
        lists = join_lists n p us ∙ i.lists;
        starts = λ low a. left_starts_less (join n p us) a (join_starts n p w us i.pictures);
      }

  attach_good : (p : ℕ) (w : List ℕ) (low r : ℕ) (ks : Kids) (o : Option Tree) → Pictured o → StartsLeft (suc p) o → EveryLeft (Below p w r) o
      → Pictures p w ks → low ≤ r → SlotsRise (suc r) ks → Pictures p w (attach r o ks) × SlotsRise low (attach r o ks) × (listings (attach r o ks) ≡ entries o ++ listings ks)
  attach_good p w low r ks none a b d e m n = (e, rising_less ks (omega arith) n, refl)
  attach_good p w low r ks (some t) a b d e m n = ((a, b, d, e), (m, n), refl)

  step_good : (p : ℕ) (w : List ℕ) (low r : ℕ) (t : Tree) (ks us : Kids) → Pictures p w (kid r t ks) → SlotsRise low (kid r t ks)
      → Removed t (remove_t k t) → RemovedK p w (suc r) ks us
      → {o : Ordering} → Said (nibble k p) r o → RemovedK p w low (kid r t ks) (on_equal o (attach r (remove_t k t) ks) (kid r t us))
  step_good p w low r t ks us h m f g e = go e
    where
      -- the key is not in this child
      passed : nibble k p ≢ r → RemovedK p w low (kid r t ks) (kid r t us)
      passed d =
          record {
            pictures = (h.0, h.1, h.2, g.pictures);
            rising = (m.0, g.rising);
            lists =
                ap₂ (λ (x y : List Entry). x ++ y)
                (sym (del_none k (listing t) (all_listing (λ l. k ≢ l) t (every_map (λ l b. slot_differs d b) t h.2)))) g.lists
                ∙ sym (del_append k (listing t) (listings ks));
          }

      go : {o : Ordering} → Said (nibble k p) r o → RemovedK p w low (kid r t ks) (on_equal o (attach r (remove_t k t) ks) (kid r t us))
      go (lower q) = passed (omega arith)
      go (same q) =
          let b : Everys (From p w (suc r)) ks = kids_from p w (suc r) ks h.3 m.1 in
          let i = attach_good p w low r ks (remove_t k t) f.picture (f.starts (suc p) h.1) (every_remove (Below p w r) t h.2) h.3 m.0 m.1 in
          record {
            pictures = i.0;
            rising = i.1;
            lists =
                i.2
                ∙ ap₂ (λ (x y : List Entry). x ++ y)
                f.lists (sym (del_none k (listings ks) (all_listings (λ l. k ≢ l) ks (everys_map (λ l y. slot_above q y) ks b))))
                ∙ sym (del_append k (listing t) (listings ks));
          }
      go (higher q) = passed (omega arith)

  mutual
    pub remove_del : (t : Tree) → Picture t → Removed t (remove_t k t)
    remove_del (leaf n l v) h = leaf_good n l v h
    remove_del (branch n p ks) h = branch_good n p h.0 ks (remove_k k (nibble k p) ks) (removes_del p h.0 0 ks h.1 h.2)

    removes_del : (p : ℕ) (w : List ℕ) (low : ℕ) (ks : Kids) → Pictures p w ks → SlotsRise low ks → RemovedK p w low ks (remove_k k (nibble k p) ks)
    removes_del p w low end h m = record { pictures = tt; rising = tt; lists = refl }
    removes_del p w low (kid r t ks) h m =
        step_good p w low r t ks (remove_k k (nibble k p) ks) h m (remove_del t h.0) (removes_del p w (suc r) ks h.3 m.1) (said (nibble k p) r)

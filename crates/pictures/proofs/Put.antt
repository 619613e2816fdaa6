-- What is to be shown of a call that puts a key with its value into a picture, and the step at a branch's children that insertion and
-- overwriting share: the child in the key's slot takes it.
-- Assumes nothing.
use Prim.Native.Nat.{ℕ, suc, ◌≤◌, ◌<◌, Ordering}
use mathlib.Core.Path.{◌≡◌, sym, ◌∙◌, ap}
use mathlib.Core.Logic.{◌≢◌, ◌⊎◌, inl, inr}
use mathlib.Core.List.{List, [], ◌++◌}
use native.Mathlib.Omega.{arith}
use Rattle.model.specs.Key.{on_equal}
use Rattle.model.specs.Map.{Entry, All, put}
use Rattle.model.specs.Nibble.{nibble, Agree}
use Rattle.model.specs.Picture.{Tree, Kids, end, kid, listing, listings, Every, Everys, SlotsRise, StartsAt, Below, Picture, Pictures, count}
use Rattle.model.proofs.Compare.{Said, lower, same, higher}
use Rattle.model.proofs.Less.{Less}
use Rattle.model.proofs.MapLaws.{put_left, put_right}
use Rattle.model.proofs.TreeLaws.{From, kids_from, below_from, every_map, everys_map, all_listing, all_listings}
use Rattle.model.proofs.Closest.{Some, Somes, some_every, somes_everys, closest_every}
use Rattle.pictures.specs.Stored.{Lacks}

-- u is a picture, and lists what t does with v put at k.
pub record Put (k : List ℕ) (v : ℕ) (t u : Tree) : Type 0 where
  pub picture : Picture u
  pub lists : listing u ≡ put k v (listing t)

-- The same of the children of a branch at position p, from slot `low` on.
pub record PutK (k : List ℕ) (v p : ℕ) (w : List ℕ) (low : ℕ) (ks us : Kids) : Type 0 where
  pub pictures : Pictures p w us
  pub rising : SlotsRise low us
  pub grows : count ks ≤ count us
  pub lists : listings us ≡ put k v (listings ks)

-- The keys above, or below, a key that stands in a slot.
pub all_above : (p : ℕ) (w : List ℕ) (s : ℕ) (k : List ℕ) (ks : Kids) → Below p w s k → Everys (From p w (suc s)) ks → All (Less k) (listings ks)
all_above p w s k ks b a = all_listings (Less k) ks (everys_map (λ l f. below_from b f) ks a)

pub all_under : (p : ℕ) (w : List ℕ) (s : ℕ) (k : List ℕ) (t : Tree) → Every (Below p w s) t → From p w (suc s) k → All (λ l. Less l k) (listing t)
all_under p w s k t a f = all_listing (λ l. Less l k) t (every_map (λ l b. below_from b f) t a)

-- one child is replaced, or one further on
pub everys_step : (P : List ℕ → Type 0) (s r : ℕ) (t u : Tree) (ks us : Kids) → Every P t → Everys P ks → Every P u → Everys P us
    → {o : Ordering} → Said s r o → Everys P (on_equal o (kid r u ks) (kid r t us))
everys_step P s r t u ks us a b d e (lower h) = (a, e)
everys_step P s r t u ks us a b d e (same h) = (d, b)
everys_step P s r t u ks us a b d e (higher h) = (a, e)

-- At a branch's children, a descent that looks for leaves of which P holds, all of them in k's slot: it turns into this child, or it goes on.
module _ (k : List ℕ) (P : List ℕ → Type 0) (p : ℕ) (w : List ℕ) (in_slot : (l : List ℕ) → P l → nibble k p ≡ nibble l p) where
  pub data Turn (r : ℕ) (t : Tree) (ks : Kids) : Ordering → Type 0 where
    here : nibble k p ≡ r → Some P t → Turn r t ks Ordering.eq
    onward : r < nibble k p → Somes P ks → Turn r t ks Ordering.gt

  pub turn : (low r : ℕ) (t : Tree) (ks : Kids) → Pictures p w (kid r t ks) → SlotsRise low (kid r t ks)
      → {o : Ordering} → Said (nibble k p) r o → Some P t ⊎ Somes P ks → Turn r t ks o
  turn low r t ks h m (same e) (inl a) = here e a
  turn low r t ks h m (higher e) (inr a) = onward e a
  turn low r t ks h m (same e) (inr a) =
      let q = somes_everys P (From p w (suc r)) ks a (kids_from p w (suc r) ks h.3 m.1) in
      absurd (omega (arith, in_slot q.0 q.1, q.2.slot))
  turn low r t ks h m (lower e) (inr a) =
      let q = somes_everys P (From p w (suc r)) ks a (kids_from p w (suc r) ks h.3 m.1) in
      absurd (omega (arith, in_slot q.0 q.1, q.2.slot))
  turn low r t ks h m (lower e) (inl a) =
      let q = some_every P (Below p w r) t a h.2 in
      absurd (omega (arith, in_slot q.0 q.1, q.2.slot))
  turn low r t ks h m (higher e) (inl a) =
      let q = some_every P (Below p w r) t a h.2 in
      absurd (omega (arith, in_slot q.0 q.1, q.2.slot))

  -- The child that takes the key is a picture with it put in; the children before it lie below the key and those after it above.
  pub put_step : (v : ℕ) → Agree p w k → (low r : ℕ) (t u : Tree) (ks us : Kids) → Pictures p w (kid r t ks) → SlotsRise low (kid r t ks)
      → StartsAt (suc p) u → (Below p w r k → Every (Below p w r) u)
      → (Some P t → Put k v t u) → (Somes P ks → PutK k v p w (suc r) ks us)
      → {o : Ordering} → Turn r t ks o → PutK k v p w low (kid r t ks) (on_equal o (kid r u ks) (kid r t us))
  put_step v g low r t u ks us h m st ev f n (here e a) =
      let i = f a in
      let new : Below p w r k = record { agree = g; slot = e } in
      record {
        pictures = (i.picture, st, ev new, h.3);
        rising = m;
        grows = omega arith;
        lists =
            ap (λ (z : List Entry). z ++ listings ks) i.lists
            ∙ sym (put_left k v (listing t) (listings ks) (all_above p w r k ks new (kids_from p w (suc r) ks h.3 m.1)));
      }
  put_step v g low r t u ks us h m st ev f n (onward e a) =
      let i = n a in
      record {
        pictures = (h.0, h.1, h.2, i.pictures);
        rising = (m.0, i.rising);
        grows = omega arith;
        lists =
            ap (λ (z : List Entry). listing t ++ z) i.lists
            ∙ sym (put_right k v (listing t) (listings ks) (all_under p w r k t h.2 (record { agree = g; slot = e })));
      }

-- A slot that no key of the children has.
pub lacks : (p : ℕ) (w : List ℕ) (s : ℕ) (ks : Kids) → Pictures p w ks → Everys (λ l. nibble l p ≢ s) ks → Lacks s ks
lacks p w s end h a = tt
lacks p w s (kid r t ks) h a = (
  λ e. closest_every (λ l. nibble l p ≢ s) [] t h.0 a.0 ((closest_every (Below p w r) [] t h.0 h.2).slot ∙ sym e),
  lacks p w s ks h.3 a.1,
)

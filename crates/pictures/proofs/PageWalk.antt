-- The walk of a page gives what document 01 says that a page chooses from: the matching entries above the after-key.
-- Assumes nothing.
use Prim.Native.Nat.{ℕ, ◌*◌, ◌≤◌, Ordering}
use mathlib.Core.Path.{◌≡◌, refl, sym, ap, ◌∙◌}
use mathlib.Core.Bool.{Bool, true, false, true≢false}
use mathlib.Core.List.{List, [], ◌∷◌}
use mathlib.Core.Option.{Option, none, some}
use native.Mathlib.Omega.{arith}
use lib.ListN.{length}
use Rattle.model.specs.Key.{order, on_equal, and_then, starts_with}
use Rattle.model.specs.Map.{Entry, keep, pick, choose}
use Rattle.model.specs.Nibble.{nibble, critical}
use Rattle.model.specs.Page.{Mode, plain, inclusive, From, start, after_key, matches, under, follows, above}
use Rattle.model.specs.Picture.{Tree, leaf, branch, Kids, end, kid, listing, Every, Everys, Picture, Pictures, closest}
use Rattle.model.proofs.Compare.{Said, lower, same, higher, said}
use Rattle.model.proofs.KeyLaws.{agree_sym, agree_trans, agree_less, order_trans, order_same}
use Rattle.model.proofs.StartsLaws.{starts_same}
use Rattle.model.proofs.TreeLaws.{From as FromSlot, kids_from, everys_map}
use Rattle.model.proofs.Closest.{closest_every}
use Rattle.pictures.specs.Prefix.{seek, seek_k, found}
use Rattle.pictures.specs.After.{passes, after_in, bound, bound_too}
use Rattle.pictures.proofs.PrefixLaws.{prefix_found}
use Rattle.pictures.proofs.AfterLaws.{after_is}

-- ---- the subtree that a prefix leads to

-- it is a picture, and its keys all start with the prefix or all do not
pub record Reached (q : List ℕ) (u : Tree) : Type 0 where
  pub picture : Picture u
  pub alike : Every (λ k. starts_with q k ≡ starts_with q (closest [] u).key) u

module _ (q : List ℕ) where
  past_reached : (n p : ℕ) (ks : Kids) → Picture (branch n p ks) → 2 * length q ≤ p → Reached q (branch n p ks)
  past_reached n p ks h l =
      let k : List ℕ = (closest [] (branch n p ks)).key in
      let all : Everys (FromSlot p h.0 0) ks = kids_from p h.0 0 ks h.1 h.2 in
      let one : FromSlot p h.0 0 k = closest_every (FromSlot p h.0 0) [] (branch n p ks) h all in
      record { picture = h; alike = everys_map (λ x f. starts_same q x k (agree_less l (agree_trans (agree_sym f.agree) one.agree))) ks all }

  abbrev pub Reaches : Option Tree → Type 0
  Reaches none = Unit {0}
  Reaches (some u) = Reached q u

  at_branch : (n p : ℕ) (ks : Kids) → Picture (branch n p ks) → Reaches (seek_k q (nibble q p) ks) → {o : Ordering} → Said p (2 * length q) o
      → Reaches (choose o (seek_k q (nibble q p) ks) (some (branch n p ks)) (some (branch n p ks)))
  at_branch n p ks h r (lower l) = r
  at_branch n p ks h r (same l) = past_reached n p ks h (omega arith)
  at_branch n p ks h r (higher l) = past_reached n p ks h (omega arith)

  at_kid : (s r : ℕ) (t : Tree) (ks : Kids) → Reaches (seek q t) → Reaches (seek_k q s ks) → {o : Ordering} → Said s r o → Reaches (on_equal o (seek q t) (seek_k q s ks))
  at_kid s r t ks a b (lower l) = b
  at_kid s r t ks a b (same l) = a
  at_kid s r t ks a b (higher l) = b

  mutual
    pub seek_reached : (t : Tree) → Picture t → Reaches (seek q t)
    seek_reached (leaf n k v) h = record { picture = h; alike = refl }
    seek_reached (branch n p ks) h = at_branch n p ks h (seeks_reached p h.0 (nibble q p) ks h.1) (said p (2 * length q))

    seeks_reached : (p : ℕ) (w : List ℕ) (s : ℕ) (ks : Kids) → Pictures p w ks → Reaches (seek_k q s ks)
    seeks_reached p w s end h = tt
    seeks_reached p w s (kid r t ks) h = at_kid s r t ks (seek_reached t h.0) (seeks_reached p w s ks h.3) (said s r)

  -- what is walked under it
  pub walk_is : (too : Bool) (b : List ℕ) (t : Tree) → Picture t → after_in q too b (seek q t) ≡ keep (passes too b) (keep (starts_with q) (listing t))
  walk_is too b t h = go (seek q t) (seek_reached t h) ∙ ap (keep (passes too b)) (sym (prefix_found q t h))
    where
      by : (s : Bool) (m : List Entry) → pick s (keep (passes too b) m) [] ≡ keep (passes too b) (pick s m [])
      by true m = refl
      by false m = refl

      go : (o : Option Tree) → Reaches o → after_in q too b o ≡ keep (passes too b) (found q o)
      go none r = refl
      go (some u) r =
          let l : List ℕ = (closest b u).key in
          let one : starts_with q l ≡ starts_with q (closest [] u).key = closest_every (λ k. starts_with q k ≡ starts_with q (closest [] u).key) b u r.picture r.alike in
          ap (λ (m : List Entry). pick (starts_with q l) m []) (after_is too b (critical b l) (passes too b l) u r.picture (record { place = refl; side = refl }))
          ∙ by (starts_with q l) (listing u)
          ∙ ap (λ (s : Bool). keep (passes too b) (pick s (listing u) [])) one

-- ---- where a page begins

keep_both : (f g : List ℕ → Bool) (m : List Entry) → keep f (keep g m) ≡ keep (λ k. pick (g k) (f k) false) m
keep_both f g [] = refl
keep_both f g (e ∷ m) = go (g e.0) (f e.0) (keep_both f g m) refl
  where
    go : (x y : Bool) → keep f (keep g m) ≡ keep (λ k. pick (g k) (f k) false) m → f e.0 ≡ y
        → keep f (pick x (e ∷ keep g m) (keep g m)) ≡ pick (pick x (f e.0) false) (e ∷ keep (λ k. pick (g k) (f k) false) m) (keep (λ k. pick (g k) (f k) false) m)
    go true y ih q = ap (λ (z : List Entry). pick (f e.0) (e ∷ z) z) ih
    go false y ih q = ih

keep_same : (f g : List ℕ → Bool) → ((k : List ℕ) → f k ≡ g k) → (m : List Entry) → keep f m ≡ keep g m
keep_same f g h [] = refl
keep_same f g h (e ∷ m) = ap (λ (x : Bool). pick x (e ∷ keep f m) (keep f m)) (h e.0) ∙ ap (λ (z : List Entry). pick (g e.0) (e ∷ z) z) (keep_same f g h m)

-- a key that starts with a prefix is not below it
starts_not_below : (q k : List ℕ) → starts_with q k ≡ true → order q k ≡ Ordering.gt → ⊥
unfolding order
starts_not_below [] [] s e = let z : ◌≡◌ {A = ℕ} 0 1 = cc in omega arith
starts_not_below [] (y ∷ k) s e = let z : ◌≡◌ {A = ℕ} 0 1 = cc in omega arith
starts_not_below (x ∷ q) [] s e = true≢false (sym s)
starts_not_below (x ∷ q) (y ∷ k) s e = go (starts_not_below q k) (said x y) s e
  where
    go : (starts_with q k ≡ true → order q k ≡ Ordering.gt → ⊥) → {o : Ordering} → Said x y o → on_equal o (starts_with q k) false ≡ true → and_then o (order q k) ≡ Ordering.gt → ⊥
    go ih (lower l) s e = true≢false (sym s)
    go ih (same l) s e = ih s e
    go ih (higher l) s e = true≢false (sym s)

module _ (q k : List ℕ) where
  -- by the prefix's answer and the two orders
  starting : (s : Bool) (o : Ordering) → starts_with q k ≡ s → order q k ≡ o → pick s true false ≡ pick s (choose o true true false) false
  starting true Ordering.lt e f = refl
  starting true Ordering.eq e f = refl
  starting true Ordering.gt e f = absurd (starts_not_below q k e f)
  starting false o e f = refl

  starting_plain : (s : Bool) (o : Ordering) → starts_with q k ≡ s → order q k ≡ o → pick (on_equal o false s) true false ≡ pick s (choose o true false false) false
  starting_plain true Ordering.lt e f = refl
  starting_plain true Ordering.eq e f = refl
  starting_plain true Ordering.gt e f = absurd (starts_not_below q k e f)
  starting_plain false Ordering.lt e f = refl
  starting_plain false Ordering.eq e f = refl
  starting_plain false Ordering.gt e f = refl

  after_plain : (a : List ℕ) (s : Bool) (o u : Ordering) → starts_with q k ≡ s → order q k ≡ o → order a q ≡ u
      → pick (on_equal o false s) (choose (order a k) true false false) false ≡ pick s (choose (order (choose u q a a) k) true false false) false
  after_plain a true Ordering.lt Ordering.lt e f g = rw (f, order_trans a q k g f)
  after_plain a true Ordering.lt Ordering.eq e f g = refl
  after_plain a true Ordering.lt Ordering.gt e f g = refl
  after_plain a true Ordering.eq Ordering.lt e f g = rw f
  after_plain a true Ordering.eq Ordering.eq e f g = rw (order_same a q g, f)
  after_plain a true Ordering.eq Ordering.gt e f g = rw (← order_same q k f, g)
  after_plain a true Ordering.gt u e f g = absurd (starts_not_below q k e f)
  after_plain a false Ordering.lt u e f g = refl
  after_plain a false Ordering.eq u e f g = refl
  after_plain a false Ordering.gt u e f g = refl

bound_each : (mode : Mode) (q : List ℕ) (from : From) (k : List ℕ)
    → pick (matches mode q k) (follows from k) false ≡ pick (starts_with q k) (passes (bound_too mode from) (bound mode q from) k) false
bound_each inclusive q start k = starting q k (starts_with q k) (order q k) refl refl
bound_each inclusive q (after_key a) k = refl
bound_each plain q start k = starting_plain q k (starts_with q k) (order q k) refl refl
bound_each plain q (after_key a) k = after_plain q k a (starts_with q k) (order q k) (order a q) refl refl refl

pub bound_is : (mode : Mode) (q : List ℕ) (from : From) (m : List Entry)
    → above from (under mode q m) ≡ keep (passes (bound_too mode from) (bound mode q from)) (keep (starts_with q) m)
bound_is mode q from m =
    keep_both (follows from) (matches mode q) m
    ∙ keep_same (λ k. pick (matches mode q k) (follows from k) false) (λ k. pick (starts_with q k) (passes (bound_too mode from) (bound mode q from) k) false) (bound_each mode q from) m
    ∙ sym (keep_both (passes (bound_too mode from) (bound mode q from)) (starts_with q) m)

-- What a page chooses from.
pub page_walk : (mode : Mode) (q : List ℕ) (from : From) (t : Tree) → Picture t
    → above from (under mode q (listing t)) ≡ after_in q (bound_too mode from) (bound mode q from) (seek q t)
page_walk mode q from t h = bound_is mode q from (listing t) ∙ sym (walk_is q (bound_too mode from) (bound mode q from) t h)

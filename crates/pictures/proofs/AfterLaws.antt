-- The walk from a key on gives the entries above that key, and all of them.
-- Assumes nothing.
use Prim.Native.Nat.{ℕ, suc, ◌*◌, ◌≤◌, ◌<◌, compare, Ordering}
use mathlib.Core.Path.{◌≡◌, refl, sym, ap, subst, ◌∙◌}
use mathlib.Core.Logic.{◌≢◌}
use mathlib.Core.Bool.{Bool, true, false}
use mathlib.Core.List.{List, [], ◌∷◌, ◌++◌}
use native.Mathlib.Omega.{arith}
use native.Mathlib.Decide.{dec_lt}
use lib.Dec.{leb}
use lib.ListN.{length}
use borrow.Author.Tests.{le-leb, lt-leb}
use Rattle.model.specs.Key.{order, on_equal}
use Rattle.model.specs.Map.{Entry, keep, pick, choose}
use Rattle.model.specs.Nibble.{nibble, critical, Agree}
use Rattle.model.specs.Picture.{Tree, leaf, branch, Kids, end, kid, listing, listings, Everys, SlotsRise, Picture, Pictures, Descent, closest, closest_k, first}
use Rattle.model.proofs.Compare.{Said, lower, same, higher, said}
use Rattle.model.proofs.KeyLaws.{agree_sym, agree_trans, agree_less, order_lt, order_gt, key_discrete, critical_agree, critical_differs, critical_order, critical_only}
use Rattle.model.proofs.CriticalAt.{critical_left}
use Rattle.model.proofs.NibbleAt.{nibble_past, nibble_within}
use Rattle.model.proofs.Keep.{keep_one, keep_append}
use Rattle.model.proofs.TreeLaws.{From, kids_from, every_map, everys_map, all_listing, all_listings}
use Rattle.model.proofs.Closest.{closest_every}
use Rattle.pictures.specs.After.{passes, after_t, after_k}

-- ---- keys that agree past the critical position

-- a key that agrees with b past b's end is b
past_end : (b k : List ℕ) (p : ℕ) → Agree p b k → 2 * length b < p → b ≡ k
past_end b k p a l = go (key_discrete b k)
  where
    short : length k ≤ length b
    short = by (dec_lt (length b) (length k))
      where
        by : Dec (length b < length k) → length k ≤ length b
        by (yes h) = absurd (omega (arith, a.on (2 * length b) l, nibble_past b (2 * length b) (omega arith), nibble_within k (2 * length b) (omega arith)))
        by (no h) = omega arith

    go : Dec (b ≡ k) → b ≡ k
    go (yes e) = e
    go (no d) = absurd (by (dec_lt (critical b k) p))
      where
        by : Dec (critical b k < p) → ⊥
        by (yes h) = critical_differs b k d (a.on (critical b k) h)
        by (no h) = critical_differs b k d (nibble_past b (critical b k) (omega arith) ∙ sym (nibble_past k (critical b k) (omega (arith, short))))

-- a key that agrees with another one past that one's critical position with b lies on the same side of b
pub same_side : (b l k : List ℕ) (p : ℕ) → Agree p l k → critical b l < p → order b k ≡ order b l
same_side b l k p a h = go (key_discrete b l)
  where
    c : ℕ
    c = critical b l

    go : Dec (b ≡ l) → order b k ≡ order b l
    go (yes e) =
        let one : Agree p b k = subst (λ (z : List ℕ). Agree p z k) (sym e) a in
        let far : 2 * length b < p = omega (arith, critical_left b b (omega arith) (λ j q. refl), ap (λ (z : List ℕ). critical b z) e) in
        ap (order b) (sym (past_end b k p one far) ∙ e)
    go (no d) =
        let agree : Agree c b k = agree_trans (critical_agree b l) (agree_less (omega arith) a) in
        let other : nibble b c ≢ nibble k c = λ z. critical_differs b l d (z ∙ sym (a.on c h)) in
        let at : c ≡ critical b k = critical_only b k c agree other in
        critical_order b k ∙ ap (λ (z : ℕ). compare (nibble b z) (nibble k z)) (sym at) ∙ ap (compare (nibble b c)) (sym (a.on c h)) ∙ sym (critical_order b l)

-- ---- one branch

module _ (too : Bool) (b : List ℕ) where
  abbrev kept : List Entry → List Entry
  kept m = keep (passes too b) m

  -- leaves in a slot below or above b's nibble, where they agree with b before it
  below_not : (p : ℕ) (k : List ℕ) → Agree p b k → nibble k p < nibble b p → passes too b k ≡ false
  below_not p k a l = ap (λ (o : Ordering). choose o true too false) (order_gt (record { place = p; agree = agree_sym a; rises = l }))

  above_passes : (p : ℕ) (k : List ℕ) → Agree p b k → nibble b p < nibble k p → passes too b k ≡ true
  above_passes p k a l = ap (λ (o : Ordering). choose o true too false) (order_lt (record { place = p; agree = a; rises = l }))

  -- a child in another slot than b's nibble is not the closest one's, and the child in that slot is
  skip : (s r : ℕ) (t : Tree) (ks : Kids) (d : Descent) → r < s → closest_k b s (kid r t ks) d ≡ closest_k b s ks d
  skip s r t ks d l = go (said s r)
    where
      go : {o : Ordering} → Said s r o → on_equal o (closest b t) (closest_k b s ks d) ≡ closest_k b s ks d
      go (lower z) = refl
      go (same z) = absurd (omega arith)
      go (higher z) = refl

  here : (s r : ℕ) (t : Tree) (ks : Kids) (d : Descent) → r ≡ s → closest_k b s (kid r t ks) d ≡ closest b t
  here s r t ks d l = go (said s r)
    where
      go : {o : Ordering} → Said s r o → on_equal o (closest b t) (closest_k b s ks d) ≡ closest b t
      go (lower z) = absurd (omega arith)
      go (same z) = refl
      go (higher z) = absurd (omega arith)

  -- what c and `up` have to be, by the closest leaf
  pub record Near (c : ℕ) (up : Bool) (l : List ℕ) : Type 0 where
    pub place : c ≡ critical b l
    pub side : up ≡ passes too b l

  near_is : {c : ℕ} {up : Bool} {d e : Descent} → d ≡ e → Near c up d.key → Near c up e.key
  near_is {c} {up} q n = subst (λ (z : Descent). Near c up z.key) q n

  -- one child of a branch at position p, where b agrees with the leaves before p, and the others
  module _ (c : ℕ) (up : Bool) (p : ℕ) (w : List ℕ) (a : Agree p b w) (r : ℕ) (t : Tree) (ks : Kids) (h : Pictures p w (kid r t ks)) (rise : SlotsRise (suc r) ks) where
    abbrev s : ℕ
    s = nibble b p

    later : s ≤ r → kept (listings ks) ≡ listings ks
    later l =
        keep_one (passes too b) true (listings ks)
        (all_listings (λ k. passes too b k ≡ true) ks
        (everys_map (λ k f. above_passes p k (agree_trans a f.agree) (omega (arith, f.slot))) ks (kids_from p w (suc r) ks h.3 rise)))

    one_kid : (r < s → after_k b c up s ks ≡ kept (listings ks)) → (r ≡ s → after_t b c up t ≡ kept (listing t)) → {o : Ordering} → Said r s o
        → choose o (after_k b c up s ks) (after_t b c up t ++ listings ks) (listing t ++ listings ks) ≡ kept (listing t) ++ kept (listings ks)
    one_kid rest own (lower l) =
        rest l
        ∙ ap (λ (m : List Entry). m ++ kept (listings ks))
        (sym (keep_one (passes too b) false (listing t)
        (all_listing (λ k. passes too b k ≡ false) t (every_map (λ k f. below_not p k (agree_trans a f.agree) (omega (arith, f.slot))) t h.2))))
    one_kid rest own (same l) = ap (λ (m : List Entry). m ++ listings ks) (own l) ∙ ap (λ (m : List Entry). kept (listing t) ++ m) (sym (later (omega arith)))
    one_kid rest own (higher l) =
        ap (λ (m : List Entry). m ++ listings ks)
        (sym (keep_one (passes too b) true (listing t)
        (all_listing (λ k. passes too b k ≡ true) t (every_map (λ k f. above_passes p k (agree_trans a f.agree) (omega (arith, f.slot))) t h.2))))
        ∙ ap (λ (m : List Entry). kept (listing t) ++ m) (sym (later (omega arith)))

  -- a branch, by whether it stands past the critical position
  module _ (c : ℕ) (up : Bool) (n p : ℕ) (ks : Kids) (h : Picture (branch n p ks)) (near : Near c up (closest b (branch n p ks)).key) where
    abbrev l : List ℕ
    l = (closest b (branch n p ks)).key

    leaves : Everys (From p h.0 0) ks
    leaves = kids_from p h.0 0 ks h.1 h.2

    with_closest : Agree p h.0 l
    with_closest = closest_every (Agree p h.0) b (branch n p ks) h (everys_map (λ k f. f.agree) ks leaves)

    before : p ≤ c → Agree p b h.0
    before q = agree_trans (agree_less (omega (arith, near.place)) (critical_agree b l)) (agree_sym with_closest)

    whole : c < p → pick up (listings ks) [] ≡ kept (listings ks)
    whole q =
        sym (keep_one (passes too b) up (listings ks)
        (all_listings (λ k. passes too b k ≡ up) ks
        (everys_map (λ k f. ap (λ (o : Ordering). choose o true too false) (same_side b l k p (agree_trans (agree_sym with_closest) f.agree) (omega (arith, near.place))) ∙ sym near.side) ks leaves)))

    one_branch : (p ≤ c → after_k b c up (nibble b p) ks ≡ kept (listings ks)) → pick (leb p c) (after_k b c up (nibble b p) ks) (pick up (listings ks) []) ≡ kept (listings ks)
    one_branch down = go (dec_lt c p)
      where
        go : Dec (c < p) → pick (leb p c) (after_k b c up (nibble b p) ks) (pick up (listings ks) []) ≡ kept (listings ks)
        go (yes q) = rw (lt-leb p c q) (whole q)
        go (no q) = rw (le-leb p c (omega arith)) (down (omega arith))

  mutual
    pub after_is : (c : ℕ) (up : Bool) (t : Tree) → Picture t → Near c up (closest b t).key → after_t b c up t ≡ kept (listing t)
    after_is c up (leaf n k v) h near = ap (λ (z : Bool). pick z ((k, v) ∷ []) []) near.side
    after_is c up (branch n p ks) h near =
        one_branch c up n p ks h near (λ q. kids_after c up p h.0 (before c up n p ks h near q) ks h.1 0 h.2 (first b ks) near)

    kids_after : (c : ℕ) (up : Bool) (p : ℕ) (w : List ℕ) → Agree p b w → (ks : Kids) → Pictures p w ks → (low : ℕ) → SlotsRise low ks → (d : Descent)
        → Near c up (closest_k b (nibble b p) ks d).key → after_k b c up (nibble b p) ks ≡ kept (listings ks)
    kids_after c up p w a end h low rise d near = refl
    kids_after c up p w a (kid r t ks) h low rise d near =
        one_kid c up p w a r t ks h rise.1
        (λ l. kids_after c up p w a ks h.3 (suc r) rise.1 d (near_is (skip (nibble b p) r t ks d l) near))
        (λ l. after_is c up t h.0 (near_is (here (nibble b p) r t ks d l) near))
        (said r (nibble b p))
        ∙ sym (keep_append (passes too b) (listing t) (listings ks))

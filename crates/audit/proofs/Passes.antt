-- A held picture is found good by the walk, with its first leaf and its counts. Assumes nothing.
use Prim.Native.Nat.{ℕ, zero, suc, ◌+◌, ◌-◌, ◌*◌, ◌≤◌, ◌<◌}
use mathlib.Core.Path.{◌≡◌, refl, sym, ap, subst, ◌∙◌}
use mathlib.Core.Bool.{true}
use mathlib.Core.List.{List}
use native.Mathlib.Omega.{arith}
use borrow.Author.Tests.{eq-eqb, le-leb, lt-ltb, le-ltb}
use Rattle.std.specs.Prelude.{Option as Maybe, Some, None}
use Rattle.model.specs.Key.{key_limit}
use Rattle.model.specs.Numbers.{most}
use Rattle.model.specs.Nibble.{nibble, critical, Agree}
use Rattle.model.specs.Picture.{Tree, leaf, branch, Kids, end, kid, Every, Everys, SlotsRise, StartsAt, Below, Picture, Pictures, count}
use Rattle.model.proofs.KeyLaws.{agree_sym, agree_trans, critical_only}
use Rattle.model.proofs.TreeLaws.{every_map, everys_map, kids_from}
use Rattle.model.proofs.Bounds.{place_bound}
use Rattle.pictures.specs.Records.{tallies, leaves as leaf_count, branches as branch_count}
use Rattle.pictures.specs.Stored.{root, row, Holds, HoldsAll, here}
use Rattle.node.specs.Leaf.{leaf_in}
use Rattle.node.specs.declared.child.LeafNo.{LeafNo}
use Rattle.node.specs.declared.child.Link.{Link}
use Rattle.trie_spec.specs.Accepted.{link_to, codes, memory_of}
use Rattle.trie_spec.proofs.HeldLaws.{Inside, inside_at, link_back}
use Rattle.audit_tree.specs.Walk.{key_of, tally, good, none_yet, leaf_seen, stands, parts_at, head, add_kid, finish, kids_seen, seen}
use Rattle.audit_tree.specs.declared.tree.Seen.{Seen}
use Rattle.audit_tree.specs.declared.tree.Tally.{Tally}
use Rattle.audit_tree.proofs.Contracts.{two_kids}
use Rattle.audit.proofs.Reached.{inside_rest}

-- the record of the first leaf
abbrev mutual
  pub first_leaf : Tree → LeafNo
  first_leaf (leaf n k v) = record { 0 = n }
  first_leaf (branch n p ks) = first_of ks

  pub first_of : Kids → LeafNo
  first_of end = record { 0 = 0 }
  first_of (kid s t ks) = first_leaf t

nothing : {A : Type 0} {n : LeafNo} → None ≡ Some n → A
nothing e = absurd (let z : ◌≡◌ {A = ℕ} 0 1 = cc in omega arith)

same_good : {n m : LeafNo} {l k b c : ℕ} → n ≡ m → l ≡ k → b ≡ c → good n l b ≡ good m k c
same_good e f g = cc

module _ (st : List ℕ) (cap : ℕ) (few : cap ≤ most) where
  -- what holds of every key holds of the first one
  mutual
    first_every : (P : List ℕ → Type 0) (t : Tree) → Holds (memory_of st) t → Picture t → Every P t → P (key_of st (first_leaf t))
    first_every P (leaf n k v) h a e = subst P (sym h.key) e
    first_every P (branch n p ks) h a e = first_everys P p a.0 ks h.1 a.1 (omega (arith, a.3)) e

    first_everys : (P : List ℕ → Type 0) (p : ℕ) (w : List ℕ) (ks : Kids) → HoldsAll (memory_of st) ks → Pictures p w ks → 1 ≤ count ks → Everys P ks → P (key_of st (first_of ks))
    first_everys P p w end h a c e = absurd (omega arith)
    first_everys P p w (kid s t ks) h a c e = first_every P t h.0 a.0 e.0

  -- ---- the children of a branch at position p, whose leaves agree with w

  module _ (p budget : ℕ) (w : List ℕ) (below : ℕ → Link → Maybe Seen) (n : LeafNo) (ref : Agree p w (key_of st n)) where
    -- each child is found good within enough leaves
    abbrev Each : Kids → Type 0
    Each end = Unit {0}
    Each (kid s u ks) = ((m : ℕ) → leaf_count u ≤ m → below m (link_to (root u)) ≡ good (first_leaf u) (leaf_count u) (branch_count u)) × Each ks

    -- n is the first leaf of all: of the children yet to be met, or of those before them, whose slots are below `low`
    record Leads (t : Tally) (low : ℕ) (ks : Kids) : Type 0 where
      fresh : t.first ≡ None → (t.kids ≡ 0) × (first_of ks ≡ n)
      same : (m : LeafNo) → t.first ≡ Some m → m ≡ n
      lower : (m : LeafNo) → t.first ≡ Some m → nibble (key_of st n) p < low

    module _ (t : Tally) (low s : ℕ) (u : Tree) (ks : Kids) (le : low ≤ s) (h : Holds (memory_of st) u) (pic : Picture u) (b : Every (Below p w s) u) (leads : Leads t low (kid s u ks)) where
      slot_is : nibble (key_of st (first_leaf u)) p ≡ s
      slot_is = first_every (λ k. nibble k p ≡ s) u h pic (every_map (λ k z. z.slot) u b)

      agrees : Agree p w (key_of st (first_leaf u))
      agrees = first_every (Agree p w) u h pic (every_map (λ k z. z.agree) u b)

      differs : (m : LeafNo) → t.first ≡ Some m → critical (key_of st m) (key_of st (first_leaf u)) ≡ p
      differs m e =
          rw (leads.same m e)
          (sym (critical_only (key_of st n) (key_of st (first_leaf u)) p (agree_trans (agree_sym ref) agrees) (λ q. omega (arith, q, slot_is, leads.lower m e))))

      stands_so : stands st p s t (first_leaf u) ≡ true
      unfolding stands
      stands_so = rw (eq-eqb (nibble (key_of st (first_leaf u)) p) s slot_is) (go t.first refl)
        where
          go : (o : Maybe LeafNo) → t.first ≡ o → parts_at st p o (first_leaf u) ≡ true
          go None e = refl
          go (Some m) e = eq-eqb (critical (key_of st m) (key_of st (first_leaf u))) p (differs m e)

      abbrev next : Tally
      next = tally (t.kids + 1) (Some (head t.first (first_leaf u))) (t.leaves + leaf_count u) (t.branches + branch_count u)

      head_is : head t.first (first_leaf u) ≡ n
      head_is = go t.first refl
        where
          go : (o : Maybe LeafNo) → t.first ≡ o → head o (first_leaf u) ≡ n
          go None e = (leads.fresh e).1
          go (Some m) e = leads.same m e

      leads_on : Leads next (suc s) ks
      leads_on = record {
        fresh = λ e. absurd (let z : ◌≡◌ {A = ℕ} 0 1 = cc in omega arith);
        same = λ m e. let q : head t.first (first_leaf u) ≡ m = cc in sym q ∙ head_is;
        lower = λ m e. below_next t.first refl;
      }
        where
          below_next : (o : Maybe LeafNo) → t.first ≡ o → nibble (key_of st n) p < suc s
          below_next None e = omega (arith, ap (λ (m : LeafNo). nibble (key_of st m) p) (leads.fresh e).1, slot_is)
          below_next (Some m) e = omega (arith, leads.lower m e)

      added : add_kid st p s t (good (first_leaf u) (leaf_count u) (branch_count u)) ≡ Some next
      unfolding add_kid
      added = rw stands_so

    kids_good : (m : ℕ) (t : Tally) (low : ℕ) (ks : Kids) → HoldsAll (memory_of st) ks → Pictures p w ks → SlotsRise low ks → Inside st cap few (branch m p ks) → Each ks
        → Leads t low ks → 2 ≤ t.kids + count ks → t.leaves + tallies (λ i. 1) (λ i q. 0) ks ≤ budget
        → kids_seen st cap p budget below (codes (row ks)) t
        ≡ good n (t.leaves + tallies (λ i. 1) (λ i q. 0) ks) (t.branches + tallies (λ i. 0) (λ i q. 1) ks + 1)
    unfolding kids_seen
    kids_good m t low end h a o i each leads two room = go t.first refl
      where
        go : (o : Maybe LeafNo) → t.first ≡ o → finish t ≡ good n (t.leaves + 0) (t.branches + 0 + 1)
        go None e = absurd (omega (arith, (leads.fresh e).0))
        go (Some f) e = sym (two_kids t f e (omega arith)) ∙ same_good (leads.same f e) (omega arith) (omega arith)
    kids_good m t low (kid s u ks) h a o i each leads two room =
        rw (
          link_back st cap few u a.0 (inside_at st cap few here i),
          each.0 (budget - t.leaves) (omega arith),
          added t low s u ks o.0 h.0 a.0 a.2 leads,
        )
        (kids_good m (next t low s u ks o.0 h.0 a.0 a.2 leads) (suc s) ks h.1 a.3 o.1 (inside_rest st cap few m p s u ks i) each.1
        (leads_on t low s u ks o.0 h.0 a.0 a.2 leads) (omega arith) (omega arith)
        ∙ same_good refl (omega arith) (omega arith))

  -- ---- a node

  leaf_good : (f low budget n v : ℕ) (k : List ℕ) → Holds (memory_of st) (leaf n k v) → 1 ≤ budget → seen st cap f low budget (link_to (root (leaf n k v))) ≡ good (record { 0 = n }) 1 0
  unfolding seen leaf_seen
  leaf_good zero low budget n v k h l = rw (lt-ltb 0 budget l, le-leb (leaf_in st n).size key_limit (omega (arith, h.size, h.fits)))
  leaf_good (suc f) low budget n v k h l = rw (lt-ltb 0 budget l, le-leb (leaf_in st n).size key_limit (omega (arith, h.size, h.fits)))

  branch_good : (f low budget n p : ℕ) (ks : Kids) → Holds (memory_of st) (branch n p ks) → (a : Picture (branch n p ks)) → low ≤ p → Inside st cap few (branch n p ks)
      → leaf_count (branch n p ks) ≤ budget
      → ((r : LeafNo) (ref : Agree p a.0 (key_of st r)) → Each p budget a.0 (λ m k. seen st cap f (p + 1) m k) r ref ks)
      → seen st cap (suc f) low budget (link_to (root (branch n p ks))) ≡ good (first_of ks) (leaf_count (branch n p ks)) (branch_count (branch n p ks))
  unfolding seen
  branch_good f low budget n p ks h a s i l each =
      let ref : Agree p a.0 (key_of st (first_of ks)) = first_everys (Agree p a.0) p a.0 ks h.1 a.1 (omega (arith, a.3)) (everys_map (λ k z. z.agree) ks (kids_from p a.0 0 ks a.1 a.2)) in
      rw (le-ltb p low s, h.0)
      (kids_good p budget a.0 (λ m k. seen st cap f (p + 1) m k) (first_of ks) ref n none_yet 0 ks h.1 a.1 a.2 i (each (first_of ks) ref)
      (record { fresh = λ e. (refl, refl); same = λ m e. nothing e; lower = λ m e. nothing e }) (omega (arith, a.3)) (omega arith)
      ∙ same_good refl (omega arith) (omega arith))

  mutual
    pub seen_good : (f low budget : ℕ) (t : Tree) → Holds (memory_of st) t → Picture t → StartsAt low t → Inside st cap few t → 2 * key_limit ≤ low + f → leaf_count t ≤ budget
        → seen st cap f low budget (link_to (root t)) ≡ good (first_leaf t) (leaf_count t) (branch_count t)
    seen_good f low budget (leaf n k v) h a s i d l = leaf_good f low budget n v k h l
    seen_good zero low budget (branch n p ks) h a s i d l = absurd (omega (arith, place_bound n p ks a))
    seen_good (suc f) low budget (branch n p ks) h a s i d l =
        branch_good f low budget n p ks h a s i l (λ r ref. each_good f budget n p a.0 ks h.1 a.1 i (omega arith) r ref)

    each_good : (f budget n p : ℕ) (w : List ℕ) (ks : Kids) → HoldsAll (memory_of st) ks → Pictures p w ks → Inside st cap few (branch n p ks) → 2 * key_limit ≤ p + 1 + f
        → (r : LeafNo) (ref : Agree p w (key_of st r)) → Each p budget w (λ m k. seen st cap f (p + 1) m k) r ref ks
    each_good f budget n p w end h a i d r ref = tt
    each_good f budget n p w (kid s u ks) h a i d r ref = (
      (λ m l. seen_good f (p + 1) m u h.0 a.0 (starts_so u a.1) (inside_at st cap few here i) d l),
      each_good f budget n p w ks h.1 a.3 (inside_rest st cap few n p s u ks i) d r ref,
    )
      where
        starts_so : (u : Tree) → StartsAt (suc p) u → StartsAt (p + 1) u
        starts_so (leaf m k v) q = tt
        starts_so (branch m q us) z = omega arith

-- What the walk finds good is a held picture. Assumes nothing.
use Prim.Native.Nat.{ℕ, zero, suc, ◌+◌, ◌-◌, ◌≤◌, ◌<◌}
use mathlib.Core.Path.{◌≡◌, refl, sym, ap, subst, ◌∙◌}
use mathlib.Core.Logic.{◌⊎◌, inl, inr}
use mathlib.Core.Bool.{Bool, true, false, cond, ◌&&◌}
use mathlib.Core.List.{List, [], ◌∷◌}
use native.Mathlib.Omega.{arith}
use native.Mathlib.Decide.{ℕ_discrete}
use lib.Dec.{leb, ltb, eqb}
use lib.ListN.{length}
use borrow.Author.Tests.{eqb-true, leb-true, ltb-false}
use Rattle.std.specs.Prelude.{Option as Maybe, Some, None, Result, Ok, Err}
use Rattle.model.specs.Key.{key_limit, Bytes}
use Rattle.model.specs.Numbers.{most}
use Rattle.model.specs.Nibble.{nibble, slot_count, critical, Agree}
use Rattle.model.specs.Picture.{Tree, leaf, branch, Kids, end, kid, Every, SlotsRise, StartsAt, Picture, Pictures, count}
use Rattle.model.proofs.KeyLaws.{agree_refl, agree_less, agree_trans, critical_agree}
use Rattle.model.proofs.TreeLaws.{every_map, everys_map, kids_from}
use Rattle.pictures.specs.Records.{tallies, at, leaf_times, branch_times, leaves as leaf_count, branches as branch_count}
use Rattle.pictures.specs.Stored.{root, row, Holds, HoldsAll}
use Rattle.pictures.proofs.ChainLaws.{at_other}
use Rattle.fields.proofs.PartLaws.{length_part}
use Rattle.bitmap.specs.Entries.{Entry, Rising}
use Rattle.node.specs.Layout.{start}
use Rattle.node.specs.Child.{number_in, link_of, item_of, to_leaf as leaf_link, to_branch as branch_link}
use Rattle.node.specs.Leaf.{key_size, leaf_in}
use Rattle.node.specs.Branch.{children_in}
use Rattle.node.proofs.ChildLaws.{within}
use Rattle.node.proofs.HeaderLaws.{and_left, and_right, block_in}
use Rattle.node.specs.declared.child.LeafNo.{LeafNo}
use Rattle.node.specs.declared.child.BranchNo.{BranchNo}
use Rattle.node.specs.declared.child.Child.{Child as Node}
use Rattle.node.specs.declared.child.Child.TheVariants.{Leaf, Branch}
use Rattle.node.specs.declared.child.Link.{Link}
use Rattle.trie_spec.specs.Walk.{on_root, on_node}
use Rattle.trie_spec.specs.Accepted.{link_to, codes, memory_of}
use Rattle.trie_spec.proofs.HeldLaws.{Inside}
use Rattle.audit_tree.specs.Walk.{key_of, tally, good, none_yet, leaf_seen, stands, parts_at, head, add_kid, on_first, finish, on_counted, kids_seen, seen}
use Rattle.audit_tree.specs.declared.tree.Seen.{Seen}
use Rattle.audit_tree.specs.declared.tree.Tally.{Tally}
use Rattle.audit_tree.proofs.SlotLaws.{children_rise}
use Rattle.audit.proofs.Reached.{some_or_none}
use Rattle.audit.proofs.Bytewise.{bytes_part, Small, children_small, item_back}
use Rattle.node.specs.declared.NotAStore.{NotAStore}

no_good : {A : Type 0} {n : LeafNo} {l b : ℕ} → None ≡ good n l b → A
no_good e = absurd (let z : ◌≡◌ {A = ℕ} 0 1 = cc in omega arith)

-- the parts of what is good
seen_same : {s r : Seen} → Some s ≡ Some r → s ≡ r
seen_same e = cc

first_same : {n m : LeafNo} → Some n ≡ Some m → n ≡ m
first_same e = cc

good_first : {n m : LeafNo} {l k b c : ℕ} → good n l b ≡ good m k c → n ≡ m
good_first e = ap (λ (s : Seen). s.first) (seen_same e)

good_leaves : {n m : LeafNo} {l k b c : ℕ} → good n l b ≡ good m k c → l ≡ k
good_leaves e = ap (λ (s : Seen). s.leaves) (seen_same e)

good_branches : {n m : LeafNo} {l k b c : ℕ} → good n l b ≡ good m k c → b ≡ c
good_branches e = ap (λ (s : Seen). s.branches) (seen_same e)

starts_less : (a b : ℕ) (t : Tree) → a ≤ b → StartsAt b t → StartsAt a t
starts_less a b (leaf n k v) h s = tt
starts_less a b (branch n p ks) h s = omega arith

-- the slots of children rise as those of their record
rise_of : (low high : ℕ) (ks : Kids) → Rising low high (codes (row ks)) → SlotsRise low ks
rise_of low high end r = tt
rise_of low high (kid s t ks) r = (r.0, rise_of (suc s) high ks r.2)

-- ---- what a test of a child says

record Stands (st : List ℕ) (p s : ℕ) (t : Tally) (n : LeafNo) : Type 0 where
  slot : nibble (key_of st n) p ≡ s
  beside : (m : LeafNo) → t.first ≡ Some m → critical (key_of st m) (key_of st n) ≡ p

stands_says : (st : List ℕ) (p s : ℕ) (t : Tally) (n : LeafNo) → stands st p s t n ≡ true → Stands st p s t n
unfolding stands
stands_says st p s t n h =
    let beside = and_right (eqb (nibble (key_of st n) p) s) (parts_at st p t.first n) h in
    record {
      slot = eqb-true (nibble (key_of st n) p) s (and_left (eqb (nibble (key_of st n) p) s) (parts_at st p t.first n) h);
      beside = λ m e. eqb-true (critical (key_of st m) (key_of st n)) p (rw e at beside);
    }

-- what is known of a child that a tally took
record Took (st : List ℕ) (p s : ℕ) (t t' : Tally) (r : Maybe Seen) : Type 0 where
  first : LeafNo
  leaves : ℕ
  branches : ℕ
  is : r ≡ good first leaves branches
  stood : Stands st p s t first
  after : t' ≡ tally (t.kids + 1) (Some (head t.first first)) (t.leaves + leaves) (t.branches + branches)

took : (st : List ℕ) (p s : ℕ) (t t' : Tally) (r : Maybe Seen) → add_kid st p s t r ≡ Some t' → Took st p s t t' r
unfolding add_kid
took st p s t t' None h = absurd (let z : ◌≡◌ {A = ℕ} 0 1 = cc in omega arith)
took st p s t t' (Some k) h = go (stands st p s t k.first) refl h
  where
    go : (x : Bool) → stands st p s t k.first ≡ x → cond x (Some (tally (t.kids + 1) (Some (head t.first k.first)) (t.leaves + k.leaves) (t.branches + k.branches))) None ≡ Some t' → Took st p s t t' (Some k)
    go false e h = absurd (let z : ◌≡◌ {A = ℕ} 0 1 = cc in omega arith)
    go true e h =
        let q : t' ≡ tally (t.kids + 1) (Some (head t.first k.first)) (t.leaves + k.leaves) (t.branches + k.branches) = cc in
        record { first = k.first; leaves = k.leaves; branches = k.branches; is = refl; stood = stands_says st p s t k.first e; after = q }

module _ (st : List ℕ) (cap : ℕ) (few : cap ≤ most) (bytes : Bytes st) (fits : start cap ≤ length st) where
  -- a picture that is held below a link, with its first leaf and its counts
  pub record Held (low : ℕ) (l : Link) (n : LeafNo) (leaves branches : ℕ) : Type 0 where
    pub tree : Tree
    pub holds : Holds (memory_of st) tree
    pub link : link_to (root tree) ≡ l
    pub picture : Picture tree
    pub starts : StartsAt low tree
    pub inside : Inside st cap few tree
    pub agree : Every (Agree low (key_of st n)) tree
    pub leaves_are : leaves ≡ leaf_count tree
    pub branches_are : branches ≡ branch_count tree

  -- ---- a leaf

  key_length : (n : ℕ) → n < cap → (leaf_in st n).size ≤ key_limit → (leaf_in st n).size ≡ length (leaf_in st n).key
  unfolding leaf_in
  key_length n h l =
      let room = block_in st cap n fits h in
      omega (arith, length_part st (start n) (key_size (leaf_in st n).size) (omega arith))

  key_bytes : (n : ℕ) → Bytes (leaf_in st n).key
  unfolding leaf_in
  key_bytes n = bytes_part st (start n) (key_size (leaf_in st n).size) bytes

  leaf_held : (low budget : ℕ) (l : Link) (m : LeafNo) (n : LeafNo) (lv br : ℕ) → l.child ≡ Leaf m → m.0 < cap → leaf_seen st m l.position budget ≡ good n lv br → Held low l n lv br
  unfolding leaf_seen
  leaf_held low budget l m n lv br c h e = go (eqb l.position 0 && (ltb 0 budget && leb (leaf_in st m.0).size key_limit)) refl e
    where
      go : (x : Bool) → (eqb l.position 0 && (ltb 0 budget && leb (leaf_in st m.0).size key_limit)) ≡ x → cond x (good m 1 0) None ≡ good n lv br → Held low l n lv br
      go false q e = no_good e
      go true q e =
          let placed : l.position ≡ 0 = eqb-true l.position 0 (and_left (eqb l.position 0) (ltb 0 budget && leb (leaf_in st m.0).size key_limit) q) in
          let short : (leaf_in st m.0).size ≤ key_limit = leb-true (leaf_in st m.0).size key_limit
          (and_right (ltb 0 budget) (leb (leaf_in st m.0).size key_limit) (and_right (eqb l.position 0) (ltb 0 budget && leb (leaf_in st m.0).size key_limit) q)) in
          let long = key_length m.0 h short in
          let first : m ≡ n = good_first e in
          let one : 1 ≡ lv = good_leaves e in
          let none : 0 ≡ br = good_branches e in
          record {
            tree = leaf m.0 (leaf_in st m.0).key (leaf_in st m.0).value;
            holds = record { fits = omega arith; size = long; key = refl; value = refl };
            link = link_is l c placed;
            picture = record { fits = omega arith; bytes = key_bytes m.0 };
            starts = tt;
            inside = record { leaves = λ r i. own r i (ℕ_discrete r m.0); branches = λ r i. absurd (omega arith) };
            agree = rw (← first) (agree_refl low (key_of st m));
            leaves_are = sym one;
            branches_are = sym none;
          }
        where
          link_is : (l : Link) → l.child ≡ Leaf m → l.position ≡ 0 → leaf_link m.0 0 ≡ l
          link_is l c p = let a : Leaf m ≡ l.child = sym c in let b : 0 ≡ l.position = sym p in rw (a, b)

          own : (r : ℕ) → 1 ≤ at r m.0 → Dec (r ≡ m.0) → r < cap
          own r i (yes q) = omega arith
          own r i (no d) = absurd (omega (arith, at_other r m.0 d))

  -- ---- the children of a branch at position p

  module _ (p budget : ℕ) (below : ℕ → Link → Maybe Seen)
      (sub : (m : ℕ) (k : Link) (n : LeafNo) (l b : ℕ) → number_in k.child < cap → below m k ≡ good n l b → Held (p + 1) k n l b) where
    record HeldKids (es : List Entry) (t : Tally) (n : LeafNo) (l b : ℕ) : Type 0 where
      kids : Kids
      items : codes (row kids) ≡ es
      holds : HoldsAll (memory_of st) kids
      pictures : Pictures p (key_of st n) kids
      leaves_in : (r : ℕ) → 1 ≤ tallies (at r) (λ m q. 0) kids → r < cap
      branches_in : (r : ℕ) → 1 ≤ tallies (λ m. 0) (λ m q. at r m) kids → r < cap
      leaves_are : l ≡ t.leaves + tallies (λ m. 1) (λ m q. 0) kids
      branches_are : b ≡ t.branches + tallies (λ m. 0) (λ m q. 1) kids + 1
      enough : 2 ≤ t.kids + count kids
      first_is : (m : LeafNo) → t.first ≡ Some m → m ≡ n

    kids_end : (t : Tally) (n : LeafNo) (l b : ℕ) → finish t ≡ good n l b → HeldKids [] t n l b
    unfolding finish
    kids_end t n l b e = by_first t.first refl e
      where
        go : (m : LeafNo) → t.first ≡ Some m → (x : Bool) → (x ≡ false → 2 ≤ t.kids) → cond x None (good m t.leaves (t.branches + 1)) ≡ good n l b → HeldKids [] t n l b
        go m f true h e = no_good e
        go m f false h e =
            let lv : t.leaves ≡ l = good_leaves e in
            let br : t.branches + 1 ≡ b = good_branches e in
            record {
              kids = end;
              items = refl;
              holds = tt;
              pictures = tt;
              leaves_in = λ r i. absurd (omega arith);
              branches_in = λ r i. absurd (omega arith);
              leaves_are = omega arith;
              branches_are = omega arith;
              enough = omega (arith, h refl);
              first_is = λ k q. first_same (sym q ∙ f) ∙ good_first e;
            }

        by_first : (o : Maybe LeafNo) → t.first ≡ o → on_first (λ m. cond (ltb t.kids 2) None (good m t.leaves (t.branches + 1))) None o ≡ good n l b → HeldKids [] t n l b
        by_first None f e = no_good e
        by_first (Some m) f e = go m f (ltb t.kids 2) (ltb-false t.kids 2) e

    -- a child before others
    with_kid : (e : Entry) (es : List Entry) (t t' : Tally) (k : Link) (n : LeafNo) (l b : ℕ) → e.1 < 16777216 → link_of cap e.1 ≡ Ok k
        → Took st p e.0 t t' (below (budget - t.leaves) k) → HeldKids es t' n l b → HeldKids (e ∷ es) t n l b
    with_kid e es t t' k n l b small i w r =
        let u = sub (budget - t.leaves) k w.first w.leaves w.branches (within cap e.1 k i) w.is in
        let more : t'.kids ≡ t.kids + 1 = ap (λ (z : Tally). z.kids) w.after in
        let lv : t'.leaves ≡ t.leaves + w.leaves = ap (λ (z : Tally). z.leaves) w.after in
        let br : t'.branches ≡ t.branches + w.branches = ap (λ (z : Tally). z.branches) w.after in
        let named : head t.first w.first ≡ n = r.first_is (head t.first w.first) (ap (λ (z : Tally). z.first) w.after) in
        let own : Agree p (key_of st n) (key_of st w.first) = by_first t.first w.first n named w.stood.beside in
        let item : item_of (link_to (root u.tree)) ≡ e.1 = ap item_of u.link ∙ item_back cap e.1 k small i in
        record {
          kids = kid e.0 u.tree r.kids;
          items = row_is e es (item_of (link_to (root u.tree))) (codes (row r.kids)) item r.items;
          holds = (u.holds, r.holds);
          pictures = (
            u.picture,
            starts_less (suc p) (p + 1) u.tree (omega arith) u.starts,
            every_map
                (λ q a. record {
                  agree = agree_trans own (agree_less {p = p + 1} (omega arith) a);
                  slot = sym (a.on p (omega arith)) ∙ w.stood.slot;
                })
                u.tree
                u.agree,
            r.pictures,
          );
          leaves_in = λ q j. either (u.inside.leaves q) (r.leaves_in q) (some_or_none (leaf_times q u.tree)) j;
          branches_in = λ q j. either (u.inside.branches q) (r.branches_in q) (some_or_none (branch_times q u.tree)) j;
          leaves_are = omega (arith, r.leaves_are, lv, u.leaves_are);
          branches_are = omega (arith, r.branches_are, br, u.branches_are);
          enough = omega (arith, r.enough, more);
          first_is = λ m f. (rw f at named);
        }
      where
        either : {x y q : ℕ} → (1 ≤ x → q < cap) → (1 ≤ y → q < cap) → (1 ≤ x) ⊎ (x ≡ 0) → 1 ≤ x + y → q < cap
        either f g (inl z) j = f z
        either f g (inr z) j = g (omega arith)

        row_is : (e : Entry) (es : List Entry) (x : ℕ) (xs : List Entry) → x ≡ e.1 → xs ≡ es → (e.0, x) ∷ xs ≡ e ∷ es
        row_is e es x xs a b = rw (a, b)

        by_first : (o : Maybe LeafNo) (m n : LeafNo) → head o m ≡ n → ((f : LeafNo) → o ≡ Some f → critical (key_of st f) (key_of st m) ≡ p) → Agree p (key_of st n) (key_of st m)
        by_first None m n q c = rw (← q) (agree_refl p (key_of st m))
        by_first (Some f) m n q c =
            subst (λ (z : LeafNo). Agree p (key_of st z) (key_of st m)) q
            (subst (λ (z : ℕ). Agree z (key_of st f) (key_of st m)) (c f refl) (critical_agree (key_of st f) (key_of st m)))

    kids_held : (es : List Entry) (t : Tally) (n : LeafNo) (l b : ℕ) → Small es → kids_seen st cap p budget below es t ≡ good n l b → HeldKids es t n l b
    unfolding kids_seen
    kids_held [] t n l b s e = kids_end t n l b e
    kids_held (d ∷ es) t n l b s e = by_link (link_of cap d.1) refl e (λ t' q. kids_held es t' n l b s.1 q)
      where
        by_count : (k : Link) → link_of cap d.1 ≡ Ok k → (c : Maybe Tally) → add_kid st p d.0 t (below (budget - t.leaves) k) ≡ c
            → on_counted (λ t'. kids_seen st cap p budget below es t') None c ≡ good n l b
            → ((t' : Tally) → kids_seen st cap p budget below es t' ≡ good n l b → HeldKids es t' n l b) → HeldKids (d ∷ es) t n l b
        by_count k i (Some t') a e rest = with_kid d es t t' k n l b s.0 i (took st p d.0 t t' (below (budget - t.leaves) k) a) (rest t' e)
        by_count k i None a e rest = no_good e

        by_link : (r : Result Link NotAStore) → link_of cap d.1 ≡ r
            → on_root (λ k. on_counted (λ t'. kids_seen st cap p budget below es t') None (add_kid st p d.0 t (below (budget - t.leaves) k))) None r ≡ good n l b
            → ((t' : Tally) → kids_seen st cap p budget below es t' ≡ good n l b → HeldKids es t' n l b) → HeldKids (d ∷ es) t n l b
        by_link (Ok k) i e rest = by_count k i (add_kid st p d.0 t (below (budget - t.leaves) k)) refl e rest
        by_link (Err z) i e rest = no_good e

    branch_held : (low : ℕ) (b : BranchNo) (n : LeafNo) (l c : ℕ) → b.0 < cap → low ≤ p → kids_seen st cap p budget below (children_in st b.0) none_yet ≡ good n l c
        → Held low (branch_link b.0 p) n l c
    branch_held low b n l c h s e =
        let r = kids_held (children_in st b.0) none_yet n l c (children_small st b.0 bytes) e in
        let rise = rise_of 0 slot_count r.kids (subst (Rising 0 slot_count) (sym r.items) (children_rise st b.0)) in
        record {
          tree = branch b.0 p r.kids;
          holds = (sym r.items, r.holds);
          link = refl;
          picture = (key_of st n, r.pictures, rise, omega (arith, r.enough));
          starts = s;
          inside = record { leaves = λ q j. r.leaves_in q (omega arith); branches = λ q j. own q j (ℕ_discrete q b.0) (r.branches_in q) };
          agree = everys_map (λ k f. agree_less {p = p} (omega arith) f.agree) r.kids (kids_from p (key_of st n) 0 r.kids r.pictures rise);
          leaves_are = omega (arith, r.leaves_are);
          branches_are = omega (arith, r.branches_are);
        }
      where
        own : {x : ℕ} (q : ℕ) → 1 ≤ at q b.0 + x → Dec (q ≡ b.0) → (1 ≤ x → q < cap) → q < cap
        own q j (yes z) f = omega arith
        own q j (no d) f = f (omega (arith, at_other q b.0 d))

  -- ---- a node

  pub seen_held : (f low budget : ℕ) (l : Link) (n : LeafNo) (lv br : ℕ) → number_in l.child < cap → seen st cap f low budget l ≡ good n lv br → Held low l n lv br
  unfolding seen
  seen_held zero low budget l n lv br h e = go l.child refl e
    where
      go : (c : Node) → l.child ≡ c → on_node (λ m. leaf_seen st m l.position budget) (λ b. None) c ≡ good n lv br → Held low l n lv br
      go (Leaf m) i e = leaf_held low budget l m n lv br i (rw i at h) e
      go (Branch b) i e = no_good e
  seen_held (suc f) low budget l n lv br h e = go l.child refl e (λ m k n' l' b i q. seen_held f (l.position + 1) m k n' l' b i q)
    where
      branched : (b : BranchNo) → l.child ≡ Branch b → branch_link b.0 l.position ≡ l
      branched b i = let a : Branch b ≡ l.child = sym i in rw a

      at_branch : (b : BranchNo) → l.child ≡ Branch b → (x : Bool) → (x ≡ false → low ≤ l.position)
          → cond x None (kids_seen st cap l.position budget (λ m k. seen st cap f (l.position + 1) m k) (children_in st b.0) none_yet) ≡ good n lv br
          → ((m : ℕ) (k : Link) (n : LeafNo) (l' b : ℕ) → number_in k.child < cap → seen st cap f (l.position + 1) m k ≡ good n l' b → Held (l.position + 1) k n l' b)
          → Held low l n lv br
      at_branch b i true s e sub = no_good e
      at_branch b i false s e sub =
          subst (λ (z : Link). Held low z n lv br) (branched b i)
          (branch_held l.position budget (λ m k. seen st cap f (l.position + 1) m k) sub low b n lv br (rw i at h) (s refl) e)

      go : (c : Node) → l.child ≡ c
          → on_node (λ m. leaf_seen st m l.position budget)
          (λ b. cond (ltb l.position low) None (kids_seen st cap l.position budget (λ m k. seen st cap f (l.position + 1) m k) (children_in st b.0) none_yet)) c ≡ good n lv br
          → ((m : ℕ) (k : Link) (n : LeafNo) (l' b : ℕ) → number_in k.child < cap → seen st cap f (l.position + 1) m k ≡ good n l' b → Held (l.position + 1) k n l' b)
          → Held low l n lv br
      go (Leaf m) i e sub = leaf_held low budget l m n lv br i (rw i at h) e
      go (Branch b) i e sub = at_branch b i (ltb l.position low) (ltb-false l.position low) e sub

-- The check over bytes says yes exactly where the store is accepted. Assumes nothing.
use Prim.Native.Nat.{ℕ, zero, suc, ◌-◌, ◌≤◌, ◌<◌}
use mathlib.Core.Path.{◌≡◌, refl, sym, ap, subst, ◌∙◌}
use mathlib.Core.Bool.{Bool, true, false, cond, ◌&&◌, true≢false}
use mathlib.Core.List.{List}
use mathlib.Core.Option.{Option, none, some}
use native.Mathlib.Omega.{arith}
use lib.Dec.{eqb}
use lib.ListN.{length, get_or}
use borrow.Author.Tests.{eq-eqb, ne_eqb, eqb-true}
use mir.Syntax.{w8}
use mir.Val.{Fits}
use Rattle.std.specs.Prelude.{Option as Maybe, Some, None}
use Rattle.model.specs.Key.{Bytes}
use Rattle.model.specs.Numbers.{most}
use Rattle.model.specs.Picture.{Tree, Picture, Pictured}
use Rattle.model.proofs.Bounds.{starts_zero}
use Rattle.pictures.specs.Records.{leaf_times, branch_times, leaves as leaf_count, branches as branch_count}
use Rattle.pictures.specs.Stored.{Holds, HoldsLeft}
use Rattle.pictures.specs.Chain.{sum}
use Rattle.pictures.proofs.ChainLaws.{below_of, sum_zero, sum_leaves, sum_branches}
use Rattle.pictures.proofs.Tally.{fewer_branches}
use Rattle.fields.proofs.NumberLaws.{little_below}
use Rattle.node.specs.Layout.{start}
use Rattle.node.specs.Child.{link_of, item_of}
use Rattle.node.specs.Header.{head_in, head_of}
use Rattle.records.specs.Chain.{Kind, leaves, branches}
use Rattle.records.specs.Create.{no_root}
use Rattle.node.proofs.ChildLaws.{within}
use Rattle.node.proofs.HeaderLaws.{Right, and_left, and_right, good_right, blocks_fit, few}
use Rattle.node.specs.declared.child.LeafNo.{LeafNo}
use Rattle.node.specs.declared.child.Link.{Link}
use Rattle.node.specs.declared.header.Header.{Header}
use Rattle.node.specs.declared.NotAStore.{NotAStore}
use Rattle.std.specs.Prelude.{Result, Ok, Err}
use Rattle.trie_spec.specs.Walk.{steps, on_root}
use Rattle.trie_spec.specs.Accepted.{memory_of, leaf_uses, branch_uses, Rooted, Kept, Accepted}
use Rattle.trie_spec.proofs.HeldLaws.{bytes_of, Inside, link_back}
use Rattle.audit_tree.specs.Walk.{seen, counts_right, tree_right}
use Rattle.audit_tree.specs.Accepts.{chain_right, kept_right, records_right, on_head, accepts_in}
use Rattle.audit_tree.specs.declared.tree.Seen.{Seen}
use Rattle.audit.proofs.Chained.{right_chain, chain_right_lem}
use Rattle.audit.proofs.Bytewise.{bytes_get, item_back}
use Rattle.audit.proofs.Reached.{leaf_once, leaf_apart, branch_once, branch_apart}
use Rattle.audit.proofs.Sees.{Held, seen_held}
use Rattle.audit.proofs.Passes.{seen_good}

no_true : {A : Type 0} → false ≡ true → A
no_true e = absurd (true≢false (sym e))

-- ---- what the records of one kind come to

-- the uses of the records of a kind: none twice, none past the capacity, none of a free record, as many as the header says
record Uses (K : Kind) (st : List ℕ) (uses : ℕ → ℕ) : Type 0 where
  once : (r : ℕ) → uses r ≤ 1
  within_cap : (r : ℕ) → (head_in st).capacity ≤ r → uses r ≡ 0
  total : sum uses (head_in st).capacity ≡ K.used (head_in st)
  apart : (r : ℕ) → 1 ≤ uses r → K.is_free st r ≡ true → ⊥

kept_of : (K : Kind) (st : List ℕ) (uses : ℕ → ℕ) → Uses K st uses → K.used (head_in st) ≤ (head_in st).capacity → kept_right K st (head_in st) ≡ true
    → (xs : List ℕ) × Kept K st uses xs
kept_of K st uses u le h =
    let (xs, c, l) = right_chain K st (head_in st).capacity ((head_in st).capacity - K.used (head_in st)) (K.first (head_in st)) h in (
      xs,
      record {
        once = u.once;
        within = u.within_cap;
        total = u.total;
        apart = λ r i f. u.apart r i f.1;
        below = λ r f. f.0;
        chain = c;
        counted = omega arith;
      },
    )

of_kept : (K : Kind) (st : List ℕ) (uses : ℕ → ℕ) (xs : List ℕ) → Kept K st uses xs → kept_right K st (head_in st) ≡ true
of_kept K st uses xs k =
    let e : length xs ≡ (head_in st).capacity - K.used (head_in st) = omega (arith, k.counted) in
    subst (λ (n : ℕ). chain_right K st (head_in st).capacity n (K.first (head_in st)) ≡ true) e (chain_right_lem K st (head_in st).capacity (K.first (head_in st)) xs k.chain)

-- the root's item is a number of 3 bytes
root_small : (st : List ℕ) → Bytes st → (head_in st).root < 16777216
unfolding head_in
root_small st b = little_below 3 st 12 (λ i l m. bytes_get st b i)

-- where every record that is reached is one of the store's, none past them is reached
inside_none : (f : ℕ → ℕ) (cap : ℕ) → ((r : ℕ) → 1 ≤ f r → r < cap) → (r : ℕ) → cap ≤ r → f r ≡ 0
inside_none f cap h r l = go (f r) refl
  where
    go : (n : ℕ) → f r ≡ n → f r ≡ 0
    go zero e = e
    go (suc n) e = absurd (omega (arith, h r (omega arith)))

module _ (st : List ℕ) (right : Right st (head_in st)) where
  abbrev h : Header
  h = head_in st

  abbrev cap : ℕ
  cap = h.capacity

  few_records : cap ≤ most
  few_records = omega (arith, right.capacity, few (length st))

  room : start cap ≤ length st
  room = omega (arith, right.capacity, blocks_fit (length st) right.long)

  -- ---- a tree that is right is one that is held

  record Told (o : Option Tree) : Type 0 where
    held : HoldsLeft (memory_of st) o
    rooted : Rooted h.root o
    picture : Pictured o
    leaf_uses_lem : Uses leaves st (leaf_uses o)
    branch_uses_lem : Uses branches st (branch_uses o)

  told_none : h.root ≡ no_root → h.leaves ≡ 0 → h.branches ≡ 0 → Told none
  told_none r l b = record {
    held = tt;
    rooted = r;
    picture = tt;
    leaf_uses_lem = record { once = λ q. omega arith; within_cap = λ q i. refl; total = sum_zero cap ∙ sym l; apart = λ q i f. omega arith };
    branch_uses_lem = record { once = λ q. omega arith; within_cap = λ q i. refl; total = sum_zero cap ∙ sym b; apart = λ q i f. omega arith };
  }

  module _ (bytes : Bytes st) where
    told_some : (l : Link) (n : LeafNo) (lv br : ℕ) → link_of cap h.root ≡ Ok l → Held st cap few_records bytes room 0 l n lv br → lv ≡ h.leaves → br ≡ h.branches
        → (o : Option Tree) × Told o
    told_some l n lv br e u el eb =
        let t : Tree = u.tree in
        let no-leaf = inside_none (λ r. leaf_times r t) cap u.inside.leaves in
        let no_branch = inside_none (λ r. branch_times r t) cap u.inside.branches in (
          some t,
          record {
            held = u.holds;
            rooted = sym (ap item_of u.link ∙ item_back cap h.root l (root_small st bytes) e);
            picture = u.picture;
            leaf_uses_lem = record {
              once = λ r. leaf_once st cap few_records r t u.holds u.picture;
              within_cap = no-leaf;
              total = sum_leaves cap t no-leaf ∙ sym u.leaves_are ∙ el;
              apart = λ r i f. leaf_apart st cap few_records r t i u.holds f;
            };
            branch_uses_lem = record {
              once = λ r. branch_once st cap few_records r t u.holds u.picture u.inside;
              within_cap = no_branch;
              total = sum_branches cap t no_branch ∙ sym u.branches_are ∙ eb;
              apart = λ r i f. branch_apart st cap few_records r t i u.holds u.picture u.inside f;
            };
          },
        )

    tree_told : tree_right st cap h.leaves h.branches h.root ≡ true → (o : Option Tree) × Told o
    unfolding tree_right counts_right
    tree_told e = by_leaves (eqb h.leaves 0) (eqb-true h.leaves 0) e
      where
        by_seen : (l : Link) → link_of cap h.root ≡ Ok l → (s : Maybe Seen) → seen st cap steps 0 h.leaves l ≡ s → counts_right h.leaves h.branches s ≡ true → (o : Option Tree) × Told o
        by_seen l i None q e = no_true e
        by_seen l i (Some s) q e =
            told_some l s.first s.leaves s.branches i
            (seen_held st cap few_records bytes room steps 0 h.leaves l s.first s.leaves s.branches (within cap h.root l i) q)
            (eqb-true s.leaves h.leaves (and_left (eqb s.leaves h.leaves) (eqb s.branches h.branches) e))
            (eqb-true s.branches h.branches (and_right (eqb s.leaves h.leaves) (eqb s.branches h.branches) e))

        by_link : (r : Result Link NotAStore) → link_of cap h.root ≡ r
            → on_root (λ l. counts_right h.leaves h.branches (seen st cap steps 0 h.leaves l)) false r ≡ true → (o : Option Tree) × Told o
        by_link (Ok l) i e = by_seen l i (seen st cap steps 0 h.leaves l) refl e
        by_link (Err z) i e = no_true e

        by_leaves : (x : Bool) → (x ≡ true → h.leaves ≡ 0)
            → cond x (eqb h.root no_root && eqb h.branches 0)
            (on_root (λ l. counts_right h.leaves h.branches (seen st cap steps 0 h.leaves l)) false (link_of cap h.root)) ≡ true
            → (o : Option Tree) × Told o
        by_leaves true z e = (
          none,
          told_none
              (eqb-true h.root no_root (and_left (eqb h.root no_root) (eqb h.branches 0) e))
              (z refl)
              (eqb-true h.branches 0 (and_right (eqb h.root no_root) (eqb h.branches 0) e)),
        )
        by_leaves false z e = by_link (link_of cap h.root) refl e

    records_told : records_right st h ≡ true → head_of st ≡ Ok h → (o : Option Tree) × Accepted st o
    unfolding records_right
    records_told e g =
        let tree : Bool = tree_right st cap h.leaves h.branches h.root in
        let more = and_right tree (kept_right leaves st h && kept_right branches st h) e in
        let (o, t) = tree_told (and_left tree (kept_right leaves st h && kept_right branches st h) e) in
        let (xs, k) = kept_of leaves st (leaf_uses o) t.leaf_uses_lem right.leaves (and_left (kept_right leaves st h) (kept_right branches st h) more) in
        let (ys, j) = kept_of branches st (branch_uses o) t.branch_uses_lem right.branches (and_right (kept_right leaves st h) (kept_right branches st h) more) in (
          o,
          record {
            bytes = λ i l. bytes_get st bytes i;
            head = g;
            held = t.held;
            rooted = t.rooted;
            picture = t.picture;
            free_leaves = xs;
            leaves = k;
            free_branches = ys;
            branches = j;
          },
        )

  -- ---- a tree that is held is right

  none_right : Rooted h.root none → h.leaves ≡ 0 → h.branches ≡ 0 → tree_right st cap h.leaves h.branches h.root ≡ true
  unfolding tree_right
  none_right r l b = rw (eq-eqb h.leaves 0 l, eq-eqb h.root no_root r, eq-eqb h.branches 0 b)

  some_right : (t : Tree) → Holds (memory_of st) t → Picture t → Inside st cap few_records t → Rooted h.root (some t) → leaf_count t ≡ h.leaves → branch_count t ≡ h.branches
      → tree_right st cap h.leaves h.branches h.root ≡ true
  unfolding tree_right counts_right
  some_right t a pic i r l b =
      rw (
        ne_eqb h.leaves 0 (λ z. omega (arith, fewer_branches t pic)),
        r,
        link_back st cap few_records t pic i,
        seen_good st cap few_records steps 0 h.leaves t a pic (starts_zero t) i (omega arith) (omega arith),
        eq-eqb (leaf_count t) h.leaves l,
        eq-eqb (branch_count t) h.branches b,
      )

  told_tree : (o : Option Tree) → Accepted st o → tree_right st cap h.leaves h.branches h.root ≡ true
  told_tree none a = none_right a.rooted (sym a.leaves.total ∙ sum_zero cap) (sym a.branches.total ∙ sum_zero cap)
  told_tree (some t) a =
      some_right t a.held a.picture
      (record { leaves = λ r l. below_of (λ q. leaf_times q t) cap r l a.leaves.within; branches = λ r l. below_of (λ q. branch_times q t) cap r l a.branches.within })
      a.rooted
      (sym (sum_leaves cap t a.leaves.within) ∙ a.leaves.total)
      (sym (sum_branches cap t a.branches.within) ∙ a.branches.total)

  told_records : (o : Option Tree) → Accepted st o → records_right st h ≡ true
  unfolding records_right
  told_records o a =
      rw (told_tree o a, of_kept leaves st (leaf_uses o) a.free_leaves a.leaves, of_kept branches st (branch_uses o) a.free_branches a.branches)

-- ---- the theorem, in both directions

pub accepts_accepted : (st : List ℕ) → ((i : ℕ) → Fits w8 (get_or st i 0)) → accepts_in st ≡ true → (o : Option Tree) × Accepted st o
unfolding accepts_in
accepts_accepted st f e = go (head_of st) refl e
  where
    go : (r : Result Header NotAStore) → head_of st ≡ r → on_head (records_right st) r ≡ true → (o : Option Tree) × Accepted st o
    go (Err x) q e = no_true e
    go (Ok h) q e =
        let i : h ≡ head_in st = (good_right st h q).is in
        let g : head_of st ≡ Ok (head_in st) = q ∙ ap Ok i in
        records_told st (good_right st (head_in st) g) (bytes_of st f) (subst (λ (z : Header). records_right st z ≡ true) i e) g

pub accepted_accepts : (st : List ℕ) (o : Option Tree) → Accepted st o → accepts_in st ≡ true
unfolding accepts_in
accepted_accepts st o a = rw a.head (told_records st (good_right st (head_in st) a.head) o a)

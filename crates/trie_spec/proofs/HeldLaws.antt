-- The descents over the bytes of a store that holds a tree are those over the tree. Assumes nothing.
use Prim.Native.Nat.{ℕ, zero, suc, ◌+◌, ◌≤◌, ◌<◌, Ordering}
use mathlib.Core.Path.{◌≡◌, refl, sym, ap, ◌∙◌}
use mathlib.Core.Logic.{◌⊎◌, inl, inr}
use mathlib.Core.Bool.{cond}
use mathlib.Core.List.{List, [], ◌∷◌}
use mathlib.Core.Option.{Option, none, some}
use native.Mathlib.Omega.{arith}
use lib.ListN.{length, get_or}
use lib.Dec.{compare_is_eq}
use mir.Syntax.{w8}
use mir.Val.{Fits}
use Rattle.model.specs.Key.{on_equal, Bytes}
use Rattle.model.specs.Numbers.{most}
use Rattle.model.specs.Nibble.{nibble}
use Rattle.model.specs.Picture.{Tree, leaf, branch, Kids, end, kid, Picture, closest, closest_k, first}
use Rattle.model.proofs.Compare.{Said, lower, same, higher, said}
use Rattle.model.proofs.KeyLaws.{order_eq}
use Rattle.model.proofs.Bounds.{place_bound}
use Rattle.model.proofs.Closest.{closest_every}
use Rattle.pictures.specs.Tree.{get_t}
use Rattle.pictures.specs.Records.{at, leaf_times, branch_times}
use Rattle.pictures.specs.Stored.{Child, to_leaf, to_branch, root, Row, row, child_at, Holds, At, here, Lacks}
use Rattle.pictures.proofs.Children.{tree_ind, at_or_lacks, row_at, row_lacks, holds_at, picture_at, closest_at, closest_lacks, get_at}
use Rattle.pictures.proofs.Frame.{tally_at, at_self}
use Rattle.bitmap.specs.Entries.{lookup}
use Rattle.node.specs.Child.{number_in, link_of, item_of}
use Rattle.node.specs.Leaf.{Is, leaf_in}
use Rattle.node.specs.Branch.{children_in, some_link, linked_in, near_in}
use Rattle.node.specs.declared.child.Link.{Link}
use Rattle.node.proofs.ChildLaws.{leaf_back, branch_back}
use Rattle.trie_spec.specs.Accepted.{link_to, codes, memory_of}
use Rattle.trie_spec.specs.Walk.{near, leaf_at}
use Rattle.trie_spec.proofs.WalkLaws.{near_leaf, near_step}
use Rattle.std.specs.Prelude.{Ok, Some, None}

-- the bytes of a slice are bytes
pub bytes_of : (k : List ℕ) → ((i : ℕ) → Fits w8 (get_or k i 0)) → Bytes k
bytes_of [] f = tt
bytes_of (b ∷ k) f = ((f 0).fits, bytes_of k (λ i. f (suc i)))

-- A row's items are the codes of its children.
abbrev pub coded : Option Child → Option ℕ
coded none = none
coded (some c) = some (item_of (link_to c))

pub lookup_codes : (s : ℕ) (r : Row) → lookup s (codes r) ≡ coded (child_at s r)
unfolding lookup
lookup_codes s [] = refl
lookup_codes s (e ∷ r) = go (said s e.0) (lookup_codes s r)
  where
    go : {o : Ordering} → Said s e.0 o → lookup s (codes r) ≡ coded (child_at s r)
        → cond (compare_is_eq o) (some (item_of (link_to e.1))) (lookup s (codes r)) ≡ coded (on_equal o (some e.1) (child_at s r))
    go (lower h) ih = ih
    go (same h) ih = refl
    go (higher h) ih = ih

-- a link that is read back: its number is a record's, its position a byte
pub record Linkable (l : Link) : Type 0 where
  pub number : number_in l.child < most
  pub position : l.position < 256

module _ (st : List ℕ) (cap : ℕ) (few : cap ≤ most) where
  -- Every record of the tree is one of the store's.
  pub record Inside (t : Tree) : Type 0 where
    pub leaves : (n : ℕ) → 1 ≤ leaf_times n t → n < cap
    pub branches : (n : ℕ) → 1 ≤ branch_times n t → n < cap

  pub inside_at : {n p s : ℕ} {u : Tree} {ks : Kids} → At s u ks → Inside (branch n p ks) → Inside u
  inside_at {n} {p} {s} {u} {ks} a i = record {
    leaves = λ m h. i.leaves m (omega (arith, h, tally_at (at m) (λ j q. 0) a));
    branches = λ m h. i.branches m (omega (arith, h, tally_at (λ j. 0) (λ j q. at m j) a));
  }

  pub own : (n p : ℕ) (ks : Kids) → Inside (branch n p ks) → n < cap
  own n p ks i = i.branches n (omega (arith, at_self n))

  -- the link to a tree is read back
  pub link_back : (t : Tree) → Picture t → Inside t → link_of cap (item_of (link_to (root t))) ≡ Ok (link_to (root t))
  link_back (leaf n k v) pic i = leaf_back cap few n 0 (i.leaves n (omega (arith, at_self n))) (omega arith)
  link_back (branch n p ks) pic i = branch_back cap few n p (own n p ks i) (omega (arith, place_bound n p ks pic))

  pub link_inside : (t : Tree) → Inside t → number_in (link_to (root t)).child < cap
  link_inside (leaf n k v) i = i.leaves n (omega (arith, at_self n))
  link_inside (branch n p ks) i = own n p ks i

  pub linkable : (t : Tree) → Picture t → Inside t → Linkable (link_to (root t))
  linkable (leaf n k v) pic i = record { number = omega (arith, few, link_inside (leaf n k v) i); position = omega arith }
  linkable (branch n p ks) pic i = record { number = omega (arith, few, link_inside (branch n p ks) i); position = omega (arith, place_bound n p ks pic) }

  -- a child's link, by its slot
  pub link_at : (n p s : ℕ) (ks : Kids) (u : Tree) → Holds (memory_of st) (branch n p ks) → At s u ks → Picture u → Inside u
      → linked_in cap s (children_in st n) ≡ Ok (Some (link_to (root u)))
  link_at n p s ks u h a pic i = rw (h.0, lookup_codes s (row ks), row_at a) (ap some_link (link_back u pic i))

  pub link_lacks : (n p s : ℕ) (ks : Kids) → Holds (memory_of st) (branch n p ks) → Lacks s ks → linked_in cap s (children_in st n) ≡ Ok None
  link_lacks n p s ks h d = rw (h.0, lookup_codes s (row ks), row_lacks s ks d)

  pub near_at : (n p s : ℕ) (ks : Kids) (u : Tree) → Holds (memory_of st) (branch n p ks) → At s u ks → Picture u → Inside u
      → near_in cap s (children_in st n) ≡ Ok (Some (link_to (root u)))
  near_at n p s ks u h a pic i = rw (h.0, lookup_codes s (row ks), row_at a) (ap some_link (link_back u pic i))

  pub near_first : (n p s r : ℕ) (t : Tree) (ks : Kids) → Holds (memory_of st) (branch n p (kid r t ks)) → Lacks s (kid r t ks) → Picture t → Inside t
      → near_in cap s (children_in st n) ≡ Ok (Some (link_to (root t)))
  near_first n p s r t ks h d pic i = rw (h.0, lookup_codes s (row (kid r t ks)), row_lacks s (kid r t ks) d) (ap some_link (link_back t pic i))

  module _ (k : List ℕ) where
    abbrev Walks : Tree → Type 0
    Walks t = Holds (memory_of st) t → Picture t → Inside t → (f d : ℕ) → length (closest k t).path < f
        → near st cap k f d (link_to (root t)) ≡ Ok (leaf_at (record { 0 = (closest k t).number }) (d + length (closest k t).path))

    -- a branch from which the descent goes to the child u
    goes : (n p : ℕ) (ks : Kids) (u : Tree) → near_in cap (nibble k p) (children_in st n) ≡ Ok (Some (link_to (root u))) → closest_k k (nibble k p) ks (first k ks) ≡ closest k u
        → ((f d : ℕ) → length (closest k u).path < f → near st cap k f d (link_to (root u)) ≡ Ok (leaf_at (record { 0 = (closest k u).number }) (d + length (closest k u).path)))
        → (f d : ℕ) → length (closest k (branch n p ks)).path < f
        → near st cap k f d (link_to (to_branch n p)) ≡ Ok (leaf_at (record { 0 = (closest k (branch n p ks)).number }) (d + length (closest k (branch n p ks)).path))
    goes n p ks u g e ih zero d b = absurd (omega arith)
    goes n p ks u g e ih (suc f) d b =
        near_step st cap k d (link_to (to_branch n p)) f (record { 0 = n }) refl (Ok (Some (link_to (root u)))) (sym g)
        ∙ rw e (ih f (d + 1) (omega (arith, b, ap (λ z. length z.path) e)) ∙ ap (λ (z : ℕ). Ok (leaf_at (record { 0 = (closest k u).number }) z)) (shift d (length (closest k u).path)))
      where
        shift : (a b : ℕ) → a + 1 + b ≡ a + suc b
        shift a b = omega arith

    pub walks : (t : Tree) → Walks t
    walks =
        tree_ind Walks
        (λ n l v h pic i f d b. at_leaf n f d b)
        (λ n p ks ih h pic i f d b. step n p ks ih h pic i f d b (at_or_lacks (nibble k p) ks))
      where
        at_leaf : (n f d : ℕ) → 0 < f → near st cap k f d (link_to (to_leaf n)) ≡ Ok (leaf_at (record { 0 = n }) (d + 0))
        at_leaf n zero d b = absurd (omega arith)
        at_leaf n (suc f) d b = near_leaf st cap k d (link_to (to_leaf n)) f (record { 0 = n }) refl ∙ ap (λ (z : ℕ). Ok (leaf_at (record { 0 = n }) z)) (zero_more d)
          where
            zero_more : (d : ℕ) → d ≡ d + 0
            zero_more d = omega arith

        step : (n p : ℕ) (ks : Kids) → ((s : ℕ) (u : Tree) → At s u ks → Walks u) → Holds (memory_of st) (branch n p ks) → (pic : Picture (branch n p ks)) → Inside (branch n p ks)
            → (f d : ℕ) → length (closest k (branch n p ks)).path < f → ((u : Tree) × At (nibble k p) u ks) ⊎ Lacks (nibble k p) ks
            → near st cap k f d (link_to (to_branch n p)) ≡ Ok (leaf_at (record { 0 = (closest k (branch n p ks)).number }) (d + length (closest k (branch n p ks)).path))
        step n p ks ih h pic i f d b (inl (u, a)) =
            let pu = (picture_at p pic.0 a pic.1).0 in
            goes n p ks u (near_at n p (nibble k p) ks u h a pu (inside_at a i)) (closest_at k (first k ks) a)
            (λ g c l. ih (nibble k p) u a (holds_at (memory_of st) a h.1) pu (inside_at a i) g c l) f d b
        step n p end ih h pic i f d b (inr q) = absurd (omega (arith, pic.3))
        step n p (kid r t ks) ih h pic i f d b (inr q) =
            goes n p (kid r t ks) t (near_first n p (nibble k p) r t ks h q pic.1.0 (inside_at here i)) (closest_lacks k (closest k t) (nibble k p) (kid r t ks) q)
            (λ g c l. ih r t here h.1.0 pic.1.0 (inside_at here i) g c l) f d b

    -- The closest leaf's record holds its key, and the value that the key has, if it is the one looked for.
    abbrev Hits : Tree → Type 0
    Hits t = Holds (memory_of st) t → Picture t → (v : ℕ) × Is (leaf_in st (closest k t).number) (closest k t).key v × (k ≡ (closest k t).key → get_t k t ≡ some v)

    pub hits : (t : Tree) → Hits t
    hits =
        tree_ind Hits
        (λ n l v h pic. (v, h, λ e. rw (order_eq e)))
        (λ n p ks ih h pic. step n p ks ih h pic (at_or_lacks (nibble k p) ks))
      where
        step : (n p : ℕ) (ks : Kids) → ((s : ℕ) (u : Tree) → At s u ks → Hits u) → Holds (memory_of st) (branch n p ks) → (pic : Picture (branch n p ks))
            → ((u : Tree) × At (nibble k p) u ks) ⊎ Lacks (nibble k p) ks
            → (v : ℕ) × Is (leaf_in st (closest k (branch n p ks)).number) (closest k (branch n p ks)).key v × (k ≡ (closest k (branch n p ks)).key → get_t k (branch n p ks) ≡ some v)
        step n p ks ih h pic (inl (u, a)) =
            rw (closest_at k (first k ks) a, get_at k a) (ih (nibble k p) u a (holds_at (memory_of st) a h.1) (picture_at p pic.0 a pic.1).0)
        step n p end ih h pic (inr d) = absurd (omega (arith, pic.3))
        step n p (kid r t ks) ih h pic (inr d) =
            let (v, i, g) = ih r t here h.1.0 pic.1.0 in
            rw (closest_lacks k (closest k t) (nibble k p) (kid r t ks) d)
            (v, i, λ e. absurd (d.0 (ap (λ (z : List ℕ). nibble z p) e ∙ (closest_every _ k t pic.1.0 pic.1.2).slot)))

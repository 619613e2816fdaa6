-- A page of an accepted store: the first entries under the prefix past the bound, and whether there are more. Assumes nothing.
use Prim.Native.Nat.{ℕ, zero, suc, ◌+◌, ◌-◌, ◌*◌, ◌≤◌}
use mathlib.Core.Path.{◌≡◌, refl, ap, ◌∙◌}
use mathlib.Core.Bool.{Bool, true, false, cond}
use mathlib.Core.List.{List, []}
use mathlib.Core.Option.{Option, none, some}
use native.Mathlib.Omega.{arith}
use lib.Dec.{leb}
use lib.ListN.{length, take, length-take}
use borrow.Author.Tests.{le-leb, leb-true, leb-false, eq-eqb, ne_eqb}
use Rattle.model.specs.Key.{starts_with}
use Rattle.model.specs.Map.{Entry, keep, pick}
use Rattle.model.specs.Nibble.{critical}
use Rattle.model.specs.Numbers.{most}
use Rattle.model.specs.Entry.{entries_bytes}
use Rattle.model.specs.Picture.{Tree, entries, Picture, closest}
use Rattle.model.proofs.Bounds.{starts_zero, depth_bound}
use Rattle.model.proofs.PageLaws.{page_last}
use Rattle.model.proofs.Unique.{listing_some}
use Rattle.pictures.specs.After.{passes, after_t, after_in}
use Rattle.pictures.specs.Prefix.{seek}
use Rattle.pictures.specs.Stored.{root, Holds}
use Rattle.pictures.proofs.PageWalk.{Reaches, Reached, seek_reached, walk_is}
use Rattle.pictures.proofs.Tally.{leaves_length}
use Rattle.fields.specs.Part.{splice}
use Rattle.fields.proofs.PartLaws.{splice_nil}
use Rattle.node.specs.Header.{head_in}
use Rattle.node.specs.Leaf.{leaf_in}
use Rattle.trie_spec.specs.Accepted.{link_to, memory_of, Accepted}
use Rattle.trie_spec.specs.Walk.{depth, steps, walk, first}
use Rattle.trie_spec.specs.Writes.{Outcome, outcome, on_closest}
use Rattle.trie_spec.specs.declared.descent.Spot.TheVariants.{Root}
use Rattle.trie_spec.specs.declared.descent.Walked.{Walked}
use Rattle.trie_spec.proofs.AcceptedLaws.{few, inside, leaf_count_lem, no_leaves, root_link}
use Rattle.trie_spec.proofs.HeldLaws.{Inside, walks, hits}
use Rattle.walk.specs.Walk.{Met, puts}
use Rattle.iterator.specs.Page.{page, nothing, blank, listed, list_past, list_beside, list_under, on_walked, list_from, list_in}
use Rattle.walk.specs.declared.walk.Stop.TheVariants.{Going, Further}
use Rattle.std.specs.Prelude.{Result, Ok, Err}
use Rattle.node.specs.declared.NotAStore.{NotAStore}
use Rattle.node.specs.NotAStore.{not_a_store}
use Rattle.iterator.specs.declared.page.Page.{Page}
use Rattle.walk.proofs.HeldLaws.{given, after_tree}
use Rattle.iterator.proofs.SeekLaws.{Ends, seek_ends}
use Rattle.walk.proofs.TakeLaws.{take_given}

-- The page of n entries that these are chosen from.
abbrev pub paged : ℕ → List Entry → List ℕ → Outcome (Result Page NotAStore)
paged n es out = outcome (Ok (page (length (take n es)) (length (entries_bytes (take n es))) (leb (length es) n))) (splice out 0 (entries_bytes (take n es)))

paged_none : (n : ℕ) (out : List ℕ) → outcome (Ok nothing) out ≡ paged n [] out
paged_none n out = go n
  where
    go : (m : ℕ) → outcome (Ok nothing) out ≡ paged m [] out
    go zero = rw (le-leb 0 0 (omega arith), splice_nil out 0)
    go (suc m) = rw (le-leb 0 (suc m) (omega arith), splice_nil out 0)

-- what the walk comes to
paged_some : (n : ℕ) (es : List Entry) (out : List ℕ) → listed n (puts (given es) (blank out n)) ≡ paged n es out
paged_some n es out = ap (listed n) (take_given es out 0 n) ∙ go (leb (length es) n) refl
  where
    bytes : List Entry → ℕ
    bytes xs = length (entries_bytes xs)

    go : (b : Bool) → leb (length es) n ≡ b
        → listed n (cond b (record { out = splice out 0 (entries_bytes es); at = 0 + bytes es; left = n - length es; stop = Going }) (record { out = splice out 0 (entries_bytes (take n es)); at = 0 + bytes (take n es); left = 0; stop = Further }))
        ≡ outcome (Ok (page (length (take n es)) (bytes (take n es)) b)) (splice out 0 (entries_bytes (take n es)))
    go true e =
        let all : take n es ≡ es = page_last n es e in
        let c : n - (n - length es) ≡ length es = omega (arith, leb-true (length es) n e) in
        let z : 0 + bytes es ≡ bytes es = omega arith in
        rw (all, c, z)
    go false e =
        let l : length (take n es) ≡ n = omega (arith, length-take n es, leb-false (length es) n e) in
        let c : n - 0 ≡ n = omega arith in
        let z : 0 + bytes (take n es) ≡ bytes (take n es) = omega arith in
        rw (l, c, z)

module _ (st q b : List ℕ) (too : Bool) (n : ℕ) (out : List ℕ) where
  -- below the subtree that the prefix leads to
  under_means : (cap : ℕ) (f : cap ≤ most) (u : Tree) → Reached q u → Holds (memory_of st) u → Inside st cap f u → list_under st cap q b too n out (link_to (root u)) ≡ paged n (after_in q too b (some u)) out
  under_means cap f u r h i =
      ap (on_closest (λ m d. list_beside st cap q b too n out (link_to (root u)) (leaf_in st m).key) (outcome (Err not_a_store) out))
      (walks st cap f b u h r.picture i steps 0 (omega (arith, depth_bound b u r.picture)))
      ∙ ap (list_beside st cap q b too n out (link_to (root u))) (hits st cap f b u h r.picture).1.key
      ∙ by (starts_with q (closest b u).key)
    where
      l : List ℕ
      l = (closest b u).key

      past : list_past st cap b too n out (link_to (root u)) (closest b u).key ≡ paged n (after_t b (critical b (closest b u).key) (passes too b (closest b u).key) u) out
      past =
          ap (λ (xs : List Met). listed n (puts xs (blank out n)))
          (after_tree st cap f b (critical b (closest b u).key) (passes too b (closest b u).key) u h r.picture i depth 0 (starts_zero u) (omega arith))
          ∙ paged_some n (after_t b (critical b (closest b u).key) (passes too b (closest b u).key) u) out

      by : (s : Bool) → cond s (list_past st cap b too n out (link_to (root u)) (closest b u).key) (outcome (Ok nothing) out)
          ≡ paged n (pick s (after_t b (critical b (closest b u).key) (passes too b (closest b u).key) u) []) out
      by true = past
      by false = paged_none n out

  -- from the root on
  from_means : (cap : ℕ) (f : cap ≤ most) (t : Tree) → Picture t → Holds (memory_of st) t → Inside st cap f t → list_from st cap q b too n out (link_to (root t)) ≡ paged n (after_in q too b (seek q t)) out
  from_means cap f t pic h i =
      go (seek q t) (walk st cap q (2 * length q) steps (first (link_to (root t)))) (seek_reached q t pic)
      (seek_ends st cap f q t h pic i 0 steps (starts_zero t) (omega arith) (omega arith) Root Root)
    where
      go : (o : Option Tree) (w : Result Walked NotAStore) → Reaches q o → Ends st cap f q o w → on_walked st cap q b too n out w ≡ paged n (after_in q too b o) out
      go none w r (m, s, e) = ap (on_walked st cap q b too n out) e ∙ paged_none n out
      go (some u) w r (at, above, e, hu, iu) = ap (on_walked st cap q b too n out) e ∙ under_means cap f u r hu iu

  -- An accepted store's page.
  pub page_means : (o : Option Tree) → Accepted st o → list_in st (head_in st) q b too n out ≡ paged n (keep (passes too b) (keep (starts_with q) (entries o))) out
  page_means none a = rw (eq-eqb (head_in st).leaves 0 (no_leaves st a)) (paged_none n out)
  page_means (some t) a =
      rw (ne_eqb (head_in st).leaves 0 (λ e. omega (arith, leaf_count_lem st t a, leaves_length t, listing_some t a.picture)), root_link st t a)
      (from_means (head_in st).capacity (few st (some t) a) t a.picture a.held (inside st t a))
      ∙ ap (λ (es : List Entry). paged n es out) (walk_is q too b t a.picture)

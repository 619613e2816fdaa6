-- What a page keeps on any bytes: the output's length, and every byte of it where the page is refused. Assumes nothing.
use Prim.Native.Nat.{ℕ, ◌-◌, ◌*◌, ◌≤◌}
use mathlib.Core.Path.{◌≡◌, refl, ◌∙◌}
use mathlib.Core.Bool.{Bool, true, false, cond}
use mathlib.Core.List.{List, [], ◌∷◌}
use mathlib.Core.Option.{none, some}
use native.Mathlib.Omega.{arith}
use native.Mathlib.Decide.{ℕ_discrete}
use lib.Dec.{eqb}
use lib.ListN.{length}
use borrow.Author.Tests.{eq-eqb, ne_eqb, eqb-true}
use Rattle.model.specs.Key.{starts_with}
use Rattle.model.specs.Nibble.{critical}
use Rattle.model.specs.Entry.{entry_bytes}
use Rattle.pictures.specs.After.{passes}
use Rattle.fields.proofs.PartLaws.{length_splice}
use Rattle.node.specs.Child.{link_of}
use Rattle.node.specs.Leaf.{leaf_in}
use Rattle.node.specs.declared.child.Link.{Link}
use Rattle.node.specs.declared.header.Header.{Header}
use Rattle.trie_spec.specs.Walk.{depth, steps, link_in, on_root, walk, near, first}
use Rattle.trie_spec.specs.Writes.{Outcome, outcome, on_closest}
use Rattle.trie_spec.specs.declared.descent.Walked.{Walked}
use Rattle.trie_spec.specs.declared.descent.Walked.TheVariants.{At, Missing}
use Rattle.trie_spec.specs.declared.descent.Closest.{Closest}
use Rattle.walk.specs.Walk.{Met, after, Sheet, is_stopped, add, put, puts}
use Rattle.iterator.specs.Page.{page, nothing, listed_of, blank, listed, list_past, list_beside, list_under, on_walked, list_from, list_in}
use Rattle.walk.specs.declared.walk.Stop.{Stop}
use Rattle.walk.specs.declared.walk.Stop.TheVariants.{Going, Further, Wrong as WentWrong}
use Rattle.std.specs.Prelude.{Result, Ok, Err}
use Rattle.node.specs.declared.NotAStore.{NotAStore}
use Rattle.node.specs.NotAStore.{not_a_store}
use Rattle.iterator.specs.declared.page.Page.{Page}

-- ---- what is written

-- one thing met: the output is as long, and unless an entry less is wanted it is the same
record Keeps (s t : Sheet) : Type 0 where
  size : length t.out ≡ length s.out
  left : t.left ≤ s.left
  same : t.left ≡ s.left → t.out ≡ s.out

put_keeps : (x : Met) (s : Sheet) → Keeps s (put x s)
put_keeps x s = go (is_stopped s.stop) x
  where
    unchanged : (stop : Stop) → Keeps s (record { out = s.out; at = s.at; left = s.left; stop = stop })
    unchanged stop = record { size = refl; left = omega arith; same = λ e. refl }

    go : (b : Bool) (y : Met) → Keeps s (cond b s (add y s))
    go true y = record { size = refl; left = omega arith; same = λ e. refl }
    go false none = unchanged WentWrong
    go false (some e) = by (ℕ_discrete s.left 0)
      where
        by : Dec (s.left ≡ 0) → Keeps s (add (some e) s)
        by (yes z) = rw (eq-eqb s.left 0 z) (unchanged Further)
        by (no z) = rw (ne_eqb s.left 0 z) (record { size = length_splice s.out s.at (entry_bytes e); left = omega arith; same = λ q. absurd (omega arith) })

puts_keeps : (xs : List Met) (s : Sheet) → Keeps s (puts xs s)
unfolding puts
puts_keeps [] s = record { size = refl; left = omega arith; same = λ e. refl }
puts_keeps (x ∷ xs) s =
    let a = put_keeps x s in
    let b = puts_keeps xs (put x s) in
    record { size = b.size ∙ a.size; left = omega (arith, a.left, b.left); same = λ e. b.same (omega (arith, a.left, b.left)) ∙ a.same (omega (arith, a.left, b.left)) }

-- ---- a page

pub record Decent (out : List ℕ) (o : Outcome (Result Page NotAStore)) : Type 0 where
  pub size : length o.bytes ≡ length out
  pub refused : o.answer ≡ Err not_a_store → o.bytes ≡ out

unwritten : (out : List ℕ) (a : Result Page NotAStore) → Decent out (outcome a out)
unwritten out a = record { size = refl; refused = λ e. refl }

-- a page that is refused has given nothing
refused_left : (n at left : ℕ) (stop : Stop) → left ≤ n → listed_of n at left stop ≡ Err not_a_store → left ≡ n
refused_left n at left Going h e = absurd (let z : ◌≡◌ {A = ℕ} 0 1 = cc in omega arith)
refused_left n at left Further h e = absurd (let z : ◌≡◌ {A = ℕ} 0 1 = cc in omega arith)
refused_left n at left WentWrong h e = go (eqb (n - left) 0) refl e
  where
    go : (b : Bool) → eqb (n - left) 0 ≡ b → cond b (Err not_a_store) (Ok (page (n - left) at false)) ≡ Err not_a_store → left ≡ n
    go true z e = omega (arith, eqb-true (n - left) 0 z)
    go false z e = absurd (let y : ◌≡◌ {A = ℕ} 0 1 = cc in omega arith)

walked_decent : (n : ℕ) (out : List ℕ) (xs : List Met) → Decent out (listed n (puts xs (blank out n)))
walked_decent n out xs =
    let k = puts_keeps xs (blank out n) in
    let s = puts xs (blank out n) in
    record { size = k.size; refused = λ e. k.same (refused_left n s.at s.left s.stop k.left e) }

module _ (st q b : List ℕ) (too : Bool) (n : ℕ) (out : List ℕ) where
  beside_decent : (cap : ℕ) (l : Link) (k : List ℕ) → Decent out (list_beside st cap q b too n out l k)
  beside_decent cap l k = go (starts_with q k)
    where
      go : (s : Bool) → Decent out (cond s (list_past st cap b too n out l k) (outcome (Ok nothing) out))
      go true = walked_decent n out (after st cap b (critical b k) (passes too b k) depth l)
      go false = unwritten out (Ok nothing)

  under_decent : (cap : ℕ) (l : Link) → Decent out (list_under st cap q b too n out l)
  under_decent cap l = go (near st cap b steps 0 l)
    where
      go : (c : Result Closest NotAStore) → Decent out (on_closest (λ m d. list_beside st cap q b too n out l (leaf_in st m).key) (outcome (Err not_a_store) out) c)
      go (Ok c) = beside_decent cap l (leaf_in st c.leaf.0).key
      go (Err e) = unwritten out (Err not_a_store)

  walk_decent : (cap : ℕ) (w : Result Walked NotAStore) → Decent out (on_walked st cap q b too n out w)
  walk_decent cap (Ok (At c s)) = under_decent cap (link_in s)
  walk_decent cap (Ok (Missing m s)) = unwritten out (Ok nothing)
  walk_decent cap (Err e) = unwritten out (Err e)

  pub page_decent : (h : Header) → Decent out (list_in st h q b too n out)
  page_decent h = go (eqb h.leaves 0) (link_of h.capacity h.root)
    where
      go : (e : Bool) (l : Result Link NotAStore) → Decent out (cond e (outcome (Ok nothing) out) (on_root (λ root. list_from st h.capacity q b too n out root) (outcome (Err not_a_store) out) l))
      go true l = unwritten out (Ok nothing)
      go false (Ok m) = walk_decent h.capacity (walk st h.capacity q (2 * length q) steps (first m))
      go false (Err e) = unwritten out (Err not_a_store)

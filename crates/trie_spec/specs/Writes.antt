-- Insertion, overwriting and removal over the bytes of a store, on any bytes: what is answered, and the bytes after it.
-- Assumes nothing.
use Rattle.std.specs.Prelude.{ℕ, ◌+◌, ◌≡◌, cond, List, length, leb, eqb, ltb, Result, Ok, Err}
use Rattle.std.proofs.Math.Option.{Option, none, some}
use Rattle.model.specs.Key.{order, on_equal}
use Rattle.model.specs.Nibble.{nibble, critical}
use Rattle.bitmap.specs.Entries.{erase}
use Rattle.node.specs.NotAStore.{not_a_store}
use Rattle.node.specs.Child.{to_leaf, to_branch, link_of, item_of}
use Rattle.node.specs.Header.{header, set_head}
use Rattle.node.specs.Leaf.{leaf_in, set_leaf, set_value}
use Rattle.node.specs.Branch.{children_in, head_link, set_child, remove_child, make_branch}
use Rattle.records.specs.Chain.{leaves, branches, taken, gave}
use Rattle.records.specs.Create.{no_root}
use Rattle.node.specs.declared.NotAStore.{NotAStore}
use Rattle.node.specs.declared.child.Link.{Link}
use Rattle.node.specs.declared.header.Header.{Header}
use Rattle.trie_spec.specs.Walk.{steps, link_in, on_linked, on_root, walk, near, first}
use Rattle.trie_spec.specs.declared.descent.Spot.{Spot}
use Rattle.trie_spec.specs.declared.descent.Spot.TheVariants.{Root, Under}
use Rattle.trie_spec.specs.declared.descent.Step.{Step}
use Rattle.trie_spec.specs.declared.descent.Walked.{Walked}
use Rattle.trie_spec.specs.declared.descent.Walked.TheVariants.{At, Missing}
use Rattle.trie_spec.specs.declared.descent.Closest.{Closest}
use Rattle.trie_spec.specs.declared.insert.Inserted.{Inserted}
use Rattle.trie_spec.specs.declared.insert.Inserted.TheVariants.{New, Replaced}
use Rattle.trie_spec.specs.declared.insert.PutError.{PutError}
use Rattle.trie_spec.specs.declared.insert.PutError.TheVariants.{Store, Height, Full}

-- What an insertion answers, and a removal.
abbrev pub Put : Type 0
Put = Result Inserted PutError

abbrev pub Removed : Type 0
Removed = Result (Unit {0}) NotAStore

abbrev pub done : Removed
done = Ok tt

abbrev pub no_tree : Removed
no_tree = Err not_a_store

abbrev pub with_root : Header → ℕ → Header
with_root h root = header h.capacity h.limit h.leaves h.branches root h.leaf h.branch

-- A link written where one stands, and the header.
abbrev pub relinked : List ℕ → Header → Spot → Link → List ℕ
relinked st h Root l = set_head st (with_root h (item_of l))
relinked st h (Under b s) l = set_head (set_child st b.0 s l) h

-- What a function that writes comes to: its answer, and the bytes after it.
pub record Outcome (A : Type 0) : Type 0 where
  pub answer : A
  pub bytes : List ℕ

abbrev pub outcome : {A : Type 0} → A → List ℕ → Outcome A
outcome a b = record { answer = a; bytes = b }

-- It answered that, and left those bytes.
abbrev pub Did : {A : Type 0} → Outcome A → A → List ℕ → Type 0
Did o a b = (a ≡ o.answer) × (b ≡ o.bytes)

-- ---- insertion

-- by whether a record was taken, with its number and the header after it
abbrev pub on_taken {ℓ} : {A : Type ℓ} → (ℕ → Header → A) → A → Option (ℕ × Header) → A
on_taken f a none = a
on_taken f a (some r) = f r.0 r.1

-- A new leaf, whose link goes to a spot that has none.
abbrev pub hung : List ℕ → Header → List ℕ → ℕ → Spot → Outcome Put
hung st h k v spot = on_taken (λ n h'. outcome (Ok New) (relinked (set_leaf st n k v) h' spot (to_leaf n 0))) (outcome (Err Store) st) (taken leaves st h)

-- A branch over a new leaf and the link that stood there, in the order of their slots.
abbrev pub joined : List ℕ → (branch slot leaf other : ℕ) → Link → List ℕ
joined st b s n r l = cond (ltb s r) (make_branch st b s (to_leaf n 0) r l) (make_branch st b r l s (to_leaf n 0))

-- The leaf n, the branch b over it and the link of a step, and the link to b in that link's place.
abbrev pub planted : List ℕ → Header → List ℕ → ℕ → (n b : ℕ) → Step → (place other : ℕ) → List ℕ
planted st h k v n b s p r = relinked (joined (set_leaf st n k v) b (nibble k p) n r (link_in s)) h s.at (to_branch b p)

-- A new leaf and a new branch over it and the link of a step, whose place the new branch takes.
abbrev pub forked : List ℕ → Header → List ℕ → ℕ → Step → (place other : ℕ) → Outcome Put
forked st h k v s p r =
    on_taken
    (λ n one. on_taken
    (λ b two. outcome (Ok New) (planted st two k v n b s p r))
    (outcome (Err Store) st)
    (taken branches st one))
    (outcome (Err Store) st)
    (taken leaves st h)

-- A new key, by where the descent to its critical position ends: HEIGHT where a branch is needed and the closest leaf is at the limit, then FULL.
abbrev pub placed : List ℕ → Header → List ℕ → ℕ → (depth place other : ℕ) → Result Walked NotAStore → Outcome Put
placed st h k v d p r (Ok (Missing b s)) = cond (leb h.capacity h.leaves) (outcome (Err Full) st) (hung st h k v (Under b s))
placed st h k v d p r (Ok (At c s)) = cond (leb h.limit d) (outcome (Err Height) st) (cond (leb h.capacity h.leaves) (outcome (Err Full) st) (forked st h k v s p r))
placed st h k v d p r (Err e) = outcome (Err Store) st

-- A new key by its closest leaf n, which has depth d.
abbrev pub put_beside : List ℕ → Header → List ℕ → ℕ → Link → (n d : ℕ) → Outcome Put
put_beside st h k v root n d =
    let c = critical k (leaf_in st n).key in
    placed st h k v d c (nibble (leaf_in st n).key c) (walk st h.capacity k (c + 1) steps (first root))

-- A key by its closest leaf: the leaf's own key, or a new one.
abbrev pub put_near : List ℕ → Header → List ℕ → ℕ → Link → (n d : ℕ) → Outcome Put
put_near st h k v root n d =
    on_equal (order k (leaf_in st n).key) (outcome (Ok Replaced) (set_value st n v)) (put_beside st h k v root n d)

abbrev pub on_closest {ℓ} : {A : Type ℓ} → (ℕ → ℕ → A) → A → Result Closest NotAStore → A
on_closest f a (Ok c) = f c.leaf.0 c.depth
on_closest f a (Err e) = a

abbrev pub put_under : List ℕ → Header → List ℕ → ℕ → Link → Outcome Put
put_under st h k v root = on_closest (λ n d. put_near st h k v root n d) (outcome (Err Store) st) (near st h.capacity k steps 0 root)

abbrev pub insert_in : List ℕ → Header → List ℕ → ℕ → Outcome Put
insert_in st h k v =
    cond (eqb h.leaves 0) (hung st h k v Root)
    (on_root (λ root. put_under st h k v root) (outcome (Err Store) st) (link_of h.capacity h.root))

-- ---- removal

-- The last leaf goes.
abbrev pub emptied : List ℕ → Header → ℕ → List ℕ
emptied st h n = set_head (leaves.freed st n h.leaf) (with_root (gave leaves h n) no_root)

-- A branch loses a slot.
abbrev pub shrunk : List ℕ → Header → ℕ → (branch slot : ℕ) → List ℕ
shrunk st h n b s = set_head (remove_child (leaves.freed st n h.leaf) b s) (gave leaves h n)

-- A branch of two children goes too, and its other child takes its place.
abbrev pub lifted : List ℕ → Header → ℕ → ℕ → Spot → Link → List ℕ
lifted st h n b above l =
    let one = gave leaves h n in
    relinked (branches.freed (leaves.freed st n h.leaf) b one.branch) (gave branches one b) above l

abbrev pub lift_under : List ℕ → Header → ℕ → (branch slot : ℕ) → Spot → Outcome Removed
lift_under st h n b s above =
    on_linked (λ l. outcome done (lifted st h n b above l)) (outcome no_tree st) (outcome no_tree st) (head_link h.capacity (erase s (children_in st b)))

-- The leaf n is taken out at the end of a descent, unless the store holds no tree.
abbrev pub remove_under : List ℕ → Header → ℕ → Spot → Spot → Outcome Removed
remove_under st h n Root above = outcome done (emptied st h n)
remove_under st h n (Under b s) above =
    cond (eqb (length (children_in st b.0)) 2) (lift_under st h n b.0 s above) (outcome done (shrunk st h n b.0 s))

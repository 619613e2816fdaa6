-- Exact lookup over the bytes of a store, on any bytes. Assumes nothing.
use Rattle.std.specs.Prelude.{ℕ, zero, suc, ◌<◌, cond, List, eqb, Option, Some, None, Result, Ok, Err}
use Rattle.model.specs.Key.{order, on_equal}
use Rattle.node.specs.NotAStore.{not_a_store}
use Rattle.node.specs.Child.{link_of}
use Rattle.model.specs.Nibble.{nibble}
use Rattle.node.specs.Branch.{children_in, linked_in}
use Rattle.node.specs.Leaf.{leaf_in}
use Rattle.node.specs.declared.NotAStore.{NotAStore}
use Rattle.node.specs.declared.child.LeafNo.{LeafNo}
use Rattle.node.specs.declared.child.Child.{Child}
use Rattle.node.specs.declared.child.Link.{Link}
use Rattle.node.specs.declared.header.Header.{Header}
use Rattle.trie_spec.specs.Walk.{steps, on_linked, on_root, on_node, walk, first, Within}
use Rattle.trie_spec.specs.declared.descent.Step.{Step}
use Rattle.trie_spec.specs.declared.descent.Walked.{Walked}
use Rattle.trie_spec.specs.declared.descent.Walked.TheVariants.{At, Missing}

-- What an exact lookup finds: the leaf and the last step of the descent to it, or nothing; or the store holds no tree.
abbrev pub Exact : Type 0
Exact = Result (Option (LeafNo × Step)) NotAStore

-- the same without the way to it
abbrev pub Found : Type 0
Found = Result (Option LeafNo) NotAStore

-- past every position
abbrev pub no_stop : ℕ
no_stop = 256

-- the leaf met, if its key is the one looked for
abbrev pub matched : List ℕ → List ℕ → Child → Step → Exact
matched st k c s = on_node (λ n. on_equal (order k (leaf_in st n.0).key) (Ok (Some (n, s))) (Ok None)) (λ b. Err not_a_store) c

abbrev pub on_walked : List ℕ → List ℕ → Result Walked NotAStore → Exact
on_walked st k (Ok (At c s)) = matched st k c s
on_walked st k (Ok (Missing b s)) = Ok None
on_walked st k (Err e) = Err e

abbrev pub find_from : List ℕ → ℕ → List ℕ → Link → Exact
find_from st cap k root = on_walked st k (walk st cap k no_stop steps (first root))

-- by three numbers of the header: nothing in an empty store
abbrev pub find_at : List ℕ → (cap leaves root : ℕ) → List ℕ → Exact
find_at st cap leaves root k = cond (eqb leaves 0) (Ok None) (on_root (λ l. find_from st cap k l) (Err not_a_store) (link_of cap root))

abbrev pub find_in : List ℕ → Header → List ℕ → Exact
find_in st h k = find_at st h.capacity h.leaves h.root k

-- what is found lies in the store
abbrev pub Stands : ℕ → Exact → Type 0
Stands cap (Ok (Some (n, s))) = (n.0 < cap) × Within cap s.at × Within cap s.above
Stands cap (Ok None) = Unit {0}
Stands cap (Err e) = Unit {0}

-- ---- the leaf alone, without the way to it

abbrev pub leaf_of : Exact → Found
leaf_of (Ok (Some (n, s))) = Ok (Some n)
leaf_of (Ok None) = Ok None
leaf_of (Err e) = Err e

abbrev pub found_at : List ℕ → (cap leaves root : ℕ) → List ℕ → Found
found_at st cap leaves root k = leaf_of (find_at st cap leaves root k)

-- the leaf at the end of the way down from a link, whatever its key is
unfoldable pub ends : (st : List ℕ) (cap : ℕ) (k : List ℕ) → ℕ → Link → Found
ends st cap k zero l = Err not_a_store
ends st cap k (suc f) l =
    on_node (λ n. Ok (Some n))
    (λ b. on_linked (λ m. ends st cap k f m) (Ok None) (Err not_a_store) (linked_in cap (nibble k l.position) (children_in st b.0)))
    l.child

-- the leaf at the end of the way, if its key is the one looked for
abbrev pub compared : List ℕ → List ℕ → Found → Found
compared st k (Ok (Some n)) = on_equal (order k (leaf_in st n.0).key) (Ok (Some n)) (Ok None)
compared st k (Ok None) = Ok None
compared st k (Err e) = Err e

-- a leaf that is found lies in the store
abbrev pub Below : ℕ → Found → Type 0
Below cap (Ok (Some n)) = n.0 < cap
Below cap (Ok None) = Unit {0}
Below cap (Err e) = Unit {0}

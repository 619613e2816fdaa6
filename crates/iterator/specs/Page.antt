-- A page over the bytes of a store, on any bytes: what is answered, and the output after it.
-- Assumes nothing.
use Rattle.std.specs.Prelude.{ℕ, ◌-◌, ◌*◌, Bool, true, false, cond, List, eqb, length, Result, Ok, Err}
use Rattle.model.specs.Key.{starts_with}
use Rattle.model.specs.Nibble.{critical}
use Rattle.pictures.specs.After.{passes}
use Rattle.node.specs.Child.{link_of}
use Rattle.node.specs.Leaf.{leaf_in}
use Rattle.node.specs.declared.child.Link.{Link}
use Rattle.node.specs.declared.header.Header.{Header}
use Rattle.node.specs.declared.NotAStore.{NotAStore}
use Rattle.node.specs.NotAStore.{not_a_store}
use Rattle.trie_spec.specs.Walk.{depth, steps, link_in, on_root, walk, near, first}
use Rattle.trie_spec.specs.Writes.{Outcome, outcome, on_closest}
use Rattle.trie_spec.specs.declared.descent.Walked.{Walked}
use Rattle.trie_spec.specs.declared.descent.Walked.TheVariants.{At, Missing}
use Rattle.walk.specs.Walk.{after, Sheet, puts}
use Rattle.walk.specs.declared.walk.Stop.{Stop}
use Rattle.walk.specs.declared.walk.Stop.TheVariants.{Going, Further, Wrong as WentWrong}
use Rattle.iterator.specs.declared.page.Page.{Page}

abbrev pub page : (entries bytes : ℕ) (end : Bool) → Page
page entries bytes end = record { entries = entries; bytes = bytes; end = end }

-- "Nothing matching: no entries, end."
abbrev pub nothing : Page
nothing = page 0 0 true

-- What a walk that was to give n entries comes to: so many bytes are written, and so many entries are left. A page that met what no tree has is no end; if it
-- has no entry it is refused.
abbrev pub listed_of : (n at left : ℕ) → Stop → Result Page NotAStore
listed_of n at left Going = Ok (page (n - left) at true)
listed_of n at left Further = Ok (page (n - left) at false)
listed_of n at left WentWrong = cond (eqb (n - left) 0) (Err not_a_store) (Ok (page (n - left) at false))

-- an output of which nothing is written, and n entries are wanted
abbrev pub blank : List ℕ → ℕ → Sheet
blank out n = record { out = out; at = 0; left = n; stop = Going }

abbrev pub listed : ℕ → Sheet → Outcome (Result Page NotAStore)
listed n s = outcome (listed_of n s.at s.left s.stop) s.out

-- The entries past b below a link, where k is the key of the closest leaf to b; and the same if k starts with the prefix.
abbrev pub list_past : (st : List ℕ) (cap : ℕ) (b : List ℕ) (too : Bool) (n : ℕ) (out : List ℕ) → Link → (k : List ℕ) → Outcome (Result Page NotAStore)
list_past st cap b too n out l k = listed n (puts (after st cap b (critical b k) (passes too b k) depth l) (blank out n))

abbrev pub list_beside : (st : List ℕ) (cap : ℕ) (q b : List ℕ) (too : Bool) (n : ℕ) (out : List ℕ) → Link → (k : List ℕ) → Outcome (Result Page NotAStore)
list_beside st cap q b too n out l k = cond (starts_with q k) (list_past st cap b too n out l k) (outcome (Ok nothing) out)

abbrev pub list_under : (st : List ℕ) (cap : ℕ) (q b : List ℕ) (too : Bool) (n : ℕ) (out : List ℕ) → Link → Outcome (Result Page NotAStore)
list_under st cap q b too n out l = on_closest (λ m d. list_beside st cap q b too n out l (leaf_in st m).key) (outcome (Err not_a_store) out) (near st cap b steps 0 l)

-- by where the way down by the prefix ends
abbrev pub on_walked : (st : List ℕ) (cap : ℕ) (q b : List ℕ) (too : Bool) (n : ℕ) (out : List ℕ) → Result Walked NotAStore → Outcome (Result Page NotAStore)
on_walked st cap q b too n out (Ok (At c s)) = list_under st cap q b too n out (link_in s)
on_walked st cap q b too n out (Ok (Missing m s)) = outcome (Ok nothing) out
on_walked st cap q b too n out (Err e) = outcome (Err e) out

abbrev pub list_from : (st : List ℕ) (cap : ℕ) (q b : List ℕ) (too : Bool) (n : ℕ) (out : List ℕ) → Link → Outcome (Result Page NotAStore)
list_from st cap q b too n out root = on_walked st cap q b too n out (walk st cap q (2 * length q) steps (first root))

-- nothing in an empty store
abbrev pub list_in : (st : List ℕ) → Header → (q b : List ℕ) (too : Bool) (n : ℕ) (out : List ℕ) → Outcome (Result Page NotAStore)
list_in st h q b too n out =
    cond (eqb h.leaves 0) (outcome (Ok nothing) out)
    (on_root (λ root. list_from st h.capacity q b too n out root) (outcome (Err not_a_store) out) (link_of h.capacity h.root))

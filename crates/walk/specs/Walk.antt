-- The walk of a page over the bytes of a store, on any bytes, and what it leaves in the output.
-- Assumes nothing.
use Rattle.std.specs.Prelude.{ℕ, zero, suc, ◌+◌, ◌-◌, ◌*◌, ◌/◌, ◌%◌, ◌≤◌, Bool, true, false, cond, List, [], ◌∷◌, ◌++◌, leb, eqb, length, drop}
use Rattle.std.proofs.Math.Option.{Option, none, some}
use Rattle.model.specs.Numbers.{entry_limit}
use Rattle.model.specs.Map.{Entry}
use Rattle.model.specs.Entry.{entry_bytes}
use Rattle.model.specs.Nibble.{nibble}
use Rattle.fields.specs.Part.{splice}
use Rattle.bitmap.specs.Entries.{Entry as Item, below as place_of}
use Rattle.node.specs.Child.{link_of}
use Rattle.node.specs.Leaf.{leaf_in}
use Rattle.node.specs.Branch.{children_in, linked_in}
use Rattle.node.specs.declared.child.Link.{Link}
use Rattle.trie_spec.specs.Walk.{on_linked, on_root, on_node}
use Rattle.walk.specs.declared.walk.Stop.{Stop}
use Rattle.walk.specs.declared.walk.Stop.TheVariants.{Going, Further, Wrong}
use Rattle.walk.specs.declared.walk.Progress.{Progress}

-- the tag and the length of a field
abbrev pub field_head : ℕ → ℕ → List ℕ
field_head tag size = tag ∷ size / 256 ∷ size % 256 ∷ []

-- the entry that a leaf record holds
abbrev pub entry_in : List ℕ → ℕ → Entry
entry_in st n = ((leaf_in st n).key, (leaf_in st n).value)

-- ---- what is met

-- An entry, or something that no tree has.
abbrev pub Met : Type 0
Met = Option Entry

abbrev pub nothing_right : List Met
nothing_right = none ∷ []

-- the children of a branch, one after the other
unfoldable pub kids : ℕ → (Link → List Met) → List Item → List Met
kids cap g [] = []
kids cap g (e ∷ es) = on_root g nothing_right (link_of cap e.1) ++ kids cap g es

-- All below a link, with so many branches left for a path; of a branch, the children from a place on.
unfoldable pub below : (st : List ℕ) (cap : ℕ) → (deep place : ℕ) → Link → List Met
below st cap zero i l = on_node (λ n. some (entry_in st n.0) ∷ []) (λ b. nothing_right) l.child
below st cap (suc f) i l =
    on_node (λ n. some (entry_in st n.0) ∷ [])
    (λ b. cond (eqb (length (children_in st b.0)) 0) nothing_right (kids cap (λ m. below st cap f 0 m) (drop i (children_in st b.0))))
    l.child

-- All below a link from the key b on: c is its critical position with the closest leaf, and `up` says on which side of b that leaf lies.
unfoldable pub after : (st : List ℕ) (cap : ℕ) (b : List ℕ) (c : ℕ) (up : Bool) → (deep : ℕ) → Link → List Met
after st cap b c up zero l = on_node (λ n. cond up (some (entry_in st n.0) ∷ []) []) (λ n. nothing_right) l.child
after st cap b c up (suc f) l =
    on_node (λ n. cond up (some (entry_in st n.0) ∷ []) [])
    (λ n. cond (leb l.position c)
    (let s = nibble b l.position in
    let cs = children_in st n.0 in
    on_linked
    (λ m. after st cap b c up f m ++ below st cap (suc f) (place_of s cs + 1) l)
    (below st cap (suc f) (place_of s cs) l)
    nothing_right
    (linked_in cap s cs))
    (cond up (below st cap (suc f) 0 l) []))
    l.child

-- ---- what is written

-- An output, how many bytes of it are written, how many entries are still wanted, and whether the page goes on.
pub record Sheet : Type 0 where
  pub out : List ℕ
  pub at : ℕ
  pub left : ℕ
  pub stop : Stop

abbrev pub sheet : List ℕ → Progress → Sheet
sheet out p = record { out = out; at = p.at; left = p.left; stop = p.stop }

-- there is room for what is wanted
abbrev pub HasRoom : List ℕ → Progress → Type 0
HasRoom out p = p.at + entry_limit * p.left ≤ length out

abbrev pub is_stopped : Stop → Bool
is_stopped Going = false
is_stopped Further = true
is_stopped Wrong = true

-- "each entry is written directly after the one before it", while one is wanted
abbrev pub add : Met → Sheet → Sheet
add none s = record { out = s.out; at = s.at; left = s.left; stop = Wrong }
add (some e) s =
    cond (eqb s.left 0)
    (record { out = s.out; at = s.at; left = s.left; stop = Further })
    (record { out = splice s.out s.at (entry_bytes e); at = s.at + length (entry_bytes e); left = s.left - 1; stop = Going })

-- a page that has stopped takes nothing more
abbrev pub put : Met → Sheet → Sheet
put x s = cond (is_stopped s.stop) s (add x s)

unfoldable pub puts : List Met → Sheet → Sheet
puts [] s = s
puts (x ∷ xs) s = puts xs (put x s)

abbrev pub wrongly : Progress → Progress
wrongly p = cond (is_stopped p.stop) p (record { at = p.at; left = p.left; stop = Wrong })

-- The bytes of an accepted store hold one map only: a lookup reads it off. Assumes nothing.
use Prim.Native.Nat.{ℕ}
use mathlib.Core.Path.{◌≡◌, sym, ap, ◌∙◌}
use mathlib.Core.List.{List}
use mathlib.Core.Option.{Option, none, some}
use Rattle.model.specs.Picture.{Tree, entries}
use Rattle.model.proofs.MapLaws.{map_ext}
use Rattle.model.proofs.TreeLaws.{entries_sorted}
use Rattle.pictures.specs.Tree.{get_t}
use Rattle.pictures.specs.Calls.{get_root}
use Rattle.pictures.proofs.CallLaws.{get_entries}
use Rattle.node.specs.Header.{head_in}
use Rattle.node.specs.Leaf.{leaf_in}
use Rattle.trie_spec.specs.Accepted.{Accepted}
use Rattle.trie_spec.specs.Find.{find_in, Exact}
use Rattle.trie_spec.specs.declared.descent.Spot.TheVariants.{Root}
use Rattle.trie_spec.proofs.AcceptedLaws.{few}
use Rattle.trie_spec.proofs.FoundLaws.{Found, find_means}
use Rattle.std.specs.Prelude.{Ok, Err, Some, None}

-- the value that a lookup found
abbrev pub value_found : List ℕ → Exact → Option ℕ
value_found st (Ok (Some (n, s))) = some (leaf_in st n.0).value
value_found st (Ok None) = none
value_found st (Err e) = none

module _ (st : List ℕ) (k : List ℕ) where
  -- it is the tree's
  pub found_value : (o : Option Tree) (acc : Accepted st o) → value_found st (find_in st (head_in st) k) ≡ get_root k o
  found_value none acc = ap (value_found st) (find_means st k none acc)
  found_value (some t) acc = go (get_t k t) (find_means st k (some t) acc)
    where
      go : (v : Option ℕ) → Found st (head_in st).capacity (few st (some t) acc) k t Root Root v (find_in st (head_in st) k) → value_found st (find_in st (head_in st) k) ≡ v
      go none e = ap (value_found st) e
      go (some v) (s, e, i, w) = ap (value_found st) e ∙ ap some i.value

pub one_map : (st : List ℕ) (o p : Option Tree) → Accepted st o → Accepted st p → entries o ≡ entries p
one_map st o p a b =
    map_ext (entries o) (entries p) (entries_sorted o a.picture) (entries_sorted p b.picture)
    (λ k. sym (get_entries k o a.picture) ∙ sym (found_value st k o a) ∙ found_value st k p b ∙ get_entries k p b.picture)

-- The calls on trees, tried on worked examples: each equation is computed.
-- Assumes nothing.
use Prim.Native.Nat.{ℕ, ◌≤◌, ◌<◌, compare, Ordering}
use mathlib.Core.Logic.{◌⊎◌, inl, inr}
use native.Mathlib.Omega.{arith}
use mathlib.Core.Path.{◌≡◌, refl}
use mathlib.Core.List.{List, [], ◌∷◌}
use mathlib.Core.Option.{none, some}
use Rattle.model.specs.Key.{order, on_equal}
use Rattle.model.specs.Nibble.{nibble, critical}
use Rattle.model.specs.Picture.{Tree, leaf, branch, end, kid, listing}
use Rattle.model.proofs.Compare.{Said, lower, same, higher, said}
use Rattle.pictures.specs.Tree.{new_for, set_t}
use Rattle.pictures.specs.Calls.{insert_root, get_root, remove_root}
use Rattle.pictures.specs.Records.{leaves, branches, leaf_times, branch_times, at}
use Rattle.pictures.specs.Prefix.{seek, found}
use Rattle.pictures.specs.Stored.{to_leaf, to_branch, whole, grows, under, site, gone, lifts, relinks, cut}
use Rattle.pictures.specs.Chain.{Accounted}
use Rattle.pictures.proofs.ChainLaws.{at_other}

-- `a`, `ab`, `ac`, `ad` and `b`
abbrev a : List ℕ
a = 0x61 ∷ []

abbrev ab : List ℕ
ab = 0x61 ∷ 0x62 ∷ []

abbrev ac : List ℕ
ac = 0x61 ∷ 0x63 ∷ []

abbrev ad : List ℕ
ad = 0x61 ∷ 0x64 ∷ []

abbrev b : List ℕ
b = 0x62 ∷ []

-- The trees that grow as `a`, `ab`, `ac` and `b` are inserted.
abbrev one : Tree
one = leaf 1 a 10

abbrev two : Tree
two = branch 8 2 (kid 0 one (kid 7 (leaf 2 ab 20) end))

abbrev three : Tree
three = branch 8 2 (kid 0 one (kid 7 (branch 9 3 (kid 3 (leaf 2 ab 20) (kid 4 (leaf 3 ac 30) end))) end))

abbrev four : Tree
four = branch 7 1 (kid 2 three (kid 3 (leaf 4 b 40) end))

-- a first key, a branch over a leaf, a branch below a branch, a branch above the root, a child added to a branch at the critical position, a stored key
pub insert_tried :
    (insert_root 1 8 a 10 none ≡ some one) × (insert_root 2 8 ab 20 (some one) ≡ some two) × (insert_root 3 9 ac 30 (some two) ≡ some three)
    × (insert_root 4 7 b 40 (some three) ≡ some four)
    × (insert_root 5 6 ad 50 (some three)
    ≡ some (branch 8 2 (kid 0 one (kid 7 (branch 9 3 (kid 3 (leaf 2 ab 20) (kid 4 (leaf 3 ac 30) (kid 5 (leaf 5 ad 50) end)))) end))))
    × (insert_root 5 6 ac 99 (some three) ≡ some (branch 8 2 (kid 0 one (kid 7 (branch 9 3 (kid 3 (leaf 2 ab 20) (kid 4 (leaf 3 ac 99) end))) end))))
unfolding nibble order critical
insert_tried = (refl, refl, refl, refl, refl, refl)

pub get_tried : (get_root ac (some four) ≡ some 30) × (get_root ad (some four) ≡ none) × (get_root [] none ≡ none)
unfolding nibble order
get_tried = (refl, refl, refl)

-- "a branch left with one child is replaced by that child"; the last key leaves nothing; a key that is not stored changes nothing
pub remove_tried :
    (remove_root ab (some three) ≡ some (branch 8 2 (kid 0 one (kid 7 (leaf 3 ac 30) end)))) × (remove_root b (some four) ≡ some three) × (remove_root ab (some two) ≡ some one)
    × (remove_root a (some one) ≡ none) × (remove_root ad (some three) ≡ some three)
unfolding nibble order
remove_tried = (refl, refl, refl, refl, refl)

pub set_tried : set_t b 99 four ≡ branch 7 1 (kid 2 three (kid 3 (leaf 4 b 99) end))
unfolding nibble
set_tried = refl

-- The keys that start with `a`, with `ab`, with `ad`.
pub seek_tried :
    (found a (seek a four) ≡ listing three) × (found ab (seek ab four) ≡ (ab, 20) ∷ []) × (found ad (seek ad four) ≡ [])
unfolding nibble
seek_tried = (refl, refl, refl)

-- Which record an insertion changes, and a removal.
pub site_tried :
    (site (new_for 3 9 ac 30 ab) two ≡ under 8 7 (to_leaf 2)) × (site (new_for 4 7 b 40 a) three ≡ whole (to_branch 8 2)) × (site (new_for 5 6 ad 50 ac) three ≡ grows 9)
unfolding nibble critical
site_tried = (refl, refl, refl)

pub cut_tried : (cut ab three ≡ relinks 8 7 9 (to_leaf 3)) × (cut b four ≡ lifts 7 (to_branch 8 2)) × (cut a one ≡ gone)
unfolding nibble
cut_tried = (refl, refl, refl)

pub records_tried : (leaves four ≡ 4) × (branches four ≡ 3) × (leaf_times 3 four ≡ 1) × (branch_times 3 four ≡ 0)
records_tried = (refl, refl, refl, refl)

-- A store for three: record 1 is used; from record 2 on goes the chain of 2 and 0, which ends with the mark 9.
abbrev free : ℕ → Type 0
free r = (r ≡ 0) ⊎ (r ≡ 2)

abbrev next : ℕ → ℕ
next r = on_equal (compare r 2) 0 9

pub chain_tried : Accounted free next 9 (λ r. at r 1) 1 3 2 (2 ∷ 0 ∷ [])
chain_tried =
    record {
      once = λ r. some_or_none (said r 1);
      within = λ r h. at_other r 1 (omega arith);
      total = refl;
      apart = λ r h f. used_not_free r f h;
      below = λ r f. free_below r f;
      chain = (refl, inr refl, (refl, inl refl, refl));
      counted = refl;
    }
  where
    some_or_none : {r : ℕ} {o : Ordering} → Said r 1 o → on_equal o 1 0 ≤ 1
    some_or_none (lower h) = omega arith
    some_or_none (same h) = omega arith
    some_or_none (higher h) = omega arith

    used_not_free : (r : ℕ) → free r → 1 ≤ at r 1 → ⊥
    used_not_free r (inl e) h = omega (arith, at_other r 1 (omega arith))
    used_not_free r (inr e) h = omega (arith, at_other r 1 (omega arith))

    free_below : (r : ℕ) → free r → r < 3
    free_below r (inl e) = omega arith
    free_below r (inr e) = omega arith

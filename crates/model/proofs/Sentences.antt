-- Sentences of document 01 that are laws and no definitions.
-- Assumes nothing.
use Prim.Native.Nat.{ℕ, ◌*◌, ◌-◌, ◌/◌, ◌%◌, ◌≤◌, ◌<◌, suc}
use mathlib.Core.Path.{◌≡◌, refl, sym, ◌∙◌, ap, subst}
use mathlib.Core.Bool.{false, Bool, not, true}
use mathlib.Core.List.{List, []}
use mathlib.Core.Option.{Option, none, some}
use native.Mathlib.Omega.{arith}
use native.Mathlib.Decide.{dec_lt}
use lib.ListN.{length}
use lib.Dec.{T, nleb→lt, leb→le}
use Rattle.model.specs.Key.{key_limit, IsKey}
use Rattle.model.specs.Map.{lookup, Rising}
use Rattle.model.specs.Nibble.{nibble, Agree}
use Rattle.model.specs.Picture.{Tree, branch, Kids, end, kid, entries, Below, Picture, Pictured, closest, picture_of, refuses_height, Descent, too_high, bare_root, SlotsRise, too_long}
use Rattle.model.proofs.NibbleAt.{nibble_past, nibble_within}
use Rattle.model.proofs.OrderedMap.{sorted_rising}
use Rattle.model.proofs.TreeLaws.{everys_map, kids_from, entries_sorted}
use Rattle.model.proofs.Closest.{closest_every}
use Rattle.model.proofs.Unique.{two_slots_lem}
use Rattle.model.proofs.ClosestFound.{closest_stored}
use Rattle.model.proofs.Height.{never_high}
use Rattle.model.proofs.PictureIs.{picture_is}
use Rattle.model.proofs.Bare.{closest_bare}

-- A nibble 0 says that the key has ended, at an odd position one nibble before.
ends : (k : List ℕ) (p : ℕ) → nibble k p ≡ 0 → length k ≤ p / 2
ends k p e = go (dec_lt (p / 2) (length k))
  where
    go : Dec (p / 2 < length k) → length k ≤ p / 2
    go (yes h) = absurd (omega (arith, nibble_within k p h))
    go (no h) = omega arith

odd_zero : (p : ℕ) (w k l : List ℕ) → p % 2 ≡ 1 → Agree p w k → Agree p w l → nibble k p ≡ 0 → nibble l p ≡ 0
odd_zero p w k l o a b e =
    let c : nibble k (p - 1) ≡ 0 = nibble_past k (p - 1) (omega (arith, ends k p e)) in
    let d : nibble l (p - 1) ≡ 0 = sym (b.on (p - 1) (omega arith)) ∙ a.on (p - 1) (omega arith) ∙ c in
    nibble_past l p (omega (arith, ends l (p - 1) d))

-- "At an odd position slot 0 is never in use within a branch": the slots rise from 1 on.
pub odd_slot : (n p : ℕ) (ks : Kids) → Picture (branch n p ks) → p % 2 ≡ 1 → SlotsRise 1 ks
odd_slot n p end h o = tt
odd_slot n p (kid s t ks) h o = go (dec_lt 0 s)
  where
    b : Below p h.0 s (closest [] t).key
    b = closest_every (Below p h.0 s) [] t h.1.0 h.1.2

    go : Dec (0 < s) → SlotsRise 1 (kid s t ks)
    go (yes l) = (l, h.2.1)
    go (no l) =
        absurd (two_slots_lem p h.0 (kid s t ks) 0 h.1 h.2 h.3
        (everys_map (λ k f. odd_zero p h.0 (closest [] t).key k o b.agree f.agree (omega (arith, b.slot))) (kid s t ks) (kids_from p h.0 0 (kid s t ks) h.1 h.2)))

-- HEIGHT's rule may be read off the stored tree, whatever its record numbers.
height_bare : (limit : ℕ) (k : List ℕ) (o : Option Tree) → refuses_height limit k (bare_root o) ≡ refuses_height limit k o
height_bare limit k none = refl
height_bare limit k (some t) = ap (λ (d : Descent). too_high limit k d) (closest_bare k t)

pub height_is : (limit : ℕ) (k : List ℕ) (o : Option Tree) → Pictured o → refuses_height limit k (picture_of (entries o)) ≡ refuses_height limit k o
height_is limit k o h = ap (refuses_height limit k) (picture_is o h) ∙ height_bare limit k o

-- "128 or more never refuses": two for each byte of the longest key.
pub never_refused : (limit : ℕ) (k : List ℕ) (o : Option Tree) → 2 * key_limit ≤ limit → IsKey k → Pictured o → lookup k (entries o) ≡ none
    → refuses_height limit k (picture_of (entries o)) ≡ false
never_refused limit k none l i h e = refl
never_refused limit k (some t) l i h e =
    height_is limit k (some t) h ∙ never_high limit k t l i h (λ q. closest_stored k t h q e)

-- A store that holds a picture has its map in rising order.
pub entries_rising : (o : Option Tree) → Pictured o → Rising (entries o)
entries_rising o h = sorted_rising (entries o) (entries_sorted o h)

-- KEY, "longer than 64": a key of at most `key_limit` bytes is not too long, and a longer one is.
pub not_long : (k : List ℕ) → too_long k ≡ false → length k ≤ key_limit
not_long k h = omega (arith, nleb→lt (suc key_limit) (length k) (subst (λ (b : Bool). T (not b)) (sym h) tt))

pub is_long : (k : List ℕ) → too_long k ≡ true → key_limit < length k
is_long k h = leb→le (suc key_limit) (length k) (subst T (sym h) tt)

-- A limit of two for each byte of a key never refuses.
-- Assumes nothing.
use Prim.Native.Nat.{ℕ, suc, ◌+◌, ◌*◌, ◌≤◌, ◌<◌, Ordering}
use mathlib.Core.Path.{◌≡◌, refl, sym, ◌∙◌}
use mathlib.Core.Logic.{◌≢◌}
use mathlib.Core.Bool.{Bool, true, false, ◌||◌, ◌&&◌, not}
use mathlib.Core.List.{List, [], ◌∷◌}
use native.Mathlib.Omega.{arith}
use native.Mathlib.Decide.{dec_lt}
use lib.ListN.{length}
use lib.Dec.{compare_is_eq, leb}
use Rattle.model.specs.Key.{key_limit, IsKey}
use Rattle.model.specs.Nibble.{critical}
use Rattle.model.specs.Picture.{Tree, Picture, closest, member, too_high}
use Rattle.model.proofs.Compare.{Said, lower, same, higher, said, compare_gt}
use Rattle.model.proofs.KeyLaws.{critical_differs}
use Rattle.model.proofs.NibbleAt.{nibble_past}
use Rattle.model.proofs.Closest.{closest_every}
use Rattle.model.proofs.Bounds.{Rises, path_rises, rises_length, starts_zero, picture_keys}

-- Two different keys differ within the longest key's nibbles.
pub critical_bound : (k l : List ℕ) → IsKey k → IsKey l → k ≢ l → critical k l < 2 * key_limit
critical_bound k l a b d = go (dec_lt (critical k l) (2 * key_limit))
  where
    go : Dec (critical k l < 2 * key_limit) → critical k l < 2 * key_limit
    go (yes h) = h
    go (no h) =
        absurd (critical_differs k l d
        (nibble_past k (critical k l) (omega (arith, a.fits)) ∙ sym (nibble_past l (critical k l) (omega (arith, b.fits)))))

-- A way down that passes no branch at c has room for one more.
room : (c low : ℕ) (ps : List ℕ) → low ≤ c → c < 2 * key_limit → Rises low ps → member c ps ≡ false → low + suc (length ps) ≤ 2 * key_limit
room c low [] a b r m = omega arith
room c low (p ∷ ps) a b r m = go (said c p) m (λ z w. room c (suc p) ps z b r.2 w)
  where
    go : {o : Ordering} → Said c p o → (compare_is_eq o || member c ps) ≡ false → (suc p ≤ c → member c ps ≡ false → suc p + suc (length ps) ≤ 2 * key_limit)
        → low + suc (suc (length ps)) ≤ 2 * key_limit
    go (lower h) e ih = let i = rises_length (suc p) ps r.2 in omega arith
    go (same h) e ih = absurd (let z : ◌≡◌ {A = ℕ} 0 1 = cc in omega arith)
    go (higher h) e ih = let i = ih h e in omega arith

pub never_high : (limit : ℕ) (k : List ℕ) (t : Tree) → 2 * key_limit ≤ limit → IsKey k → Picture t → k ≢ (closest k t).key → too_high limit k (closest k t) ≡ false
never_high limit k t l i h d = go (member c ps) refl
  where
    c : ℕ
    c = critical k (closest k t).key

    ps : List ℕ
    ps = (closest k t).path

    bound : c < 2 * key_limit
    bound = critical_bound k (closest k t).key i (closest_every IsKey k t h (picture_keys t h)) d

    fits : member c ps ≡ false → length ps < limit
    fits e = let r = room c 0 ps (omega arith) bound (path_rises k 0 t (omega arith) h (starts_zero t)) e in omega arith

    go : (b : Bool) → member c ps ≡ b → (not b && leb limit (length ps)) ≡ false
    go true e = refl
    go false e = rw (compare_gt (fits e))

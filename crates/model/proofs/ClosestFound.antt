-- A key is stored exactly if the closest leaf has it.
-- Assumes nothing.
use Prim.Native.Nat.{ℕ, Ordering}
use mathlib.Core.Path.{◌≡◌, sym}
use mathlib.Core.Logic.{◌≢◌}
use mathlib.Core.List.{List, [], ◌∷◌}
use mathlib.Core.Option.{none, some}
use native.Mathlib.Omega.{arith}
use Rattle.model.specs.Key.{on_equal}
use Rattle.model.specs.Map.{lookup, Entry, All}
use Rattle.model.specs.Picture.{Tree, listing, Picture, closest}
use Rattle.model.proofs.KeyLaws.{critical_differs, agree_refl, Ordered, before, equal, after, ordered, less_differs, key_discrete}
use Rattle.model.proofs.MapLaws.{lookup_none}
use Rattle.model.proofs.TreeLaws.{all_listing, every_map}
use Rattle.model.proofs.Closest.{closest_far, closest_every}
use Rattle.model.proofs.Unique.{listing_every}

-- A key that the closest leaf has not is not stored.
pub not_closest : (k : List ℕ) (t : Tree) → Picture t → k ≢ (closest k t).key → lookup k (listing t) ≡ none
not_closest k t h d =
    lookup_none k (listing t)
    (all_listing (λ l. k ≢ l) t (every_map (λ l f e. f (rw e (agree_refl _ l))) t (closest_far k _ t h (critical_differs k (closest k t).key d))))

-- A key that it has is stored.
none_all : (k : List ℕ) (m : List Entry) → lookup k m ≡ none → All (λ l. k ≢ l) m
none_all k [] e = tt
none_all k (d ∷ m) e = go (ordered k d.0) e (none_all k m)
  where
    go : {o : Ordering} → Ordered k d.0 o → on_equal o (some d.1) (lookup k m) ≡ none → (lookup k m ≡ none → All (λ l. k ≢ l) m) → All (λ l. k ≢ l) (d ∷ m)
    go (before a) f ih = (less_differs a, ih f)
    go (equal a) f ih = absurd (let z : ◌≡◌ {A = ℕ} 0 1 = cc in omega arith)
    go (after a) f ih = ((λ q. less_differs a (sym q)), ih f)

pub closest_stored : (k : List ℕ) (t : Tree) → Picture t → k ≡ (closest k t).key → lookup k (listing t) ≢ none
closest_stored k t h e n = closest_every (λ l. k ≢ l) k t h (listing_every (λ l. k ≢ l) t (none_all k (listing t) n)) e

-- So the closest leaf to a stored key is its own.
pub closest_is : (k : List ℕ) (t : Tree) → Picture t → lookup k (listing t) ≢ none → k ≡ (closest k t).key
closest_is k t h d = go (key_discrete k (closest k t).key)
  where
    go : Dec (k ≡ (closest k t).key) → k ≡ (closest k t).key
    go (yes e) = e
    go (no n) = absurd (d (not_closest k t h n))

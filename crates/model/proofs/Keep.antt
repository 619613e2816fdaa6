-- A part of a map: the entries whose keys pass a test, their order, and lookups in them; lookups in two maps that stand one after the other.
-- Assumes nothing.
use Prim.Native.Nat.{ℕ, Ordering}
use mathlib.Core.Path.{◌≡◌, refl, ◌∙◌, ap, sym, subst}
use mathlib.Core.Logic.{◌≢◌, ◌⊎◌, inl, inr}
use mathlib.Core.Bool.{Bool, true, false}
use mathlib.Core.List.{List, [], ◌∷◌, ◌++◌}
use mathlib.Core.Option.{some, none}
use native.Mathlib.Omega.{arith}
use Rattle.model.specs.Key.{on_equal}
use Rattle.model.specs.Map.{Entry, All, keep, pick, lookup}
use Rattle.model.proofs.Less.{Less, Sorted}
use Rattle.model.proofs.KeyLaws.{Ordered, before, equal, after, ordered, order_lt, order_eq, order_gt, less_differs, key_same}
use Rattle.model.proofs.MapLaws.{lookup_right, all_right}

-- keep
pub keep_append : (f : List ℕ → Bool) (m n : List Entry) → keep f (m ++ n) ≡ keep f m ++ keep f n
keep_append f [] n = refl
keep_append f (e ∷ m) n = go (f e.0) (keep_append f m n)
  where
    go : (b : Bool) → keep f (m ++ n) ≡ keep f m ++ keep f n → pick b (e ∷ keep f (m ++ n)) (keep f (m ++ n)) ≡ pick b (e ∷ keep f m) (keep f m) ++ keep f n
    go true ih = ap {B = List Entry} (λ z. e ∷ z) ih
    go false ih = ih

-- where the test gives one answer all over
pub keep_one : (f : List ℕ → Bool) (b : Bool) (m : List Entry) → All (λ k. f k ≡ b) m → keep f m ≡ pick b m []
keep_one f true [] a = refl
keep_one f false [] a = refl
keep_one f true (e ∷ m) a = rw a.0 (ap {B = List Entry} (λ z. e ∷ z) (keep_one f true m a.1))
keep_one f false (e ∷ m) a = rw a.0 (keep_one f false m a.1)

-- A map with some entries left out is sorted.
pub all_keep : (P : List ℕ → Type 0) (f : List ℕ → Bool) (m : List Entry) → All P m → All P (keep f m)
all_keep P f [] a = tt
all_keep P f (e ∷ m) a = go (f e.0) (all_keep P f m a.1)
  where
    go : (b : Bool) → All P (keep f m) → All P (pick b (e ∷ keep f m) (keep f m))
    go true ih = (a.0, ih)
    go false ih = ih

pub keep_sorted : (f : List ℕ → Bool) (m : List Entry) → Sorted m → Sorted (keep f m)
keep_sorted f [] s = tt
keep_sorted f (e ∷ m) s = go (f e.0) (keep_sorted f m s.1)
  where
    go : (b : Bool) → Sorted (keep f m) → Sorted (pick b (e ∷ keep f m) (keep f m))
    go true ih = (all_keep (Less e.0) f m s.0, ih)
    go false ih = ih

-- A key that is kept is looked up as before; what is left out is not found.
pub lookup_keep : (f : List ℕ → Bool) (k : List ℕ) (m : List Entry) → f k ≡ true → lookup k (keep f m) ≡ lookup k m
lookup_keep f k [] h = refl
lookup_keep f k (e ∷ m) h = go (ordered k e.0) (f e.0) refl (lookup_keep f k m h)
  where
    go : {o : Ordering} → Ordered k e.0 o → (b : Bool) → f e.0 ≡ b → lookup k (keep f m) ≡ lookup k m
        → lookup k (pick b (e ∷ keep f m) (keep f m)) ≡ on_equal o (some e.1) (lookup k m)
    go (before a) true g ih = rw (order_lt a) ih
    go (equal a) true g ih = rw (order_eq a) refl
    go (after a) true g ih = rw (order_gt a) ih
    go (before a) false g ih = ih
    go (equal a) false g ih = absurd (let x : f k ≡ f e.0 = ap f a in let z : ◌≡◌ {A = ℕ} 0 1 = cc in omega arith)
    go (after a) false g ih = ih

-- Every entry of a list satisfies P, key and value.
abbrev pub Each : (Entry → Type 0) → List Entry → Type 0
Each P [] = Unit {0}
Each P (e ∷ m) = P e × Each P m

pub each_map : {P Q : Entry → Type 0} → ((e : Entry) → P e → Q e) → (m : List Entry) → Each P m → Each Q m
each_map f [] a = tt
each_map f (e ∷ m) a = (f e a.0, each_map f m a.1)

pub each_left : (P : Entry → Type 0) (m n : List Entry) → Each P (m ++ n) → Each P m
each_left P [] n a = tt
each_left P (e ∷ m) n a = (a.0, each_left P m n a.1)

pub each_keep : (P : Entry → Type 0) (f : List ℕ → Bool) (m : List Entry) → Each P m → Each (λ e. (f e.0 ≡ true) × P e) (keep f m)
each_keep P f [] a = tt
each_keep P f (e ∷ m) a = go (f e.0) refl (each_keep P f m a.1)
  where
    go : (b : Bool) → f e.0 ≡ b → Each (λ d. (f d.0 ≡ true) × P d) (keep f m) → Each (λ d. (f d.0 ≡ true) × P d) (pick b (e ∷ keep f m) (keep f m))
    go true g ih = ((g, a.0), ih)
    go false g ih = ih

-- In a sorted map each entry is what a lookup finds.
each_found : (xs m : List Entry) → Sorted (xs ++ m) → Each (λ e. lookup e.0 (xs ++ m) ≡ some e.1) m
each_found xs [] s = tt
each_found xs (e ∷ m) s = (
  lookup_right e.0 xs (e ∷ m) (others xs s) ∙ key_same refl (some e.1) (lookup e.0 m),
  each_map (λ d p. subst (λ (z : List Entry). lookup d.0 z ≡ some d.1) (shift xs) p) m (each_found (xs ++ e ∷ []) m (subst Sorted (sym (shift xs)) s)),
)
  where
    here : (x : Entry) (ys : List Entry) → All (Less x.0) (ys ++ e ∷ m) → Less x.0 e.0
    here x ys a = (all_right (Less x.0) ys (e ∷ m) a).0

    others : (ys : List Entry) → Sorted (ys ++ e ∷ m) → All (λ l. e.0 ≢ l) ys
    others [] t = tt
    others (y ∷ ys) t = ((λ q. less_differs (here y ys t.0) (sym q)), others ys t.1)

    shift : (ys : List Entry) → (ys ++ e ∷ []) ++ m ≡ ys ++ e ∷ m
    shift [] = refl
    shift (y ∷ ys) = ap {B = List Entry} (λ z. y ∷ z) (shift ys)

pub sorted_found : (m : List Entry) → Sorted m → Each (λ e. lookup e.0 m ≡ some e.1) m
sorted_found m s = each_found [] m s

-- A key of two lists is found in the one or in the other.
pub lookup_either : (k : List ℕ) (m n : List Entry) → lookup k (m ++ n) ≢ none → (lookup k m ≢ none) ⊎ (lookup k n ≢ none)
lookup_either k [] n h = inr h
lookup_either k (e ∷ m) n h = go (ordered k e.0) h (lookup_either k m n)
  where
    go : {o : Ordering} → Ordered k e.0 o → on_equal o (some e.1) (lookup k (m ++ n)) ≢ none
        → (lookup k (m ++ n) ≢ none → (lookup k m ≢ none) ⊎ (lookup k n ≢ none)) → (on_equal o (some e.1) (lookup k m) ≢ none) ⊎ (lookup k n ≢ none)
    go (before a) g ih = ih g
    go (equal a) g ih = inl g
    go (after a) g ih = ih g

pub lookup_in_left : (k : List ℕ) (m n : List Entry) → lookup k m ≢ none → lookup k (m ++ n) ≢ none
lookup_in_left k [] n h = absurd (h refl)
lookup_in_left k (e ∷ m) n h = go (ordered k e.0) h (lookup_in_left k m n)
  where
    go : {o : Ordering} → Ordered k e.0 o → on_equal o (some e.1) (lookup k m) ≢ none → (lookup k m ≢ none → lookup k (m ++ n) ≢ none)
        → on_equal o (some e.1) (lookup k (m ++ n)) ≢ none
    go (before a) g ih = ih g
    go (equal a) g ih = g
    go (after a) g ih = ih g

pub lookup_in_right : (k : List ℕ) (m n : List Entry) → lookup k n ≢ none → lookup k (m ++ n) ≢ none
lookup_in_right k [] n h = h
lookup_in_right k (e ∷ m) n h = go (ordered k e.0) (lookup_in_right k m n h)
  where
    go : {o : Ordering} → Ordered k e.0 o → lookup k (m ++ n) ≢ none → on_equal o (some e.1) (lookup k (m ++ n)) ≢ none
    go (before a) ih = ih
    go (equal a) ih = λ z. let q : ◌≡◌ {A = ℕ} 0 1 = cc in omega arith
    go (after a) ih = ih

-- A found key has what all keys have.
pub all_found : (P : List ℕ → Type 0) (k : List ℕ) (m : List Entry) → All P m → lookup k m ≢ none → P k
all_found P k [] a h = absurd (h refl)
all_found P k (e ∷ m) a h = go (ordered k e.0) h (all_found P k m a.1)
  where
    go : {o : Ordering} → Ordered k e.0 o → on_equal o (some e.1) (lookup k m) ≢ none → (lookup k m ≢ none → P k) → P k
    go (before b) g ih = ih g
    go (equal b) g ih = rw b a.0
    go (after b) g ih = ih g

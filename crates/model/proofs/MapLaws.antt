-- Laws of maps: `lookup`, `put` and `del` of two maps that stand one after the other, sorted maps, maps that are equal by their lookups.
-- Assumes nothing.
use Prim.Native.Nat.{ℕ, ◌+◌, Ordering}
use mathlib.Core.Path.{◌≡◌, refl, sym, ◌∙◌, ap}
use mathlib.Core.Logic.{◌≢◌}
use mathlib.Core.List.{List, [], ◌∷◌, ◌++◌}
use mathlib.Core.Option.{Option, none, some}
use native.Mathlib.Omega.{arith}
use lib.ListN.{length}
use Rattle.model.specs.Key.{order, on_equal}
use Rattle.model.specs.Map.{Entry, All, lookup, put, del, choose}
use Rattle.model.proofs.Less.{Less, Sorted}
use Rattle.model.proofs.KeyLaws.{less_irrefl, less_trans, Ordered, before, equal, after, ordered, order_lt, order_eq, order_gt, key_discrete, key_same, key_other}

-- All
pub all_map : {P Q : List ℕ → Type 0} → ((k : List ℕ) → P k → Q k) → (m : List Entry) → All P m → All Q m
all_map f [] a = tt
all_map f (e ∷ m) a = (f e.0 a.0, all_map f m a.1)

pub all_append : (P : List ℕ → Type 0) (m n : List Entry) → All P m → All P n → All P (m ++ n)
all_append P [] n a b = b
all_append P (e ∷ m) n a b = (a.0, all_append P m n a.1 b)

-- The two parts of a sorted list.
pub all_left : (P : List ℕ → Type 0) (m n : List Entry) → All P (m ++ n) → All P m
all_left P [] n a = tt
all_left P (e ∷ m) n a = (a.0, all_left P m n a.1)

pub all_right : (P : List ℕ → Type 0) (m n : List Entry) → All P (m ++ n) → All P n
all_right P [] n a = a
all_right P (e ∷ m) n a = all_right P m n a.1

-- Sorted
pub sorted_append : (m n : List Entry) → Sorted m → Sorted n → All (λ k. All (Less k) n) m → Sorted (m ++ n)
sorted_append [] n s t a = t
sorted_append (e ∷ m) n s t a = (all_append (Less e.0) m n s.0 a.0, sorted_append m n s.1 t a.1)

pub sorted_left : (m n : List Entry) → Sorted (m ++ n) → Sorted m
sorted_left [] n s = tt
sorted_left (e ∷ m) n s = (all_left (Less e.0) m n s.0, sorted_left m n s.1)

-- lookup
pub lookup_none : (k : List ℕ) (m : List Entry) → All (λ l. k ≢ l) m → lookup k m ≡ none
lookup_none k [] a = refl
lookup_none k (e ∷ m) a = key_other a.0 (some e.1) (lookup k m) ∙ lookup_none k m a.1

pub lookup_left : (k : List ℕ) (m n : List Entry) → All (λ l. k ≢ l) n → lookup k (m ++ n) ≡ lookup k m
lookup_left k [] n a = lookup_none k n a
lookup_left k (e ∷ m) n a = ap (on_equal (order k e.0) (some e.1)) (lookup_left k m n a)

pub lookup_right : (k : List ℕ) (m n : List Entry) → All (λ l. k ≢ l) m → lookup k (m ++ n) ≡ lookup k n
lookup_right k [] n a = refl
lookup_right k (e ∷ m) n a = key_other a.0 (some e.1) (lookup k (m ++ n)) ∙ lookup_right k m n a.1

-- put
pub put_first : (k : List ℕ) (v : ℕ) (m : List Entry) → All (Less k) m → put k v m ≡ (k, v) ∷ m
put_first k v [] a = refl
put_first k v (e ∷ m) a = rw (order_lt a.0)

pub put_left : (k : List ℕ) (v : ℕ) (m n : List Entry) → All (Less k) n → put k v (m ++ n) ≡ put k v m ++ n
put_left k v [] n a = put_first k v n a
put_left k v (e ∷ m) n a = go (ordered k e.0) (put_left k v m n a)
  where
    go : {o : Ordering} → Ordered k e.0 o → put k v (m ++ n) ≡ put k v m ++ n
        → choose o ((k, v) ∷ e ∷ (m ++ n)) ((k, v) ∷ (m ++ n)) (e ∷ put k v (m ++ n)) ≡ choose o ((k, v) ∷ e ∷ m) ((k, v) ∷ m) (e ∷ put k v m) ++ n
    go (before h) ih = refl
    go (equal h) ih = refl
    go (after h) ih = ap {B = List Entry} (λ r. e ∷ r) ih

pub put_right : (k : List ℕ) (v : ℕ) (m n : List Entry) → All (λ l. Less l k) m → put k v (m ++ n) ≡ m ++ put k v n
put_right k v [] n a = refl
put_right k v (e ∷ m) n a = rw (order_gt a.0) (ap {B = List Entry} (λ r. e ∷ r) (put_right k v m n a.1))

pub lookup_put_same : (k : List ℕ) (v : ℕ) (m : List Entry) → lookup k (put k v m) ≡ some v
lookup_put_same k v [] = rw (order_eq {k = k} refl)
lookup_put_same k v (e ∷ m) = go (ordered k e.0) (lookup_put_same k v m)
  where
    go : {o : Ordering} → Ordered k e.0 o → lookup k (put k v m) ≡ some v → lookup k (choose o ((k, v) ∷ e ∷ m) ((k, v) ∷ m) (e ∷ put k v m)) ≡ some v
    go (before h) ih = rw (order_eq {k = k} refl)
    go (equal h) ih = rw (order_eq {k = k} refl)
    go (after h) ih = rw (order_gt h) ih

pub lookup_put_other : (k l : List ℕ) (v : ℕ) (m : List Entry) → l ≢ k → lookup l (put k v m) ≡ lookup l m
lookup_put_other k l v [] d = key_other d (some v) none
lookup_put_other k l v (e ∷ m) d = go (ordered k e.0) (lookup_put_other k l v m d)
  where
    go : {o : Ordering} → Ordered k e.0 o → lookup l (put k v m) ≡ lookup l m → lookup l (choose o ((k, v) ∷ e ∷ m) ((k, v) ∷ m) (e ∷ put k v m)) ≡ lookup l (e ∷ m)
    go (before h) ih = key_other d (some v) (lookup l (e ∷ m))
    go (equal h) ih = key_other d (some v) (lookup l m) ∙ sym (key_other (λ q. d (q ∙ sym h)) (some e.1) (lookup l m))
    go (after h) ih = ap (on_equal (order l e.0) (some e.1)) ih

-- del
pub del_none : (k : List ℕ) (m : List Entry) → All (λ l. k ≢ l) m → del k m ≡ m
del_none k [] a = refl
del_none k (e ∷ m) a = key_other a.0 (del k m) (e ∷ del k m) ∙ ap {B = List Entry} (λ r. e ∷ r) (del_none k m a.1)

pub del_append : (k : List ℕ) (m n : List Entry) → del k (m ++ n) ≡ del k m ++ del k n
del_append k [] n = refl
del_append k (e ∷ m) n = go (ordered k e.0) (del_append k m n)
  where
    go : {o : Ordering} → Ordered k e.0 o → del k (m ++ n) ≡ del k m ++ del k n → on_equal o (del k (m ++ n)) (e ∷ del k (m ++ n)) ≡ on_equal o (del k m) (e ∷ del k m) ++ del k n
    go (before h) ih = ap {B = List Entry} (λ r. e ∷ r) ih
    go (equal h) ih = ih
    go (after h) ih = ap {B = List Entry} (λ r. e ∷ r) ih

-- A sorted map is its lookups.
pub all_not_below : (k : List ℕ) (m : List Entry) → All (Less k) m → All (λ l. k ≢ l) m
all_not_below k m a = all_map (λ l h e. less_irrefl (rw e at h)) m a

pub all_below : {k l : List ℕ} (m : List Entry) → Less k l → All (Less l) m → All (Less k) m
all_below m h a = all_map (λ x q. less_trans h q) m a

lookup_head : (e : Entry) (m : List Entry) → lookup e.0 (e ∷ m) ≡ some e.1
lookup_head e m = key_same refl (some e.1) (lookup e.0 m)

-- a map that has a key, and one whose keys are all above that key
not_both : (e : Entry) (m n : List Entry) → All (Less e.0) n → lookup e.0 (e ∷ m) ≡ lookup e.0 n → ⊥
not_both e m n a h =
    let p : lookup e.0 n ≡ none = lookup_none e.0 n (all_not_below e.0 n a) in
    let q : lookup e.0 (e ∷ m) ≡ some e.1 = lookup_head e m in
    let z : ◌≡◌ {A = ℕ} 0 1 = cc in
    omega arith

pub map_ext : (m n : List Entry) → Sorted m → Sorted n → ((k : List ℕ) → lookup k m ≡ lookup k n) → m ≡ n
map_ext [] [] s t h = refl
map_ext [] (e ∷ n) s t h = absurd (not_both e n [] tt (sym (h e.0)))
map_ext (d ∷ m) [] s t h = absurd (not_both d m [] tt (h d.0))
map_ext (d ∷ m) (e ∷ n) s t h = go (ordered d.0 e.0) (map_ext m n s.1 t.1)
  where
    go : {o : Ordering} → Ordered d.0 e.0 o → (((k : List ℕ) → lookup k m ≡ lookup k n) → m ≡ n) → d ∷ m ≡ e ∷ n
    go (before q) ih = absurd (not_both d m (e ∷ n) (q, all_below n q t.0) (h d.0))
    go (after q) ih = absurd (not_both e n (d ∷ m) (q, all_below m q s.0) (sym (h e.0)))
    go (equal q) ih =
        let v : some d.1 ≡ some e.1 = sym (lookup_head d m) ∙ h d.0 ∙ ap (λ (k : List ℕ). lookup k (e ∷ n)) q ∙ lookup_head e n in
        let w : d.1 ≡ e.1 = cc in
        let r : m ≡ n = ih (λ k. rest k (key_discrete k d.0)) in
        λ i. (q i, w i) ∷ r i
      where
        rest : (k : List ℕ) → Dec (k ≡ d.0) → lookup k m ≡ lookup k n
        rest k (yes p) =
            lookup_none k m (rw p (all_not_below d.0 m s.0)) ∙ sym (lookup_none k n (rw (p ∙ q) (all_not_below e.0 n t.0)))
        rest k (no p) = sym (key_other p (some d.1) (lookup k m)) ∙ h k ∙ key_other (λ x. p (x ∙ sym q)) (some e.1) (lookup k n)

-- put and del keep a map sorted, and change its length by one at most.
pub all_put : (P : List ℕ → Type 0) (k : List ℕ) (v : ℕ) (m : List Entry) → P k → All P m → All P (put k v m)
all_put P k v [] p a = (p, tt)
all_put P k v (e ∷ m) p a = go (ordered k e.0) (all_put P k v m p a.1)
  where
    go : {o : Ordering} → Ordered k e.0 o → All P (put k v m) → All P (choose o ((k, v) ∷ e ∷ m) ((k, v) ∷ m) (e ∷ put k v m))
    go (before h) ih = (p, a)
    go (equal h) ih = (p, a.1)
    go (after h) ih = (a.0, ih)

pub put_sorted : (k : List ℕ) (v : ℕ) (m : List Entry) → Sorted m → Sorted (put k v m)
put_sorted k v [] s = (tt, tt)
put_sorted k v (e ∷ m) s = go (ordered k e.0) (put_sorted k v m s.1)
  where
    go : {o : Ordering} → Ordered k e.0 o → Sorted (put k v m) → Sorted (choose o ((k, v) ∷ e ∷ m) ((k, v) ∷ m) (e ∷ put k v m))
    go (before h) ih = ((h, all_below m h s.0), s)
    go (equal h) ih = (rw h s.0, s.1)
    go (after h) ih = (all_put (Less e.0) k v m h s.0, ih)

pub all_del : (P : List ℕ → Type 0) (k : List ℕ) (m : List Entry) → All P m → All P (del k m)
all_del P k [] a = tt
all_del P k (e ∷ m) a = go (ordered k e.0) (all_del P k m a.1)
  where
    go : {o : Ordering} → Ordered k e.0 o → All P (del k m) → All P (on_equal o (del k m) (e ∷ del k m))
    go (before h) ih = (a.0, ih)
    go (equal h) ih = ih
    go (after h) ih = (a.0, ih)

pub del_sorted : (k : List ℕ) (m : List Entry) → Sorted m → Sorted (del k m)
del_sorted k [] s = tt
del_sorted k (e ∷ m) s = go (ordered k e.0) (del_sorted k m s.1)
  where
    go : {o : Ordering} → Ordered k e.0 o → Sorted (del k m) → Sorted (on_equal o (del k m) (e ∷ del k m))
    go (before h) ih = (all_del (Less e.0) k m s.0, ih)
    go (equal h) ih = ih
    go (after h) ih = (all_del (Less e.0) k m s.0, ih)

pub lookup_del_same : (k : List ℕ) (m : List Entry) → lookup k (del k m) ≡ none
lookup_del_same k [] = refl
lookup_del_same k (e ∷ m) = go (ordered k e.0) (lookup_del_same k m)
  where
    go : {o : Ordering} → Ordered k e.0 o → lookup k (del k m) ≡ none → lookup k (on_equal o (del k m) (e ∷ del k m)) ≡ none
    go (before h) ih = rw (order_lt h) ih
    go (equal h) ih = ih
    go (after h) ih = rw (order_gt h) ih

pub lookup_del_other : (k l : List ℕ) (m : List Entry) → l ≢ k → lookup l (del k m) ≡ lookup l m
lookup_del_other k l [] d = refl
lookup_del_other k l (e ∷ m) d = go (ordered k e.0) (lookup_del_other k l m d)
  where
    go : {o : Ordering} → Ordered k e.0 o → lookup l (del k m) ≡ lookup l m → lookup l (on_equal o (del k m) (e ∷ del k m)) ≡ lookup l (e ∷ m)
    go (before h) ih = ap (on_equal (order l e.0) (some e.1)) ih
    go (equal h) ih = ih ∙ sym (key_other (λ q. d (q ∙ sym h)) (some e.1) (lookup l m))
    go (after h) ih = ap (on_equal (order l e.0) (some e.1)) ih

-- A stored key's value is replaced, and a new key makes the map one longer.
abbrev pub extra : Option ℕ → ℕ
extra none = 1
extra (some v) = 0

pub length_put : (k : List ℕ) (v : ℕ) (m : List Entry) → Sorted m → length (put k v m) ≡ length m + extra (lookup k m)
length_put k v [] s = omega arith
length_put k v (e ∷ m) s = go (ordered k e.0) (length_put k v m s.1)
  where
    go : {o : Ordering} → Ordered k e.0 o → length (put k v m) ≡ length m + extra (lookup k m)
        → length (choose o ((k, v) ∷ e ∷ m) ((k, v) ∷ m) (e ∷ put k v m)) ≡ length (e ∷ m) + extra (on_equal o (some e.1) (lookup k m))
    go (before h) ih = let a : lookup k m ≡ none = lookup_none k m (all_not_below k m (all_below m h s.0)) in omega (arith, ap extra a)
    go (equal h) ih = omega arith
    go (after h) ih = omega arith

pub length_del : (k : List ℕ) (m : List Entry) → Sorted m → length (del k m) + 1 ≡ length m + extra (lookup k m)
length_del k [] s = omega arith
length_del k (e ∷ m) s = go (ordered k e.0) (length_del k m s.1)
  where
    go : {o : Ordering} → Ordered k e.0 o → length (del k m) + 1 ≡ length m + extra (lookup k m)
        → length (on_equal o (del k m) (e ∷ del k m)) + 1 ≡ length (e ∷ m) + extra (on_equal o (some e.1) (lookup k m))
    go (before h) ih = omega arith
    go (equal h) ih = let a : del k m ≡ m = del_none k m (rw h (all_not_below e.0 m s.0)) in omega (arith, ap (length {A = Entry}) a)
    go (after h) ih = omega arith

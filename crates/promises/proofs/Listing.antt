-- Demand 3, from the page promise alone: what the pages of a listing give, whatever happens between them.
-- Assumes nothing.
use Prim.Native.Nat.{ℕ, Ordering}
use mathlib.Core.Path.{◌≡◌, refl, sym, ◌∙◌, ap, subst}
use mathlib.Core.Logic.{◌≢◌, ◌⊎◌, inl, inr}
use mathlib.Core.Bool.{true, false}
use mathlib.Core.List.{List, [], ◌∷◌, ◌++◌, append-nil}
use mathlib.Core.Option.{none, some}
use native.Mathlib.Omega.{arith}
use lib.ListN.{length, take, drop, take-append-drop}
use lib.Seq.{length-take-le}
use lib.Dec.{T, leb→le}
use Rattle.model.specs.Map.{Entry, All, lookup, choose}
use Rattle.model.specs.Page.{Mode, matches, under, From, start, after_key, follows, above}
use Rattle.model.proofs.Less.{Less, Sorted}
use Rattle.model.proofs.KeyLaws.{Ordered, before, equal, after, ordered, order_lt, less_trans}
use Rattle.model.proofs.MapLaws.{all_map, all_append, sorted_append, all_left, all_right, sorted_left}
use Rattle.model.proofs.Keep.{keep_sorted, lookup_keep, Each, each_map, each_left, each_keep, sorted_found, lookup_either, lookup_in_left, lookup_in_right, all_found}
use Rattle.model.proofs.OrderedMap.{sorted_rising}
use Rattle.model.proofs.PageLaws.{next_page_lem, page_last, page_more}
use Rattle.promises.specs.Moments.{Moment, onward, fetch, UntilEnd, joined, Always, Stored, AllStored, FullBefore, Listed}
use Rattle.promises.proofs.Times.{times_once}

-- What follows an after-key is above it.
after_less : (a k : List ℕ) → follows (after_key a) k ≡ true → Less a k
after_less a k h = go (ordered a k) h
  where
    go : {o : Ordering} → Ordered a k o → choose o true false false ≡ true → Less a k
    go (before l) e = l
    go (equal l) e = absurd (let z : ◌≡◌ {A = ℕ} 0 1 = cc in omega arith)
    go (after l) e = absurd (let z : ◌≡◌ {A = ℕ} 0 1 = cc in omega arith)

less_after : {a k : List ℕ} → Less a k → follows (after_key a) k ≡ true
less_after l = ap (λ (o : Ordering). choose o true false false) (order_lt l)

follows_up : (from : From) (k l : List ℕ) → follows from k ≡ true → Less k l → follows from l ≡ true
follows_up start k l h q = refl
follows_up (after_key a) k l h q = less_after (less_trans (after_less a k h) q)

-- What stands after a part of a sorted list is past where that part leads.
past : (from : From) (xs ys : List Entry) → Sorted (xs ++ ys) → All (λ k. follows from k ≡ true) ys → All (λ k. follows (onward from xs) k ≡ true) ys
past from [] ys s a = a
past from (e ∷ xs) ys s a = past (after_key e.0) xs ys s.1 (all_map (λ k. less_after) ys (all_right (Less e.0) xs ys s.0))

-- What is past there is above the part, and past where the part began.
record Beyond (from : From) (xs : List Entry) (k : List ℕ) : Type 0 where
  above : All (λ l. Less l k) xs
  onto : follows from k ≡ true

beyond : (from : From) (xs : List Entry) (k : List ℕ) → Sorted xs → All (λ l. follows from l ≡ true) xs → follows (onward from xs) k ≡ true → Beyond from xs k
beyond from [] k s a h = record { above = tt; onto = h }
beyond from (e ∷ xs) k s a h =
    let i = beyond (after_key e.0) xs k s.1 (all_map (λ l. less_after) xs s.0) h in
    let l = after_less e.0 k i.onto in
    record { above = (l, i.above); onto = follows_up from e.0 k a.0 l }

swap : (xs zs : List Entry) → All (λ z. All (λ l. Less l z) xs) zs → All (λ l. All (Less l) zs) xs
swap [] zs a = tt
swap (x ∷ xs) zs a = (all_map (λ z h. h.0) zs a, swap xs zs (all_map (λ z h. h.1) zs a))

-- What is left of a map for a page: the entries under the prefix, past where it carries on.
abbrev rest : Mode → List ℕ → From → List Entry → List Entry
rest mode q from m = above from (under mode q m)

rest_sorted : (mode : Mode) (q : List ℕ) (from : From) (m : List Entry) → Sorted m → Sorted (rest mode q from m)
rest_sorted mode q from m s = keep_sorted (follows from) (under mode q m) (keep_sorted (matches mode q) m s)

rest_each : (mode : Mode) (q : List ℕ) (from : From) (m : List Entry) → Sorted m
    → Each (λ e. (follows from e.0 ≡ true) × ((matches mode q e.0 ≡ true) × (lookup e.0 m ≡ some e.1))) (rest mode q from m)
rest_each mode q from m s =
    each_keep (λ e. (matches mode q e.0 ≡ true) × (lookup e.0 m ≡ some e.1)) (follows from) (under mode q m)
    (each_keep (λ e. lookup e.0 m ≡ some e.1) (matches mode q) m (sorted_found m s))

each_all : (P : List ℕ → Type 0) (m : List Entry) → Each (λ e. P e.0) m → All P m
each_all P [] a = tt
each_all P (e ∷ m) a = (a.0, each_all P m a.1)

rest_follows : (mode : Mode) (q : List ℕ) (from : From) (m : List Entry) → Sorted m → All (λ k. follows from k ≡ true) (rest mode q from m)
rest_follows mode q from m s =
    each_all (λ k. follows from k ≡ true) (rest mode q from m) (each_map (λ e h. h.0) (rest mode q from m) (rest_each mode q from m s))

module _ (mode : Mode) (q : List ℕ) where
  -- Rising, and all past where the listing began.
  record Rises (from : From) (m : List Entry) : Type 0 where
    sorted : Sorted m
    onto : All (λ k. follows from k ≡ true) m

  pages_rise : (from : From) (ss : List Moment) → Always Sorted ss → Rises from (joined (fetch mode q from ss))
  pages_rise from [] a = record { sorted = tt; onto = tt }
  pages_rise from (s ∷ ss) a = make (pages_rise (onward from (take s.size (rest mode q from s.map))) ss a.1)
    where
      r : List Entry
      r = rest mode q from s.map

      xs : List Entry
      xs = take s.size r

      zs : List Entry
      zs = joined (fetch mode q (onward from xs) ss)

      split : r ≡ xs ++ drop s.size r
      split = sym (take-append-drop s.size r)

      xs_sorted : Sorted xs
      xs_sorted = sorted_left xs (drop s.size r) (subst Sorted split (rest_sorted mode q from s.map a.0))

      xs_onto : All (λ k. follows from k ≡ true) xs
      xs_onto =
          all_left (λ k. follows from k ≡ true) xs (drop s.size r)
          (subst (All (λ k. follows from k ≡ true)) split (rest_follows mode q from s.map a.0))

      make : Rises (onward from xs) zs → Rises from (xs ++ zs)
      make ih = record {
        sorted = sorted_append xs zs xs_sorted ih.sorted (swap xs zs (all_map (λ k h. (beyond from xs k xs_sorted xs_onto h).above) zs ih.onto));
        onto = all_append (λ k. follows from k ≡ true) xs zs xs_onto (all_map (λ k h. (beyond from xs k xs_sorted xs_onto h).onto) zs ih.onto);
      }

  stored_each : (m es : List Entry) → Each (λ e. (matches mode q e.0 ≡ true) × (lookup e.0 m ≡ some e.1)) es → Stored mode q m es
  stored_each m [] a = tt
  stored_each m (e ∷ es) a = (a.0.0, a.0.1, stored_each m es a.1)

  pages_stored : (from : From) (ss : List Moment) → Always Sorted ss → AllStored mode q ss (fetch mode q from ss)
  pages_stored from [] a = tt
  pages_stored from (s ∷ ss) a = (stored_each s.map xs own, pages_stored (onward from xs) ss a.1)
    where
      r : List Entry
      r = rest mode q from s.map

      xs : List Entry
      xs = take s.size r

      both : Entry → Type 0
      both e = (matches mode q e.0 ≡ true) × (lookup e.0 s.map ≡ some e.1)

      own : Each both xs
      own =
          each_left both xs (drop s.size r)
          (subst (Each both) (sym (take-append-drop s.size r)) (each_map (λ e h. h.1) r (rest_each mode q from s.map a.0)))

  -- A key that matches, is past the beginning and is stored, is left for the page.
  left_over : (from : From) (k : List ℕ) (m : List Entry) → matches mode q k ≡ true → follows from k ≡ true → lookup k m ≢ none → lookup k (rest mode q from m) ≢ none
  left_over from k m h f l e =
      l (sym (lookup_keep (matches mode q) k m h) ∙ sym (lookup_keep (follows from) k (under mode q m) f) ∙ e)

  pages_complete : (from : From) (ss : List Moment) → Always Sorted ss → UntilEnd (fetch mode q from ss) → (k : List ℕ) → matches mode q k ≡ true
      → follows from k ≡ true → Always (λ m. lookup k m ≢ none) ss → lookup k (joined (fetch mode q from ss)) ≢ none
  pages_complete from [] a u k h f l = absurd u
  pages_complete from (s ∷ []) a u k h f l =
      lookup_in_left k (take s.size (rest mode q from s.map)) []
      (subst (λ (z : List Entry). lookup k z ≢ none) (sym (page_last s.size (rest mode q from s.map) u)) (left_over from k s.map h f l.0))
  pages_complete from (s ∷ t ∷ ss) a u k h f l =
      go (λ g. pages_complete (onward from (take s.size (rest mode q from s.map))) (t ∷ ss) a.1 u.1 k h g l.1) (lookup_either k xs ys found)
    where
      r : List Entry
      r = rest mode q from s.map

      xs : List Entry
      xs = take s.size r

      ys : List Entry
      ys = drop s.size r

      split : r ≡ xs ++ ys
      split = sym (take-append-drop s.size r)

      zs : List Entry
      zs = joined (fetch mode q (onward from xs) (t ∷ ss))

      found : lookup k (xs ++ ys) ≢ none
      found = subst (λ (z : List Entry). lookup k z ≢ none) split (left_over from k s.map h f l.0)

      ys_onto : All (λ x. follows (onward from xs) x ≡ true) ys
      ys_onto =
          past from xs ys (subst Sorted split (rest_sorted mode q from s.map a.0))
          (all_right (λ x. follows from x ≡ true) xs ys (subst (All (λ x. follows from x ≡ true)) split (rest_follows mode q from s.map a.0)))

      go : (follows (onward from xs) k ≡ true → lookup k zs ≢ none) → (lookup k xs ≢ none) ⊎ (lookup k ys ≢ none) → lookup k (xs ++ zs) ≢ none
      go later (inl g) = lookup_in_left k xs zs g
      go later (inr g) = lookup_in_right k xs zs (later (all_found (λ x. follows (onward from xs) x ≡ true) k ys ys_onto g))

  pages_full : (from : From) (ss : List Moment) → UntilEnd (fetch mode q from ss) → FullBefore ss (fetch mode q from ss)
  pages_full from [] u = tt
  pages_full from (s ∷ []) u =
      omega (arith, leb→le (length (rest mode q from s.map)) s.size (subst T (sym u) tt), ap (length {A = Entry}) (page_last s.size (rest mode q from s.map) u))
  pages_full from (s ∷ t ∷ ss) u =
      let h = page_more s.size (rest mode q from s.map) u.0 in
      (length-take-le s.size (rest mode q from s.map) (omega arith), pages_full (onward from (take s.size (rest mode q from s.map))) (t ∷ ss) u.1)

  -- Unchanged, the pages give what was left, from where they began.
  onward_rest : (m : List Entry) → Sorted m → (from : From) (xs ys : List Entry) → above from m ≡ xs ++ ys → above (onward from xs) m ≡ ys
  onward_rest m s from [] ys h = h
  onward_rest m s from (e ∷ xs) ys h = onward_rest m s (after_key e.0) xs ys (next_page_lem from m s [] e (xs ++ ys) h)

  pages_whole : (m : List Entry) → Sorted m → (from : From) (ss : List Moment) → Always (λ n. n ≡ m) ss → UntilEnd (fetch mode q from ss)
      → joined (fetch mode q from ss) ≡ rest mode q from m
  pages_whole m o from [] c u = absurd u
  pages_whole m o from (s ∷ []) c u =
      append-nil (take s.size (rest mode q from s.map))
      ∙ page_last s.size (rest mode q from s.map) u
      ∙ ap (rest mode q from) c.0
  pages_whole m o from (s ∷ t ∷ ss) c u =
      ap (λ (z : List Entry). xs ++ z) (pages_whole m o (onward from xs) (t ∷ ss) c.1 u.1 ∙ back) ∙ take-append-drop s.size r ∙ ap (rest mode q from) c.0
    where
      r : List Entry
      r = rest mode q from s.map

      xs : List Entry
      xs = take s.size r

      back : rest mode q (onward from xs) m ≡ drop s.size r
      back =
          onward_rest (under mode q m) (keep_sorted (matches mode q) m o) from xs (drop s.size r)
          (sym (ap (rest mode q from) c.0) ∙ sym (take-append-drop s.size r))

  above_start : (m : List Entry) → above start m ≡ m
  above_start [] = refl
  above_start (e ∷ m) = ap {B = List Entry} (λ z. e ∷ z) (above_start m)

  -- Demand 3.
  pub listed : (ss : List Moment) → Always Sorted ss → UntilEnd (fetch mode q start ss) → Listed mode q ss (fetch mode q start ss)
  listed ss a u =
      record {
        rising = sorted_rising (joined (fetch mode q start ss)) r.sorted;
        stored = pages_stored start ss a;
        complete = λ k h l. times_once k (joined (fetch mode q start ss)) r.sorted (pages_complete start ss a u k h refl l);
        full = pages_full start ss u;
        whole = λ m c. pages_whole m (first ss m a c u) start ss c u ∙ above_start (under mode q m);
      }
    where
      r : Rises start (joined (fetch mode q start ss))
      r = pages_rise start ss a

      first : (ts : List Moment) (m : List Entry) → Always Sorted ts → Always (λ n. n ≡ m) ts → UntilEnd (fetch mode q start ts) → Sorted m
      first [] m b c v = absurd v
      first (t ∷ ts) m b c v = subst Sorted c.0 b.0

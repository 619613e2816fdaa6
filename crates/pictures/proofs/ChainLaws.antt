-- Chains of free records: no record is in one twice, one is taken and given at the head, and counting shows that each record is reached or free, once.
-- Assumes nothing.
use Prim.Native.Nat.{ℕ, zero, suc, ◌+◌, ◌-◌, ◌≤◌, ◌<◌}
use mathlib.Core.Path.{◌≡◌, refl, sym, ap, subst, ◌∙◌}
use mathlib.Core.Logic.{◌≢◌, ◌⊎◌, inl, inr}
use mathlib.Core.List.{List, [], ◌∷◌}
use native.Mathlib.Omega.{arith}
use native.Mathlib.Decide.{ℕ_discrete, dec_lt}
use lib.ListN.{length}
use Rattle.model.specs.Picture.{Tree, leaf, branch, Kids, end, kid}
use Rattle.model.proofs.Compare.{number_other}
use Rattle.pictures.specs.Records.{tallies, at, leaves, branches, leaf_times, branch_times}
use Rattle.pictures.specs.Chain.{Chain, times, sum, Accounted}
use Rattle.pictures.proofs.Frame.{at_self, at_same}

pub at_other : (m n : ℕ) → m ≢ n → at m n ≡ 0
at_other m n d = number_other d 1 0

pub at_split : (r x : ℕ) → (r ≡ x) ⊎ (at r x ≡ 0)
at_split r x = go (ℕ_discrete r x)
  where
    go : Dec (r ≡ x) → (r ≡ x) ⊎ (at r x ≡ 0)
    go (yes e) = inl e
    go (no d) = inr (at_other r x d)

module _ (Free : ℕ → Type 0) (next : ℕ → ℕ) (last : ℕ) (bound : (n : ℕ) → Free n → n ≢ last) where
  abbrev C : ℕ → List ℕ → Type 0
  C x xs = Chain Free next last x xs

  -- A chain's length hangs on where it starts.
  pub chain_length : (x y : ℕ) (xs ys : List ℕ) → x ≡ y → C x xs → C y ys → length xs ≡ length ys
  chain_length x y [] [] e c d = refl
  chain_length x y [] (b ∷ ys) e c d = absurd (bound b d.1 (sym d.0 ∙ sym e ∙ c))
  chain_length x y (a ∷ xs) [] e c d = absurd (bound a c.1 (sym c.0 ∙ e ∙ d))
  chain_length x y (a ∷ xs) (b ∷ ys) e c d = ap suc (chain_length (next a) (next b) xs ys (ap next (sym c.0 ∙ e ∙ d.0)) c.2 d.2)

  -- Where a record is in a chain, the chain goes on from it, and is no longer than before.
  pub chain_from : (r x : ℕ) (xs : List ℕ) → C x xs → 1 ≤ times r xs → (ys : List ℕ) × C r ys × (length ys ≤ length xs) × Free r
  chain_from r x [] c h = absurd (omega arith)
  chain_from r x (y ∷ xs) c h = go (at_split r y) (λ l. chain_from r (next y) xs c.2 l)
    where
      go : (r ≡ y) ⊎ (at r y ≡ 0) → (1 ≤ times r xs → (ys : List ℕ) × C r ys × (length ys ≤ length xs) × Free r)
          → (ys : List ℕ) × C r ys × (length ys ≤ suc (length xs)) × Free r
      go (inl e) ih = (y ∷ xs, (e, c.1, c.2), omega arith, subst Free (sym e) c.1)
      go (inr z) ih = let (ys, d, l, f) = ih (omega arith) in (ys, d, omega arith, f)

  -- So no record is in it twice: equal numbers have equal rests, and rests of two lengths are not equal.
  pub chain_once : (r x : ℕ) (xs : List ℕ) → C x xs → times r xs ≤ 1
  chain_once r x [] c = omega arith
  chain_once r x (y ∷ xs) c = go (at_split r y) (chain_once r (next y) xs c.2)
    where
      again : r ≡ y → 1 ≤ times r xs → ⊥
      again e h =
          let (ys, d, l, f) = chain_from r (next y) xs c.2 h in
          let q : length (y ∷ xs) ≡ length ys = chain_length y r (y ∷ xs) ys (sym e) (refl, c.1, c.2) d in
          omega arith

      low : r ≡ y → (n : ℕ) → n ≡ times r xs → n ≡ 0
      low e zero q = refl
      low e (suc n) q = absurd (again e (omega arith))

      go : (r ≡ y) ⊎ (at r y ≡ 0) → times r xs ≤ 1 → at r y + times r xs ≤ 1
      go (inl e) i = omega (arith, at_same r y e, low e (times r xs) refl)
      go (inr z) i = omega arith

  -- A member is free.
  pub chain_free : (r x : ℕ) (xs : List ℕ) → C x xs → 1 ≤ times r xs → Free r
  chain_free r x xs c h = (chain_from r x xs c h).3

  -- The head is in the rest no more.
  pub chain_head : (x y : ℕ) (xs : List ℕ) → C x (y ∷ xs) → times y xs ≡ 0
  chain_head x y xs c = omega (arith, chain_once y x (y ∷ xs) c, at_self y)

-- From one memory's chain to another's: what is written outside the chain keeps it.
module _ (Free Free' : ℕ → Type 0) (next next' : ℕ → ℕ) (last : ℕ) where
  pub chain_frame : (x : ℕ) (xs : List ℕ) → ((n : ℕ) → 1 ≤ times n xs → Free n → Free' n) → ((n : ℕ) → 1 ≤ times n xs → Free n → next' n ≡ next n)
      → Chain Free next last x xs → Chain Free' next' last x xs
  chain_frame x [] f g c = c
  chain_frame x (y ∷ xs) f g c = (
    c.0,
    f y (omega (arith, at_self y)) c.1,
    subst (λ (z : ℕ). Chain Free' next' last z xs) (sym (g y (omega (arith, at_self y)) c.1))
        (chain_frame (next y) xs (λ n h. f n (omega arith)) (λ n h. g n (omega arith)) c.2),
  )

  -- The first record is taken: it may be written, the rest is a chain from where it pointed.
  pub chain_take : (bound : (n : ℕ) → Free n → n ≢ last) (x y : ℕ) (xs : List ℕ) → ((n : ℕ) → n ≢ y → Free n → Free' n) → ((n : ℕ) → n ≢ y → Free n → next' n ≡ next n)
      → Chain Free next last x (y ∷ xs) → Chain Free' next' last (next y) xs
  chain_take bound x y xs f g c =
      let z = chain_head Free next last bound x y xs c in
      let away : (n : ℕ) → 1 ≤ times n xs → n ≢ y = λ n h e. omega (arith, h, z, ap (λ (i : ℕ). times i xs) e) in
      chain_frame (next y) xs (λ n h. f n (away n h)) (λ n h. g n (away n h)) c.2

  -- A record that is not in the chain is given: it comes first.
  pub chain_give : (x r : ℕ) (xs : List ℕ) → times r xs ≡ 0 → Free' r → next' r ≡ x → ((n : ℕ) → n ≢ r → Free n → Free' n) → ((n : ℕ) → n ≢ r → Free n → next' n ≡ next n)
      → Chain Free next last x xs → Chain Free' next' last r (r ∷ xs)
  chain_give x r xs z h e f g c =
      let away : (n : ℕ) → 1 ≤ times n xs → n ≢ r = λ n i q. omega (arith, i, z, ap (λ (j : ℕ). times j xs) q) in
      (refl, h, subst (λ (y : ℕ). Chain Free' next' last y xs) (sym e) (chain_frame x xs (λ n i. f n (away n i)) (λ n i. g n (away n i)) c))

-- ---- counting

pub sum_at_above : (x n : ℕ) → n ≤ x → sum (λ r. at r x) n ≡ 0
sum_at_above x zero h = refl
sum_at_above x (suc n) h = omega (arith, sum_at_above x n (omega arith), at_other n x (λ e. omega arith))

pub sum_at : (x n : ℕ) → x < n → sum (λ r. at r x) n ≡ 1
sum_at x zero h = absurd (omega arith)
sum_at x (suc n) h = go (dec_lt x n) (λ l. sum_at x n l)
  where
    go : Dec (x < n) → (x < n → sum (λ r. at r x) n ≡ 1) → sum (λ r. at r x) n + at n x ≡ 1
    go (yes l) ih = omega (arith, at_other n x (λ e. omega arith), ih l)
    go (no d) ih = omega (arith, at_same n x (omega arith), sum_at_above x n (omega arith))

pub sum_add : (f g : ℕ → ℕ) (n : ℕ) → sum (λ r. f r + g r) n ≡ sum f n + sum g n
sum_add f g zero = refl
sum_add f g (suc n) = let i = sum_add f g n in omega arith

pub sum_zero : (n : ℕ) → sum (λ r. 0) n ≡ 0
sum_zero zero = refl
sum_zero (suc n) = let i = sum_zero n in omega arith

-- As many as the records, and none more than once: each is there once.
pub sum_le : (f : ℕ → ℕ) (n : ℕ) → ((r : ℕ) → f r ≤ 1) → sum f n ≤ n
sum_le f zero h = omega arith
sum_le f (suc n) h = omega (arith, sum_le f n h, h n)

pub sum_full : (f : ℕ → ℕ) (n : ℕ) → ((r : ℕ) → f r ≤ 1) → sum f n ≡ n → (r : ℕ) → r < n → f r ≡ 1
sum_full f zero h e r l = absurd (omega arith)
sum_full f (suc n) h e r l = go (dec_lt r n) (λ q. sum_full f n h (omega (arith, sum_le f n h, h n)) r q)
  where
    go : Dec (r < n) → (r < n → f r ≡ 1) → f r ≡ 1
    go (yes q) ih = ih q
    go (no d) ih = let q : r ≡ n = omega arith in ap f q ∙ omega (arith, sum_le f n h, h n)

-- Of what is nowhere at n or past it, the number is below n.
pub below_of : (f : ℕ → ℕ) (n x : ℕ) → 1 ≤ f x → ((r : ℕ) → n ≤ r → f r ≡ 0) → x < n
below_of f n x l h = go (dec_lt x n)
  where
    go : Dec (x < n) → x < n
    go (yes q) = q
    go (no d) = absurd (omega (arith, l, h x (omega arith)))

-- The members of a list, and the records of a tree, by their number.
pub sum_times : (n : ℕ) (xs : List ℕ) → ((r : ℕ) → n ≤ r → times r xs ≡ 0) → sum (λ r. times r xs) n ≡ length xs
sum_times n [] h = sum_zero n
sum_times n (x ∷ xs) h =
    omega (
      arith,
      sum_add (λ r. at r x) (λ r. times r xs) n,
      sum_at x n (below_of (λ r. at r x) n x (omega (arith, at_self x)) (λ r l. omega (arith, h r l))),
      sum_times n xs (λ r l. omega (arith, h r l)),
    )

mutual
  pub sum_leaves : (n : ℕ) (t : Tree) → ((r : ℕ) → n ≤ r → leaf_times r t ≡ 0) → sum (λ r. leaf_times r t) n ≡ leaves t
  sum_leaves n (leaf x k v) h = sum_at x n (below_of (λ r. at r x) n x (omega (arith, at_self x)) h)
  sum_leaves n (branch x p ks) h = sum_add (λ r. 0) (λ r. tallies (at r) (λ m q. 0) ks) n ∙ omega (arith, sum_zero n, sums_leaves n ks (λ r l. omega (arith, h r l)))

  sums_leaves : (n : ℕ) (ks : Kids) → ((r : ℕ) → n ≤ r → tallies (at r) (λ m q. 0) ks ≡ 0) → sum (λ r. tallies (at r) (λ m q. 0) ks) n ≡ tallies (λ m. 1) (λ m q. 0) ks
  sums_leaves n end h = sum_zero n
  sums_leaves n (kid s t ks) h =
      omega (
        arith,
        sum_add (λ r. leaf_times r t) (λ r. tallies (at r) (λ m q. 0) ks) n,
        sum_leaves n t (λ r l. omega (arith, h r l)),
        sums_leaves n ks (λ r l. omega (arith, h r l)),
      )

mutual
  pub sum_branches : (n : ℕ) (t : Tree) → ((r : ℕ) → n ≤ r → branch_times r t ≡ 0) → sum (λ r. branch_times r t) n ≡ branches t
  sum_branches n (leaf x k v) h = sum_zero n
  sum_branches n (branch x p ks) h =
      omega (
        arith,
        sum_add (λ r. at r x) (λ r. tallies (λ m. 0) (λ m q. at r m) ks) n,
        sum_at x n (below_of (λ r. at r x) n x (omega (arith, at_self x)) (λ r l. omega (arith, h r l))),
        sums_branches n ks (λ r l. omega (arith, h r l)),
      )

  sums_branches : (n : ℕ) (ks : Kids) → ((r : ℕ) → n ≤ r → tallies (λ m. 0) (λ m q. at r m) ks ≡ 0) → sum (λ r. tallies (λ m. 0) (λ m q. at r m) ks) n ≡ tallies (λ m. 0) (λ m q. 1) ks
  sums_branches n end h = sum_zero n
  sums_branches n (kid s t ks) h =
      omega (
        arith,
        sum_add (λ r. branch_times r t) (λ r. tallies (λ m. 0) (λ m q. at r m) ks) n,
        sum_branches n t (λ r l. omega (arith, h r l)),
        sums_branches n ks (λ r l. omega (arith, h r l)),
      )

-- ---- the law: each record below the capacity is reached or in the chain, once

pub sum_same : (f g : ℕ → ℕ) (n : ℕ) → ((r : ℕ) → f r ≡ g r) → sum f n ≡ sum g n
sum_same f g zero e = refl
sum_same f g (suc n) e = let i = sum_same f g n e in omega (arith, e n)

module _ (Free : ℕ → Type 0) (next : ℕ → ℕ) (last : ℕ) (used : ℕ → ℕ) (u capacity : ℕ) (small : capacity ≤ last) where
  module _ (x : ℕ) (xs : List ℕ) (a : Accounted Free next last used u capacity x xs) where
    bound : (n : ℕ) → Free n → n ≢ last
    bound n f e = omega (arith, a.below n f)

    unused : (r : ℕ) → Free r → used r ≡ 0
    unused r f = go (used r) refl
      where
        go : (n : ℕ) → used r ≡ n → used r ≡ 0
        go zero e = e
        go (suc n) e = absurd (a.apart r (omega arith) f)

    both : (r : ℕ) → used r + times r xs ≤ 1
    both r = go (times r xs) refl
      where
        go : (n : ℕ) → times r xs ≡ n → used r + times r xs ≤ 1
        go zero e = omega (arith, a.once r)
        go (suc n) e = omega (arith, chain_once Free next last bound r x xs a.chain, unused r (chain_free Free next last bound r x xs a.chain (omega arith)))

    past : (r : ℕ) → capacity ≤ r → times r xs ≡ 0
    past r l = go (times r xs) refl
      where
        go : (n : ℕ) → times r xs ≡ n → times r xs ≡ 0
        go zero e = e
        go (suc n) e = absurd (omega (arith, l, a.below r (chain_free Free next last bound r x xs a.chain (omega arith))))

    pub accounted : (r : ℕ) → r < capacity → used r + times r xs ≡ 1
    accounted =
        sum_full (λ r. used r + times r xs) capacity both
        (omega (arith, sum_add used (λ r. times r xs) capacity, sum_times capacity xs past, a.total, a.counted))

  -- Where not all records are reached, the chain has a first one, which is free and so not reached.
  pub some_free : (x : ℕ) (xs : List ℕ) → Accounted Free next last used u capacity x xs → u < capacity
      → (ys : List ℕ) × (xs ≡ x ∷ ys) × Free x × (x < capacity) × (used x ≡ 0)
  some_free x [] a h = absurd (omega (arith, a.counted))
  some_free x (y ∷ ys) a h =
      let e : y ≡ x = sym a.chain.0 in (
        ys,
        rw e refl,
        subst Free e a.chain.1,
        subst (λ (z : ℕ). z < capacity) e (a.below y a.chain.1),
        subst (λ (z : ℕ). used z ≡ 0) e (unused x (y ∷ ys) a y a.chain.1),
      )

  -- The next number after a free record is one that fits: a record's, or the end mark.
  pub next_fits : (x : ℕ) (xs : List ℕ) → Accounted Free next last used u capacity x xs → x ≤ last
  next_fits x [] a = omega (arith, a.chain)
  next_fits x (y ∷ ys) a = omega (arith, a.chain.0, a.below y a.chain.1)

  -- From one memory to another.
  module _ (Free' : ℕ → Type 0) (next' : ℕ → ℕ) (used' : ℕ → ℕ) where
    -- The first record is taken.
    pub account_take : (x y : ℕ) (xs : List ℕ) → Accounted Free next last used u capacity x (y ∷ xs) → ((r : ℕ) → used' r ≡ used r + at r y)
        → ((n : ℕ) → n ≢ y → Free n → Free' n) → ((n : ℕ) → n ≢ y → Free n → next' n ≡ next n) → ((n : ℕ) → Free' n → Free n) → (Free' y → ⊥)
        → Accounted Free' next' last used' (u + 1) capacity (next y) xs
    account_take x y xs a e up same down gone = record {
      once = λ r. omega (arith, e r, fresh r (at_split r y));
      within = λ r l. omega (arith, e r, a.within r l, at_other r y (λ q. omega (arith, a.below y a.chain.1)));
      total = sum_same used' (λ r. used r + at r y) capacity e
          ∙ omega (arith, sum_add used (λ r. at r y) capacity, sum_at y capacity (a.below y a.chain.1), a.total);
      apart = λ r h f. a.apart r (omega (arith, h, e r, at_other r y (λ q. gone (subst Free' q f)))) (down r f);
      below = λ r f. a.below r (down r f);
      chain = chain_take Free Free' next next' last (λ n f q. omega (arith, a.below n f)) x y xs up same a.chain;
      counted = omega (arith, a.counted);
    }
      where
        fresh : (r : ℕ) → (r ≡ y) ⊎ (at r y ≡ 0) → used r + at r y ≤ 1
        fresh r (inl q) = omega (arith, at_same r y q, subst (λ (z : ℕ). used z ≡ 0) (sym q) (unused x (y ∷ xs) a y a.chain.1))
        fresh r (inr q) = omega (arith, a.once r)

    -- Nothing is taken or given.
    pub account_keep : (x : ℕ) (xs : List ℕ) → Accounted Free next last used u capacity x xs → ((r : ℕ) → used' r ≡ used r)
        → ((n : ℕ) → Free n → Free' n) → ((n : ℕ) → Free n → next' n ≡ next n) → ((n : ℕ) → Free' n → Free n)
        → Accounted Free' next' last used' u capacity x xs
    account_keep x xs a e up same down = record {
      once = λ r. omega (arith, e r, a.once r);
      within = λ r l. omega (arith, e r, a.within r l);
      total = sum_same used' used capacity e ∙ a.total;
      apart = λ r h f. a.apart r (omega (arith, h, e r)) (down r f);
      below = λ r f. a.below r (down r f);
      chain = chain_frame Free Free' next next' last x xs (λ n h f. up n f) (λ n h f. same n f) a.chain;
      counted = a.counted;
    }

    -- A record that was reached once is given back.
    pub account_give : (x r : ℕ) (xs : List ℕ) → Accounted Free next last used u capacity x xs → ((n : ℕ) → used n ≡ used' n + at n r)
        → Free' r → next' r ≡ x → ((n : ℕ) → n ≢ r → Free n → Free' n) → ((n : ℕ) → n ≢ r → Free n → next' n ≡ next n) → ((n : ℕ) → n ≢ r → Free' n → Free n)
        → Accounted Free' next' last used' (u - 1) capacity r (r ∷ xs)
    account_give x r xs a e f q up same down = record {
      once = λ n. omega (arith, a.once n, e n);
      within = λ n l. omega (arith, a.within n l, e n);
      total = omega (arith, a.total, sums);
      apart = λ n h g. split n h g (at_split n r);
      below = λ n g. low n g (at_split n r);
      chain = chain_give Free Free' next next' last x r xs absent f q up same a.chain;
      counted = omega (arith, a.counted, a.total, sums);
    }
      where
        reached : 1 ≤ used r
        reached = omega (arith, e r, at_self r)

        in_store : r < capacity
        in_store = below_of used capacity r reached a.within

        sums : sum used capacity ≡ sum used' capacity + 1
        sums = sum_same used (λ n. used' n + at n r) capacity e ∙ omega (arith, sum_add used' (λ n. at n r) capacity, sum_at r capacity in_store)

        absent : times r xs ≡ 0
        absent = omega (arith, both x xs a r, reached)

        split : (n : ℕ) → 1 ≤ used' n → Free' n → (n ≡ r) ⊎ (at n r ≡ 0) → ⊥
        split n h g (inl z) = omega (arith, h, e n, a.once n, at_same n r z)
        split n h g (inr z) = a.apart n (omega (arith, h, e n)) (down n (λ w. omega (arith, z, at_same n r w)) g)

        low : (n : ℕ) → Free' n → (n ≡ r) ⊎ (at n r ≡ 0) → n < capacity
        low n g (inl z) = omega (arith, in_store)
        low n g (inr z) = a.below n (down n (λ w. omega (arith, z, at_same n r w)) g)

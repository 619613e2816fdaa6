-- Laws of keys: agreement up to a position, the order by nibbles, the critical position.
-- Assumes nothing.
use Prim.Native.Nat.{ℕ, zero, suc, ◌/◌, ◌%◌, ◌≤◌, ◌<◌, compare, Ordering}
use mathlib.Core.Path.{◌≡◌, refl, sym, ◌∙◌, ap}
use mathlib.Core.Logic.{◌≢◌}
use mathlib.Core.List.{List, [], ◌∷◌}
use native.Mathlib.Omega.{arith}
use native.Mathlib.Decide.{dec_lt, ℕ_discrete}
use Rattle.model.specs.Key.{order, and_then, on_equal}
use Rattle.model.specs.Nibble.{nibble, critical, Agree}
use Rattle.model.proofs.Compare.{Said, lower, same, higher, said, compare_eq}
use Rattle.model.proofs.Less.{Less}

-- Agreement
pub agree_refl : (p : ℕ) (k : List ℕ) → Agree p k k
agree_refl p k = record { on = λ i h. refl }

pub agree_sym : {p : ℕ} {k l : List ℕ} → Agree p k l → Agree p l k
agree_sym a = record { on = λ i h. sym (a.on i h) }

pub agree_trans : {p : ℕ} {k l m : List ℕ} → Agree p k l → Agree p l m → Agree p k m
agree_trans a b = record { on = λ i h. a.on i h ∙ b.on i h }

pub agree_less : {p q : ℕ} {k l : List ℕ} → q ≤ p → Agree p k l → Agree q k l
agree_less le a = record { on = λ i h. a.on i (omega arith) }

-- one position more
pub agree_more : {p : ℕ} {k l : List ℕ} → Agree p k l → nibble k p ≡ nibble l p → Agree (suc p) k l
agree_more {p} {k} {l} a e = record { on = go }
  where
    at_or_before : (i : ℕ) → i < suc p → Dec (i ≡ p) → nibble k i ≡ nibble l i
    at_or_before i h (yes q) = ap (nibble k) q ∙ e ∙ sym (ap (nibble l) q)
    at_or_before i h (no q) = a.on i (omega arith)

    go : (i : ℕ) → i < suc p → nibble k i ≡ nibble l i
    go i h = at_or_before i h (ℕ_discrete i p)

-- two keys that begin with the same byte
pub agree_cons : (b : ℕ) {p : ℕ} {k l : List ℕ} → Agree p k l → Agree (suc (suc p)) (b ∷ k) (b ∷ l)
unfolding nibble
agree_cons b {p} {k} {l} a = record { on = go }
  where
    go : (i : ℕ) → i < suc (suc p) → nibble (b ∷ k) i ≡ nibble (b ∷ l) i
    go zero h = refl
    go (suc zero) h = refl
    go (suc (suc i)) h = a.on i (omega arith)

pub agree_zero : (k l : List ℕ) → Agree 0 k l
agree_zero k l = record { on = λ i h. absurd (omega arith) }

-- Equal nibbles, equal keys
same_byte : (x y : ℕ) → suc (x / 16) ≡ suc (y / 16) → suc (x % 16) ≡ suc (y % 16) → x ≡ y
same_byte x y h l = omega arith

pub key_ext : (k l : List ℕ) → ((i : ℕ) → nibble k i ≡ nibble l i) → k ≡ l
unfolding nibble
key_ext [] [] h = refl
key_ext [] (y ∷ l) h = absurd (let z : 0 ≡ suc (y / 16) = h 0 in omega arith)
key_ext (x ∷ k) [] h = absurd (let z : suc (x / 16) ≡ 0 = h 0 in omega arith)
key_ext (x ∷ k) (y ∷ l) h =
    let e : x ≡ y = same_byte x y (h 0) (h 1) in
    let r : k ≡ l = key_ext k l (λ i. h (suc (suc i))) in
    cc

-- The order
pub less_irrefl : {k : List ℕ} → Less k k → ⊥
less_irrefl h = omega arith

pub less_trans : {k l m : List ℕ} → Less k l → Less l m → Less k m
less_trans {k} {l} {m} a b = go (said a.place b.place)
  where
    go : {o : Ordering} → Said a.place b.place o → Less k m
    go (lower h) =
        record {
          place = a.place;
          agree = agree_trans a.agree (agree_less (omega arith) b.agree);
          rises = omega (arith, b.agree.on a.place h);
        }
    go (same h) =
        record {
          place = a.place;
          agree = agree_trans a.agree (agree_less (omega arith) b.agree);
          rises = omega (arith, ap (nibble l) h, ap (nibble m) h);
        }
    go (higher h) =
        record {
          place = b.place;
          agree = agree_trans (agree_less (omega arith) a.agree) b.agree;
          rises = omega (arith, a.agree.on b.place h);
        }

pub less_differs : {k l : List ℕ} → Less k l → k ≢ l
less_differs h e = less_irrefl (rw e at h)

less_cons : (b : ℕ) {k l : List ℕ} → Less k l → Less (b ∷ k) (b ∷ l)
unfolding nibble
less_cons b h = record { place = suc (suc h.place); agree = agree_cons b h.agree; rises = h.rises }

-- A lower byte has a lower half, the first that differs.
less_byte : (x y : ℕ) (k l : List ℕ) → x < y → Less (x ∷ k) (y ∷ l)
unfolding nibble
less_byte x y k l h = go (dec_lt (x / 16) (y / 16))
  where
    go : Dec (x / 16 < y / 16) → Less (x ∷ k) (y ∷ l)
    go (yes q) = record { place = 0; agree = agree_zero (x ∷ k) (y ∷ l); rises = omega arith }
    go (no q) =
        record {
          place = 1;
          agree = agree_more (agree_zero (x ∷ k) (y ∷ l)) (omega arith);
          rises = omega arith;
        }

-- What an answer of `order` says of two keys.
pub data Ordered (k l : List ℕ) : Ordering → Type 0 where
  before : Less k l → Ordered k l Ordering.lt
  equal : k ≡ l → Ordered k l Ordering.eq
  after : Less l k → Ordered k l Ordering.gt

pub ordered : (k l : List ℕ) → Ordered k l (order k l)
unfolding order
ordered [] [] = equal refl
ordered [] (y ∷ l) = before (record { place = 0; agree = agree_zero [] (y ∷ l); rises = unfold nibble in omega arith })
ordered (x ∷ k) [] = after (record { place = 0; agree = agree_zero [] (x ∷ k); rises = unfold nibble in omega arith })
ordered (x ∷ k) (y ∷ l) = go (said x y) (ordered k l)
  where
    go : {o p : Ordering} → Said x y o → Ordered k l p → Ordered (x ∷ k) (y ∷ l) (and_then o p)
    go (lower h) r = before (less_byte x y k l h)
    go (same h) (before r) = before (rw h (less_cons y r))
    go (same h) (equal r) = equal (cc)
    go (same h) (after r) = after (rw h (less_cons y r))
    go (higher h) r = after (less_byte y x l k h)

-- Which answer a known order gives.
is_before : {k l : List ℕ} {o : Ordering} → Ordered k l o → Less k l → o ≡ Ordering.lt
is_before (before h) a = refl
is_before (equal h) a = absurd (less_irrefl (rw h at a))
is_before (after h) a = absurd (less_irrefl (less_trans a h))

is_equal : {k l : List ℕ} {o : Ordering} → Ordered k l o → k ≡ l → o ≡ Ordering.eq
is_equal (before h) e = absurd (less_irrefl (rw e at h))
is_equal (equal h) e = refl
is_equal (after h) e = absurd (less_irrefl (rw e at h))

is_after : {k l : List ℕ} {o : Ordering} → Ordered k l o → Less l k → o ≡ Ordering.gt
is_after (before h) a = absurd (less_irrefl (less_trans a h))
is_after (equal h) a = absurd (less_irrefl (rw h at a))
is_after (after h) a = refl

pub order_lt : {k l : List ℕ} → Less k l → order k l ≡ Ordering.lt
order_lt {k} {l} h = is_before (ordered k l) h

pub order_eq : {k l : List ℕ} → k ≡ l → order k l ≡ Ordering.eq
order_eq {k} {l} h = is_equal (ordered k l) h

pub order_gt : {k l : List ℕ} → Less l k → order k l ≡ Ordering.gt
order_gt {k} {l} h = is_after (ordered k l) h

-- The order by nibbles is the lexicographic order of bytes.
pub lt_less : {k l : List ℕ} → order k l ≡ Ordering.lt → Less k l
lt_less {k} {l} = go (ordered k l)
  where
    go : {o : Ordering} → Ordered k l o → o ≡ Ordering.lt → Less k l
    go (before h) e = h
    go (equal h) e = absurd (let z : ◌≡◌ {A = ℕ} 0 1 = cc in omega arith)
    go (after h) e = absurd (let z : ◌≡◌ {A = ℕ} 0 1 = cc in omega arith)

-- The order of byte slices is a strict total order: it says equal of equal keys alone (`order_eq`, `order_same`), it turns round with its keys, so that of two
-- different keys one comes before the other, and it goes on.
pub order_same : (k l : List ℕ) → order k l ≡ Ordering.eq → k ≡ l
order_same k l = go (ordered k l)
  where
    go : {o : Ordering} → Ordered k l o → o ≡ Ordering.eq → k ≡ l
    go (before h) e = absurd (let z : ◌≡◌ {A = ℕ} 0 1 = cc in omega arith)
    go (equal h) e = h
    go (after h) e = absurd (let z : ◌≡◌ {A = ℕ} 0 1 = cc in omega arith)

-- The other way round.
abbrev pub turned : Ordering → Ordering
turned Ordering.lt = Ordering.gt
turned Ordering.eq = Ordering.eq
turned Ordering.gt = Ordering.lt

pub order_turned : (k l : List ℕ) → order l k ≡ turned (order k l)
order_turned k l = go (ordered k l)
  where
    go : {o : Ordering} → Ordered k l o → order l k ≡ turned o
    go (before h) = order_gt h
    go (equal h) = order_eq (sym h)
    go (after h) = order_lt h

pub order_trans : (k l m : List ℕ) → order k l ≡ Ordering.lt → order l m ≡ Ordering.lt → order k m ≡ Ordering.lt
order_trans k l m a b = order_lt (less_trans (lt_less {k = k} {l = l} a) (lt_less {k = l} {l = m} b))

-- Equal keys are decided.
pub key_discrete : (k l : List ℕ) → Dec (k ≡ l)
key_discrete k l = go (ordered k l)
  where
    go : {o : Ordering} → Ordered k l o → Dec (k ≡ l)
    go (before h) = no (λ e. less_irrefl (rw e at h))
    go (equal h) = yes h
    go (after h) = no (λ e. less_irrefl (rw e at h))

-- A test for equality, taken either way.
pub key_same : {A : Type 0} {k l : List ℕ} → k ≡ l → (a b : A) → on_equal (order k l) a b ≡ a
key_same h a b = rw (order_eq h)

pub key_other : {A : Type 0} {k l : List ℕ} → k ≢ l → (a b : A) → on_equal (order k l) a b ≡ b
key_other {A} {k} {l} h a b = go (ordered k l)
  where
    go : {o : Ordering} → Ordered k l o → on_equal o a b ≡ b
    go (before q) = refl
    go (equal q) = absurd (h q)
    go (after q) = refl

-- The critical position
pub critical_agree : (k l : List ℕ) → Agree (critical k l) k l
unfolding critical
critical_agree [] l = agree_zero [] l
critical_agree (x ∷ k) [] = agree_zero (x ∷ k) []
critical_agree (x ∷ k) (y ∷ l) = go (critical_agree k l) (said (x / 16) (y / 16)) (said (x % 16) (y % 16))
  where
    go : Agree (critical k l) k l → {o p : Ordering} → Said (x / 16) (y / 16) o → Said (x % 16) (y % 16) p → Agree (on_equal o (on_equal p (suc (suc (critical k l))) 1) 0) (x ∷ k) (y ∷ l)
    go ih (lower h) r = agree_zero (x ∷ k) (y ∷ l)
    go ih (same h) (lower r) = agree_more (agree_zero (x ∷ k) (y ∷ l)) (unfold nibble in ap suc h)
    go ih (same h) (same r) = let e : x ≡ y = omega arith in rw e (agree_cons y ih)
    go ih (same h) (higher r) = agree_more (agree_zero (x ∷ k) (y ∷ l)) (unfold nibble in ap suc h)
    go ih (higher h) r = agree_zero (x ∷ k) (y ∷ l)

pub critical_differs : (k l : List ℕ) → k ≢ l → nibble k (critical k l) ≢ nibble l (critical k l)
unfolding critical nibble
critical_differs [] [] d e = d refl
critical_differs [] (y ∷ l) d e = omega arith
critical_differs (x ∷ k) [] d e = omega arith
critical_differs (x ∷ k) (y ∷ l) d e = go (critical_differs k l) (said (x / 16) (y / 16)) (said (x % 16) (y % 16)) e
  where
    c : Ordering → Ordering → ℕ
    c o p = on_equal o (on_equal p (suc (suc (critical k l))) 1) 0

    go : (k ≢ l → nibble k (critical k l) ≢ nibble l (critical k l)) → {o p : Ordering} → Said (x / 16) (y / 16) o → Said (x % 16) (y % 16) p → nibble (x ∷ k) (c o p) ≢ nibble (y ∷ l) (c o p)
    go ih (lower h) r e = omega arith
    go ih (same h) (lower r) e = omega arith
    go ih (same h) (same r) e = let b : x ≡ y = omega arith in ih (λ t. d (cc)) e
    go ih (same h) (higher r) e = omega arith
    go ih (higher h) r e = omega arith

-- The order of two keys is the order of their nibbles at the critical position.
pub critical_order : (k l : List ℕ) → order k l ≡ compare (nibble k (critical k l)) (nibble l (critical k l))
critical_order k l = go (key_discrete k l)
  where
    c : ℕ
    c = critical k l

    other : k ≢ l → {o : Ordering} → Said (nibble k c) (nibble l c) o → order k l ≡ o
    other d (lower h) = order_lt (record { place = c; agree = critical_agree k l; rises = h })
    other d (same h) = absurd (critical_differs k l d h)
    other d (higher h) = order_gt (record { place = c; agree = agree_sym (critical_agree k l); rises = h })

    go : Dec (k ≡ l) → order k l ≡ compare (nibble k c) (nibble l c)
    go (yes e) = order_eq e ∙ sym (compare_eq (ap (λ (z : List ℕ). nibble z c) e))
    go (no d) = other d (said (nibble k c) (nibble l c))

-- It is the only position where they first differ.
pub critical_only : (k l : List ℕ) (p : ℕ) → Agree p k l → nibble k p ≢ nibble l p → p ≡ critical k l
critical_only k l p a d = go (said p (critical k l))
  where
    go : {o : Ordering} → Said p (critical k l) o → p ≡ critical k l
    go (lower h) = absurd (d ((critical_agree k l).on p h))
    go (same h) = h
    go (higher h) = absurd (critical_differs k l (λ e. d (ap (λ (z : List ℕ). nibble z p) e)) (a.on (critical k l) h))

-- Laws of reading keys and numbers: one for each return and each turn of the code that reads them.
-- Assumes nothing.
use Prim.Native.Nat.{ℕ, suc, ◌+◌, ◌*◌, ◌-◌, ◌%◌, ◌^◌, ◌≤◌, ◌<◌}
use mathlib.Core.Path.{◌≡◌, refl, ap}
use mathlib.Core.Bool.{Bool, true, false, cond, not}
use mathlib.Core.List.{List, [], ◌∷◌, ◌++◌, append_assoc, append-nil}
use mathlib.Core.Option.{Option, none, some}
use native.Mathlib.Nat.{pow-suc, pow-le-pow_right, zero-lt-suc}
use native.Mathlib.Omega.{arith}
use native.Mathlib.Numerals.{add-one, add-two}
use lib.ListN.{length, get_or, take, drop, set, drop_of_length-le}
use lib.Dec.{ltb, eqb}
use mathlib.Core.Logic.{◌⊎◌, inl, inr, ⊎_elim}
use lib.Seq.{drop-cons, take-suc-set}
use Rattle.std.specs.Prelude
use Rattle.std.specs.Prelude.{◌≢◌, MatchOption, Some, None, Result, Ok, Err}
use Rattle.std.specs.Result.{OkIff, result_ok}
use Rattle.std.specs.List.{position, position_or_len}
use Rattle.std.proofs.lemmas.List.Sums.{prefix_len-le-length}
use Rattle.std.proofs.lemmas.List.Recursion.{is_position_or_len}
use mir.Syntax.{w64}
use mir.Val.{Fits}
use borrow.Author.Tests.{ltb-true, ltb-false, lt-ltb, le-ltb, le-leb, lt-leb, eq-eqb, ne_eqb}
use Rattle.model.specs.Map.{pick}
use Rattle.line.specs.Text.{digit, prepend, pairs, key_of, decimals, at_most, number_of}
use Rattle.line.specs.Line.{first_space}
use Rattle.line.specs.Code.{number_in}

-- A DIGIT

module _ (c : ℕ) where
  pub digit_below : c < 48 → digit c ≡ 16
  unfolding digit
  digit_below h = simp (lt-ltb c 48 h)

  pub digit_decimal : 48 ≤ c → c ≤ 57 → c - 48 ≡ digit c
  unfolding digit
  digit_decimal l h = simp (le-ltb c 48 l, le-leb c 57 h)

  pub digit_between : 57 < c → c < 97 → digit c ≡ 16
  unfolding digit
  digit_between l h = simp (le-ltb c 48 (omega arith), lt-leb c 57 l, lt-ltb c 97 h)

  pub digit_letter : 97 ≤ c → c ≤ 102 → c - 87 ≡ digit c
  unfolding digit
  digit_letter l h = simp (le-ltb c 48 (omega arith), lt-leb c 57 (omega arith), le-ltb c 97 l, le-leb c 102 h)

  pub digit_above : 102 < c → digit c ≡ 16
  unfolding digit
  digit_above l = simp (le-ltb c 48 (omega arith), lt-leb c 57 (omega arith), le-ltb c 97 (omega arith), lt-leb c 102 l)

-- THE FIRST SPACE

pick_is : (t : Bool) (m n : ℕ) → pick t m (suc n) ≡ cond t m (1 + n)
pick_is true m n = refl
pick_is false m n = omega arith

pub first_position : (s : List ℕ) → first_space s ≡ position_or_len (λ c. eqb c 32) s
unfolding first_space
first_position = is_position_or_len first_space (λ c. eqb c 32) refl (λ c s. pick_is (eqb c 32) 0 (first_space s))

known : (t : Bool) → (t ≡ true) ⊎ (t ≡ false)
known true = inl refl
known false = inr refl

found_within : (p n : ℕ) → p ≤ n → MatchOption (cond (ltb p n) (Some p) None) (p ≡ n) (λ i. (i ≡ p) × (i < n))
found_within p n h = ⊎_elim (λ t. rw t (refl, ltb-true p n t)) (λ f. rw f (omega (arith, ltb-false p n f))) (known (ltb p n))

pub first_found : (s : List ℕ) {r : Prelude.Option ℕ} → r ≡ position (λ c. eqb c 32) s → MatchOption r (first_space s ≡ length s) (λ i. (i ≡ first_space s) × (i < length s))
first_found s e = rw (e, first_position s) (found_within (position_or_len (λ c. eqb c 32) s) (length s) (prefix_len-le-length (λ c. not (eqb c 32)) s))

-- PAIRS OF DIGITS

-- The bytes decoded before, and those that are yet to come.
abbrev pub prepend_all : List ℕ → Option (List ℕ) → Option (List ℕ)
prepend_all k none = none
prepend_all k (some l) = some (k ++ l)

prepend_one : (k : List ℕ) (b : ℕ) (o : Option (List ℕ)) → prepend_all (k ++ (b ∷ [])) o ≡ prepend_all k (prepend b o)
prepend_one k b none = refl
prepend_one k b (some l) = ap some (append_assoc k (b ∷ []) l)

two_cons : (w : List ℕ) (i : ℕ) → i + 1 < length w → drop i w ≡ get_or w i 0 ∷ get_or w (i + 1) 0 ∷ drop (i + 2) w
two_cons w i h = rw (add-one, add-two, drop-cons w i 0 (omega arith), drop-cons w (suc i) 0 (omega arith))

-- A digit was read, or none.
abbrev pub DigitIs : ℕ → ℕ → Type 0
DigitIs c d = (d ≡ digit c) × (d < 16)

module _ (w k : List ℕ) (n : ℕ) where
  abbrev pub PairsFrom : Type 0
  PairsFrom = prepend_all (take n k) (pairs (drop (2 * n) w)) ≡ pairs w

  pub pairs_first : 2 * n + 1 < length w → digit (get_or w (2 * n) 0) ≡ 16 → PairsFrom → none ≡ pairs w
  unfolding pairs
  pairs_first h e inv = rw (two_cons w (2 * n) h, e) at inv

  pub pairs_second : {a : ℕ} → 2 * n + 1 < length w → DigitIs (get_or w (2 * n) 0) a → digit (get_or w (2 * n + 1) 0) ≡ 16 → PairsFrom → none ≡ pairs w
  unfolding pairs
  pairs_second {a} h d e inv = rw (two_cons w (2 * n) h, ← d.0, e, lt-ltb a 16 d.1) at inv

  pub pairs_end : length w ≤ 2 * n → PairsFrom → some (take n k) ≡ pairs w
  unfolding pairs
  pairs_end h inv = rw (drop_of_length-le w h, append-nil) at inv

pub pairs_step : (w k : List ℕ) (n : ℕ) {a b : ℕ} → 2 * n + 1 < length w → DigitIs (get_or w (2 * n) 0) a → DigitIs (get_or w (2 * n + 1) 0) b → n < length k → PairsFrom w k n
    → PairsFrom w (set k n (a * 16 + b)) (n + 1)
unfolding pairs
pairs_step w k n {a} {b} h d e room inv =
    let q : 2 * (n + 1) ≡ 2 * n + 2 = omega arith in
    rw (q, add-one n, take-suc-set k n (a * 16 + b) room, prepend_one)
    (rw (two_cons w (2 * n) h, ← d.0, ← e.0, lt-ltb a 16 d.1, lt-ltb b 16 e.1) at inv)

-- An odd count of bytes.
pub pairs_odd : (w : List ℕ) → length w % 2 ≢ 0 → none ≡ pairs w
unfolding pairs
pairs_odd [] h = absurd (omega arith)
pairs_odd (a ∷ []) h = refl
pairs_odd (a ∷ b ∷ w) h = both (ltb (digit a) 16) (ltb (digit b) 16) (digit a * 16 + digit b) (pairs_odd w (omega arith))
  where
    both : (s t : Bool) (d : ℕ) {o : Option (List ℕ)} → none ≡ o → none ≡ pick s (pick t (prepend d o) none) none
    both true true d e = rw (← e)
    both true false d e = refl
    both false t d e = refl

-- DECIMAL DIGITS

module _ (w : List ℕ) (n i : ℕ) where
  abbrev pub NumberFrom : Type 0
  NumberFrom = decimals n (drop i w) ≡ decimals 0 w

  pub number_bad : i < length w → 10 ≤ digit (get_or w i 0) → NumberFrom → none ≡ decimals 0 w
  unfolding decimals
  number_bad h l inv = rw (drop-cons w i 0 h, le-ltb (digit (get_or w i 0)) 10 l) at inv

  pub number_end : length w ≤ i → NumberFrom → some n ≡ decimals 0 w
  unfolding decimals
  number_end h inv = rw (drop_of_length-le w h) at inv

pub number_step : (w : List ℕ) (n i : ℕ) {d x : ℕ} → i < length w → DigitIs (get_or w i 0) d → d ≤ 9 → x ≡ d → NumberFrom w n i → NumberFrom w (n * 10 + x) (i + 1)
unfolding decimals
number_step w n i {d} h e l f inv = rw (add-one, f) (rw (drop-cons w i 0 h, ← e.0, lt-ltb d 10 (omega arith)) at inv)

-- The bound that keeps the sum from wrapping: n is below ten to the number of digits read.
pub number_grows : (n i : ℕ) {d x : ℕ} → d ≤ 9 → x ≡ d → n < 10 ^ i → n * 10 + x < 10 ^ (i + 1)
number_grows n i l f h = rw add-one (omega (arith, pow-suc 10 i))

number_small : (w : List ℕ) (n i : ℕ) → i < length w → length w ≤ 10 → n < 10 ^ i → n < 1000000000
number_small w n i a b h = omega (arith, pow-le-pow_right {n = 10} (zero-lt-suc 9) {i = i} {j = 9} (omega arith))

pub number_mul : (w : List ℕ) (n i : ℕ) → i < length w → length w ≤ 10 → n < 10 ^ i → Fits w64 (n * 10)
number_mul w n i a b h = record { fits = omega (arith, number_small w n i a b h) }

pub number_add : (w : List ℕ) (n i : ℕ) {x : ℕ} → i < length w → length w ≤ 10 → n < 10 ^ i → x ≤ 9 → Fits w64 (n * 10 + x)
number_add w n i a b h l = record { fits = omega (arith, number_small w n i a b h) }

-- THE NUMBER OF A WORD

module _ (w : List ℕ) where
  pub number_none : length w ≡ 0 → none ≡ number_of w
  unfolding number_of
  number_none h = simp (eq-eqb (length w) 0 h)

  pub number_long : 10 < length w → none ≡ number_of w
  unfolding number_of
  number_long h = simp (ne_eqb (length w) 0 (omega arith), lt-ltb 10 (length w) h)

  module _ (some-digits : length w ≡ 0 → ⊥) (few : length w ≤ 10) where
    is_number : number_of w ≡ at_most 4294967295 (decimals 0 w)
    unfolding number_of
    is_number = simp (ne_eqb (length w) 0 some-digits, le-ltb 10 (length w) few)

    pub number_other : none ≡ decimals 0 w → none ≡ number_of w
    number_other e = rw (is_number, ← e)

    pub number_value : (n : ℕ) → n ≤ 4294967295 → some n ≡ decimals 0 w → some n ≡ number_of w
    number_value n h e = rw (is_number, ← e, le-leb n 4294967295 h)

    pub number_over : (n : ℕ) → 4294967295 < n → some n ≡ decimals 0 w → none ≡ number_of w
    number_over n h e = rw (is_number, ← e, lt-leb n 4294967295 h)

    -- as a number of 32 bits, if it is one
    pub number_made : {E : Type 0} (n : ℕ) (r : Result ℕ E) {o : Prelude.Option ℕ} → OkIff r (n < 4294967296) n → o ≡ result_ok r → some n ≡ decimals 0 w → number_in o ≡ number_of w
    number_made n (Ok v) h e d = rw (e, h.1) (number_value n (omega (arith, h.0)) d)
    number_made n (Err x) h e d = rw e (number_over n (omega (arith, h)) d)

-- THE KEY OF A WORD

pub key_none : (w : List ℕ) → length w ≡ 0 → none ≡ key_of w
unfolding key_of
key_none [] h = refl
key_none (c ∷ w) h = absurd (omega arith)

pub key_dash : (w : List ℕ) → length w ≡ 1 → get_or w 0 0 ≡ 45 → some [] ≡ key_of w
unfolding key_of
key_dash [] h e = absurd (omega arith)
key_dash (c ∷ []) h e = simp (eq-eqb c 45 e)
key_dash (c ∷ d ∷ w) h e = absurd (omega arith)

pub key_one : (w : List ℕ) → length w ≡ 1 → (get_or w 0 0 ≡ 45 → ⊥) → none ≡ key_of w
unfolding key_of
key_one [] h e = absurd (omega arith)
key_one (c ∷ []) h e = simp (ne_eqb c 45 e)
key_one (c ∷ d ∷ w) h e = absurd (omega arith)

pub key_pairs : (w : List ℕ) {o : Option (List ℕ)} → (length w ≡ 0 → ⊥) → (length w ≡ 1 → ⊥) → o ≡ pairs w → o ≡ key_of w
unfolding key_of
key_pairs [] h l e = absurd (h refl)
key_pairs (c ∷ []) h l e = absurd (l refl)
key_pairs (c ∷ d ∷ w) h l e = e

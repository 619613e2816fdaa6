-- What is written is read back: a key and a number as they were.
-- Assumes nothing.
use Prim.Native.Nat.{ℕ, zero, suc, ◌+◌, ◌*◌, ◌/◌, ◌%◌, ◌^◌, ◌<◌}
use mathlib.Core.Path.{◌≡◌, refl, sym, ap, ◌∙◌}
use mathlib.Core.Bool.{Bool, true, false}
use mathlib.Core.List.{List, [], ◌∷◌, ◌++◌}
use mathlib.Core.Option.{Option, none, some}
use mathlib.Core.Logic.{◌⊎◌, inl, inr, ⊎_elim}
use native.Mathlib.Nat.{pow-suc}
use native.Mathlib.Omega.{arith}
use lib.ListN.{length, length-append}
use lib.Dec.{ltb}
use borrow.Author.Tests.{ltb-true, ltb-false, lt-ltb, le-ltb, le-leb, ne_eqb}
use Rattle.model.specs.Key.{Bytes}
use Rattle.model.specs.Map.{pick}
use Rattle.line.specs.Text.{digit, pairs, key_of, decimals, number_of, digit_text, pairs_text, key_text, digits_text, number_text}
use Rattle.line.proofs.ReadLaws.{digit_decimal, digit_letter}
use Rattle.line.proofs.WriteLaws.{text_decimal, text_letter, digits_few}

known : (t : Bool) → (t ≡ true) ⊎ (t ≡ false)
known true = inl refl
known false = inr refl

digit_back : (d : ℕ) → d < 16 → digit (digit_text d) ≡ d
digit_back d h =
    ⊎_elim
    (λ t. let l = ltb-true d 10 t in ap digit (sym (text_decimal d l)) ∙ sym (digit_decimal (d + 48) (omega arith) (omega arith)) ∙ omega arith)
    (λ f. let l = ltb-false d 10 f in ap digit (sym (text_letter d l)) ∙ sym (digit_letter (d + 87) (omega arith) (omega arith)) ∙ omega arith)
    (known (ltb d 10))

-- KEYS

pairs_back : (k : List ℕ) → Bytes k → pairs (pairs_text k) ≡ some k
unfolding pairs pairs_text
pairs_back [] h = refl
pairs_back (b ∷ k) h =
    let high : digit (digit_text (b / 16)) ≡ b / 16 = digit_back (b / 16) (omega arith) in
    let low : digit (digit_text (b % 16)) ≡ b % 16 = digit_back (b % 16) (omega arith) in
    let whole : b / 16 * 16 + b % 16 ≡ b = omega arith in
    rw (high, low, lt-ltb (b / 16) 16 (omega arith), lt-ltb (b % 16) 16 (omega arith), whole, pairs_back k h.1)

pub key_back : (k : List ℕ) → Bytes k → key_of (key_text k) ≡ some k
unfolding key_of key_text pairs_text
key_back [] h = refl
key_back (b ∷ k) h = pairs_back (b ∷ k) h

-- NUMBERS

abbrev on_some : Option ℕ → (ℕ → Option ℕ) → Option ℕ
on_some none f = none
on_some (some n) f = f n

decimals_append : (n : ℕ) (v w : List ℕ) → decimals n (v ++ w) ≡ on_some (decimals n v) (λ m. decimals m w)
unfolding decimals
decimals_append n [] w = refl
decimals_append n (c ∷ v) w = step (ltb (digit c) 10) (decimals (n * 10 + digit c) (v ++ w)) (decimals (n * 10 + digit c) v) (decimals_append (n * 10 + digit c) v w)
  where
    step : (t : Bool) (x y : Option ℕ) → x ≡ on_some y (λ m. decimals m w) → pick t x none ≡ on_some (pick t y none) (λ m. decimals m w)
    step true x y e = e
    step false x y e = refl

one_back : (n d : ℕ) → d < 10 → decimals n ((d + 48) ∷ []) ≡ some (n * 10 + d)
unfolding decimals
one_back n d h =
    let e : digit (d + 48) ≡ d = sym (digit_decimal (d + 48) (omega arith) (omega arith)) ∙ omega arith in
    rw (e, lt-ltb d 10 h)

digits_back : (f v : ℕ) → v < 10 ^ f → decimals 0 (digits_text f v) ≡ some v
unfolding digits_text decimals
digits_back zero v h = let z : 0 ≡ v = omega arith in ap some z
digits_back (suc f) v h =
    ⊎_elim
    (λ t. let l = ltb-true v 10 t in rw t (one_back 0 v l ∙ ap some (omega arith)))
    (λ g. let few : v / 10 < 10 ^ f = omega (arith, pow-suc 10 f) in
    let whole : v / 10 * 10 + v % 10 ≡ v = omega arith in
    rw g (decimals_append 0 (digits_text f (v / 10)) ((v % 10 + 48) ∷ []) ∙ ap (λ (o : Option ℕ). on_some o (λ m. decimals m ((v % 10 + 48) ∷ []))) (digits_back f (v / 10) few) ∙ one_back (v / 10) (v % 10) (omega arith) ∙ ap some whole))
    (known (ltb v 10))

digits_some : (f v : ℕ) → length (digits_text (suc f) v) ≡ 0 → ⊥
unfolding digits_text
digits_some f v = some_more (digits_text f (v / 10)) (ltb v 10)
  where
    some_more : (l : List ℕ) (t : Bool) → length (pick t ((v + 48) ∷ []) (l ++ ((v % 10 + 48) ∷ []))) ≡ 0 → ⊥
    some_more l true e = omega arith
    some_more l false e = omega (arith, length-append l ((v % 10 + 48) ∷ []))

pub number_back : (v : ℕ) → v < 4294967296 → number_of (number_text v) ≡ some v
unfolding number_of number_text
number_back v h =
    rw (ne_eqb (length (digits_text 10 v)) 0 (digits_some 9 v), le-ltb 10 (length (digits_text 10 v)) (digits_few 10 v), digits_back 10 v (omega arith), le-leb v 4294967295 (omega arith))

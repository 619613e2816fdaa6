-- Laws of writing: bytes one after the other at the start of an output.
-- Assumes nothing.
use Prim.Native.Nat.{ℕ, zero, suc, ◌+◌, ◌*◌, ◌-◌, ◌/◌, ◌%◌, ◌≤◌, ◌<◌}
use mathlib.Core.Path.{◌≡◌, refl, sym, ap, subst, ◌∙◌}
use mathlib.Core.List.{List, [], ◌∷◌, ◌++◌, append_assoc, append-nil}
use native.Mathlib.Omega.{arith}
use native.Mathlib.Numerals.{add-one}
use lib.ListN.{length, get_or, take, drop, set, length-append, length-set, length-take, length-drop, drop_of_length-le}
use mathlib.Core.Bool.{Bool, true, false}
use lib.Dec.{ltb}
use Rattle.model.specs.Map.{pick}
use lib.Seq.{drop-cons, set_at, append_snoc, take-suc, take_all, take_at, drop_at, drop-drop}
use borrow.Rule.Slice.PartMut.{put_mid, post_of, same_len_mid}
use borrow.Author.Tests.{lt-ltb, le-ltb}
use Rattle.line.specs.Text.{digit_text, pairs_text, key_text, digits_text, number_text}
use Rattle.line.specs.Answer.{word_of, answer_text, entry_text}
use Rattle.line.specs.Code.{Wrote}
use Rattle.line.specs.declared.writing.Answer.{Answer}
use Rattle.line.specs.declared.writing.Answer.TheVariants.{Value}

-- A DIGIT

pub text_decimal : (d : ℕ) → d < 10 → d + 48 ≡ digit_text d
unfolding digit_text
text_decimal d h = simp (lt-ltb d 10 h)

pub text_letter : (d : ℕ) → 10 ≤ d → d + 87 ≡ digit_text d
unfolding digit_text
text_letter d h = simp (le-ltb d 10 h)

-- BYTES

pub wrote_none : (o : List ℕ) → Wrote [] o o 0
wrote_none o = record { is = refl; count = refl; within = omega arith; size = refl }

-- One byte more.
pub wrote_one : {x o p : List ℕ} {n : ℕ} (a : ℕ) → Wrote x o p n → n < length o → Wrote (x ++ (a ∷ [])) o (set p n a) (n + 1)
wrote_one {x} {o} {p} {n} a w h =
    record {
      is = rw (add-one n) (ap (λ (l : List ℕ). set l n a) (w.is ∙ ap (λ (l : List ℕ). x ++ l) (drop-cons o n 0 h)) ∙ set_at x (get_or o n 0) (drop (suc n) o) a n (sym w.count) ∙ sym (append_snoc x a (drop (suc n) o)));
      count = omega (arith, w.count, length-append x (a ∷ []));
      within = omega arith;
      size = length-set p n a ∙ w.size;
    }

-- The same bytes by another name.
pub wrote_as : {x y o p : List ℕ} {n : ℕ} → Wrote x o p n → x ≡ y → Wrote y o p n
wrote_as {o = o} {p = p} {n = n} w e = subst (λ (z : List ℕ). Wrote z o p n) e w

-- KEYS

pairs_append : (k l : List ℕ) → pairs_text (k ++ l) ≡ pairs_text k ++ pairs_text l
unfolding pairs_text
pairs_append [] l = refl
pairs_append (b ∷ k) l = ap (λ (x : List ℕ). digit_text (b / 16) ∷ digit_text (b % 16) ∷ x) (pairs_append k l)

pub key_dashed : (k : List ℕ) {o : List ℕ} → length k ≡ 0 → 2 * length k < length o → Wrote (key_text k) o (set o 0 45) 1
unfolding key_text
key_dashed [] {o} h room = wrote_one 45 (wrote_none o) (omega arith)
key_dashed (b ∷ k) h room = absurd (omega arith)

module _ (k : List ℕ) {o p : List ℕ} {i : ℕ} where
  pub key_step : {a b : ℕ} → i < length k → 2 * length k < length o → a ≡ digit_text (get_or k i 0 / 16) → b ≡ digit_text (get_or k i 0 % 16) → Wrote (pairs_text (take i k)) o p (2 * i)
      → Wrote (pairs_text (take (i + 1) k)) o (set (set p (2 * i) a) (2 * i + 1) b) (2 * (i + 1))
  unfolding pairs_text
  key_step {a} {b} h room f g w =
      let both : Wrote ((pairs_text (take i k) ++ (a ∷ [])) ++ (b ∷ [])) o (set (set p (2 * i) a) (2 * i + 1) b) (2 * i + 1 + 1) = wrote_one b (wrote_one a w (omega arith)) (omega arith) in
      let q : 2 * (i + 1) ≡ 2 * i + 1 + 1 = omega arith in
      rw q (wrote_as both (append_assoc (pairs_text (take i k)) (a ∷ []) (b ∷ []) ∙ rw (f, g) (sym (rw (add-one i, take-suc k i 0 h) (pairs_append (take i k) (get_or k i 0 ∷ []))))))

pub key_whole : (k : List ℕ) {o p : List ℕ} {i : ℕ} → (length k ≡ 0 → ⊥) → i ≡ length k → Wrote (pairs_text (take i k)) o p (2 * i) → Wrote (key_text k) o p (2 * length k)
unfolding key_text
key_whole [] h e w = absurd (h refl)
key_whole (b ∷ k) {i = i} h e w = rw (← e) (wrote_as w (ap pairs_text (take_all i (b ∷ k) (omega arith))))

pub key_start : (k o : List ℕ) → Wrote (pairs_text (take 0 k)) o o 0
unfolding pairs_text
key_start k o = wrote_none o

-- NUMBERS

more_few : (f v : ℕ) (l : List ℕ) (t : Bool) → length l ≤ f → length (pick t ((v + 48) ∷ []) (l ++ ((v % 10 + 48) ∷ []))) ≤ suc f
more_few f v l true h = omega arith
more_few f v l false h = omega (arith, length-append l ((v % 10 + 48) ∷ []))

pub digits_few : (f v : ℕ) → length (digits_text f v) ≤ f
unfolding digits_text
digits_few zero v = omega arith
digits_few (suc f) v = more_few f v (digits_text f (v / 10)) (ltb v 10) (digits_few f (v / 10))

module _ (f v : ℕ) {o : List ℕ} where
  pub digits_none : f ≡ 0 → Wrote (digits_text f v) o o 0
  unfolding digits_text
  digits_none e = rw e (wrote_none o)

pub digits_one : (f v : ℕ) {o : List ℕ} → (f ≡ 0 → ⊥) → v < 10 → f ≤ length o → Wrote (digits_text f v) o (set o 0 (v + 48)) 1
unfolding digits_text
digits_one zero v ne h room = absurd (ne refl)
digits_one (suc f) v {o} ne h room = rw (lt-ltb v 10 h) (wrote_one (v + 48) (wrote_none o) (omega arith))

pub digits_more : (f v : ℕ) {o p : List ℕ} {n : ℕ} → (f ≡ 0 → ⊥) → 10 ≤ v → f ≤ length o → Wrote (digits_text (f - 1) (v / 10)) o p n → Wrote (digits_text f v) o (set p n (v % 10 + 48)) (n + 1)
unfolding digits_text
digits_more zero v ne h room w = absurd (ne refl)
digits_more (suc f) v {o} {p} {n} ne h room w =
    let q : suc f - 1 ≡ f = omega arith in
    rw (le-ltb v 10 h) (wrote_one (v % 10 + 48) (wrote_as w (ap (λ (g : ℕ). digits_text g (v / 10)) q)) (omega (arith, w.count, digits_few (suc f - 1) (v / 10))))

-- There is room for one byte more after the digits.
pub digits_room : (f v : ℕ) {o p : List ℕ} {n : ℕ} → (f ≡ 0 → ⊥) → f ≤ length o → Wrote (digits_text (f - 1) (v / 10)) o p n → n < length p
digits_room zero v ne room w = absurd (ne refl)
digits_room (suc f) v ne room w = omega (arith, w.count, w.size, digits_few (suc f - 1) (v / 10))

pub number_is : (v : ℕ) {o p : List ℕ} {n : ℕ} → Wrote (digits_text 10 v) o p n → Wrote (number_text v) o p n
unfolding number_text
number_is v w = w

number_few : (v : ℕ) {o p : List ℕ} {n : ℕ} → Wrote (number_text v) o p n → n ≤ 10
unfolding number_text
number_few v w = omega (arith, w.count, digits_few 10 v)

-- ANSWERS

pub answer_room : (v : ℕ) {o p : List ℕ} {n : ℕ} → 11 ≤ length o → Wrote (number_text v) o p n → n < length p
answer_room v room w = omega (arith, w.size, number_few v w)

pub answer_value : {a : Answer} (v : ℕ) {o p : List ℕ} {n : ℕ} → a ≡ Value v → 11 ≤ length o → Wrote (number_text v) o p n → Wrote (answer_text a) o (set p n 10) (n + 1)
unfolding word_of
answer_value v e room w = rw e (wrote_one 10 w (omega (arith, number_few v w)))

-- A word with its newline.
pub answer_word : (b a : Answer) {o p : List ℕ} {n : ℕ} → a ≡ b → Wrote (answer_text b) o p n → Wrote (answer_text a) o p n
answer_word b a e w = rw e w

-- THE REST LENT ON

-- Bytes, and then others in the rest of the output, which was lent.
pub wrote_rest : {x y o p q : List ℕ} {n m : ℕ} → Wrote x o p n → Wrote y (take (length p - n) (drop n p)) q m → Wrote (x ++ y) o (put_mid n (length p - n) p q) (n + m)
wrote_rest {x} {y} {o} {p} {q} {n} {m} w v =
    let whole : take (length p - n) (drop n p) ≡ drop n p = take_all (length p - n) (drop n p) (omega (arith, length-drop n p)) in
    let past : post_of n (length p - n) p ≡ [] = drop_of_length-le (drop n p) {i = length p - n} (omega (arith, length-drop n p)) in
    let first : take n p ≡ x = ap (take n) w.is ∙ take_at x (drop n o) n (sym w.count) in
    let rest : drop n p ≡ drop n o = ap (drop n) w.is ∙ drop_at x (drop n o) n (sym w.count) in
    let second : q ≡ y ++ drop (n + m) o = v.is ∙ ap (λ (l : List ℕ). y ++ drop m l) (whole ∙ rest) ∙ ap (λ (l : List ℕ). y ++ l) (drop-drop m n o) in
    let long : m ≤ length p - n = omega (arith, v.within, ap length whole, length-drop n p) in
    record {
      is = rw (past, append-nil, first, second, ← append_assoc);
      count = omega (arith, w.count, v.count, length-append x y);
      within = omega (arith, w.within, w.size);
      size = same_len_mid n (length p - n) p q v.size ∙ w.size;
    }

-- ENTRIES

pairs_many : (k : List ℕ) → length (pairs_text k) ≡ 2 * length k
unfolding pairs_text
pairs_many [] = refl
pairs_many (b ∷ k) = omega (arith, pairs_many k)

key_few : (k : List ℕ) → length (key_text k) ≤ 2 * length k + 1
unfolding key_text
key_few [] = omega arith
key_few (b ∷ k) = omega (arith, pairs_many (b ∷ k))

module _ (k : List ℕ) {o p : List ℕ} {n : ℕ} (room : 2 * length k + 13 ≤ length o) (w : Wrote (key_text k) o p n) where
  pub entry_space : n < length p
  entry_space = omega (arith, key_few k, w.count, w.size)

  spaced : Wrote (key_text k ++ (32 ∷ [])) o (set p n 32) (n + 1)
  spaced = wrote_one 32 w (omega (arith, entry_space, w.size))

  pub entry_part : n + 1 ≤ length (set p n 32)
  entry_part = omega (arith, spaced.within, spaced.size)

  pub entry_lent : 10 ≤ length (take (length (set p n 32) - (n + 1)) (drop (n + 1) (set p n 32)))
  entry_lent = simp (length-take, length-drop) (omega (arith, key_few k, w.count, w.size, spaced.size))

  module _ (v : ℕ) {q : List ℕ} {d : ℕ} (x : Wrote (number_text v) (take (length (set p n 32) - (n + 1)) (drop (n + 1) (set p n 32))) q d) where
    numbered : Wrote ((key_text k ++ (32 ∷ [])) ++ number_text v) o (put_mid (n + 1) (length (set p n 32) - (n + 1)) (set p n 32) q) (n + 1 + d)
    numbered = wrote_rest spaced x

    pub entry_fits : n + 1 + d < length o
    entry_fits = omega (arith, key_few k, w.count, number_few v x)

    pub entry_end : n + 1 + d < length (put_mid (n + 1) (length (set p n 32) - (n + 1)) (set p n 32) q)
    entry_end = omega (arith, entry_fits, numbered.size)

    pub entry_whole : Wrote (entry_text (k, v)) o (set (put_mid (n + 1) (length (set p n 32) - (n + 1)) (set p n 32) q) (n + 1 + d) 10) (n + 1 + d + 1)
    entry_whole = wrote_as (wrote_one 10 numbered entry_fits) (append_assoc (key_text k ++ (32 ∷ [])) (number_text v) (10 ∷ []) ∙ append_assoc (key_text k) (32 ∷ []) (number_text v ++ (10 ∷ [])))

-- A listing's line is at most this long.
pub entry_few : (k : List ℕ) (v : ℕ) → length (entry_text (k, v)) ≤ 2 * length k + 13
unfolding number_text
entry_few k v = omega (arith, key_few k, digits_few 10 v, length-append (key_text k) (32 ∷ (digits_text 10 v ++ (10 ∷ []))), length-append (digits_text 10 v) (10 ∷ []))

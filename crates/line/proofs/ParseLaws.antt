-- Laws of reading a line: one for each return of the code that reads it.
-- Assumes nothing.
use Prim.Native.Nat.{ℕ, suc, ◌+◌, ◌-◌, ◌≤◌, ◌<◌}
use mathlib.Core.Path.{◌≡◌, refl, sym, ◌∙◌}
use mathlib.Core.List.{List, [], ◌∷◌}
use mathlib.Core.Option.{Option, none, some}
use native.Mathlib.Omega.{arith}
use native.Mathlib.Numerals.{add-one}
use lib.ListN.{length, get_or, take, drop, length-drop, drop_of_length-le}
use lib.Seq.{take_all, length-take-le}
use borrow.Author.Tests.{lt-ltb, le-ltb, le-leb, lt-leb, eq-eqb, ne_eqb}
use Rattle.std.specs.Prelude
use Rattle.std.specs.Option.{ok_or}
use Rattle.std.specs.Prelude.{Result, Some, None, Ok, Err}
use Rattle.model.specs.Page.{plain, inclusive}
use Rattle.line.specs.Text.{key_of, number_of}
use Rattle.line.specs.Line.{Command, Line, command, bad, key, insert, get, delete, list, fits, first_space, with_key, with_both, insert_line, by_letter, short_line, line_of}
use Rattle.line.specs.Code.{KeyIs, KeyReadIs, LineIs}
use Rattle.line.specs.declared.reading.Parsed.{Parsed}
use Rattle.line.specs.declared.reading.LineError.{LineError}

-- What was not refused was there.
pub was_some : {E : Type 0} (r : Prelude.Option ℕ) (x : E) {n : ℕ} → Ok n ≡ ok_or r x → r ≡ Some n
was_some (Some m) x e = cc
was_some None x e = cc

-- A malformed line, in a buffer that is as long as it was.
malformed : {l : Line} {b c : List ℕ} → l ≡ bad → length c ≡ length b → LineIs l b c (Err LineError.Bad)
malformed e s = record { is = sym e; size = s; within = omega arith; fits = omega arith }

too_long_lem : {l : Line} {b c : List ℕ} → l ≡ key → length c ≡ length b → LineIs l b c (Err LineError.Key)
too_long_lem e s = record { is = sym e; size = s; within = omega arith; fits = omega arith }

-- A key that was decoded fits, or not.
module _ (b c : List ℕ) (n : ℕ) (x : Command) (s : length c ≡ length b) (w : n ≤ length b) where
  fits_long : 64 < n → fits (take n c) x ≡ key
  fits_long h = rw (length-take-le n c (omega arith), le-leb 65 n h)

  fits_short : n ≤ 64 → fits (take n c) x ≡ command x
  fits_short h = rw (length-take-le n c (omega arith), lt-leb 65 n (omega arith))

-- A KEY AND NOTHING MORE

module _ {k : Option (List ℕ)} {b c : List ℕ} where
  pub key_bad : KeyIs k b c None → KeyReadIs k b c (Err LineError.Bad)
  key_bad d = record { is = λ f. rw (← d.is); size = d.size; within = omega arith; fits = omega arith }

  module _ {n : ℕ} (d : KeyIs k b c (Some n)) where
    pub key_long : 64 < n → KeyReadIs k b c (Err LineError.Key)
    key_long h = record { is = λ f. rw (← d.is, fits_long b c n (f (take n c)) d.size d.within h); size = d.size; within = omega arith; fits = omega arith }

    pub key_whole : n ≤ 64 → KeyReadIs k b c (Ok n)
    key_whole h = record { is = λ f. rw (← d.is, fits_short b c n (f (take n c)) d.size d.within h); size = d.size; within = d.within; fits = h }

  -- The line is refused as its key is.
  key_refused : (f : List ℕ → Command) (e : LineError) → KeyReadIs k b c (Err e) → LineIs (with_key f k) b c (Err e)
  key_refused f LineError.Bad r = record { is = r.is f; size = r.size; within = r.within; fits = r.fits }
  key_refused f LineError.Key r = record { is = r.is f; size = r.size; within = r.within; fits = r.fits }

-- A KEY, A SPACE, A NUMBER

both_bad : (o : Option (List ℕ)) → with_both o none ≡ bad
both_bad none = refl
both_bad (some k) = refl

pub insert_none : (w b : List ℕ) → first_space w ≡ length w → LineIs (insert_line w) b b (Err LineError.Bad)
unfolding insert_line number_of
insert_none w b e = malformed (rw (drop_of_length-le w {i = suc (first_space w)} (omega arith)) (both_bad (key_of (take (first_space w) w)))) refl

module _ (w : List ℕ) {at : ℕ} (first : at ≡ first_space w) where
  rest : List ℕ
  rest = take (length w - (at + 1)) (drop (at + 1) w)

  rest_is : rest ≡ drop (suc (first_space w)) w
  unfolding rest
  rest_is = rw (take_all (length w - (at + 1)) (drop (at + 1) w) (omega (arith, length-drop (at + 1) w)), add-one, first)

  module _ {b c : List ℕ} where
    pub insert_bad_key : KeyIs (key_of (take at w)) b c None → LineIs (insert_line w) b c (Err LineError.Bad)
    unfolding insert_line
    insert_bad_key k = malformed (rw (← first, ← k.is)) k.size

    module _ {n : ℕ} (k : KeyIs (key_of (take at w)) b c (Some n)) where
      insert_is : {q : Option ℕ} → q ≡ number_of (take (length w - (at + 1)) (drop (at + 1) w)) → insert_line w ≡ with_both (some (take n c)) q
      unfolding insert_line rest
      insert_is m = rw (m, rest_is, ← first, ← k.is)

      pub insert_bad_number : none ≡ number_of (take (length w - (at + 1)) (drop (at + 1) w)) → LineIs (insert_line w) b c (Err LineError.Bad)
      insert_bad_number m = malformed (insert_is m) k.size

      module _ {v : ℕ} (m : some v ≡ number_of (take (length w - (at + 1)) (drop (at + 1) w))) where
        pub insert_long : 64 < n → LineIs (insert_line w) b c (Err LineError.Key)
        insert_long h = too_long_lem (insert_is m ∙ fits_long b c n (insert (take n c) v) k.size k.within h) k.size

        pub insert_whole : n ≤ 64 → LineIs (insert_line w) b c (Ok (Parsed.Insert n v))
        insert_whole h =
            let line : insert_line w ≡ command (insert (take n c) v) =
            insert_is m ∙ fits_short b c n (insert (take n c) v) k.size k.within h in
            record { is = sym line; size = k.size; within = k.within; fits = h }

-- THE LETTER

by_get : {a : ℕ} (w : List ℕ) → a ≡ 103 → by_letter a w ≡ with_key get (key_of w)
unfolding by_letter
by_get w e = rw e

by_delete : {a : ℕ} (w : List ℕ) → a ≡ 100 → by_letter a w ≡ with_key delete (key_of w)
unfolding by_letter
by_delete w e = rw e

by_plain : {a : ℕ} (w : List ℕ) → a ≡ 112 → by_letter a w ≡ with_key (list plain) (key_of w)
unfolding by_letter
by_plain w e = rw e

by_inclusive : {a : ℕ} (w : List ℕ) → a ≡ 113 → by_letter a w ≡ with_key (list inclusive) (key_of w)
unfolding by_letter
by_inclusive w e = rw e

by_insert : {a : ℕ} (w : List ℕ) → a ≡ 105 → by_letter a w ≡ insert_line w
unfolding by_letter
by_insert w e = rw e

by_other : (a : ℕ) (w : List ℕ) → (a ≡ 105 → ⊥) → (a ≡ 103 → ⊥) → (a ≡ 100 → ⊥) → (a ≡ 112 → ⊥) → (a ≡ 113 → ⊥) → by_letter a w ≡ bad
unfolding by_letter
by_other a w i g d p q = rw (ne_eqb a 105 i, ne_eqb a 103 g, ne_eqb a 100 d, ne_eqb a 112 p, ne_eqb a 113 q)

short_is : (l : List ℕ) → 2 ≤ length l → get_or l 1 0 ≡ 32 → short_line l ≡ by_letter (get_or l 0 0) (take (length l - 2) (drop 2 l))
unfolding short_line
short_is [] h s = absurd (omega arith)
short_is (x ∷ []) h s = absurd (omega arith)
short_is (x ∷ y ∷ l) h s = rw (eq-eqb y 32 s, take_all (length (x ∷ y ∷ l) - 2) l (omega arith))

pub short_few : (l b : List ℕ) → length l < 2 → LineIs (short_line l) b b (Err LineError.Bad)
unfolding short_line
short_few [] b h = malformed refl refl
short_few (x ∷ []) b h = malformed refl refl
short_few (x ∷ y ∷ l) b h = absurd (omega arith)

pub short_joined : (l b : List ℕ) → 2 ≤ length l → (get_or l 1 0 ≡ 32 → ⊥) → LineIs (short_line l) b b (Err LineError.Bad)
unfolding short_line
short_joined [] b h s = malformed refl refl
short_joined (x ∷ []) b h s = malformed refl refl
short_joined (x ∷ y ∷ l) b h s = malformed (rw (ne_eqb y 32 s)) refl

-- A line is what it is by another name.
line_as : {l m : Line} {b c : List ℕ} {r : Result Parsed LineError} → l ≡ m → LineIs m b c r → LineIs l b c r
line_as e k = record { is = k.is ∙ sym e; size = k.size; within = k.within; fits = k.fits }

module _ (l : List ℕ) {b c : List ℕ} {r : Result Parsed LineError} (h : 2 ≤ length l) (s : get_or l 1 0 ≡ 32) where
  pub short_insert : get_or l 0 0 ≡ 105 → LineIs (insert_line (take (length l - 2) (drop 2 l))) b c r → LineIs (short_line l) b c r
  short_insert e k = line_as (short_is l h s ∙ by_insert (take (length l - 2) (drop 2 l)) e) k

abbrev word_of : List ℕ → List ℕ
word_of l = take (length l - 2) (drop 2 l)

module _ (l : List ℕ) {b c : List ℕ} (h : 2 ≤ length l) (s : get_or l 1 0 ≡ 32) where
  module _ {e : LineError} (r : KeyReadIs (key_of (word_of l)) b c (Err e)) where
    pub get_refused : get_or l 0 0 ≡ 103 → LineIs (short_line l) b c (Err e)
    get_refused a = line_as (short_is l h s ∙ by_get (word_of l) a) (key_refused get e r)

    pub delete_refused : get_or l 0 0 ≡ 100 → LineIs (short_line l) b c (Err e)
    delete_refused a = line_as (short_is l h s ∙ by_delete (word_of l) a) (key_refused delete e r)

    pub plain_refused : get_or l 0 0 ≡ 112 → LineIs (short_line l) b c (Err e)
    plain_refused a = line_as (short_is l h s ∙ by_plain (word_of l) a) (key_refused (list plain) e r)

    pub inclusive_refused : get_or l 0 0 ≡ 113 → LineIs (short_line l) b c (Err e)
    inclusive_refused a = line_as (short_is l h s ∙ by_inclusive (word_of l) a) (key_refused (list inclusive) e r)

  module _ {n : ℕ} (r : KeyReadIs (key_of (word_of l)) b c (Ok n)) where
    pub get_read : get_or l 0 0 ≡ 103 → LineIs (short_line l) b c (Ok (Parsed.Get n))
    get_read a = line_as (short_is l h s ∙ by_get (word_of l) a) (record { is = r.is get; size = r.size; within = r.within; fits = r.fits })

    pub delete_read : get_or l 0 0 ≡ 100 → LineIs (short_line l) b c (Ok (Parsed.Delete n))
    delete_read a = line_as (short_is l h s ∙ by_delete (word_of l) a) (record { is = r.is delete; size = r.size; within = r.within; fits = r.fits })

    pub plain_read : get_or l 0 0 ≡ 112 → LineIs (short_line l) b c (Ok (Parsed.Plain n))
    plain_read a = line_as (short_is l h s ∙ by_plain (word_of l) a) (record { is = r.is (list plain); size = r.size; within = r.within; fits = r.fits })

    pub inclusive_read : get_or l 0 0 ≡ 113 → LineIs (short_line l) b c (Ok (Parsed.Inclusive n))
    inclusive_read a = line_as (short_is l h s ∙ by_inclusive (word_of l) a) (record { is = r.is (list inclusive); size = r.size; within = r.within; fits = r.fits })

pub short_other : (l b : List ℕ) → 2 ≤ length l → get_or l 1 0 ≡ 32 → (get_or l 0 0 ≡ 105 → ⊥) → (get_or l 0 0 ≡ 103 → ⊥) → (get_or l 0 0 ≡ 100 → ⊥) → (get_or l 0 0 ≡ 112 → ⊥) → (get_or l 0 0 ≡ 113 → ⊥)
    → LineIs (short_line l) b b (Err LineError.Bad)
short_other l b h s i g d p q = malformed (short_is l h s ∙ by_other (get_or l 0 0) (take (length l - 2) (drop 2 l)) i g d p q) refl

-- THE LENGTH

pub line_long : (l b : List ℕ) → 200 < length l → LineIs (line_of l) b b (Err LineError.Bad)
unfolding line_of
line_long l b h = malformed (rw (lt-ltb 200 (length l) h)) refl

pub line_short : (l : List ℕ) {b c : List ℕ} {r : Result Parsed LineError} → length l ≤ 200 → LineIs (short_line l) b c r → LineIs (line_of l) b c r
unfolding line_of
line_short l h k = line_as (rw (le-ltb 200 (length l) h)) k

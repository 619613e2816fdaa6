-- Laws of input in pieces: one for each return and each turn of the code that takes it, and the whole program from its pieces.
-- Assumes nothing.
use Prim.Native.Nat.{ℕ, ◌+◌, ◌≤◌, ◌<◌}
use mathlib.Core.Path.{◌≡◌, refl, sym, ap, ◌∙◌}
use mathlib.Core.Bool.{Bool, true, false}
use mathlib.Core.List.{List, [], ◌∷◌, ◌++◌, append_assoc, append-nil}
use mathlib.Core.Option.{Option, none, some}
use mathlib.Core.Logic.{◌⊎◌, inl, inr, ⊎_elim}
use native.Mathlib.Omega.{arith}
use native.Mathlib.Numerals.{add-one}
use lib.ListN.{length, get_or, take, drop, set, length-append, drop_of_length-le}
use lib.Dec.{ltb, leb, eqb}
use lib.Seq.{drop-cons, take-suc-set, length-take-le}
use borrow.Author.Tests.{ltb-true, ltb-false, leb-true, leb-false, lt-ltb, le-ltb, le-leb, lt-leb, eq-eqb, ne_eqb}
use Rattle.std.specs.Prelude
use Rattle.std.specs.Prelude.{Some, Result}
use Rattle.promises.specs.Meaning.{Meaning}
use Rattle.promises.specs.Says.{empty}
use Rattle.line.specs.Line.{Line, bad, line_of, short_line}
use Rattle.line.specs.Answer.{answer_line}
use Rattle.line.specs.Run.{last_line, lines_from, answers, held_of, grow, held_line, Taken, more, ended, take_line, Feed, wrote, feed, finish, feed_all, joined, AnyPieces}
use Rattle.line.specs.Code.{held_in, LineIs}
use Rattle.line.specs.declared.reading.Parsed.{Parsed}
use Rattle.line.specs.declared.reading.LineError.{LineError}

-- ONE BYTE

module _ (h : Prelude.Option ℕ) (l : List ℕ) (c : ℕ) {n : ℕ} (held : h ≡ Some n) (room : 200 ≤ length l) where
  pub hold_more : n < 200 → some (take (n + 1) (set l n c)) ≡ grow (held_in h l) c
  hold_more s = rw (held, length-take-le n l (omega arith), lt-ltb n 200 s, add-one, take-suc-set l n c (omega arith))

  pub hold_over : 200 ≤ n → n ≤ 200 → none ≡ grow (held_in h l) c
  hold_over s t = rw (held, length-take-le n l (omega arith), le-ltb n 200 s)

-- A PIECE

module _ (p : List ℕ) (i : ℕ) {x : Option (List ℕ)} {t : Taken} where
  pub take_ended : i < length p → get_or p i 0 ≡ 10 → take_line x (drop i p) ≡ t → ended x (drop (i + 1) p) ≡ t
  unfolding take_line
  take_ended h e inv = rw add-one (rw (drop-cons p i 0 h, eq-eqb (get_or p i 0) 10 e) at inv)

  pub take_more : length p ≤ i → take_line x (drop i p) ≡ t → more x ≡ t
  unfolding take_line
  take_more h inv = rw (drop_of_length-le p h) at inv

pub take_step : (p : List ℕ) (i : ℕ) {y : Option (List ℕ)} (x : Option (List ℕ)) {t : Taken} → i < length p → (get_or p i 0 ≡ 10 → ⊥) → y ≡ grow x (get_or p i 0) → take_line x (drop i p) ≡ t
    → take_line y (drop (i + 1) p) ≡ t
unfolding take_line
take_step p i x h e f inv = rw (add-one, f) (rw (drop-cons p i 0 h, ne_eqb (get_or p i 0) 10 e) at inv)

pub held_line_lem : (n : ℕ) (l : List ℕ) {b c : List ℕ} {r : Result Parsed LineError} → LineIs (short_line (take n l)) b c r → LineIs (held_line (held_in (Some n) l)) b c r
held_line_lem n l k = k

-- THE WHOLE FROM ITS PIECES

known : (t : Bool) → (t ≡ true) ⊎ (t ≡ false)
known true = inl refl
known false = inr refl

grow_held : (l : List ℕ) (c : ℕ) → grow (held_of l) c ≡ held_of (l ++ (c ∷ []))
unfolding held_of
grow_held l c =
    let one : length (l ++ (c ∷ [])) ≡ length l + 1 = length-append l (c ∷ []) in
    ⊎_elim
    (λ t. let h = ltb-true (length l) 200 t in rw (le-leb (length l) 200 (omega arith), t, le-leb (length (l ++ (c ∷ []))) 200 (omega arith)))
    (λ f. let h = ltb-false (length l) 200 f in ⊎_elim
    (λ t. rw (t, f, lt-leb (length (l ++ (c ∷ []))) 200 (omega arith)))
    (λ g. rw (g, lt-leb (length (l ++ (c ∷ []))) 200 (omega arith)))
    (known (leb (length l) 200)))
    (known (ltb (length l) 200))

held_short : (l : List ℕ) → leb (length l) 200 ≡ true → held_of l ≡ some l
unfolding held_of
held_short l t = rw t

held_long : (l : List ℕ) → leb (length l) 200 ≡ false → held_of l ≡ none
unfolding held_of
held_long l f = rw f

line_held : (l : List ℕ) → leb (length l) 200 ≡ true → line_of l ≡ short_line l
unfolding line_of
line_held l t = rw (le-ltb 200 (length l) (leb-true (length l) 200 t))

line_over : (l : List ℕ) → leb (length l) 200 ≡ false → line_of l ≡ bad
unfolding line_of
line_over l f = rw (lt-ltb 200 (length l) (leb-false (length l) 200 f))

held_means : (l : List ℕ) → held_line (held_of l) ≡ line_of l
held_means l =
    ⊎_elim
    (λ t. rw (held_short l t, line_held l t))
    (λ f. rw (held_long l f, line_over l f))
    (known (leb (length l) 200))

finish_held : (l : List ℕ) (m : Meaning) → finish (held_of l) m ≡ answers (last_line l) m
unfolding answers held_of
finish_held [] m = refl
finish_held (c ∷ l) m =
    ⊎_elim
    (λ t. ap (λ (h : Option (List ℕ)). finish h m) (held_short (c ∷ l) t) ∙ rw (append-nil, line_held (c ∷ l) t))
    (λ f. ap (λ (h : Option (List ℕ)). finish h m) (held_long (c ∷ l) f) ∙ rw (append-nil, line_over (c ∷ l) f))
    (known (leb (length (c ∷ l)) 200))

-- A newline, and another byte.
module _ (c : ℕ) (p : List ℕ) where
  feed_newline : (h : Option (List ℕ)) (m : Meaning) → eqb c 10 ≡ true → feed h m (c ∷ p) ≡ (let s = answer_line (held_line h) m in wrote s.bytes (feed (some []) s.after p))
  unfolding feed
  feed_newline h m t = rw t

  feed_other : (h : Option (List ℕ)) (m : Meaning) → eqb c 10 ≡ false → feed h m (c ∷ p) ≡ feed (grow h c) m p
  unfolding feed
  feed_other h m f = rw f

  lines_newline : (l : List ℕ) → eqb c 10 ≡ true → lines_from l (c ∷ p) ≡ l ∷ lines_from [] p
  unfolding lines_from
  lines_newline l t = rw t

  lines_other : (l : List ℕ) → eqb c 10 ≡ false → lines_from l (c ∷ p) ≡ lines_from (l ++ (c ∷ [])) p
  unfolding lines_from
  lines_other l f = rw f

-- What a feed and then the end of the input write.
abbrev ended_by : Feed → List ℕ
ended_by f = f.bytes ++ finish f.held f.after

-- All that is left of the input, fed in one piece.
feed_rest : (l input : List ℕ) (m : Meaning) → ended_by (feed (held_of l) m input) ≡ answers (lines_from l input) m
unfolding feed lines_from answers held_of
feed_rest l [] m = finish_held l m
feed_rest l (c ∷ input) m =
    let s = answer_line (held_line (held_of l)) m in
    let g = feed (some []) s.after input in
    ⊎_elim
    (λ t.
    ap ended_by (feed_newline c input (held_of l) m t) ∙ append_assoc s.bytes g.bytes (finish g.held g.after)
    ∙ ap (λ (x : List ℕ). s.bytes ++ x) (feed_rest [] input s.after)
    ∙ ap (λ (x : Line). (answer_line x m).bytes ++ answers (lines_from [] input) (answer_line x m).after) (held_means l)
    ∙ ap (λ (x : List (List ℕ)). answers x m) (sym (lines_newline c input l t)))
    (λ f.
    ap ended_by (feed_other c input (held_of l) m f ∙ ap (λ (x : Option (List ℕ)). feed x m input) (grow_held l c)) ∙ feed_rest (l ++ (c ∷ [])) input m
    ∙ ap (λ (x : List (List ℕ)). answers x m) (sym (lines_other c input l f)))
    (known (eqb c 10))

wrote_wrote : (b d : List ℕ) (f : Feed) → wrote b (wrote d f) ≡ wrote (b ++ d) f
wrote_wrote b d f = rw append_assoc

-- Two pieces are one.
feed_append : (h : Option (List ℕ)) (m : Meaning) (p q : List ℕ) → feed h m (p ++ q) ≡ (let f = feed h m p in wrote f.bytes (feed f.held f.after q))
unfolding feed
feed_append h m [] q = refl
feed_append h m (c ∷ p) q =
    let s = answer_line (held_line h) m in
    let g = feed (some []) s.after p in
    ⊎_elim
    (λ t. rw t (ap (wrote s.bytes) (feed_append (some []) s.after p q) ∙ wrote_wrote s.bytes g.bytes (feed g.held g.after q)))
    (λ f. rw f (feed_append (grow h c) m p q))
    (known (eqb c 10))

feed_all_lem : (h : Option (List ℕ)) (m : Meaning) (ps : List (List ℕ)) → feed_all h m ps ≡ (let f = feed h m (joined ps) in f.bytes ++ finish f.held f.after)
unfolding feed_all feed
feed_all_lem h m [] = refl
feed_all_lem h m (p ∷ ps) =
    let f = feed h m p in
    rw (feed_append h m p (joined ps), append_assoc) (ap (λ (x : List ℕ). f.bytes ++ x) (feed_all_lem f.held f.after ps))

pub any_pieces : AnyPieces
unfolding held_of
any_pieces ps = feed_all_lem (some []) (empty 128 511) ps ∙ feed_rest [] (joined ps) (empty 128 511)

-- A piece as the code takes it: to its end, or up to a newline.
pub feed_more : (h : Option (List ℕ)) (m : Meaning) (p : List ℕ) {g : Option (List ℕ)} → take_line h p ≡ more g → feed h m p ≡ record { bytes = []; held = g; after = m }
unfolding feed take_line
feed_more h m [] {g} e = let z : h ≡ g = cc in rw z
feed_more h m (c ∷ p) e =
    ⊎_elim
    (λ t. let f = rw t at e in let z : ◌≡◌ {A = ℕ} 0 1 = cc in absurd (omega arith))
    (λ f. rw f (feed_more (grow h c) m p (rw f at e)))
    (known (eqb c 10))

pub feed_ended : (h : Option (List ℕ)) (m : Meaning) (p : List ℕ) {g : Option (List ℕ)} {q : List ℕ} → take_line h p ≡ ended g q
    → feed h m p ≡ (let s = answer_line (held_line g) m in wrote s.bytes (feed (some []) s.after q))
unfolding feed take_line
feed_ended h m [] e = let z : ◌≡◌ {A = ℕ} 0 1 = cc in absurd (omega arith)
feed_ended h m (c ∷ p) {g} {q} e =
    ⊎_elim
    (λ t. let f = rw t at e in let y : h ≡ g = cc in let z : p ≡ q = cc in rw (t, y, z))
    (λ f. rw f (feed_ended (grow h c) m p (rw f at e)))
    (known (eqb c 10))

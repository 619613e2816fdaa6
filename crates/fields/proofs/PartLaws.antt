-- A part, and a list with other bytes in a part's place: what was put in is there, and what lies apart is as it was, whatever the place and the bytes.
-- The frame laws ask for nothing but that. Assumes nothing.
use mathlib.Core.Path.{◌≡◌, refl, ap, sym, ◌∙◌}
use mathlib.Core.Bool.{Bool, true, false}
use mathlib.Core.List.{List, [], ◌∷◌, ◌++◌, append_assoc}
use mathlib.Core.Logic.{◌⊎◌, ⊎_elim, inl, inr}
use Prim.Native.Nat.{ℕ, zero, suc, ◌+◌, ◌-◌, ◌≤◌, ◌<◌}
use native.Mathlib.Nat.{add_assoc}
use native.Mathlib.Omega.{arith}
use lib.Dec.{leb}
use lib.ListN.{length, take, drop, get_or, set, length-take, length-drop, length-set}
use native.Mathlib.Decide.{dec_lt}
use lib.Seq.{sets, length-sets, sets-eq, set_out, take-set-le, take-set-lt, get_or-take, get_or-drop, drop-drop, ext_get_or, get_or-set_same, get_or-set_other, set_comm, take_all}
use borrow.Author.Tests.{leb-true, leb-false}
use Rattle.std.specs.List.{CopiedTo, SameBelow, SameFrom}
use Rattle.fields.specs.Part.{part, splice, Apart}

-- ---- a part

pub length_part : (xs : List ℕ) (a n : ℕ) → a + n ≤ length xs → length (part xs a n) ≡ n
unfolding part
length_part xs a n h = simp (length-take, length-drop) (omega arith)

pub get_d_part : (xs : List ℕ) (a n i : ℕ) → i < n → get_or (part xs a n) i 0 ≡ get_or xs (a + i) 0
unfolding part
get_d_part xs a n i h = rw (get_or-take, get_or-drop)

pub part_all : (xs : List ℕ) (n : ℕ) → length xs ≤ n → part xs 0 n ≡ xs
unfolding part
part_all xs n h = take_all n xs h

pub part_agree : (xs ys : List ℕ) (a b n : ℕ) → a + n ≤ length xs → b + n ≤ length ys → ((i : ℕ) → i < n → get_or xs (a + i) 0 ≡ get_or ys (b + i) 0) → part xs a n ≡ part ys b n
part_agree xs ys a b n f g h =
    ext_get_or 0 (part xs a n) (part ys b n) (length_part xs a n f ∙ sym (length_part ys b n g))
    (λ i l.
    let l' : i < n = omega (arith, length_part xs a n f) in
    get_d_part xs a n i l' ∙ h i l' ∙ sym (get_d_part ys b n i l'))

-- of two lists of one length, also past the end
pub part_equal : (xs ys : List ℕ) (a n : ℕ) → length xs ≡ length ys → ((i : ℕ) → i < n → get_or xs (a + i) 0 ≡ get_or ys (a + i) 0) → part xs a n ≡ part ys a n
unfolding part
part_equal xs ys a n e h =
    ext_get_or 0 (take n (drop a xs)) (take n (drop a ys)) (simp (length-take, length-drop, e))
    (λ i l.
    let l' : i < n = omega (arith, rw length-take at l) in
    get_d_part xs a n i l' ∙ h i l' ∙ sym (get_d_part ys a n i l'))

-- a part of a part
pub part_part : (xs : List ℕ) (a m b n : ℕ) → a + m ≤ length xs → b + n ≤ m → part (part xs a m) b n ≡ part xs (a + b) n
part_part xs a m b n f h =
    part_agree (part xs a m) xs b (a + b) n (omega (arith, length_part xs a m f)) (omega arith)
    (λ i l. get_d_part xs a m (b + i) (omega arith) ∙ rw (← add_assoc) refl)

-- ---- each byte after a splice

pub length_splice : (xs : List ℕ) (a : ℕ) (ys : List ℕ) → length (splice xs a ys) ≡ length xs
unfolding splice
length_splice xs a ys = length-sets xs a ys

pub get_or_splice_below : (xs : List ℕ) (a : ℕ) (ys : List ℕ) (i : ℕ) → i < a → get_or (splice xs a ys) i 0 ≡ get_or xs i 0
unfolding splice
get_or_splice_below xs a [] i h = refl
get_or_splice_below xs a (y ∷ ys) i h =
    get_or_splice_below (set xs a y) (suc a) ys i (omega arith) ∙ get_or-set_other xs a i y 0 (omega arith)

pub get_or_splice_above : (xs : List ℕ) (a : ℕ) (ys : List ℕ) (i : ℕ) → a + length ys ≤ i → get_or (splice xs a ys) i 0 ≡ get_or xs i 0
unfolding splice
get_or_splice_above xs a [] i h = refl
get_or_splice_above xs a (y ∷ ys) i h =
    get_or_splice_above (set xs a y) (suc a) ys i (omega arith) ∙ get_or-set_other xs a i y 0 (omega arith)

pub get_or_splice_in : (xs : List ℕ) (a : ℕ) (ys : List ℕ) (i : ℕ) → a + length ys ≤ length xs → i < length ys → get_or (splice xs a ys) (a + i) 0 ≡ get_or ys i 0
unfolding splice
get_or_splice_in xs a [] i f h = omega arith
get_or_splice_in xs a (y ∷ ys) zero f h =
    let e : a + 0 ≡ a = omega arith in
    rw e (get_or_splice_below (set xs a y) (suc a) ys a (omega arith) ∙ get_or-set_same xs a y 0 (omega arith))
get_or_splice_in xs a (y ∷ ys) (suc i) f h =
    let e : a + suc i ≡ suc a + i = omega arith in
    rw e (get_or_splice_in (set xs a y) (suc a) ys i (rw length-set (omega arith)) (omega arith))

pub splice_nil : (xs : List ℕ) (a : ℕ) → splice xs a [] ≡ xs
unfolding splice
splice_nil xs a = refl

pub splice_cons : (xs : List ℕ) (a y : ℕ) (ys : List ℕ) → splice xs a (y ∷ ys) ≡ splice (set xs a y) (suc a) ys
unfolding splice
splice_cons xs a y ys = refl

-- the first elements of a list with ys in some place are its first elements with ys there, as far as they go
take_set : (m : ℕ) (xs : List ℕ) (a y : ℕ) → take m (set xs a y) ≡ set (take m xs) a y
take_set m xs a y = go (dec_lt a m)
  where
    go : Dec (a < m) → take m (set xs a y) ≡ set (take m xs) a y
    go (yes h) = take-set-lt m xs a y h
    go (no h) = take-set-le m xs a y (omega arith) ∙ sym (set_out (take m xs) a y (omega (arith, length-take m xs)))

pub take_splice : (m : ℕ) (xs : List ℕ) (a : ℕ) (ys : List ℕ) → take m (splice xs a ys) ≡ splice (take m xs) a ys
unfolding splice
take_splice m xs a [] = refl
take_splice m xs a (y ∷ ys) = take_splice m (set xs a y) (suc a) ys ∙ ap (λ (z : List ℕ). sets z (suc a) ys) (take_set m xs a y)

-- a list that is another one with ys in some place, by its bytes
pub is_splice : (xs zs : List ℕ) (a : ℕ) (ys : List ℕ) → length zs ≡ length xs → a + length ys ≤ length xs
    → ((i : ℕ) → i < length ys → get_or zs (a + i) 0 ≡ get_or ys i 0) → ((i : ℕ) → (i < a) ⊎ (a + length ys ≤ i) → get_or zs i 0 ≡ get_or xs i 0)
    → zs ≡ splice xs a ys
is_splice xs zs a ys l f inside outside =
    ext_get_or 0 zs (splice xs a ys) (l ∙ sym (length_splice xs a ys)) (λ i h. go i (leb (suc i) a) refl (leb (a + length ys) i) refl)
  where
    go : (i : ℕ) (s : Bool) → leb (suc i) a ≡ s → (t : Bool) → leb (a + length ys) i ≡ t → get_or zs i 0 ≡ get_or (splice xs a ys) i 0
    go i true p t q =
        let h : i < a = leb-true (suc i) a p in
        outside i (inl h) ∙ sym (get_or_splice_below xs a ys i h)
    go i false p true q =
        let h : a + length ys ≤ i = leb-true (a + length ys) i q in
        outside i (inr h) ∙ sym (get_or_splice_above xs a ys i h)
    go i false p false q =
        let h : a ≤ i = omega (arith, leb-false (suc i) a p) in
        let k : i < a + length ys = omega (arith, leb-false (a + length ys) i q) in
        let e : i ≡ a + (i - a) = omega arith in
        rw e (inside (i - a) (omega arith) ∙ sym (get_or_splice_in xs a ys (i - a) f (omega arith)))

-- ---- what was put in is there, if there is room for it

pub part_splice_same : (xs : List ℕ) (a : ℕ) (ys : List ℕ) (n : ℕ) → length ys ≡ n → a + n ≤ length xs → part (splice xs a ys) a n ≡ ys
part_splice_same xs a ys n e f =
    let l : length (part (splice xs a ys) a n) ≡ n = length_part (splice xs a ys) a n (rw length_splice f) in
    ext_get_or 0 (part (splice xs a ys) a n) ys (l ∙ sym e)
    (λ i h.
    let h' : i < n = omega arith in
    get_d_part (splice xs a ys) a n i h' ∙ get_or_splice_in xs a ys i (omega arith) (omega arith))

-- ---- the frame: what lies apart is as it was, and so is all that lies past

module _ (xs : List ℕ) (a : ℕ) (ys : List ℕ) where
  apart : (b n i : ℕ) → Apart a (length ys) b n → i < n → get_or (splice xs a ys) (b + i) 0 ≡ get_or xs (b + i) 0
  apart b n i h l =
      ⊎_elim
      (λ w. get_or_splice_above xs a ys (b + i) (omega arith))
      (λ w. get_or_splice_below xs a ys (b + i) (omega arith))
      h

  pub part_splice_apart : (b n : ℕ) → Apart a (length ys) b n → part (splice xs a ys) b n ≡ part xs b n
  part_splice_apart b n h = part_equal (splice xs a ys) xs b n (length_splice xs a ys) (λ i l. apart b n i h l)

  pub drop_splice : (b : ℕ) → a + length ys ≤ b → drop b (splice xs a ys) ≡ drop b xs
  drop_splice b h =
      ext_get_or 0 (drop b (splice xs a ys)) (drop b xs) (simp (length-drop, length_splice))
      (λ i l. get_or-drop b (splice xs a ys) i 0 ∙ get_or_splice_above xs a ys (b + i) (omega arith) ∙ sym (get_or-drop b xs i 0))

-- one splice directly after another
pub splice_append : (xs : List ℕ) (a : ℕ) (ys zs : List ℕ) → splice (splice xs a ys) (a + length ys) zs ≡ splice xs a (ys ++ zs)
unfolding splice
splice_append xs a [] zs = let e : a + 0 ≡ a = omega arith in rw e
splice_append xs a (y ∷ ys) zs =
    let e : a + suc (length ys) ≡ suc a + length ys = omega arith in
    rw e (splice_append (set xs a y) (suc a) ys zs)

-- one byte put after the place of a splice is one put before it, and after it the splice's next one
set_past : (xs : List ℕ) (a : ℕ) (ys : List ℕ) (p x : ℕ) → a + length ys ≤ p → splice (set xs p x) a ys ≡ set (splice xs a ys) p x
unfolding splice
set_past xs a [] p x h = refl
set_past xs a (y ∷ ys) p x h =
    ap (λ (zs : List ℕ). splice zs (suc a) ys) (set_comm xs p a x y (omega arith))
    ∙ set_past (set xs a y) (suc a) ys p x (omega arith)

splice_snoc : (xs : List ℕ) (a : ℕ) (ys : List ℕ) (x : ℕ) → set (splice xs a ys) (a + length ys) x ≡ splice xs a (ys ++ x ∷ [])
unfolding splice
splice_snoc xs a [] x = let e : a + 0 ≡ a = omega arith in rw e
splice_snoc xs a (y ∷ ys) x =
    let e : a + suc (length ys) ≡ suc a + length ys = omega arith in
    rw e (splice_snoc (set xs a y) (suc a) ys x)

pub splice_last : (xs : List ℕ) (a : ℕ) (ys : List ℕ) (x n : ℕ) → n ≡ length ys → splice (set xs (a + n) x) a ys ≡ splice xs a (ys ++ x ∷ [])
splice_last xs a ys x n e = rw e (set_past xs a ys (a + length ys) x (omega arith) ∙ splice_snoc xs a ys x)

-- ---- the library's move within a slice

pub moved : (xs zs : List ℕ) (to from n m : ℕ) → m ≡ n → length zs ≡ length xs → to + n ≤ length xs → from + n ≤ length xs
    → CopiedTo xs zs from to m → SameBelow xs zs to → SameFrom xs zs (to + m) → zs ≡ splice xs to (part xs from n)
moved xs zs to from n m e l f g inside below above =
    is_splice xs zs to (part xs from n) l (omega (arith, length_part xs from n g))
    (λ i h.
    let k : i < n = omega (arith, length_part xs from n g) in
    let p : to + i - to ≡ i = omega arith in
    rw p at (inside (to + i) 0 (omega arith) (omega arith)) ∙ sym (get_d_part xs from n i k))
    (λ i h. ⊎_elim (λ k. below i 0 k) (λ k. above i 0 (omega (arith, length_part xs from n g))) h)

-- ---- a part that is lent as `&mut s[a..a + n]`, and the whole once it has come back with ys in it

pub lent : (xs : List ℕ) (a n : ℕ) → take (a + n - a) (drop a xs) ≡ part xs a n
unfolding part
lent xs a n = let e : a + n - a ≡ n = omega arith in rw e

pub lent_back : (xs : List ℕ) (a n : ℕ) (ys : List ℕ) → a + n ≤ length xs → length ys ≡ n
    → take a xs ++ (ys ++ drop (a + n - a) (drop a xs)) ≡ splice xs a ys
unfolding splice
lent_back xs a n ys h l =
    let e : a + n - a ≡ length ys = omega arith in
    let f : a + length ys ≤ length xs = omega arith in
    rw (e, drop-drop, ← append_assoc) (sym (sets-eq ys xs a f))

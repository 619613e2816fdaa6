-- What a page takes: nothing once it has stopped, the mark of what is wrong, and an entry while one is wanted. Assumes nothing.
use Prim.Native.Nat.{ℕ, ◌+◌, ◌-◌, ◌≤◌}
use mathlib.Core.Path.{◌≡◌, refl, sym, ap, ◌∙◌}
use mathlib.Core.Bool.{Bool, true, false, cond}
use mathlib.Core.List.{List, [], ◌∷◌, ◌++◌, append-nil, append_assoc}
use mathlib.Core.Option.{none, some}
use native.Mathlib.Omega.{arith}
use lib.ListN.{length, take, drop, length-drop}
use lib.Seq.{sets, sets-eq, take_all, drop-length, drop-drop}
use borrow.Author.Tests.{eq-eqb, ne_eqb}
use Rattle.model.specs.Map.{Entry}
use Rattle.model.specs.Numbers.{entry_limit}
use Rattle.model.specs.Entry.{entry_bytes}
use Rattle.fields.specs.Part.{splice}
use Rattle.walk.specs.Walk.{Met, Sheet, sheet, HasRoom, is_stopped, add, put, puts, wrongly}
use Rattle.walk.specs.declared.walk.Stop.{Stop}
use Rattle.walk.specs.declared.walk.Stop.TheVariants.{Going, Further, Wrong}
use Rattle.walk.specs.declared.walk.Progress.{Progress}

abbrev progress : ℕ → ℕ → Stop → Progress
progress at left stop = record { at = at; left = left; stop = stop }

-- ---- one step

module _ (p : Progress) (b : Bool) (is : b ≡ is_stopped p.stop) where
  pub wrong_going : b ≡ false → progress p.at p.left Wrong ≡ wrongly p
  wrong_going e = rw (← is, e)

  module _ (out : List ℕ) (e : Entry) where
    pub give_stopped : b ≡ true → sheet out p ≡ put (some e) (sheet out p)
    give_stopped h = rw (← is, h)

    pub give_further : b ≡ false → p.left ≡ 0 → sheet out (progress p.at p.left Further) ≡ put (some e) (sheet out p)
    give_further h l = rw (← is, h, eq-eqb p.left 0 l)

-- the rest of an output that is lent as `&mut out[at..]`, and the whole once it has come back with ys at its start
rest_back : (out : List ℕ) (at : ℕ) (ys : List ℕ) → at + length ys ≤ length out
    → take at out ++ (splice (take (length out - at) (drop at out)) 0 ys ++ drop (length out - at) (drop at out)) ≡ splice out at ys
unfolding splice
rest_back out at ys h =
    let n : ℕ = length out - at in
    let l : length (drop at out) ≡ n = length-drop at out in
    let whole : take n (drop at out) ≡ drop at out = take_all n (drop at out) (omega (arith, l)) in
    let none_left : drop n (drop at out) ≡ [] = ap (λ (z : ℕ). drop z (drop at out)) (sym l) ∙ drop-length (drop at out) in
    let zero : 0 + length ys ≡ length ys = omega arith in
    let part : sets (drop at out) 0 ys ≡ ys ++ drop (length ys) (drop at out) = sets-eq ys (drop at out) 0 (omega (arith, l)) ∙ ap (λ (z : ℕ). ys ++ drop z (drop at out)) zero in
    rw (whole, none_left, part, append-nil, drop-drop, ← append_assoc) (sym (sets-eq ys out at h))

module _ (p : Progress) (b : Bool) (is : b ≡ is_stopped p.stop) (out : List ℕ) (e : Entry) where
  pub give_written : (q : List ℕ) (size : ℕ) → b ≡ false → (p.left ≡ 0 → ⊥) → HasRoom out p → size ≡ length (entry_bytes e) → size ≤ entry_limit
      → q ≡ splice (take (length out - p.at) (drop p.at out)) 0 (entry_bytes e)
      → sheet (take p.at out ++ (q ++ drop (length out - p.at) (drop p.at out))) (progress (p.at + size) (p.left - 1) Going) ≡ put (some e) (sheet out p)
  give_written q size h l room s f w =
      let back : take p.at out ++ (q ++ drop (length out - p.at) (drop p.at out)) ≡ splice out p.at (entry_bytes e) =
      rw w (rest_back out p.at (entry_bytes e) (omega (arith, s))) in
      rw (back, s, ← is, h, ne_eqb p.left 0 l)

  pub room_written : (size : ℕ) (out' : List ℕ) → (p.left ≡ 0 → ⊥) → HasRoom out p → size ≤ entry_limit → length out' ≡ length out → HasRoom out' (progress (p.at + size) (p.left - 1) Going)
  room_written size out' l room f s = omega (arith, s)

-- ---- several

pub puts_append : (xs ys : List Met) (s : Sheet) → puts (xs ++ ys) s ≡ puts ys (puts xs s)
unfolding puts
puts_append [] ys s = refl
puts_append (x ∷ xs) ys s = puts_append xs ys (put x s)

-- a page that has stopped stays as it is
pub puts_stopped : (xs : List Met) (s : Sheet) → is_stopped s.stop ≡ true → puts xs s ≡ s
unfolding puts
puts_stopped [] s e = refl
puts_stopped (x ∷ xs) s e = rw e (puts_stopped xs s e)

pub puts_one : (x : Met) (s : Sheet) → puts (x ∷ []) s ≡ put x s
unfolding puts
puts_one x s = refl

-- what is wrong stops it
wrong_stops : (s : Sheet) → is_stopped (put none s).stop ≡ true
wrong_stops s = go (is_stopped s.stop) refl
  where
    go : (b : Bool) → is_stopped s.stop ≡ b → is_stopped (cond b s (add none s)).stop ≡ true
    go true e = e
    go false e = refl

pub puts_wrong : (xs : List Met) (s : Sheet) → puts (none ∷ xs) s ≡ put none s
unfolding puts
puts_wrong xs s = puts_stopped xs (put none s) (wrong_stops s)

pub wrong_is : (out : List ℕ) (p r : Progress) → r ≡ wrongly p → sheet out r ≡ put none (sheet out p)
wrong_is out p r e = ap (sheet out) e ∙ go (is_stopped p.stop)
  where
    go : (b : Bool) → sheet out (cond b p (progress p.at p.left Wrong)) ≡ cond b (sheet out p) (add none (sheet out p))
    go true = refl
    go false = refl

pub room_wrong : (out : List ℕ) (p r : Progress) → HasRoom out p → r ≡ wrongly p → HasRoom out r
room_wrong out p r h e = rw e (go (is_stopped p.stop))
  where
    go : (b : Bool) → HasRoom out (cond b p (progress p.at p.left Wrong))
    go true = h
    go false = h

-- the same output and progress by other names
pub moved : (out out₁ : List ℕ) (p p₁ : Progress) (s : Sheet) → out ≡ out₁ → p ≡ p₁ → sheet out₁ p₁ ≡ s → sheet out p ≡ s
moved out out₁ p p₁ s e i q = rw (e, i) q

pub room_moved : (out out₁ : List ℕ) (p p₁ : Progress) → out ≡ out₁ → p ≡ p₁ → HasRoom out₁ p₁ → HasRoom out p
room_moved out out₁ p p₁ e i h = rw (e, i) h

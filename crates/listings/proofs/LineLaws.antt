-- Laws of a page's lines.
-- Assumes nothing.
use Prim.Native.Nat.{ℕ, zero, suc, ◌+◌, ◌*◌, ◌-◌, ◌≤◌, ◌<◌}
use mathlib.Core.Path.{◌≡◌, refl, sym, ap, ◌∙◌}
use mathlib.Core.List.{List, ◌++◌}
use native.Mathlib.Omega.{arith}
use lib.ListN.{length, get_or, take, drop, length-take, length-drop, length-append}
use lib.Seq.{take_all, take_at}
use borrow.Author.Tests.{lt-ltb, le-ltb}
use borrow.Rule.Slice.PartMut.{put_mid}
use Rattle.line.specs.Answer.{entry_text}
use Rattle.line.specs.Code.{Wrote}
use Rattle.line.proofs.WriteLaws.{wrote_none, wrote_as, wrote_rest, entry_few}
use Rattle.listings.specs.PageText.{value_at, page_text, last_at, key_at, Kept}

module _ (c : ℕ) (l : List ℕ) {o : List ℕ} where
  pub page_none : c ≡ 0 → Wrote (page_text c l) o o 0
  unfolding page_text
  page_none e = rw e (wrote_none o)

pub page_bad : (c : ℕ) (l : List ℕ) {o : List ℕ} {k : ℕ} → (c ≡ 0 → ⊥) → k ≡ get_or l 2 0 → 64 < k → Wrote (page_text c l) o o 0
unfolding page_text
page_bad zero l ne e h = absurd (ne refl)
page_bad (suc c) l {o} {k} ne e h = rw (← e, lt-ltb 64 k h) (wrote_none o)

-- A line, and then those of the entries that are left, in the rest of the output. The key that is lent is the k bytes from 3 on.
pub page_some : (c : ℕ) (l : List ℕ) {o p q : List ℕ} {k v n m : ℕ} → (c ≡ 0 → ⊥) → k ≡ get_or l 2 0 → k ≤ 64 → v ≡ value_at l (k + 6) → Wrote (entry_text (take (k + 3 - 3) (drop 3 l), v)) o p n
    → Wrote (page_text (c - 1) (take (length l - (k + 10)) (drop (k + 10) l))) (take (length p - n) (drop n p)) q m → Wrote (page_text c l) o (put_mid n (length p - n) p q) (n + m)
unfolding page_text
page_some zero l ne e h f w x = absurd (ne refl)
page_some (suc c) l {k = k} ne e h f w x =
    let a : k + 3 - 3 ≡ k = omega arith in
    let b : suc c - 1 ≡ c = omega arith in
    let t : take (length l - (k + 10)) (drop (k + 10) l) ≡ drop (k + 10) l = take_all (length l - (k + 10)) (drop (k + 10) l) (omega (arith, length-drop (k + 10) l)) in
    wrote_as (wrote_rest w x) (rw (a, b, t, f, ← e, le-ltb 64 k h))

pub page_room : (c : ℕ) (l : List ℕ) (k v : ℕ) {o p : List ℕ} {n : ℕ} → 141 * c ≤ length o → (c ≡ 0 → ⊥) → k ≤ 64 → Wrote (entry_text (take (k + 3 - 3) (drop 3 l), v)) o p n
    → 141 * (c - 1) ≤ length (take (length p - n) (drop n p))
page_room c l k v room ne h w =
    simp (length-take, length-drop) (omega (arith, w.count, w.size, entry_few (take (k + 3 - 3) (drop 3 l)) v, length-take (k + 3 - 3) (drop 3 l)))

-- ---- the last entry

pub last_first : (c : ℕ) (l : List ℕ) → c < 2 → 0 ≡ last_at c l
unfolding last_at
last_first zero l h = refl
last_first (suc zero) l h = refl
last_first (suc (suc c)) l h = absurd (omega arith)

pub last_bad : (c : ℕ) (l : List ℕ) (k : ℕ) → 2 ≤ c → k ≡ get_or l 2 0 → 64 < k → 0 ≡ last_at c l
unfolding last_at
last_bad zero l k g e h = refl
last_bad (suc zero) l k g e h = refl
last_bad (suc (suc c)) l k g e h = rw (← e, lt-ltb 64 k h)

pub last_next : (c : ℕ) (l : List ℕ) (k r : ℕ) → 2 ≤ c → k ≡ get_or l 2 0 → k ≤ 64 → r ≡ last_at (c - 1) (take (length l - (k + 10)) (drop (k + 10) l)) → k + 10 + r ≡ last_at c l
unfolding last_at
last_next zero l k r g e h q = absurd (omega arith)
last_next (suc zero) l k r g e h q = absurd (omega arith)
last_next (suc (suc c)) l k r g e h q =
    let b : suc (suc c) - 1 ≡ suc c = omega arith in
    let t : take (length l - (k + 10)) (drop (k + 10) l) ≡ drop (k + 10) l = take_all (length l - (k + 10)) (drop (k + 10) l) (omega (arith, length-drop (k + 10) l)) in
    let z : r ≡ last_at (suc c) (drop (k + 10) l) = q ∙ rw (b, t) in
    rw (z, ← e, le-ltb 64 k h)

-- ---- its key

module _ (l : List ℕ) (at k : ℕ) (is : k ≡ get_or l (at + 2) 0) (b : List ℕ) where
  pub kept_none : 64 < k → Kept (key_at l at) b b 0
  kept_none h = record { is = sym (rw (← is, lt-ltb 64 k h)); size = refl; fits = omega arith }

  pub kept_some : (p : List ℕ) → at + 74 ≤ length l → 64 ≤ length b → k ≤ 64 → p ≡ take (at + 3 + k - (at + 3)) (drop (at + 3) l) → Kept (key_at l at) b (p ++ drop k b) k
  kept_some p room big h e =
      let z : at + 3 + k - (at + 3) ≡ k = omega arith in
      let f : p ≡ take k (drop (at + 3) l) = e ∙ rw z in
      let n : length p ≡ k = ap length f ∙ simp (length-take, length-drop) (omega arith) in
      record {
        is = take_at p (drop k b) k n ∙ f ∙ sym (rw (← is, le-ltb 64 k h));
        size = length-append p (drop k b) ∙ simp length-drop (omega (arith, n));
        fits = h;
      }

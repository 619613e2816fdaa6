-- The past does not show: what an insertion answers depends on the picture alone, not on the record numbers, and so on the map alone.
-- Assumes nothing.
use Prim.Native.Nat.{ℕ}
use mathlib.Core.Path.{◌≡◌, refl, sym, ◌∙◌, ap, ap₂}
use mathlib.Core.List.{List}
use mathlib.Core.Option.{Option, none, some}
use native.Mathlib.Omega.{arith}
use lib.ListN.{length}
use lib.Dec.{eqb}
use Rattle.model.specs.Key.{order, on_equal}
use Rattle.model.specs.Answers.{Answer, DONE, REPLACED, KEY, HEIGHT, FULL}
use Rattle.model.specs.Map.{Entry, pick}
use Rattle.model.specs.Picture.{Tree, entries, Pictured, Descent, bare, too_long, too_high}
use Rattle.model.proofs.Unique.{unique, listing_some}
use Rattle.model.proofs.Bare.{closest_bare, listing_bare}
use Rattle.pictures.specs.Calls.{insert_answer}

-- the answer as a function of the way down and of the listing
abbrev answer : ℕ → ℕ → List ℕ → Descent → List Entry → Answer
answer capacity limit k d m =
    pick (too_long k) KEY (on_equal (order k d.key) REPLACED (pick (too_high limit k d) HEIGHT (pick (eqb (length m) capacity) FULL DONE)))

answer_bare : (capacity limit : ℕ) (k : List ℕ) (t : Tree) → insert_answer capacity limit k (some t) ≡ insert_answer capacity limit k (some (bare t))
answer_bare capacity limit k t = sym (ap₂ (answer capacity limit k) (closest_bare k t) (listing_bare t))

-- Two contents with the same map give the same answer to an insertion.
pub answer_same : (capacity limit : ℕ) (k : List ℕ) (o p : Option Tree) → Pictured o → Pictured p → entries o ≡ entries p
    → insert_answer capacity limit k o ≡ insert_answer capacity limit k p
answer_same capacity limit k none none h g e = refl
answer_same capacity limit k none (some u) h g e = absurd (omega (arith, listing_some u g, ap (length {A = Entry}) e))
answer_same capacity limit k (some t) none h g e = absurd (omega (arith, listing_some t h, ap (length {A = Entry}) e))
answer_same capacity limit k (some t) (some u) h g e =
    answer_bare capacity limit k t ∙ ap (λ (z : Tree). insert_answer capacity limit k (some z)) (unique t u h g e) ∙ sym (answer_bare capacity limit k u)

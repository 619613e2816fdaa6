-- What a turn says of the next place in a piece, and that turn by turn a piece is fed.
-- Assumes nothing.
use Prim.Native.Nat.{ℕ, ◌-◌, ◌≤◌}
use mathlib.Core.Path.{◌≡◌, refl, sym, ap, subst, ◌∙◌}
use mathlib.Core.List.{List, [], ◌∷◌}
use mathlib.Core.Option.{Option}
use native.Mathlib.Omega.{arith}
use lib.ListN.{length, take, drop, length-drop}
use lib.Seq.{take_all}
use Rattle.std.specs.Prelude
use Rattle.model.specs.Numbers.{capacity_of}
use Rattle.promises.specs.Meaning.{Meaning, Means, Reply}
use Rattle.promises.specs.Says.{empty}
use Rattle.promises.specs.Promises.{Create}
use Rattle.index_spec.specs.Layout.{layout}
use Rattle.line.specs.Run.{Feed, feed, wrote}
use Rattle.line.specs.Code.{held_size, held_in}
use Rattle.command.specs.Turned.{turn_of, Turned}
use Rattle.command.proofs.TurnLaws.{turn_feeds}
use Rattle.stream.specs.Fed.{Fed}
use Rattle.command.specs.declared.turns.Turn.{Turn}

-- ---- turn by turn

-- From what is held now, the rest of the piece leads to where the whole piece leads from what was held before it.
pub record Ahead (h : Option (List ℕ)) (piece st : List ℕ) (x : Option (List ℕ)) (now rest : List ℕ) : Type 0 where
  pub going : (m : Meaning) → Means layout st m
      → (n : Meaning) × Means layout now n × ((feed h m piece).held ≡ (feed x n rest).held) × ((feed h m piece).after ≡ (feed x n rest).after)

pub ahead_start : (x : Option (List ℕ)) (piece st : List ℕ) → Ahead x piece st x st piece
ahead_start x piece st = record { going = λ m w. (m, w, refl, refl) }

module _ (h : Option (List ℕ)) (piece st₀ : List ℕ) (x : Option (List ℕ)) (st rest : List ℕ) (a : Ahead h piece st₀ x st rest) where
  pub ahead_next : {line st' out out' : List ℕ} {r : Turn} → Turned x rest line st st' out out' r → Ahead h piece st₀ (held_in r.held line) st' (take (length rest - r.used) (drop r.used rest))
  ahead_next {line} {st'} {out} {out'} {r} t = record { going = λ m w. go m (a.going m w) }
    where
      left : (n : Meaning) → (turn_of x rest n).rest ≡ take (length rest - r.used) (drop r.used rest)
      left n = sym (t.rest n) ∙ sym (take_all (length rest - r.used) (drop r.used rest) (omega (arith, length-drop r.used rest)))

      fed : (n : Meaning) → feed x n rest ≡ wrote (turn_of x rest n).bytes (feed (held_in r.held line) (turn_of x rest n).after (take (length rest - r.used) (drop r.used rest)))
      fed n = turn_feeds x rest n ∙ rw (← t.held n, left n) refl

      go : (m : Meaning) → ((n : Meaning) × Means layout st n × ((feed h m piece).held ≡ (feed x n rest).held) × ((feed h m piece).after ≡ (feed x n rest).after))
          → (n : Meaning) × Means layout st' n × ((feed h m piece).held ≡ (feed (held_in r.held line) n (take (length rest - r.used) (drop r.used rest))).held)
          × ((feed h m piece).after ≡ (feed (held_in r.held line) n (take (length rest - r.used) (drop r.used rest))).after)
      go m (n, w, p, q) =
          ((turn_of x rest n).after, t.after n w, p ∙ ap (λ (f : Feed). f.held) (fed n), q ∙ ap (λ (f : Feed). f.after) (fed n))

pub fed_all : (h : Option (List ℕ)) (piece st₀ st line rest : List ℕ) (r : Prelude.Option ℕ) → Ahead h piece st₀ (held_in r line) st rest → length rest ≡ 0 → held_size r ≤ 200 → Fed h piece line st₀ st r
unfolding feed
fed_all h piece st₀ st line rest r a past few = record {
  fits = few;
  held = λ m w. (at_end m rest past (a.going m w)).0;
  after = λ m w. (at_end m rest past (a.going m w)).1;
}
  where
    at_end : (m : Meaning) (l : List ℕ) → length l ≡ 0 → ((n : Meaning) × Means layout st n × ((feed h m piece).held ≡ (feed (held_in r line) n l).held) × ((feed h m piece).after ≡ (feed (held_in r line) n l).after))
        → (held_in r line ≡ (feed h m piece).held) × Means layout st (feed h m piece).after
    at_end m [] e (n, w, p, q) = (sym p, subst (Means layout st) (sym q) w)
    at_end m (c ∷ l) e (n, w, p, q) = absurd (omega arith)

-- ---- the program's store

pub new_means : (st made : List ℕ) (r : Reply) → length st ≡ 65536 → Create layout 128 st made r → Means layout made (empty 128 511)
new_means st made r e c =
    let fits : capacity_of (length st) ≡ 511 = rw e in
    subst (λ (n : ℕ). Means layout made (empty 128 n)) fits (c.after (rw e (omega arith)))

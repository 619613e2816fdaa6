-- A whole listing and its `end`, in an output that holds any.
-- Assumes nothing.
use Prim.Native.Nat.{ℕ, ◌+◌, ◌-◌, ◌≤◌}
use mathlib.Core.Path.{◌≡◌, refl, sym, ap, ◌∙◌}
use mathlib.Core.Bool.{Bool, true, false}
use mathlib.Core.List.{List, [], ◌∷◌, ◌++◌, append_assoc}
use native.Mathlib.Omega.{arith}
use lib.ListN.{length, take, drop, length-append, length-take, length-drop, take-append-drop}
use lib.Seq.{drop-append-le}
use borrow.Rule.Slice.PartMut.{put_mid}
use Rattle.model.specs.Key.{key_limit}
use Rattle.model.specs.Map.{Entry, pick, keep}
use Rattle.model.specs.Numbers.{capacity_of}
use Rattle.model.specs.Page.{start, matches, under}
use Rattle.promises.specs.Meaning.{Meaning, Means}
use Rattle.index_spec.specs.Layout.{layout}
use Rattle.index_spec.specs.Replies.{mode_of}
use Rattle.index_spec.specs.declared.pages.Mode.{Mode}
use Rattle.index_spec.proofs.CallLaws.{lawful}
use Rattle.line.specs.Line.{command, list}
use Rattle.line.specs.Answer.{answer_text, entries_text, answer_line, answer_command}
use Rattle.listings.specs.Answered.{Answered}
use Rattle.line.specs.Code.{Wrote}
use Rattle.listings.specs.Listing.{lines_room, output_room, IsListed}
use Rattle.line.specs.declared.writing.Answer.TheVariants.{End}
use Rattle.line.proofs.WriteLaws.{wrote_as, wrote_rest}

keep_few : (f : List ℕ → Bool) (m : List Entry) → length (keep f m) ≤ length m
keep_few f [] = omega arith
keep_few f (e ∷ m) = go (f e.0) (keep_few f m)
  where
    go : (b : Bool) → length (keep f m) ≤ length m → length (pick b (e ∷ keep f m) (keep f m)) ≤ length (e ∷ m)
    go true h = omega arith
    go false h = omega arith

keep_every : (m : List Entry) → keep (λ k. true) m ≡ m
keep_every [] = refl
keep_every (e ∷ m) = ap (λ (z : List Entry). e ∷ z) (keep_every m)

-- What is written in the first bytes of an output is written in it.
wrote_part : {x : List ℕ} (out : List ℕ) {part : List ℕ} {n : ℕ} (r : ℕ) → Wrote x (take r out) part n → Wrote x out (part ++ drop r out) n
wrote_part {x} out {part} {n} r w =
    let sizes : length (take r out ++ drop r out) ≡ length out = ap length (take-append-drop r out) in
    record {
      is = ap (λ (l : List ℕ). l ++ drop r out) w.is ∙ append_assoc x (drop n (take r out)) (drop r out)
          ∙ ap (λ (l : List ℕ). x ++ l) (sym (drop-append-le n (take r out) (drop r out) w.within) ∙ ap (drop n) (take-append-drop r out));
      count = w.count;
      within = omega (arith, w.within, sizes, length-append (take r out) (drop r out));
      size = omega (arith, w.size, sizes, length-append part (drop r out), length-append (take r out) (drop r out));
    }

-- A store of 65,536 bytes has 511 keys at most.
few_keys : (st : List ℕ) (m : Meaning) → Means layout st m → length st ≤ 65536 → length m.map ≤ 511
few_keys st m h size = omega (arith, ap length h.map, lawful.fits st h.tree h.accepted, few (length st) size)
  where
    few : (n : ℕ) → n ≤ 65536 → capacity_of n ≤ 511
    few n e = omega arith

module _ (q : List ℕ) (mode : Mode) (st out part : List ℕ) (n : ℕ) (room : length out ≡ output_room) (kept : length part ≡ length (take lines_room out))
    (listed : IsListed q mode start 32 st (take lines_room out) part n) where
  abbrev after : List ℕ
  after = part ++ drop lines_room out

  part_size : (length after ≡ output_room) × (n ≤ lines_room)
  part_size = (omega (arith, length-append part (drop lines_room out), length-take lines_room out, length-drop lines_room out), omega (arith, listed.within, length-take lines_room out))

  pub end_within : n ≤ length after
  end_within = omega (arith, part_size.0, part_size.1)

  pub end_room : 11 ≤ length (take (length after - n) (drop n after))
  end_room = omega (arith, part_size.0, part_size.1, length-take (length after - n) (drop n after), length-drop n after)

  pub list_answered : length st ≤ 65536 → length q ≤ key_limit → (out₂ : List ℕ) (m : ℕ) → Wrote (answer_text End) (take (length after - n) (drop n after)) out₂ m
      → Answered layout (command (list (mode_of mode) q)) st st out (put_mid n (length after - n) after out₂) (n + m)
  unfolding answer_line answer_command
  list_answered size fits out₂ m w = record {
    within = omega (arith, part_size.0, part_size.1, w.within, length-take (length after - n) (drop n after), length-drop n after);
    wrote = λ μ h. wrote_rest (wrote_part out lines_room (lines μ h)) w;
    after = λ μ h. h;
  }
    where
      lines : (μ : Meaning) → Means layout st μ → Wrote (entries_text (under (mode_of mode) q μ.map)) (take lines_room out) part n
      lines μ h =
          let all : keep (λ k. true) (under (mode_of mode) q μ.map) ≡ under (mode_of mode) q μ.map = keep_every (under (mode_of mode) q μ.map) in
          let few : length (keep (λ k. true) (under (mode_of mode) q μ.map)) ≤ 511 = omega (arith, ap length all, keep_few (matches (mode_of mode) q) μ.map, few_keys st μ h size) in
          wrote_as (listed.lines μ h fits (omega (arith, few)) (omega (arith, few, length-take lines_room out))) (ap entries_text all)

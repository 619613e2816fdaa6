-- From the promises of the calls to the promise of an answered line, over any layout.
-- Assumes nothing.
use Prim.Native.Nat.{ℕ}
use mathlib.Core.Path.{◌≡◌, refl, ap, subst, ◌∙◌}
use mathlib.Core.List.{List}
use Rattle.promises.specs.Meaning.{Layout, Reply}
use Rattle.promises.specs.Promises.{Insert, Get, Remove}
use Rattle.line.specs.Line.{command, insert, get, delete}
use Rattle.line.specs.Answer.{answer_text, insert_answer, get_answer, remove_answer, answer_line, answer_command}
use Rattle.line.specs.Code.{Wrote}
use Rattle.line.specs.declared.writing.Answer.{Answer}
use Rattle.std.specs.Prelude.{Result, Ok, Err}
use Rattle.trie_spec.specs.declared.insert.Inserted.{Inserted}
use Rattle.index_spec.specs.declared.insert.InsertError.{InsertError}
use Rattle.index_spec.specs.declared.stored.LookupError.{LookupError}
use Rattle.index_spec.specs.Replies.{insert_reply, get_reply, changed_reply}
use Rattle.listings.specs.Answered.{insert_told, get_told, remove_told, Answered}

insert_told_lem : (q : Result Inserted InsertError) → insert_told q ≡ insert_answer (insert_reply q).answer
insert_told_lem (Ok Inserted.New) = refl
insert_told_lem (Ok Inserted.Replaced) = refl
insert_told_lem (Err InsertError.Store) = refl
insert_told_lem (Err InsertError.Key) = refl
insert_told_lem (Err InsertError.Height) = refl
insert_told_lem (Err InsertError.Full) = refl

get_told_lem : (q : Result ℕ LookupError) → get_told q ≡ get_answer (get_reply q)
get_told_lem (Ok v) = refl
get_told_lem (Err LookupError.Store) = refl
get_told_lem (Err LookupError.Key) = refl
get_told_lem (Err LookupError.Absent) = refl

remove_told_lem : (q : Result (Unit {0}) LookupError) → remove_told q ≡ remove_answer (changed_reply q).answer
remove_told_lem (Ok u) = refl
remove_told_lem (Err LookupError.Store) = refl
remove_told_lem (Err LookupError.Key) = refl
remove_told_lem (Err LookupError.Absent) = refl

told_as : {a b : Answer} {out out' : List ℕ} {n : ℕ} → Wrote (answer_text a) out out' n → a ≡ b → Wrote (answer_text b) out out' n
told_as {out = out} {out' = out'} {n = n} w e = subst (λ (b : Answer). Wrote (answer_text b) out out' n) e w

module _ (L : Layout) (k : List ℕ) {st out out' : List ℕ} {a : Answer} {n : ℕ} (w : Wrote (answer_text a) out out' n) where
  pub insert_answered : (v : ℕ) {st' : List ℕ} (q : Result Inserted InsertError) → Insert L k v st st' (insert_reply q) → a ≡ insert_told q → Answered L (command (insert k v)) st st' out out' n
  unfolding answer_line answer_command
  insert_answered v q p e = record {
    within = w.within;
    wrote = λ m h. told_as w (e ∙ insert_told_lem q ∙ ap (λ (r : Reply). insert_answer r.answer) (p.answers m h));
    after = λ m h. p.after m h;
  }

  pub get_answered : (q : Result ℕ LookupError) → Get L k st (get_reply q) → a ≡ get_told q → Answered L (command (get k)) st st out out' n
  unfolding answer_line answer_command
  get_answered q p e = record { within = w.within; wrote = λ m h. told_as w (e ∙ get_told_lem q ∙ ap get_answer (p.answers m h)); after = λ m h. h }

  pub delete_answered : {st' : List ℕ} (q : Result (Unit {0}) LookupError) → Remove L k st st' (changed_reply q) → a ≡ remove_told q → Answered L (command (delete k)) st st' out out' n
  unfolding answer_line answer_command
  delete_answered q p e = record {
    within = w.within;
    wrote = λ m h. told_as w (e ∙ remove_told_lem q ∙ ap (λ (r : Reply). remove_answer r.answer) (p.answers m h));
    after = λ m h. p.after m h;
  }

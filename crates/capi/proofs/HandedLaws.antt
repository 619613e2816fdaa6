-- What is handed over is the index's answer, and so its contracts hold of it.
-- Assumes nothing.
use Prim.Native.Nat.{ℕ}
use mathlib.Core.Path.{◌≡◌, refl, sym, ap, ◌∙◌, subst}
use mathlib.Core.Bool.{Bool, true, false}
use mathlib.Core.List.{List}
use Rattle.trie_spec.specs.Writes.{Outcome, Did}
use Rattle.promises.specs.Meaning.{Reply}
use Rattle.promises.specs.Promises.{Create, Check, IsEmpty, SetLimit, Insert, Get, Overwrite, Remove, FirstPage, NextPage}
use Rattle.index_spec.specs.Layout.{layout}
use Rattle.index_spec.specs.Calls.{create_call, empty_call, limit_call, insert_call, get_call, overwrite_call, remove_call}
use Rattle.index_spec.specs.Pages.{first_call, next_call}
use Rattle.index_spec.specs.Replies.{mode_of, create_reply, check_reply, empty_reply, limit_reply, insert_reply, get_reply, changed_reply, page_reply}
use Rattle.std.specs.Prelude.{Result, Ok, Err}
use Rattle.node.specs.declared.NotAStore.{NotAStore}
use Rattle.records.specs.declared.create.NoRoom.{NoRoom}
use Rattle.iterator.specs.declared.page.Page.{Page}
use Rattle.trie_spec.specs.declared.insert.Inserted.{Inserted}
use Rattle.index_spec.specs.declared.insert.InsertError.{InsertError}
use Rattle.index_spec.specs.declared.pages.PageError.{PageError}
use Rattle.index_spec.specs.declared.stored.LookupError.{LookupError}
use Rattle.index_spec.specs.declared.pages.Mode.{Mode}
use Rattle.numbers.specs.Handed.{bare, valued, told, paged, found_empty, room_number, store_number, lookup_number, page_number, answered, mode_named, replied}

-- ---- each answer, put together from its numbers

pub create_bare : (m : Result (Unit {0}) NoRoom) {n : ℕ} → n ≡ answered room_number m → bare n ≡ create_reply m
create_bare (Ok u) p = ap bare p
create_bare (Err e) p = ap bare p

pub check_bare : (c : Result (Unit {0}) NotAStore) {n : ℕ} → n ≡ answered store_number c → bare n ≡ check_reply c
check_bare (Ok u) p = ap bare p
check_bare (Err e) p = ap bare p

pub limit_bare : (l : Result (Unit {0}) NotAStore) {n : ℕ} → n ≡ answered store_number l → bare n ≡ limit_reply l
limit_bare (Ok u) p = ap bare p
limit_bare (Err e) p = ap bare p

pub insert_bare : (i : Result Inserted InsertError) {n : ℕ} → n ≡ (insert_reply i).answer → bare n ≡ insert_reply i
insert_bare (Ok Inserted.New) p = ap bare p
insert_bare (Ok Inserted.Replaced) p = ap bare p
insert_bare (Err InsertError.Store) p = ap bare p
insert_bare (Err InsertError.Key) p = ap bare p
insert_bare (Err InsertError.Height) p = ap bare p
insert_bare (Err InsertError.Full) p = ap bare p

pub changed_bare : (c : Result (Unit {0}) LookupError) {n : ℕ} → n ≡ answered lookup_number c → bare n ≡ changed_reply c
changed_bare (Ok u) p = ap bare p
changed_bare (Err LookupError.Store) p = ap bare p
changed_bare (Err LookupError.Key) p = ap bare p
changed_bare (Err LookupError.Absent) p = ap bare p

both : {A : Type 0} (f : ℕ → A → Reply) {n m : ℕ} {x y : A} → n ≡ m → x ≡ y → f n x ≡ f m y
both f {n} {m} {x} {y} p q = ap (λ a. f a x) p ∙ ap (f m) q

pub empty_told : (e : Result Bool NotAStore) {n : ℕ} {b : Bool} → n ≡ answered store_number e → b ≡ found_empty e → told n b ≡ empty_reply e
empty_told (Ok true) p q = both told p q
empty_told (Ok false) p q = both told p q
empty_told (Err e) p q = both told p q

pub get_valued : (g : Result ℕ LookupError) {n v : ℕ} → n ≡ answered lookup_number g → v ≡ (get_reply g).value → valued n v ≡ get_reply g
get_valued (Ok w) p q = both valued p q
get_valued (Err LookupError.Store) p q = both valued p q
get_valued (Err LookupError.Key) p q = both valued p q
get_valued (Err LookupError.Absent) p q = both valued p q

page_answer : (g : Result Page PageError) → answered page_number g ≡ (page_reply g).answer
page_answer (Ok p) = refl
page_answer (Err PageError.Store) = refl
page_answer (Err PageError.Key) = refl
page_answer (Err PageError.Count) = refl

pub page_paged : (g : Result Page PageError) {n e b : ℕ} {end : Bool} → n ≡ answered page_number g → e ≡ (page_reply g).count → b ≡ (page_reply g).value → end ≡ (page_reply g).end → paged n e b end ≡ page_reply g
page_paged g {n} {e} {b} {end} p q r s = ap (λ x. paged x e b end) (p ∙ page_answer g) ∙ ap (λ x. paged (page_reply g).answer x b end) q ∙ ap (λ x. paged (page_reply g).answer (page_reply g).count x end) r ∙ ap (λ x. paged (page_reply g).answer (page_reply g).count (page_reply g).value x) s

-- ---- the contracts, handed on

promised : (P : Reply → Type 0) {r s : Reply} → r ≡ s → P s → P r
promised P e p = subst P (sym e) p

done : {A : Type 0} (reply : A → Reply) {o : Outcome A} {a : A} {r : Reply} {b : List ℕ} → r ≡ reply a → Did o a b → Did (replied reply o) r b
done reply e d = (e ∙ ap reply d.0, d.1)

module _ (limit : ℕ) (st st' : List ℕ) (m : Result (Unit {0}) NoRoom) (n : ℕ) (p : n ≡ answered room_number m) where
  pub create_promise : Create layout limit st st' (create_reply m) → Create layout limit st st' (bare n)
  create_promise = promised (Create layout limit st st') (create_bare m p)

  pub create_is : Did (create_call limit st) m st' → Did (replied create_reply (create_call limit st)) (bare n) st'
  create_is = done create_reply (create_bare m p)

module _ (st : List ℕ) (c : Result (Unit {0}) NotAStore) (n : ℕ) (p : n ≡ answered store_number c) where
  pub check_promise : Check layout st (check_reply c) → Check layout st (bare n)
  check_promise = promised (Check layout st) (check_bare c p)

module _ (st : List ℕ) (e : Result Bool NotAStore) (n : ℕ) (b : Bool) (p : n ≡ answered store_number e) (q : b ≡ found_empty e) where
  pub empty_promise : IsEmpty layout st (empty_reply e) → IsEmpty layout st (told n b)
  empty_promise = promised (IsEmpty layout st) (empty_told e p q)

  pub empty_is : e ≡ empty_call st → told n b ≡ empty_reply (empty_call st)
  empty_is r = empty_told e p q ∙ ap empty_reply r

module _ (limit : ℕ) (st st' : List ℕ) (l : Result (Unit {0}) NotAStore) (n : ℕ) (p : n ≡ answered store_number l) where
  pub limit_promise : SetLimit layout limit st st' (limit_reply l) → SetLimit layout limit st st' (bare n)
  limit_promise = promised (SetLimit layout limit st st') (limit_bare l p)

  pub limit_is : Did (limit_call limit st) l st' → Did (replied limit_reply (limit_call limit st)) (bare n) st'
  limit_is = done limit_reply (limit_bare l p)

module _ (k : List ℕ) (v : ℕ) (st st' : List ℕ) (i : Result Inserted InsertError) (n : ℕ) (p : n ≡ (insert_reply i).answer) where
  pub insert_promise : Insert layout k v st st' (insert_reply i) → Insert layout k v st st' (bare n)
  insert_promise = promised (Insert layout k v st st') (insert_bare i p)

  pub insert_is : Did (insert_call k v st) i st' → Did (replied insert_reply (insert_call k v st)) (bare n) st'
  insert_is = done insert_reply (insert_bare i p)

module _ (k st : List ℕ) (g : Result ℕ LookupError) (n v : ℕ) (p : n ≡ answered lookup_number g) (q : v ≡ (get_reply g).value) where
  pub get_promise : Get layout k st (get_reply g) → Get layout k st (valued n v)
  get_promise = promised (Get layout k st) (get_valued g p q)

  pub get_is : g ≡ get_call k st → valued n v ≡ get_reply (get_call k st)
  get_is r = get_valued g p q ∙ ap get_reply r

module _ (k : List ℕ) (st st' : List ℕ) (c : Result (Unit {0}) LookupError) (n : ℕ) (p : n ≡ answered lookup_number c) where
  pub overwrite_promise : (v : ℕ) → Overwrite layout k v st st' (changed_reply c) → Overwrite layout k v st st' (bare n)
  overwrite_promise v = promised (Overwrite layout k v st st') (changed_bare c p)

  pub overwrite_is : (v : ℕ) → Did (overwrite_call k v st) c st' → Did (replied changed_reply (overwrite_call k v st)) (bare n) st'
  overwrite_is v = done changed_reply (changed_bare c p)

  pub remove_promise : Remove layout k st st' (changed_reply c) → Remove layout k st st' (bare n)
  remove_promise = promised (Remove layout k st st') (changed_bare c p)

  pub remove_is : Did (remove_call k st) c st' → Did (replied changed_reply (remove_call k st)) (bare n) st'
  remove_is = done changed_reply (changed_bare c p)

-- a listing's mode is the one that is named
module _ (q : List ℕ) (i : Bool) (mode : Mode) (named : mode ≡ mode_named i) (size : ℕ) (st out out' : List ℕ) (g : Result Page PageError) (n e b : ℕ) (end : Bool) (p₁ : n ≡ answered page_number g) (p₂ : e ≡ (page_reply g).count) (p₃ : b ≡ (page_reply g).value) (p₄ : end ≡ (page_reply g).end) where
  pub first_promise : FirstPage layout q (mode_of mode) size st out out' (page_reply g) → FirstPage layout q (mode_of (mode_named i)) size st out out' (paged n e b end)
  first_promise p = promised (FirstPage layout q (mode_of (mode_named i)) size st out out') (page_paged g p₁ p₂ p₃ p₄) (subst (λ m. FirstPage layout q (mode_of m) size st out out' (page_reply g)) named p)

  pub first_is : Did (first_call q mode size st out) g out' → Did (replied page_reply (first_call q (mode_named i) size st out)) (paged n e b end) out'
  first_is d = done page_reply (page_paged g p₁ p₂ p₃ p₄) (subst (λ m. Did (first_call q m size st out) g out') named d)

  pub next_promise : (a : List ℕ) → NextPage layout q (mode_of mode) a size st out out' (page_reply g) → NextPage layout q (mode_of (mode_named i)) a size st out out' (paged n e b end)
  next_promise a p = promised (NextPage layout q (mode_of (mode_named i)) a size st out out') (page_paged g p₁ p₂ p₃ p₄) (subst (λ m. NextPage layout q (mode_of m) a size st out out' (page_reply g)) named p)

  pub next_is : (a : List ℕ) → Did (next_call q mode a size st out) g out' → Did (replied page_reply (next_call q (mode_named i) a size st out)) (paged n e b end) out'
  next_is a d = done page_reply (page_paged g p₁ p₂ p₃ p₄) (subst (λ m. Did (next_call q m a size st out) g out') named d)

-- The promise of each public call: what holds on any bytes, and what holds on an accepted store. `st` is the store's slice before the call, `st'` after it,
-- `r` the answer with what stands beside it. "Every public function has a promise, and it determines the answer, the store's map, its check and all output bytes,
-- refusals too."
-- Assumes nothing.
use Rattle.std.specs.Prelude.{ℕ, ◌≤◌, ◌≡◌, Bool, true, false, ◌||◌, List, [], ◌∷◌, ◌++◌, length, drop, eqb}
use Rattle.model.specs.Numbers.{capacity_of, least_size, used}
use Rattle.model.specs.Answers.{Answer, DONE, REPLACED, STORE, KEY, HEIGHT, FULL, ABSENT, COUNT, number}
use Rattle.model.specs.Page.{Mode, From, start, after_key}
use Rattle.promises.specs.Meaning.{Layout, Meaning, Means, Reply, alone}
use Rattle.promises.specs.Says.{Says, create_says, empty, insert_says, get_says, overwrite_says, remove_says, is_empty_says, set_limit_says, Asked, page_says}

-- "Every answer from 10 up changes no lent byte": the slice stays as long, and after a refusal it is as it was.
pub record Kept (before after : List ℕ) (r : Reply) : Type 0 where
  pub size : length after ≡ length before
  pub refused : 10 ≤ r.answer → after ≡ before

-- The number is that of one of these answers.
abbrev pub is_among : ℕ → List Answer → Bool
is_among n [] = false
is_among n (a ∷ rest) = eqb n (number a) || is_among n rest

-- The answer is one of the call's ("or anything of its kind"), and "values and counts beside it are 0 and the end mark is no" of a refusal.
pub record Kind (kinds : List Answer) (r : Reply) : Type 0 where
  pub among : is_among r.answer kinds ≡ true
  pub value : 10 ≤ r.answer → r.value ≡ 0
  pub count : 10 ≤ r.answer → r.count ≡ 0
  pub end : 10 ≤ r.answer → r.end ≡ false

-- The answers of each call: on a store "Given exactly when" the table says, elsewhere "STORE or anything of its kind". Create's are given whole by its promise.
abbrev pub check_kinds : List Answer
check_kinds = DONE ∷ STORE ∷ []

abbrev pub is_empty_kinds : List Answer
is_empty_kinds = DONE ∷ STORE ∷ []

abbrev pub set_limit_kinds : List Answer
set_limit_kinds = DONE ∷ STORE ∷ []

abbrev pub insert_kinds : List Answer
insert_kinds = DONE ∷ REPLACED ∷ STORE ∷ KEY ∷ HEIGHT ∷ FULL ∷ []

abbrev pub get_kinds : List Answer
get_kinds = DONE ∷ STORE ∷ KEY ∷ ABSENT ∷ []

abbrev pub overwrite_kinds : List Answer
overwrite_kinds = DONE ∷ STORE ∷ KEY ∷ ABSENT ∷ []

abbrev pub remove_kinds : List Answer
remove_kinds = DONE ∷ STORE ∷ KEY ∷ ABSENT ∷ []

abbrev pub page_kinds : List Answer
page_kinds = DONE ∷ STORE ∷ KEY ∷ COUNT ∷ []

-- A call that reads the store, on any bytes and on an accepted store.
pub record Reads (L : Layout) (kinds : List Answer) (says : Meaning → Reply) (st : List ℕ) (r : Reply) : Type 0 where
  pub kind : Kind kinds r
  -- "It answers STORE where the slice is too short or the header is wrong"
  pub wrong : L.header st ≡ false → r ≡ alone STORE
  pub answers : (m : Meaning) → Means L st m → r ≡ says m

-- A call that writes the store.
pub record Writes (L : Layout) (kinds : List Answer) (says : Meaning → Says) (st st' : List ℕ) (r : Reply) : Type 0 where
  pub kept : Kept st st' r
  -- "Bytes past 128 x (capacity + 1) are neither read nor written"; "writes stay in the store"
  pub rest : drop (used st) st' ≡ drop (used st) st
  pub kind : Kind kinds r
  pub wrong : L.header st ≡ false → r ≡ alone STORE
  pub answers : (m : Meaning) → Means L st m → r ≡ (says m).reply
  pub after : (m : Meaning) → Means L st m → Means L st' (says m).after

-- A call that reads the store and writes a page into the output `out`.
pub record Pages (L : Layout) (asked : Asked) (st out out' : List ℕ) (r : Reply) : Type 0 where
  pub kept : Kept out out' r
  pub kind : Kind page_kinds r
  pub wrong : L.header st ≡ false → r ≡ alone STORE
  pub answers : (m : Meaning) → Means L st m → r ≡ (page_says asked m).reply
  pub output : (m : Meaning) → Means L st m → let b = (page_says asked m).bytes in out' ≡ b ++ drop (length b) out

-- create(store, limit), on any bytes: "creation, which takes the limit, makes an empty one". `made` is the slice after it.
pub record Create (L : Layout) (limit : ℕ) (st made : List ℕ) (r : Reply) : Type 0 where
  pub kept : Kept st made r
  pub rest : drop (used st) made ≡ drop (used st) st
  pub answers : r ≡ alone (create_says (length st))
  pub after : least_size ≤ length st → Means L made (empty limit (capacity_of (length st)))

-- check(store): "The check answers done exactly for these and STORE for all others".
pub record Check (L : Layout) (st : List ℕ) (r : Reply) : Type 0 where
  pub kind : Kind check_kinds r
  pub accepts : (m : Meaning) → Means L st m → r ≡ alone DONE
  pub sound : r.answer ≡ number DONE → (m : Meaning) × Means L st m

-- is_empty(store)
abbrev pub IsEmpty : Layout → List ℕ → Reply → Type 0
IsEmpty L st r = Reads L is_empty_kinds is_empty_says st r

-- get(store, key)
abbrev pub Get : Layout → List ℕ → List ℕ → Reply → Type 0
Get L k st r = Reads L get_kinds (get_says k) st r

-- set_limit(store, limit)
abbrev pub SetLimit : Layout → ℕ → List ℕ → List ℕ → Reply → Type 0
SetLimit L l st st' r = Writes L set_limit_kinds (set_limit_says l) st st' r

-- insert(store, key, value)
abbrev pub Insert : Layout → List ℕ → ℕ → List ℕ → List ℕ → Reply → Type 0
Insert L k v st st' r = Writes L insert_kinds (insert_says k v) st st' r

-- overwrite(store, key, value)
abbrev pub Overwrite : Layout → List ℕ → ℕ → List ℕ → List ℕ → Reply → Type 0
Overwrite L k v st st' r = Writes L overwrite_kinds (overwrite_says k v) st st' r

-- remove(store, key)
abbrev pub Remove : Layout → List ℕ → List ℕ → List ℕ → Reply → Type 0
Remove L k st st' r = Writes L remove_kinds (remove_says k) st st' r

-- first_page(store, prefix, mode, size, output): "from the start"
abbrev pub FirstPage : Layout → List ℕ → Mode → ℕ → List ℕ → List ℕ → List ℕ → Reply → Type 0
FirstPage L q mode n st out out' r = Pages L (record { prefix = q; mode = mode; from = start; size = n; room = length out }) st out out' r

-- next_page(store, prefix, mode, after-key, size, output)
abbrev pub NextPage : Layout → List ℕ → Mode → List ℕ → ℕ → List ℕ → List ℕ → List ℕ → Reply → Type 0
NextPage L q mode k n st out out' r = Pages L (record { prefix = q; mode = mode; from = after_key k; size = n; room = length out }) st out out' r

-- The call that fetches a page: "from the start" the first, and after a key the next.
abbrev pub PageCall : Layout → List ℕ → Mode → From → ℕ → List ℕ → List ℕ → List ℕ → Reply → Type 0
PageCall L q mode start n st out out' r = FirstPage L q mode n st out out' r
PageCall L q mode (after_key k) n st out out' r = NextPage L q mode k n st out out' r

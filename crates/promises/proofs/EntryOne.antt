-- A page shows one list of entries at most, and fits the output that it was asked for.
-- Assumes nothing.
use Prim.Native.Nat.{ℕ, zero, suc, ◌*◌, ◌≤◌}
use mathlib.Core.Path.{◌≡◌, refl, sym, ◌∙◌, subst}
use mathlib.Core.Bool.{Bool, true, false, ◌||◌, not}
use mathlib.Core.List.{List, [], ◌∷◌}
use native.Mathlib.Omega.{arith}
use lib.ListN.{length, take, length-take}
use lib.Dec.{T, eqb, ltb, nltb→le}
use Rattle.model.specs.Key.{IsKey}
use Rattle.model.specs.Numbers.{Values, entry_limit, page_limit}
use Rattle.model.specs.Map.{Entry, All, keep, pick}
use Rattle.model.specs.Page.{matches, under, follows, above}
use Rattle.model.specs.Entry.{entries_bytes}
use Rattle.model.proofs.Keep.{all_keep}
use Rattle.model.proofs.EntryLaws.{entries_one, entries_fit}
use Rattle.promises.specs.Meaning.{Meaning, Reply}
use Rattle.promises.specs.Says.{Asked, bad_count, page_of}
use Rattle.promises.specs.Session.{Shows}

pub shows_one : (out : List ℕ) (r : Reply) (es ds : List Entry) → Shows out r es → Shows out r ds → es ≡ ds
shows_one out r es ds a b = entries_one es ds a.rest b.rest (a.count ∙ sym b.count) (sym a.bytes ∙ b.bytes)

-- What holds of every stored key holds of a page's, and so of the values.
all_take : (P : List ℕ → Type 0) (n : ℕ) (m : List Entry) → All P m → All P (take n m)
all_take P zero m a = tt
all_take P (suc n) [] a = tt
all_take P (suc n) (e ∷ m) a = (a.0, all_take P n m a.1)

all_of_page : (P : List ℕ → Type 0) (a : Asked) (m : Meaning) → All P m.map → All P (page_of a m).entries
all_of_page P a m k =
    all_take P a.size (above a.from (under a.mode a.prefix m.map))
    (all_keep P (follows a.from) (under a.mode a.prefix m.map) (all_keep P (matches a.mode a.prefix) m.map k))

pub page_keys : (a : Asked) (m : Meaning) → All IsKey m.map → All IsKey (page_of a m).entries
page_keys a m k = all_of_page IsKey a m k

values_keep : (f : List ℕ → Bool) (m : List Entry) → Values m → Values (keep f m)
values_keep f [] v = tt
values_keep f (e ∷ m) v = go (f e.0) (values_keep f m v.1)
  where
    go : (b : Bool) → Values (keep f m) → Values (pick b (e ∷ keep f m) (keep f m))
    go true i = (v.0, i)
    go false i = i

values_take : (n : ℕ) (m : List Entry) → Values m → Values (take n m)
values_take zero m v = tt
values_take (suc n) [] v = tt
values_take (suc n) (e ∷ m) v = (v.0, values_take n m v.1)

pub page_values : (a : Asked) (m : Meaning) → Values m.map → Values (page_of a m).entries
page_values a m v =
    values_take a.size (above a.from (under a.mode a.prefix m.map))
    (values_keep (follows a.from) (under a.mode a.prefix m.map) (values_keep (matches a.mode a.prefix) m.map v))

-- "the output must have at least 74 bytes per entry asked": a page that is not refused fits the output that it was asked for.
pub page_fits : (a : Asked) (m : Meaning) → All IsKey m.map → bad_count a ≡ false → length (entries_bytes (page_of a m).entries) ≤ a.room
page_fits a m k b =
    omega (arith, entries_fit (page_of a m).entries (page_keys a m k), length-take a.size (above a.from (under a.mode a.prefix m.map)), long_enough a b)
  where
    long_enough : (c : Asked) → bad_count c ≡ false → entry_limit * c.size ≤ c.room
    long_enough c e = go (eqb c.size 0) (ltb page_limit c.size) (ltb c.room (entry_limit * c.size)) refl e
      where
        go : (x y z : Bool) → ltb c.room (entry_limit * c.size) ≡ z → (x || (y || z)) ≡ false → entry_limit * c.size ≤ c.room
        go false false false h f = nltb→le c.room (entry_limit * c.size) (subst (λ (d : Bool). T (not d)) (sym h) tt)
        go false false true h f = absurd (let w : ◌≡◌ {A = ℕ} 0 1 = cc in omega arith)
        go false true z h f = absurd (let w : ◌≡◌ {A = ℕ} 0 1 = cc in omega arith)
        go true y z h f = absurd (let w : ◌≡◌ {A = ℕ} 0 1 = cc in omega arith)

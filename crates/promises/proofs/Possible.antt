-- The promises ask for nothing impossible: what they say of an answer is of the call's kind, and what they say of the store after it keeps within what a
-- layout can hold. And each call's kind is no wider than it must be: each of its answers is given.
-- Assumes nothing.
use Prim.Native.Nat.{ℕ, suc, ◌+◌, ◌≤◌, ◌<◌, Ordering}
use mathlib.Core.Path.{◌≡◌, refl, ap}
use mathlib.Core.Logic.{◌⊎◌, inl, inr}
use mathlib.Core.Bool.{Bool, true, false, ◌||◌}
use mathlib.Core.List.{List, [], ◌∷◌}
use mathlib.Core.Option.{Option, none, some}
use native.Mathlib.Omega.{arith}
use lib.ListN.{length, replicate}
use lib.Dec.{eqb, compare_is_eq}
use Rattle.model.specs.Key.{key_limit, Bytes, IsKey, order, on_equal}
use Rattle.model.specs.Numbers.{Values, value_bound, limit_bound, entry_limit}
use Rattle.model.specs.Answers.{Answer, number, DONE, REPLACED, STORE, KEY, HEIGHT, FULL, ABSENT, COUNT, ROOM}
use Rattle.model.specs.Map.{Entry, All, lookup, put, del, pick, choose}
use Rattle.model.specs.Nibble.{nibble, critical}
use Rattle.model.specs.Page.{plain, start}
use Rattle.model.specs.Picture.{too_long, refuses_height, picture_of}
use Rattle.model.proofs.Compare.{Said, lower, same, higher, said}
use Rattle.model.proofs.Less.{Sorted}
use Rattle.model.proofs.KeyLaws.{Ordered, before, equal, after, ordered}
use Rattle.model.proofs.MapLaws.{all_put, all_del, put_sorted, del_sorted, length_put, length_del, extra}
use Rattle.model.proofs.Sentences.{not_long}
use Rattle.promises.specs.Meaning.{Layout, Lawful, Meaning, Means, Reply, alone}
use Rattle.promises.specs.Says.{unless, put_answer, stored_answer, value_reply, with_map, empty, insert_says, overwrite_says, remove_says, set_limit_says, is_empty_says, get_says, Asked, page_says, page_given, page_of, bad_count, from_too_long}
use Rattle.promises.specs.Promises.{is_among, check_kinds, is_empty_kinds, set_limit_kinds, insert_kinds, get_kinds, overwrite_kinds, remove_kinds, page_kinds}
use Rattle.promises.proofs.BytesLaws.{zero_bytes}
use Rattle.promises.proofs.MeansOne.{map_sorted, map_keys, map_values, map_fits, limit_bound_lem}

-- What a layout can hold.
pub record Good (m : Meaning) : Type 0 where
  pub sorted : Sorted m.map
  pub keys : All IsKey m.map
  pub values : Values m.map
  pub fits : length m.map ≤ m.capacity
  pub limit : m.limit < limit_bound

-- An accepted store means nothing else.
pub means_good : {L : Layout} → Lawful L → (st : List ℕ) (m : Meaning) → Means L st m → Good m
means_good law st m h = record {
  sorted = map_sorted law st m h;
  keys = map_keys law st m h;
  values = map_values law st m h;
  fits = map_fits law st m h;
  limit = limit_bound_lem law st m h;
}

pub values_put : (k : List ℕ) (v : ℕ) (m : List Entry) → v < value_bound → Values m → Values (put k v m)
values_put k v [] b a = (b, tt)
values_put k v (e ∷ m) b a = go (order k e.0) (values_put k v m b a.1)
  where
    go : (o : Ordering) → Values (put k v m) → Values (choose o ((k, v) ∷ e ∷ m) ((k, v) ∷ m) (e ∷ put k v m))
    go Ordering.lt i = (b, a)
    go Ordering.eq i = (b, a.1)
    go Ordering.gt i = (a.0, i)

values_del : (k : List ℕ) (m : List Entry) → Values m → Values (del k m)
values_del k [] a = tt
values_del k (e ∷ m) a = go (ordered k e.0) (values_del k m a.1)
  where
    go : {o : Ordering} → Ordered k e.0 o → Values (del k m) → Values (on_equal o (del k m) (e ∷ del k m))
    go (before h) i = (a.0, i)
    go (equal h) i = i
    go (after h) i = (a.0, i)

-- a map that is not full has room for one more
not_full : (n c : ℕ) → n ≤ c → eqb n c ≡ false → n + 1 ≤ c
not_full n c h e = go (said n c) e
  where
    go : {o : Ordering} → Said n c o → compare_is_eq o ≡ false → n + 1 ≤ c
    go (lower l) f = omega arith
    go (same l) f = absurd (let z : ◌≡◌ {A = ℕ} 0 1 = cc in omega arith)
    go (higher l) f = absurd (omega arith)

module _ (m : Meaning) (g : Good m) where
  put_good : (k : List ℕ) (v : ℕ) → Bytes k → v < value_bound → too_long k ≡ false → length m.map + extra (lookup k m.map) ≤ m.capacity
      → Good (with_map m (put k v m.map))
  put_good k v b l t f = record {
    sorted = put_sorted k v m.map g.sorted;
    keys = all_put IsKey k v m.map (record { fits = not_long k t; bytes = b }) g.keys;
    values = values_put k v m.map l g.values;
    fits = omega (arith, length_put k v m.map g.sorted);
    limit = g.limit;
  }

  pub insert_good : (k : List ℕ) (v : ℕ) → Bytes k → v < value_bound → Good (insert_says k v m).after
  insert_good k v b l =
      go (too_long k) refl (lookup k m.map) refl (refuses_height m.limit k (picture_of m.map)) (eqb (length m.map) m.capacity) refl
    where
      go : (t : Bool) → too_long k ≡ t → (o : Option ℕ) → lookup k m.map ≡ o → (h f : Bool) → eqb (length m.map) m.capacity ≡ f
          → Good (unless (pick t KEY (put_answer o (pick h HEIGHT (pick f FULL DONE)))) m (with_map m (put k v m.map)))
      go true t o e h f q = g
      go false t (some w) e h f q = put_good k v b l t (omega (arith, g.fits, ap extra e))
      go false t none e true f q = g
      go false t none e false true q = g
      go false t none e false false q = put_good k v b l t (omega (arith, not_full (length m.map) m.capacity g.fits q, ap extra e))

  pub overwrite_good : (k : List ℕ) (v : ℕ) → Bytes k → v < value_bound → Good (overwrite_says k v m).after
  overwrite_good k v b l = go (too_long k) refl (lookup k m.map) refl
    where
      go : (t : Bool) → too_long k ≡ t → (o : Option ℕ) → lookup k m.map ≡ o → Good (unless (pick t KEY (stored_answer o)) m (with_map m (put k v m.map)))
      go true t o e = g
      go false t none e = g
      go false t (some w) e = put_good k v b l t (omega (arith, g.fits, ap extra e))

  pub remove_good : (k : List ℕ) → Good (remove_says k m).after
  remove_good k = go (too_long k) (lookup k m.map) refl
    where
      go : (t : Bool) (o : Option ℕ) → lookup k m.map ≡ o → Good (unless (pick t KEY (stored_answer o)) m (with_map m (del k m.map)))
      go true o e = g
      go false none e = g
      go false (some w) e = record {
        sorted = del_sorted k m.map g.sorted;
        keys = all_del IsKey k m.map g.keys;
        values = values_del k m.map g.values;
        fits = omega (arith, length_del k m.map g.sorted, g.fits, ap extra e);
        limit = g.limit;
      }

  pub set_limit_good : (l : ℕ) → l < limit_bound → Good (set_limit_says l m).after
  set_limit_good l h = record { sorted = g.sorted; keys = g.keys; values = g.values; fits = g.fits; limit = h }

pub empty_good : (limit capacity : ℕ) → limit < limit_bound → Good (empty limit capacity)
empty_good limit capacity h = record { sorted = tt; keys = tt; values = tt; fits = omega arith; limit = h }

-- On an accepted store every answer is of the call's kind.
pub insert_kind : (k : List ℕ) (v : ℕ) (m : Meaning) → is_among (insert_says k v m).reply.answer insert_kinds ≡ true
insert_kind k v m = go (too_long k) (lookup k m.map) (refuses_height m.limit k (picture_of m.map)) (eqb (length m.map) m.capacity)
  where
    go : (t : Bool) (o : Option ℕ) (h f : Bool) → is_among (number (pick t KEY (put_answer o (pick h HEIGHT (pick f FULL DONE))))) insert_kinds ≡ true
    go true o h f = refl
    go false (some w) h f = refl
    go false none true f = refl
    go false none false true = refl
    go false none false false = refl

pub get_kind : (k : List ℕ) (m : Meaning) → is_among (get_says k m).answer get_kinds ≡ true
get_kind k m = go (too_long k) (lookup k m.map)
  where
    go : (t : Bool) (o : Option ℕ) → is_among (pick t (alone KEY) (value_reply o)).answer get_kinds ≡ true
    go true o = refl
    go false none = refl
    go false (some w) = refl

pub overwrite_kind : (k : List ℕ) (v : ℕ) (m : Meaning) → is_among (overwrite_says k v m).reply.answer overwrite_kinds ≡ true
overwrite_kind k v m = go (too_long k) (lookup k m.map)
  where
    go : (t : Bool) (o : Option ℕ) → is_among (number (pick t KEY (stored_answer o))) overwrite_kinds ≡ true
    go true o = refl
    go false none = refl
    go false (some w) = refl

pub remove_kind : (k : List ℕ) (m : Meaning) → is_among (remove_says k m).reply.answer remove_kinds ≡ true
remove_kind k m = go (too_long k) (lookup k m.map)
  where
    go : (t : Bool) (o : Option ℕ) → is_among (number (pick t KEY (stored_answer o))) remove_kinds ≡ true
    go true o = refl
    go false none = refl
    go false (some w) = refl

pub set_limit_kind : (l : ℕ) (m : Meaning) → is_among (set_limit_says l m).reply.answer set_limit_kinds ≡ true
set_limit_kind l m = refl

pub is_empty_kind : (m : Meaning) → is_among (is_empty_says m).answer is_empty_kinds ≡ true
is_empty_kind m = refl

pub page_kind : (a : Asked) (m : Meaning) → is_among (page_says a m).reply.answer page_kinds ≡ true
page_kind a m = go (too_long a.prefix || from_too_long a.from) (bad_count a)
  where
    go : (x y : Bool) → is_among (unless (pick x KEY (pick y COUNT DONE)) (record { reply = alone (pick x KEY (pick y COUNT DONE)); bytes = [] }) (page_given (page_of a m))).reply.answer page_kinds ≡ true
    go true y = refl
    go false true = refl
    go false false = refl

-- And each answer of the kind is given: STORE by a slice that is too short for a header, every other on a meaning that a layout can hold.
pub store_given : {L : Layout} → Lawful L → L.header [] ≡ false
store_given {L} law = go (L.header []) refl
  where
    go : (b : Bool) → L.header [] ≡ b → b ≡ false
    go false e = refl
    go true e = absurd (omega (arith, law.long [] e))

pub record Given (says : Meaning → Reply) (a : Answer) : Type 0 where
  pub meaning : Meaning
  pub good : Good meaning
  pub gives : (says meaning).answer ≡ number a

-- what the answers are given by: no key or the empty key, at limit 7 and at limit 0, with room for one; a key of one byte, and one that is too long
none_stored : Good (empty 7 1)
none_stored = empty_good 7 1 (omega arith)

one_stored : (limit : ℕ) → limit < limit_bound → Good (with_map (empty limit 1) (([], 0) ∷ []))
one_stored limit h = record { sorted = (tt, tt); keys = (record { fits = omega arith; bytes = tt }, tt); values = (omega arith, tt); fits = omega arith; limit = h }

abbrev long : List ℕ
long = replicate (suc key_limit) 0

unlisted : {A : Type 0} → false ≡ true → A
unlisted e = absurd (let z : ◌≡◌ {A = ℕ} 0 1 = cc in omega arith)

pub insert_given : (a : Answer) → is_among (number a) insert_kinds ≡ true
    → (a ≡ STORE) ⊎ ((k : List ℕ) × (v : ℕ) × Bytes k × (v < value_bound) × Given (λ m. (insert_says k v m).reply) a)
unfolding order nibble critical
insert_given DONE e = inr ([], 0, tt, omega arith, record { meaning = empty 7 1; good = none_stored; gives = refl })
insert_given REPLACED e = inr ([], 0, tt, omega arith, record { meaning = _; good = one_stored 7 (omega arith); gives = refl })
insert_given STORE e = inl refl
insert_given KEY e = inr (long, 0, zero_bytes (suc key_limit), omega arith, record { meaning = empty 7 1; good = none_stored; gives = refl })
insert_given HEIGHT e = inr (0 ∷ [], 0, zero_bytes 1, omega arith, record { meaning = _; good = one_stored 0 (omega arith); gives = refl })
insert_given FULL e = inr (0 ∷ [], 0, zero_bytes 1, omega arith, record { meaning = _; good = one_stored 7 (omega arith); gives = refl })
insert_given ABSENT e = unlisted e
insert_given COUNT e = unlisted e
insert_given ROOM e = unlisted e

pub get_given : (a : Answer) → is_among (number a) get_kinds ≡ true → (a ≡ STORE) ⊎ ((k : List ℕ) × Bytes k × Given (get_says k) a)
unfolding order
get_given DONE e = inr ([], tt, record { meaning = _; good = one_stored 7 (omega arith); gives = refl })
get_given REPLACED e = unlisted e
get_given STORE e = inl refl
get_given KEY e = inr (long, zero_bytes (suc key_limit), record { meaning = empty 7 1; good = none_stored; gives = refl })
get_given HEIGHT e = unlisted e
get_given FULL e = unlisted e
get_given ABSENT e = inr ([], tt, record { meaning = empty 7 1; good = none_stored; gives = refl })
get_given COUNT e = unlisted e
get_given ROOM e = unlisted e

pub overwrite_given : (a : Answer) → is_among (number a) overwrite_kinds ≡ true
    → (a ≡ STORE) ⊎ ((k : List ℕ) × (v : ℕ) × Bytes k × (v < value_bound) × Given (λ m. (overwrite_says k v m).reply) a)
unfolding order
overwrite_given DONE e = inr ([], 0, tt, omega arith, record { meaning = _; good = one_stored 7 (omega arith); gives = refl })
overwrite_given REPLACED e = unlisted e
overwrite_given STORE e = inl refl
overwrite_given KEY e = inr (long, 0, zero_bytes (suc key_limit), omega arith, record { meaning = empty 7 1; good = none_stored; gives = refl })
overwrite_given HEIGHT e = unlisted e
overwrite_given FULL e = unlisted e
overwrite_given ABSENT e = inr ([], 0, tt, omega arith, record { meaning = empty 7 1; good = none_stored; gives = refl })
overwrite_given COUNT e = unlisted e
overwrite_given ROOM e = unlisted e

pub remove_given : (a : Answer) → is_among (number a) remove_kinds ≡ true → (a ≡ STORE) ⊎ ((k : List ℕ) × Bytes k × Given (λ m. (remove_says k m).reply) a)
unfolding order
remove_given DONE e = inr ([], tt, record { meaning = _; good = one_stored 7 (omega arith); gives = refl })
remove_given REPLACED e = unlisted e
remove_given STORE e = inl refl
remove_given KEY e = inr (long, zero_bytes (suc key_limit), record { meaning = empty 7 1; good = none_stored; gives = refl })
remove_given HEIGHT e = unlisted e
remove_given FULL e = unlisted e
remove_given ABSENT e = inr ([], tt, record { meaning = empty 7 1; good = none_stored; gives = refl })
remove_given COUNT e = unlisted e
remove_given ROOM e = unlisted e

-- set_limit, is_empty and check answer done or STORE
done_or_store : (says : Meaning → Reply) → (says (empty 7 1)).answer ≡ number DONE → (a : Answer) → is_among (number a) (DONE ∷ STORE ∷ []) ≡ true → (a ≡ STORE) ⊎ Given says a
done_or_store says g DONE e = inr (record { meaning = empty 7 1; good = none_stored; gives = g })
done_or_store says g REPLACED e = unlisted e
done_or_store says g STORE e = inl refl
done_or_store says g KEY e = unlisted e
done_or_store says g HEIGHT e = unlisted e
done_or_store says g FULL e = unlisted e
done_or_store says g ABSENT e = unlisted e
done_or_store says g COUNT e = unlisted e
done_or_store says g ROOM e = unlisted e

pub set_limit_given : (l : ℕ) (a : Answer) → is_among (number a) set_limit_kinds ≡ true → (a ≡ STORE) ⊎ Given (λ m. (set_limit_says l m).reply) a
set_limit_given l a e = done_or_store (λ m. (set_limit_says l m).reply) refl a e

pub is_empty_given : (a : Answer) → is_among (number a) is_empty_kinds ≡ true → (a ≡ STORE) ⊎ Given is_empty_says a
is_empty_given a e = done_or_store is_empty_says refl a e

pub check_given : (a : Answer) → is_among (number a) check_kinds ≡ true → (a ≡ STORE) ⊎ Given (λ m. alone DONE) a
check_given a e = done_or_store (λ m. alone DONE) refl a e

pub page_given_lem : (a : Answer) → is_among (number a) page_kinds ≡ true → (a ≡ STORE) ⊎ ((asked : Asked) × Bytes asked.prefix × Given (λ m. (page_says asked m).reply) a)
unfolding order
page_given_lem DONE e =
    inr (record { prefix = []; mode = plain; from = start; size = 1; room = entry_limit }, tt, record { meaning = empty 7 1; good = none_stored; gives = refl })
page_given_lem REPLACED e = unlisted e
page_given_lem STORE e = inl refl
page_given_lem KEY e =
    inr (record { prefix = long; mode = plain; from = start; size = 1; room = entry_limit }, zero_bytes (suc key_limit), record { meaning = empty 7 1; good = none_stored; gives = refl })
page_given_lem HEIGHT e = unlisted e
page_given_lem FULL e = unlisted e
page_given_lem ABSENT e = unlisted e
page_given_lem COUNT e =
    inr (record { prefix = []; mode = plain; from = start; size = 0; room = entry_limit }, tt, record { meaning = empty 7 1; good = none_stored; gives = refl })
page_given_lem ROOM e = unlisted e

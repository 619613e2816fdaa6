-- The ways out of each call, as the definition of what it does has them: behind a wrong header, behind a key that is too long, and past both tests.
-- Assumes nothing.
use Prim.Native.Nat.{ℕ, suc, ◌≤◌, ◌<◌}
use mathlib.Core.Path.{◌≡◌, refl, sym, ap, subst, ◌∙◌}
use mathlib.Core.Bool.{Bool, true, false, cond}
use mathlib.Core.List.{List}
use native.Mathlib.Omega.{arith}
use lib.Dec.{ltb}
use lib.ListN.{length}
use borrow.Author.Tests.{le-leb, lt-leb}
use Rattle.model.specs.Key.{key_limit}
use Rattle.model.specs.Numbers.{least_size}
use Rattle.model.specs.Picture.{too_long}
use Rattle.node.specs.Header.{head_of, set_head}
use Rattle.records.specs.Create.{made_of, created, Created}
use Rattle.node.specs.declared.header.Header.{Header}
use Rattle.trie_spec.specs.Writes.{Outcome, outcome, Did, insert_in, remove_under}
use Rattle.trie_spec.specs.Writes.{Put, Removed}
use Rattle.node.specs.Leaf.{leaf_in, set_value}
use Rattle.node.specs.declared.child.LeafNo.{LeafNo}
use Rattle.trie_spec.specs.Find.{find_in, leaf_of, found_at}
use Rattle.trie_spec.specs.declared.descent.Step.{Step}
use Rattle.index_spec.specs.Layout.{with_limit}
use Rattle.index_spec.specs.Replies.{empty_of, inserted_of}
use Rattle.index_spec.specs.Calls.{behind, create_call, empty_call, limit_call, inserted_in, insert_call, refused_get, got_of, got_in, get_call, refused_overwrite, refused_change, overwritten, overwritten_in, overwrite_call, removed_of, removed, removed_in, remove_call}
use Rattle.std.specs.Prelude.{Result, Ok, Err, Some, None}
use Rattle.trie_spec.specs.Find.{Exact, Found}
use Rattle.node.specs.declared.NotAStore.{NotAStore}
use Rattle.node.specs.NotAStore.{not_a_store}
use Rattle.index_spec.specs.declared.insert.InsertError.{InsertError}
use Rattle.trie_spec.specs.declared.insert.Inserted.{Inserted}
use Rattle.index_spec.specs.declared.stored.LookupError.{LookupError}
use Rattle.records.specs.Create.{no_room}
use Rattle.records.specs.declared.create.NoRoom.{NoRoom}

-- ---- a key that is too long

pub too_long_lem : (k : List ℕ) → key_limit < length k → too_long k ≡ true
too_long_lem k l = le-leb (suc key_limit) (length k) l

pub not_too_long : (k : List ℕ) → length k ≤ key_limit → too_long k ≡ false
not_too_long k l = lt-leb (suc key_limit) (length k) (omega arith)

-- ---- behind the tests

module _ {A : Type 0} (store key : A) (work : Header → A) (st k : List ℕ) (x : Result Header NotAStore) (p : x ≡ head_of st) where
  behind_bad : x ≡ Err not_a_store → behind store key work st k ≡ store
  behind_bad b = rw (← p, b)

  behind_long : (h : Header) → x ≡ Ok h → key_limit < length k → behind store key work st k ≡ key
  behind_long h g l = rw (← p, g, too_long_lem k l)

  behind_short : (h : Header) → x ≡ Ok h → length k ≤ key_limit → behind store key work st k ≡ work h
  behind_short h g l = rw (← p, g, not_too_long k l)

did : {A : Type 0} (o p : Outcome A) {r : A} {b : List ℕ} → o ≡ p → Did p r b → Did o r b
did o p e d = rw e d

-- ---- create

pub create_is : (limit : ℕ) (st st' : List ℕ) (r : Result (Unit {0}) NoRoom) → Created limit st st' r → Did (create_call limit st) r st'
create_is limit st st' r w = go (ltb (length st) least_size) w.answer w.bytes
  where
    go : (b : Bool) → r ≡ made_of b → st' ≡ cond b st (created limit st) → Did (cond b (outcome (Err no_room) st) (outcome (Ok tt) (created limit st))) r st'
    go true e f = (e, f)
    go false e f = (e, f)

-- ---- is_empty and set_limit

module _ (st : List ℕ) (x : Result Header NotAStore) (p : x ≡ head_of st) where
  pub empty_is_bad : x ≡ Err not_a_store → Err not_a_store ≡ empty_call st
  empty_is_bad b = rw (← p, b)

  pub empty_is_done : (h : Header) (r : Result Bool NotAStore) → x ≡ Ok h → r ≡ Ok (empty_of h.leaves) → r ≡ empty_call st
  empty_is_done h r g q = q ∙ rw (← p, g)

  module _ (limit : ℕ) where
    pub limit_is_bad : x ≡ Err not_a_store → Did (limit_call limit st) (Err not_a_store) st
    limit_is_bad b = rw (← p, b) (refl, refl)

    pub limit_is_done : (h : Header) (st' : List ℕ) → x ≡ Ok h → st' ≡ set_head st (with_limit h limit) → Did (limit_call limit st) (Ok tt) st'
    limit_is_done h st' g q = rw (← p, g) (refl, q)

-- ---- the calls with a key

module _ (k st : List ℕ) (x : Result Header NotAStore) (p : x ≡ head_of st) where
  pub get_is_bad : x ≡ Err not_a_store → Err LookupError.Store ≡ get_call k st
  get_is_bad b = sym (behind_bad (Err LookupError.Store) (Err LookupError.Key) (λ h. got_in st h k) st k x p b)

  pub insert_is_bad : (v : ℕ) → x ≡ Err not_a_store → Did (insert_call k v st) (Err InsertError.Store) st
  insert_is_bad v b = did _ _ (behind_bad (outcome (Err InsertError.Store) st) (outcome (Err InsertError.Key) st) (λ h. inserted_in st h k v) st k x p b) (refl, refl)

  pub overwrite_is_bad : (v : ℕ) → x ≡ Err not_a_store → Did (overwrite_call k v st) (Err LookupError.Store) st
  overwrite_is_bad v b = did _ _ (behind_bad (outcome (Err LookupError.Store) st) (outcome (Err LookupError.Key) st) (λ h. overwritten_in st h k v) st k x p b) (refl, refl)

  pub remove_is_bad : x ≡ Err not_a_store → Did (remove_call k st) (Err LookupError.Store) st
  remove_is_bad b = did _ _ (behind_bad (outcome (Err LookupError.Store) st) (outcome (Err LookupError.Key) st) (λ h. removed_in st h k) st k x p b) (refl, refl)

  module _ (h : Header) (g : x ≡ Ok h) (long : key_limit < length k) where
    pub get_is_long : Err LookupError.Key ≡ get_call k st
    get_is_long = sym (behind_long (Err LookupError.Store) (Err LookupError.Key) (λ h. got_in st h k) st k x p h g long)

    pub insert_is_long : (v : ℕ) → Did (insert_call k v st) (Err InsertError.Key) st
    insert_is_long v = did _ _ (behind_long (outcome (Err InsertError.Store) st) (outcome (Err InsertError.Key) st) (λ h. inserted_in st h k v) st k x p h g long) (refl, refl)

    pub overwrite_is_long : (v : ℕ) → Did (overwrite_call k v st) (Err LookupError.Key) st
    overwrite_is_long v = did _ _ (behind_long (outcome (Err LookupError.Store) st) (outcome (Err LookupError.Key) st) (λ h. overwritten_in st h k v) st k x p h g long) (refl, refl)

    pub remove_is_long : Did (remove_call k st) (Err LookupError.Key) st
    remove_is_long = did _ _ (behind_long (outcome (Err LookupError.Store) st) (outcome (Err LookupError.Key) st) (λ h. removed_in st h k) st k x p h g long) (refl, refl)

  module _ (h : Header) (g : x ≡ Ok h) (short : length k ≤ key_limit) where
    pub get_is_done : (r : Result ℕ LookupError) → r ≡ got_in st h k → r ≡ get_call k st
    get_is_done r d = d ∙ sym (behind_short (Err LookupError.Store) (Err LookupError.Key) (λ h. got_in st h k) st k x p h g short)

    pub insert_is_done : (v : ℕ) (st' : List ℕ) (q : Put) (r : Result Inserted InsertError) → Did (insert_in st h k v) q st' → r ≡ inserted_of q → Did (insert_call k v st) r st'
    insert_is_done v st' q r d n =
        did _ _ (behind_short (outcome (Err InsertError.Store) st) (outcome (Err InsertError.Key) st) (λ h. inserted_in st h k v) st k x p h g short) (n ∙ ap inserted_of d.0, d.1)

    pub overwrite_is_done : (v : ℕ) (st' : List ℕ) (r : Result (Unit {0}) LookupError) → Did (overwritten_in st h k v) r st' → Did (overwrite_call k v st) r st'
    overwrite_is_done v st' r d = did _ _ (behind_short (outcome (Err LookupError.Store) st) (outcome (Err LookupError.Key) st) (λ h. overwritten_in st h k v) st k x p h g short) d

    pub remove_is_done : (st' : List ℕ) (r : Result (Unit {0}) LookupError) → Did (removed_in st h k) r st' → Did (remove_call k st) r st'
    remove_is_done st' r d = did _ _ (behind_short (outcome (Err LookupError.Store) st) (outcome (Err LookupError.Key) st) (λ h. removed_in st h k) st k x p h g short) d

-- ---- what a lookup found

-- nothing was found
abbrev NotFound : Exact → Type 0
NotFound z = (n : LeafNo) (s : Step) → z ≡ Ok (Some (n, s)) → ⊥

abbrev NotMet : Found → Type 0
NotMet w = (n : LeafNo) → w ≡ Ok (Some n) → ⊥

refused_remove : (st : List ℕ) (h : Header) (z : Exact) → NotFound z → removed st h z ≡ outcome (refused_change z) st
refused_remove st h (Ok (Some (n, s))) f = absurd (f n s refl)
refused_remove st h (Ok None) f = refl
refused_remove st h (Err e) f = refl

module _ (st : List ℕ) (h : Header) (k : List ℕ) (z : Exact) (p : z ≡ find_in st h k) where
  pub refused_removed : (r : Result (Unit {0}) LookupError) → NotFound z → r ≡ refused_change z → Did (removed_in st h k) r st
  refused_removed r f q = did _ _ (ap (removed st h) (sym p) ∙ refused_remove st h z f) (q, refl)

  module _ (n : LeafNo) (s : Step) (e : z ≡ Ok (Some (n, s))) where
    module _ (st' : List ℕ) (b : Removed) (q : Did (remove_under st h n.0 s.at s.above) b st') where
      pub found_removed : b ≡ Ok tt → Did (removed_in st h k) (Ok tt) st'
      found_removed t = subst (λ (y : Exact). Did (removed st h y) (Ok tt) st') (sym e ∙ p) (ap (λ (y : Removed). removed_of y) (sym t ∙ q.0), q.1)

      pub unfit_removed : b ≡ Err not_a_store → Did (removed_in st h k) (Err LookupError.Store) st'
      unfit_removed t = subst (λ (y : Exact). Did (removed st h y) (Err LookupError.Store) st') (sym e ∙ p) (ap (λ (y : Removed). removed_of y) (sym t ∙ q.0), q.1)

-- ---- where the leaf alone is looked for

-- the value, by the leaf
got_by : List ℕ → Found → Result ℕ LookupError
got_by st (Ok (Some n)) = Ok (leaf_in st n.0).value
got_by st (Ok None) = Err LookupError.Absent
got_by st (Err e) = Err LookupError.Store

got_by_lem : (st : List ℕ) (z : Exact) → got_by st (leaf_of z) ≡ got_of st z
unfolding got_by
got_by_lem st (Ok (Some (n, s))) = refl
got_by_lem st (Ok None) = refl
got_by_lem st (Err e) = refl

-- the value replaced, by the leaf
overwritten_by : List ℕ → ℕ → Found → Outcome (Result (Unit {0}) LookupError)
overwritten_by st v (Ok (Some n)) = outcome (Ok tt) (set_value st n.0 v)
overwritten_by st v (Ok None) = outcome (Err LookupError.Absent) st
overwritten_by st v (Err e) = outcome (Err LookupError.Store) st

overwritten_by_lem : (st : List ℕ) (v : ℕ) (z : Exact) → overwritten_by st v (leaf_of z) ≡ overwritten st v z
unfolding overwritten_by
overwritten_by_lem st v (Ok (Some (n, s))) = refl
overwritten_by_lem st v (Ok None) = refl
overwritten_by_lem st v (Err e) = refl

refused_get_lem : (st : List ℕ) (w : Found) → NotMet w → refused_get w ≡ got_by st w
unfolding got_by
refused_get_lem st (Ok (Some n)) f = absurd (f n refl)
refused_get_lem st (Ok None) f = refl
refused_get_lem st (Err e) f = refl

refused_overwrite_lem : (st : List ℕ) (v : ℕ) (w : Found) → NotMet w → overwritten_by st v w ≡ outcome (refused_overwrite w) st
unfolding overwritten_by
refused_overwrite_lem st v (Ok (Some n)) f = absurd (f n refl)
refused_overwrite_lem st v (Ok None) f = refl
refused_overwrite_lem st v (Err e) f = refl

module _ (st : List ℕ) (h : Header) (k : List ℕ) (w : Found) (p : w ≡ found_at st h.capacity h.leaves h.root k) where
  is_got : got_by st w ≡ got_in st h k
  is_got = ap (got_by st) p ∙ got_by_lem st (find_in st h k)

  is_overwritten : (v : ℕ) → overwritten_by st v w ≡ overwritten_in st h k v
  is_overwritten v = ap (overwritten_by st v) p ∙ overwritten_by_lem st v (find_in st h k)

  pub refused_got : (r : Result ℕ LookupError) → NotMet w → r ≡ refused_get w → r ≡ got_in st h k
  refused_got r f q = q ∙ refused_get_lem st w f ∙ is_got

  pub refused_overwritten : (v : ℕ) (r : Result (Unit {0}) LookupError) → NotMet w → r ≡ refused_overwrite w → Did (overwritten_in st h k v) r st
  refused_overwritten v r f q = did _ _ (sym (is_overwritten v) ∙ refused_overwrite_lem st v w f) (q, refl)

  module _ (n : LeafNo) (e : w ≡ Ok (Some n)) where
    pub found_got : (v : ℕ) → v ≡ (leaf_in st n.0).value → Ok v ≡ got_in st h k
    unfolding got_by
    found_got v q = ap Ok q ∙ ap (got_by st) (sym e) ∙ is_got

    pub found_overwritten : (st' : List ℕ) (v : ℕ) → st' ≡ set_value st n.0 v → Did (overwritten_in st h k v) (Ok tt) st'
    unfolding overwritten_by
    found_overwritten st' v q = did _ _ (sym (is_overwritten v) ∙ ap (overwritten_by st v) e) (refl, q)

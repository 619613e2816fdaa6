-- "Bytes past 128 x (capacity + 1) are neither read nor written": a law for each call that the answer and the used bytes afterwards are the same whatever lies
-- past them, on any bytes. What a call does is its `is` contract.
-- Assumes nothing.
use Prim.Native.Nat.{ℕ, ◌≤◌, ◌<◌}
use mathlib.Core.Path.{◌≡◌, refl, sym, ap, subst, ◌∙◌}
use mathlib.Core.Bool.{Bool, true, false, cond}
use mathlib.Core.List.{List}
use lib.ListN.{length, take}
use native.Mathlib.Omega.{arith}
use native.Mathlib.Decide.{dec_lt}
use borrow.Author.Tests.{lt-ltb, le-ltb}
use Rattle.model.specs.Key.{Bytes}
use Rattle.model.specs.Numbers.{least_size, used}
use Rattle.model.specs.Picture.{too_long}
use Rattle.model.specs.Page.{From}
use Rattle.pictures.specs.After.{bound, bound_too}
use Rattle.node.specs.Layout.{start}
use Rattle.node.specs.Header.{head_of, set_head}
use Rattle.node.specs.Leaf.{Leaf as LeafRecord, set_value}
use Rattle.records.specs.Create.{created}
use Rattle.node.specs.declared.header.Header.{Header}
use Rattle.node.proofs.HeaderLaws.{Right, good_right}
use Rattle.trie_spec.specs.Find.{find_in, Stands}
use Rattle.trie_spec.specs.Writes.{Outcome, outcome}
use Rattle.trie_spec.proofs.KeepLaws.{find_stands}
use Rattle.trie_spec.proofs.UnreadLaws.{Alike, Agrees, agrees, leaf_alike, head_alike, value_alike, find_alike, insert_alike, remove_alike, created_alike}
use Rattle.index_spec.specs.Layout.{with_limit}
use Rattle.index_spec.specs.Replies.{inserted_of, mode_of}
use Rattle.index_spec.specs.Calls.{on_head, create_call, empty_call, limit_call, inserted_in, insert_call, got_of, got_in, get_call, overwritten, overwritten_in, overwrite_call, removed_of, removed, removed_in, remove_call}
use Rattle.iterator.proofs.UnreadLaws.{page_alike}
use Rattle.index_spec.specs.Pages.{count_wrong, named_page, page_call}
use Rattle.index_spec.specs.declared.pages.Mode.{Mode}
use Rattle.index_spec.proofs.UsedLaws.{capacity_same, header_same, alike}
use Rattle.trie_spec.specs.Writes.{Removed}
use Rattle.std.specs.Prelude.{Result, Ok, Err, Some, None}
use Rattle.trie_spec.specs.Find.{Exact}
use Rattle.node.specs.declared.NotAStore.{NotAStore}
use Rattle.node.specs.NotAStore.{not_a_store}
use Rattle.index_spec.specs.declared.insert.InsertError.{InsertError}
use Rattle.index_spec.specs.declared.pages.PageError.{PageError}
use Rattle.index_spec.specs.declared.stored.LookupError.{LookupError}
use Rattle.iterator.specs.declared.page.Page.{Page}
use Rattle.records.specs.Create.{no_room}

-- Two slices of one capacity with the same used bytes.
pub record Same (st su : List ℕ) : Type 0 where
  pub capacity : used st ≡ used su
  pub bytes : take (used st) st ≡ take (used su) su

module _ (st su : List ℕ) (s : Same st su) where
  -- by the header, which is the same: what is done behind it
  by_head : {A : Type 0} (P : A → A → Type 0) (a b : A) (f g : Header → A) → P a b → ((h : Header) → Right st h → Alike h.capacity st su → P (f h) (g h))
      → P (on_head a f (head_of st)) (on_head b g (head_of su))
  by_head P a b f g bad good = subst (λ (x : Result Header NotAStore). P (on_head a f (head_of st)) (on_head b g x)) (header_same st su s.capacity s.bytes) (go (head_of st) refl)
    where
      go : (x : Result Header NotAStore) → head_of st ≡ x → P (on_head a f x) (on_head b g x)
      go (Ok h) e =
          let r : Right st h = good_right st h e in
          good h r (subst (λ (z : ℕ). Alike z st su) (sym r.capacity) (alike st su s.capacity s.bytes r.long))
      go (Err x) e = bad

  pub empty_unread : empty_call st ≡ empty_call su
  empty_unread = by_head (λ a b. a ≡ b) _ _ _ _ refl (λ h r a. refl)

-- What holds of two outcomes: the same answer, and the same used bytes afterwards. (How many these are a call does not change.)
pub record Unread {A : Type 0} (st su : List ℕ) (o p : Outcome A) : Type 0 where
  pub answer : o.answer ≡ p.answer
  pub bytes : take (used st) o.bytes ≡ take (used su) p.bytes

module _ (st su : List ℕ) (s : Same st su) where
  kept : {A : Type 0} (a : A) → Unread st su (outcome a st) (outcome a su)
  kept a = record { answer = refl; bytes = s.bytes }

  -- the blocks of a store with a right header are its used bytes
  from_blocks : {A : Type 0} (h : Header) → Right st h → (o p : Outcome A) → Agrees h.capacity o p → Unread st su o p
  from_blocks h r o p a = record {
    answer = a.answer;
    bytes = subst (λ (n : ℕ). take (used st) o.bytes ≡ take n p.bytes) s.capacity (subst (λ (c : ℕ). take (start c) o.bytes ≡ take (start c) p.bytes) r.capacity a.bytes.same);
  }

  pub limit_unread : (limit : ℕ) → Unread st su (limit_call limit st) (limit_call limit su)
  limit_unread limit =
      by_head st su s (Unread st su) _ _ _ _ (kept (Err not_a_store))
      (λ h r a. from_blocks h r (outcome (Ok tt) (set_head st (with_limit h limit))) (outcome (Ok tt) (set_head su (with_limit h limit))) (agrees (Ok tt) (head_alike a (with_limit h limit))))

  module _ (k : List ℕ) (key : Bytes k) where
    -- a key that is too long, or what is done
    by_key : {A : Type 0} (P : A → A → Type 0) (a b c d : A) → P a b → P c d → P (cond (too_long k) a c) (cond (too_long k) b d)
    by_key {A} P a b c d long short = go (too_long k)
      where
        go : (t : Bool) → P (cond t a c) (cond t b d)
        go true = long
        go false = short

    found : (h : Header) → Alike h.capacity st su → find_in su h k ≡ find_in st h k
    found h a = find_alike a k key h refl

    stands : (h : Header) → Stands h.capacity (find_in st h k)
    stands h = find_stands st h k key

    got : (h : Header) → Alike h.capacity st su → (z : Exact) → Stands h.capacity z → got_of st z ≡ got_of su z
    got h a (Ok (Some (n, t))) q = ap (λ (x : LeafRecord). Ok x.value) (sym (leaf_alike a n.0 q.0))
    got h a (Ok None) q = refl
    got h a (Err e) q = refl

    pub get_unread : get_call k st ≡ get_call k su
    get_unread =
        by_head st su s (λ a b. a ≡ b) _ _ _ _ refl
        (λ h r a. by_key (λ x y. x ≡ y) (Err LookupError.Key) (Err LookupError.Key) (got_in st h k) (got_in su h k) refl (got h a (find_in st h k) (stands h) ∙ ap (got_of su) (sym (found h a))))

    pub insert_unread : (v : ℕ) → Unread st su (insert_call k v st) (insert_call k v su)
    insert_unread v =
        by_head st su s (Unread st su) _ _ _ _ (kept (Err InsertError.Store))
        (λ h r a.
        let i = insert_alike a k v key h refl in
        by_key (Unread st su) (outcome (Err InsertError.Key) st) (outcome (Err InsertError.Key) su) (inserted_in st h k v) (inserted_in su h k v) (kept (Err InsertError.Key))
        (from_blocks h r (inserted_in st h k v) (inserted_in su h k v) (record { answer = ap inserted_of i.answer; bytes = i.bytes })))

    overwrites : (h : Header) → Right st h → Alike h.capacity st su → (v : ℕ) (z : Exact) → Unread st su (overwritten st v z) (overwritten su v z)
    overwrites h r a v (Ok (Some (n, t))) = from_blocks h r (outcome (Ok tt) (set_value st n.0 v)) (outcome (Ok tt) (set_value su n.0 v)) (agrees (Ok tt) (value_alike a n.0 v))
    overwrites h r a v (Ok None) = kept (Err LookupError.Absent)
    overwrites h r a v (Err e) = kept (Err LookupError.Store)

    pub overwrite_unread : (v : ℕ) → Unread st su (overwrite_call k v st) (overwrite_call k v su)
    overwrite_unread v =
        by_head st su s (Unread st su) _ _ _ _ (kept (Err LookupError.Store))
        (λ h r a.
        by_key (Unread st su) (outcome (Err LookupError.Key) st) (outcome (Err LookupError.Key) su) (overwritten_in st h k v) (overwritten_in su h k v) (kept (Err LookupError.Key))
        (subst (λ (z : Exact). Unread st su (overwritten_in st h k v) (overwritten su v z)) (sym (found h a)) (overwrites h r a v (find_in st h k))))

    removes : (h : Header) → Right st h → Alike h.capacity st su → (z : Exact) → Stands h.capacity z → Unread st su (removed st h z) (removed su h z)
    removes h r a (Ok (Some (n, t))) q =
        let c = remove_alike a h n.0 t.at t.above q.1 q.2 in
        from_blocks h r (removed st h (Ok (Some (n, t)))) (removed su h (Ok (Some (n, t))))
        (record { answer = ap (λ (b : Removed). removed_of b) c.answer; bytes = c.bytes })
    removes h r a (Ok None) q = kept (Err LookupError.Absent)
    removes h r a (Err e) q = kept (Err LookupError.Store)

    pub remove_unread : Unread st su (remove_call k st) (remove_call k su)
    remove_unread =
        by_head st su s (Unread st su) _ _ _ _ (kept (Err LookupError.Store))
        (λ h r a.
        by_key (Unread st su) (outcome (Err LookupError.Key) st) (outcome (Err LookupError.Key) su) (removed_in st h k) (removed_in su h k) (kept (Err LookupError.Key))
        (subst (λ (z : Exact). Unread st su (removed_in st h k) (removed su h z)) (sym (found h a)) (removes h r a (find_in st h k) (stands h))))

  -- what creation leaves of the bytes before it is among the used ones
  pub create_unread : (limit : ℕ) → Unread st su (create_call limit st) (create_call limit su)
  create_unread limit = go (dec_lt (length st) least_size)
    where
      go : Dec (length st < least_size) → Unread st su (create_call limit st) (create_call limit su)
      go (yes l) = rw (lt-ltb (length st) least_size l, lt-ltb (length su) least_size (omega (arith, capacity_same st su s.capacity s.bytes))) (kept (Err no_room))
      go (no l) =
          rw (le-ltb (length st) least_size (omega arith), le-ltb (length su) least_size (omega (arith, capacity_same st su s.capacity s.bytes)))
          (record { answer = refl; bytes = made (omega arith) })
        where
          made : least_size ≤ length st → take (used st) (created limit st) ≡ take (used su) (created limit su)
          made long =
              let c = created_alike limit (capacity_same st su s.capacity s.bytes) (alike st su s.capacity s.bytes long) in
              c.same ∙ ap (λ (n : ℕ). take n (created limit su)) s.capacity

  -- a page: the answer and every output byte
  pub page_unread : (long : Bool) (q : List ℕ) (mode : Mode) (from : From) (n : ℕ) (out : List ℕ) → Bytes q → Bytes (bound (mode_of mode) q from) → page_call long q mode from n st out ≡ page_call long q mode from n su out
  page_unread long q mode from n out qs bs =
      by_head st su s (λ a b. a ≡ b) _ _ _ _ refl
      (λ h r a. ap (λ (o : Outcome (Result Page NotAStore)). cond long (outcome (Err PageError.Key) out) (cond (count_wrong n (length out)) (outcome (Err PageError.Count) out) (named_page o)))
      (sym (page_alike a q (bound (mode_of mode) q from) qs bs (bound_too (mode_of mode) from) n out h refl)))

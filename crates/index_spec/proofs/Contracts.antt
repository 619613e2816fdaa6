-- A law for each way out of a public call: from what its callees do to the bytes to its promise. Assumes nothing.
use Prim.Native.Nat.{ℕ, ◌≤◌, ◌<◌}
use mathlib.Core.Path.{◌≡◌, refl, sym, ap, subst, ◌∙◌}
use mathlib.Core.Bool.{Bool, true, false}
use mathlib.Core.List.{List}
use mathlib.Core.Option.{Option, none, some}
use native.Mathlib.Omega.{arith}
use native.Mathlib.Decide.{dec_lt}
use lib.ListN.{length, get_or}
use mir.Syntax.{w8, w16}
use mir.Val.{Fits}
use borrow.Author.Tests.{lt-ltb, le-ltb, eq-eqb, ne_eqb}
use Rattle.model.specs.Numbers.{header_size, least_size, capacity_of}
use Rattle.model.specs.Answers.{number, DONE, ROOM}
use Rattle.model.specs.Picture.{Tree}
use Rattle.model.proofs.Unique.{listing_some}
use Rattle.pictures.proofs.Tally.{leaves_length}
use Rattle.promises.specs.Meaning.{alone}
use Rattle.promises.specs.Says.{is_nothing, is_empty_says, set_limit_says}
use Rattle.promises.specs.Promises.{Kind, is_empty_kinds, set_limit_kinds, Create, IsEmpty, SetLimit}
use Rattle.promises.proofs.Bridge.{is_none, is_empty_lem}
use Rattle.node.specs.Header.{head_in, head_of, set_head}
use Rattle.records.specs.Create.{made_of, created, Created}
use Rattle.node.specs.declared.header.Header.{Header}
use Rattle.records.proofs.CreateLaws.{create_length, create_past, create_head}
use Rattle.node.proofs.HeaderLaws.{good_right, length_head, past_stays}
use Rattle.trie_spec.specs.Accepted.{Accepted}
use Rattle.trie_spec.proofs.AcceptedLaws.{no_leaves, leaf_count_lem}
use Rattle.trie_spec.proofs.CreateLaws.{create_accepted}
use Rattle.index_spec.specs.Layout.{layout, with_limit}
use Rattle.index_spec.specs.Replies.{create_reply, empty_reply, empty_of, limit_reply}
use Rattle.index_spec.proofs.HeadLaws.{headed, not_wrong, reads_bad, writes_bad}
use Rattle.index_spec.proofs.LimitLaws.{limit_head, limit_accepted}
use Rattle.std.specs.Prelude.{Result, Ok, Err}
use Rattle.node.specs.declared.NotAStore.{NotAStore}
use Rattle.node.specs.NotAStore.{not_a_store}
use Rattle.records.specs.Create.{no_room}
use Rattle.records.specs.declared.create.NoRoom.{NoRoom}

-- ---- create

create_short : (limit : ℕ) (st : List ℕ) → length st < least_size → Create layout limit st st (alone ROOM)
create_short limit st h = record {
  kept = record { size = refl; refused = λ q. refl };
  rest = refl;
  answers = rw (lt-ltb (length st) least_size h);
  after = λ l. absurd (omega arith);
}

create_long : (limit : ℕ) (st : List ℕ) → least_size ≤ length st → limit < 65536 → ((i : ℕ) → Fits w8 (get_or (created limit st) i 0))
    → Create layout limit st (created limit st) (alone DONE)
create_long limit st long small bytes = record {
  kept = record { size = create_length limit st small long; refused = λ q. absurd (omega arith) };
  rest = create_past limit st small long;
  answers = rw (le-ltb (length st) least_size long);
  after = λ l. record {
    tree = none;
    accepted = create_accepted limit st long small (λ i k. (bytes i).fits);
    map = refl;
    limit = ap (λ (z : Header). z.limit) (create_head limit st small long);
    capacity = ap capacity_of (create_length limit st small long);
  };
}

pub create_promise : (limit : ℕ) (st st' : List ℕ) (r : Result (Unit {0}) NoRoom) → Created limit st st' r → Fits w16 limit → ((i : ℕ) → Fits w8 (get_or st' i 0))
    → Create layout limit st st' (create_reply r)
create_promise limit st st' r w small bytes = go (dec_lt (length st) least_size)
  where
    go : Dec (length st < least_size) → Create layout limit st st' (create_reply r)
    go (yes h) =
        let q : r ≡ (Err no_room) = w.answer ∙ ap made_of (lt-ltb (length st) least_size h) in
        let e : st' ≡ st = w.bytes ∙ rw (lt-ltb (length st) least_size h) in
        rw (q, e) (create_short limit st h)
    go (no h) =
        let long : least_size ≤ length st = omega arith in
        let q : r ≡ (Ok tt) = w.answer ∙ ap made_of (le-ltb (length st) least_size long) in
        let e : st' ≡ created limit st = w.bytes ∙ rw (le-ltb (length st) least_size long) in
        rw (q, e) (create_long limit st long small.fits (subst (λ (z : List ℕ). (i : ℕ) → Fits w8 (get_or z i 0)) e bytes))

-- ---- is_empty

empty_kind : (r : Result Bool NotAStore) → Kind is_empty_kinds (empty_reply r)
empty_kind (Ok true) = record { among = refl; value = λ q. absurd (omega arith); count = λ q. refl; end = λ q. refl }
empty_kind (Ok false) = record { among = refl; value = λ q. refl; count = λ q. refl; end = λ q. refl }
empty_kind (Err e) = record { among = refl; value = λ q. refl; count = λ q. refl; end = λ q. refl }

-- whether a store has no key is whether its header counts no leaf
empty_is : (st : List ℕ) (o : Option Tree) → Accepted st o
    → empty_reply (Ok (empty_of (head_in st).leaves)) ≡ record { answer = number DONE; value = is_none o; count = 0; end = false }
empty_is st none a = rw (eq-eqb (head_in st).leaves 0 (no_leaves st a))
empty_is st (some t) a = rw (ne_eqb (head_in st).leaves 0 (λ e. omega (arith, leaf_count_lem st t a, leaves_length t, listing_some t a.picture)))

pub empty_good : (st : List ℕ) (x : Result Header NotAStore) (h : Header) (r : Bool) → x ≡ head_of st → x ≡ Ok h → r ≡ empty_of h.leaves → IsEmpty layout st (empty_reply (Ok r))
empty_good st x h r p g q = record {
  kind = empty_kind (Ok r);
  wrong = λ w. absurd (not_wrong st h (headed st x h p g) w);
  answers = λ m w.
      ap (λ (b : Bool). empty_reply (Ok b)) (q ∙ ap (λ (z : Header). empty_of z.leaves) (good_right st h (sym e)).is)
      ∙ empty_is st w.tree w.accepted
      ∙ ap (λ (n : ℕ). record { answer = number DONE; value = n; count = 0; end = false }) (sym (is_empty_lem w.tree w.accepted.picture) ∙ ap is_nothing w.map);
}
  where
    e : Ok h ≡ head_of st
    e = sym g ∙ p

pub empty_bad : (st : List ℕ) (x : Result Header NotAStore) → x ≡ head_of st → x ≡ Err not_a_store → IsEmpty layout st (empty_reply (Err not_a_store))
empty_bad st x p b = reads_bad st x p b is_empty_kinds is_empty_says (empty_kind (Err not_a_store))

-- ---- set_limit

limit_kind : (r : Result (Unit {0}) NotAStore) → Kind set_limit_kinds (limit_reply r)
limit_kind (Ok u) = record { among = refl; value = λ q. refl; count = λ q. refl; end = λ q. refl }
limit_kind (Err e) = record { among = refl; value = λ q. refl; count = λ q. refl; end = λ q. refl }

-- the header that is written is in the slice
pub limit_room : (st : List ℕ) (x : Result Header NotAStore) (h : Header) → x ≡ head_of st → x ≡ Ok h → header_size ≤ length st
limit_room st x h p g = omega (arith, (good_right st h (sym p ∙ g)).long)

pub limit_good : (limit : ℕ) (st st' : List ℕ) (x : Result Header NotAStore) (h : Header) → x ≡ head_of st → x ≡ Ok h → st' ≡ set_head st (with_limit h limit) → Fits w16 limit
    → ((i : ℕ) → Fits w8 (get_or st' i 0)) → SetLimit layout limit st st' (limit_reply (Ok tt))
limit_good limit st st' x h p g q small bytes = record {
  kept = record { size = size; refused = λ l. absurd (omega arith) };
  rest = rw q (past_stays st (with_limit h limit) (capacity_of (length st)));
  kind = limit_kind (Ok tt);
  wrong = λ w. absurd (not_wrong st h (headed st x h p g) w);
  answers = λ m w. refl;
  after = λ m w. record {
    tree = w.tree;
    accepted = subst (λ (z : List ℕ). Accepted z w.tree) (sym is)
        (limit_accepted st w.tree w.accepted limit small.fits (λ i l. (subst (λ (z : List ℕ). Fits w8 (get_or z i 0)) is (bytes i)).fits));
    map = w.map;
    limit = ap (λ (z : List ℕ). (head_in z).limit) is ∙ ap (λ (z : Header). z.limit) (limit_head st w.tree w.accepted limit small.fits);
    capacity = ap capacity_of size ∙ w.capacity;
  };
}
  where
    e : Ok h ≡ head_of st
    e = sym g ∙ p

    size : length st' ≡ length st
    size = ap length q ∙ length_head st (with_limit h limit)

    is : st' ≡ set_head st (with_limit (head_in st) limit)
    is = q ∙ ap (λ (z : Header). set_head st (with_limit z limit)) (good_right st h (sym e)).is

pub limit_bad : (limit : ℕ) (st : List ℕ) (x : Result Header NotAStore) → x ≡ head_of st → x ≡ Err not_a_store → SetLimit layout limit st st (limit_reply (Err not_a_store))
limit_bad limit st x p b = writes_bad st x p b set_limit_kinds (set_limit_says limit) (limit_kind (Err not_a_store))

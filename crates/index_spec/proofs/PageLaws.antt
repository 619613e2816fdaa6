-- The two calls of a listing: a law for each way out, to what they do and to their promises. Assumes nothing.
use Prim.Native.Nat.{ℕ, ◌+◌, ◌*◌, ◌≤◌, ◌<◌, compare, Ordering}
use mathlib.Core.Path.{◌≡◌, refl, sym, ap, subst, ◌∙◌}
use mathlib.Core.Bool.{Bool, true, false, ◌||◌}
use mathlib.Core.List.{List, [], ◌++◌}
use native.Mathlib.Omega.{arith}
use lib.Dec.{eqb, ltb}
use lib.ListN.{length, take, drop}
use lib.Seq.{sets-eq}
use borrow.Author.Tests.{eq-eqb, ne_eqb, lt-ltb, le-ltb, ltb-false}
use Rattle.model.specs.Key.{key_limit, IsKey, order}
use Rattle.model.specs.Map.{Entry, All, choose}
use Rattle.model.specs.Nibble.{nibble, critical}
use Rattle.model.specs.Answers.{STORE}
use Rattle.model.specs.Numbers.{page_limit, entry_limit}
use Rattle.model.specs.Entry.{entries_bytes}
use Rattle.model.specs.Page.{From, start, after_key, follows, under, above}
use Rattle.model.specs.Picture.{entries, too_long}
use Rattle.model.proofs.Bounds.{entries_keys}
use Rattle.model.proofs.Compare.{Said, lower, same, higher, said}
use Rattle.model.proofs.KeyLaws.{critical_order}
use Rattle.pictures.specs.After.{bound, bound_too}
use Rattle.pictures.proofs.PageWalk.{bound_is}
use Rattle.promises.specs.Meaning.{Meaning, Means, alone}
use Rattle.promises.specs.Says.{Asked, from_too_long, page_of, page_given, page_says, PageSays}
use Rattle.promises.specs.Promises.{Kind, page_kinds, Pages, FirstPage, NextPage}
use Rattle.promises.proofs.EntryOne.{page_fits}
use Rattle.fields.specs.Part.{splice}
use Rattle.node.specs.Header.{head_of}
use Rattle.node.specs.declared.header.Header.{Header}
use Rattle.trie_spec.specs.Writes.{Outcome, Did}
use Rattle.iterator.specs.Page.{list_in}
use Rattle.iterator.proofs.PageLaws.{paged, page_means}
use Rattle.iterator.proofs.DecentLaws.{Decent, page_decent}
use Rattle.index_spec.specs.Layout.{layout}
use Rattle.index_spec.specs.Replies.{mode_of, page_reply}
use Rattle.index_spec.specs.Pages.{is_inclusive, count_wrong, paged_of, page_in, next_in, page_call, first_call, next_call}
use Rattle.index_spec.specs.declared.pages.Mode.{Mode}
use Rattle.index_spec.proofs.WayLaws.{too_long_lem, not_too_long}
use Rattle.index_spec.proofs.HeadLaws.{Headed, headed, not_wrong, not_good}
use Rattle.std.specs.Prelude.{Result, Ok, Err}
use Rattle.node.specs.declared.NotAStore.{NotAStore}
use Rattle.node.specs.NotAStore.{not_a_store}
use Rattle.index_spec.specs.declared.pages.PageError.{PageError}
use Rattle.iterator.specs.declared.page.Page.{Page}

-- ---- the inner functions

module _ (n room : ℕ) where
  pub count_none : n ≡ 0 → true ≡ count_wrong n room
  count_none e = rw (eq-eqb n 0 e)

  pub count_many : (n ≡ 0 → ⊥) → page_limit < n → true ≡ count_wrong n room
  count_many d h = rw (ne_eqb n 0 d, lt-ltb page_limit n h)

  pub count_room : (n ≡ 0 → ⊥) → n ≤ page_limit → ltb room (entry_limit * n) ≡ count_wrong n room
  count_room d h = rw (ne_eqb n 0 d, le-ltb page_limit n h)

  -- what a right count gives
  pub room_enough : (b : Bool) → b ≡ count_wrong n room → b ≡ false → entry_limit * n ≤ room
  room_enough b e f = go (eqb n 0) (ltb page_limit n) (ltb room (entry_limit * n)) refl (sym e ∙ f)
    where
      go : (x y z : Bool) → ltb room (entry_limit * n) ≡ z → x || (y || z) ≡ false → entry_limit * n ≤ room
      go true y z q w = absurd (let v : ◌≡◌ {A = ℕ} 0 1 = cc in omega arith)
      go false true z q w = absurd (let v : ◌≡◌ {A = ℕ} 0 1 = cc in omega arith)
      go false false true q w = absurd (let v : ◌≡◌ {A = ℕ} 0 1 = cc in omega arith)
      go false false false q w = ltb-false room (entry_limit * n) q

pub named_page_lem : (x : Result Page NotAStore) (p : Page) → x ≡ Ok p → Ok p ≡ paged_of x
named_page_lem x p q = ap paged_of (sym q)

pub below_is : (a b : List ℕ) (c x y : ℕ) → c ≡ critical a b → x ≡ nibble a c → y ≡ nibble b c → ltb x y ≡ follows (after_key a) b
below_is a b c x y e ex ey =
    let known : order a b ≡ compare x y = rw (ex, ey, e) (critical_order a b) in
    go (said x y) ∙ ap (λ (o : Ordering). choose o true false false) (sym known)
  where
    go : {o : Ordering} → Said x y o → ltb x y ≡ choose o true false false
    go (lower h) = lt-ltb x y h
    go (same h) = le-ltb x y (omega arith)
    go (higher h) = le-ltb x y (omega arith)

did : {A : Type 0} (o p : Outcome A) {r : A} {b : List ℕ} → o ≡ p → Did p r b → Did o r b
did o p e d = rw e d

-- ---- what a call does

module _ (long : Bool) (q : List ℕ) (mode : Mode) (from : From) (n : ℕ) (st out : List ℕ) (x : Result Header NotAStore) (p : x ≡ head_of st) where
  is_bad : x ≡ Err not_a_store → Did (page_call long q mode from n st out) (Err PageError.Store) out
  is_bad b = rw (← p, b) (refl, refl)

  module _ (h : Header) (g : x ≡ Ok h) where
    is_long : long ≡ true → Did (page_call long q mode from n st out) (Err PageError.Key) out
    is_long l = rw (← p, g, l) (refl, refl)

    module _ (short : long ≡ false) (b : Bool) (wrong : b ≡ count_wrong n (length out)) where
      is_count : b ≡ true → Did (page_call long q mode from n st out) (Err PageError.Count) out
      is_count e = rw (← p, g, short, ← wrong, e) (refl, refl)

      is_done : (z : Result Page NotAStore) (r : Result Page PageError) (out' : List ℕ) → b ≡ false → Did (page_in st h q mode from n out) z out' → r ≡ paged_of z → Did (page_call long q mode from n st out) r out'
      is_done z r out' e d i = rw (← p, g, short, ← wrong, e) (i ∙ ap paged_of d.0, d.1)

-- ---- the promise

page_kind : (r : Result Page PageError) → Kind page_kinds (page_reply r)
page_kind (Ok p) = record { among = refl; value = λ q. absurd (omega arith); count = λ q. absurd (omega arith); end = λ q. absurd (omega arith) }
page_kind (Err PageError.Store) = record { among = refl; value = λ q. refl; count = λ q. refl; end = λ q. refl }
page_kind (Err PageError.Key) = record { among = refl; value = λ q. refl; count = λ q. refl; end = λ q. refl }
page_kind (Err PageError.Count) = record { among = refl; value = λ q. refl; count = λ q. refl; end = λ q. refl }

-- a page that is refused came from a walk that is refused
refused_walk : (z : Result Page NotAStore) → 10 ≤ (page_reply (paged_of z)).answer → z ≡ (Err not_a_store)
refused_walk (Ok p) l = absurd (omega arith)
refused_walk (Err e) l = refl

module _ (q : List ℕ) (mode : Mode) (from : From) (n : ℕ) (st out : List ℕ) where
  abbrev asked : Asked
  asked = record { prefix = q; mode = mode_of mode; from = from; size = n; room = length out }

  -- refused, and nothing written
  refusal : (r : Result Page PageError) → (isGoodHead : (m : Meaning) → Means layout st m → page_reply r ≡ (page_says asked m).reply) → ((m : Meaning) → Means layout st m → (page_says asked m).bytes ≡ [])
      → (layout.header st ≡ false → page_reply r ≡ alone STORE) → Pages layout asked st out out (page_reply r)
  refusal r says bytes wrong = record {
    kept = record { size = refl; refused = λ l. refl };
    kind = page_kind r;
    wrong = wrong;
    answers = says;
    output = λ m w. sym (ap (λ (b : List ℕ). b ++ drop (length b) out) (bytes m w));
  }

  pages_bad : (x : Result Header NotAStore) → x ≡ head_of st → x ≡ Err not_a_store → Pages layout asked st out out (page_reply (Err PageError.Store))
  pages_bad x p b = refusal (Err PageError.Store) (λ m w. absurd (not_good st x p b w.accepted.head)) (λ m w. absurd (not_good st x p b w.accepted.head)) (λ w. refl)

  module _ (x : Result Header NotAStore) (h : Header) (p : x ≡ head_of st) (g : x ≡ Ok h) where
    e : Headed st h
    e = headed st x h p g

    pages_key : too_long q || from_too_long from ≡ true → Pages layout asked st out out (page_reply (Err PageError.Key))
    pages_key l = refusal (Err PageError.Key) (λ m w. sym (rw l)) (λ m w. rw l) (λ w. absurd (not_wrong st h e w))

    module _ (short : too_long q || from_too_long from ≡ false) where
      pages_count : count_wrong n (length out) ≡ true → Pages layout asked st out out (page_reply (Err PageError.Count))
      pages_count c = refusal (Err PageError.Count) (λ m w. sym (rw (short, c))) (λ m w. rw (short, c)) (λ w. absurd (not_wrong st h e w))

      module _ (right : count_wrong n (length out) ≡ false) (z : Result Page NotAStore) (r : Result Page PageError) (out' : List ℕ) (d : Did (page_in st h q mode from n out) z out') (i : r ≡ paged_of z) where
        abbrev b : List ℕ
        b = bound (mode_of mode) q from

        abbrev too : Bool
        too = bound_too (mode_of mode) from

        abbrev rest : Meaning → List Entry
        rest m = above from (under (mode_of mode) q m.map)

        -- what is done is the page of the map
        means : (m : Meaning) → Means layout st m → page_in st h q mode from n out ≡ paged n (rest m) out
        means m w =
            ap (λ (y : Header). list_in st y q b too n out) e.right.is
            ∙ page_means st q b too n out w.tree w.accepted
            ∙ ap (λ (es : List Entry). paged n es out) (sym (bound_is (mode_of mode) q from (entries w.tree)) ∙ ap (λ (y : List Entry). above from (under (mode_of mode) q y)) w.map)

        says : (m : Meaning) → page_says asked m ≡ page_given (page_of asked m)
        says m = rw (short, right)

        decent : Decent out (page_in st h q mode from n out)
        decent = page_decent st q b too n out h

        keys : (m : Meaning) → Means layout st m → All IsKey m.map
        keys m w = subst (All IsKey) w.map (entries_keys w.tree w.accepted.picture)

        written : (m : Meaning) → Means layout st m → splice out 0 (entries_bytes (take n (rest m))) ≡ entries_bytes (take n (rest m)) ++ drop (length (entries_bytes (take n (rest m)))) out
        unfolding splice
        written m w =
            let bs : List ℕ = entries_bytes (take n (rest m)) in
            let zero : 0 + length bs ≡ length bs = omega arith in
            sets-eq bs out 0 (omega (arith, page_fits asked m (keys m w) right)) ∙ ap (λ (y : ℕ). bs ++ drop y out) zero

        pages_done : Pages layout asked st out out' (page_reply r)
        pages_done = record {
          kept = record {
            size = ap length d.1 ∙ decent.size;
            refused = λ l. d.1 ∙ decent.refused (sym d.0 ∙ refused_walk z (subst (λ (y : Result Page PageError). 10 ≤ (page_reply y).answer) i l));
          };
          kind = page_kind r;
          wrong = λ w. absurd (not_wrong st h e w);
          answers = λ m w. ap page_reply (i ∙ ap paged_of (d.0 ∙ ap (λ (o : Outcome (Result Page NotAStore)). o.answer) (means m w))) ∙ sym (ap (λ (s : PageSays). s.reply) (says m));
          output = λ m w. d.1 ∙ ap (λ (o : Outcome (Result Page NotAStore)). o.bytes) (means m w) ∙ written m w ∙ sym (ap (λ (s : PageSays). s.bytes ++ drop (length s.bytes) out) (says m));
        }

-- ---- first_page and next_page

either_long : (q a : List ℕ) → key_limit < length a → too_long q || too_long a ≡ true
either_long q a l = rw (too_long_lem a l) (go (too_long q))
  where
    go : (b : Bool) → b || true ≡ true
    go true = refl
    go false = refl

start_short : (q : List ℕ) → length q ≤ key_limit → too_long q || false ≡ false
start_short q l = rw (not_too_long q l)

both_short : (q a : List ℕ) → length q ≤ key_limit → length a ≤ key_limit → too_long q || too_long a ≡ false
both_short q a l m = rw (not_too_long q l, not_too_long a m)

module _ (q : List ℕ) (mode : Mode) (n : ℕ) (st out : List ℕ) (x : Result Header NotAStore) (p : x ≡ head_of st) where
  pub first_bad : x ≡ Err not_a_store → FirstPage layout q (mode_of mode) n st out out (page_reply (Err PageError.Store))
  first_bad b = pages_bad q mode start n st out x p b

  pub first_is_bad : x ≡ Err not_a_store → Did (first_call q mode n st out) (Err PageError.Store) out
  first_is_bad b = is_bad (too_long q) q mode start n st out x p b

  pub next_bad : (a : List ℕ) → x ≡ Err not_a_store → NextPage layout q (mode_of mode) a n st out out (page_reply (Err PageError.Store))
  next_bad a b = pages_bad q mode (after_key a) n st out x p b

  pub next_is_bad : (a : List ℕ) → x ≡ Err not_a_store → Did (next_call q mode a n st out) (Err PageError.Store) out
  next_is_bad a b = is_bad (too_long q || too_long a) q mode (after_key a) n st out x p b

  module _ (h : Header) (g : x ≡ Ok h) where
    pub first_long : key_limit < length q → FirstPage layout q (mode_of mode) n st out out (page_reply (Err PageError.Key))
    first_long l = pages_key q mode start n st out x h p g (rw (too_long_lem q l))

    pub first_is_long : key_limit < length q → Did (first_call q mode n st out) (Err PageError.Key) out
    first_is_long l = is_long (too_long q) q mode start n st out x p h g (too_long_lem q l)

    pub next_long : (a : List ℕ) → key_limit < length q → NextPage layout q (mode_of mode) a n st out out (page_reply (Err PageError.Key))
    next_long a l = pages_key q mode (after_key a) n st out x h p g (rw (too_long_lem q l))

    pub next_is_long : (a : List ℕ) → key_limit < length q → Did (next_call q mode a n st out) (Err PageError.Key) out
    next_is_long a l = is_long (too_long q || too_long a) q mode (after_key a) n st out x p h g (rw (too_long_lem q l))

    pub after_long : (a : List ℕ) → key_limit < length a → NextPage layout q (mode_of mode) a n st out out (page_reply (Err PageError.Key))
    after_long a l = pages_key q mode (after_key a) n st out x h p g (either_long q a l)

    pub after_is_long : (a : List ℕ) → key_limit < length a → Did (next_call q mode a n st out) (Err PageError.Key) out
    after_is_long a l = is_long (too_long q || too_long a) q mode (after_key a) n st out x p h g (either_long q a l)

    module _ (short : length q ≤ key_limit) (b : Bool) (wrong : b ≡ count_wrong n (length out)) where
      pub first_count : b ≡ true → FirstPage layout q (mode_of mode) n st out out (page_reply (Err PageError.Count))
      first_count e = pages_count q mode start n st out x h p g (start_short q short) (sym wrong ∙ e)

      pub first_is_count : b ≡ true → Did (first_call q mode n st out) (Err PageError.Count) out
      first_is_count e = is_count (too_long q) q mode start n st out x p h g (not_too_long q short) b wrong e

      module _ (right : b ≡ false) (t : Bool) (inclusive-is : t ≡ is_inclusive mode) (z : Result Page NotAStore) (r : Result Page PageError) (out' : List ℕ) (d : Did (list_in st h q q t n out) z out') (i : r ≡ paged_of z) where
        begins : Did (page_in st h q mode start n out) z out'
        begins = subst (λ (y : Bool). Did (list_in st h q q y n out) z out') (inclusive-is ∙ go mode) d
          where
            go : (m : Mode) → is_inclusive m ≡ bound_too (mode_of m) start
            go Mode.Plain = refl
            go Mode.Inclusive = refl

        pub first_done : FirstPage layout q (mode_of mode) n st out out' (page_reply r)
        first_done = pages_done q mode start n st out x h p g (start_short q short) (sym wrong ∙ right) z r out' begins i

        pub first_is_done : Did (first_call q mode n st out) r out'
        first_is_done = is_done (too_long q) q mode start n st out x p h g (not_too_long q short) b wrong z r out' right begins i

      module _ (a : List ℕ) (short-after : length a ≤ key_limit) where
        pub next_count : b ≡ true → NextPage layout q (mode_of mode) a n st out out (page_reply (Err PageError.Count))
        next_count e = pages_count q mode (after_key a) n st out x h p g (both_short q a short short-after) (sym wrong ∙ e)

        pub next_is_count : b ≡ true → Did (next_call q mode a n st out) (Err PageError.Count) out
        next_is_count e = is_count (too_long q || too_long a) q mode (after_key a) n st out x p h g (both_short q a short short-after) b wrong e

        module _ (right : b ≡ false) (z : Result Page NotAStore) (r : Result Page PageError) (out' : List ℕ) (d : Did (next_in st h q mode a n out) z out') (i : r ≡ paged_of z) where
          pub next_done : NextPage layout q (mode_of mode) a n st out out' (page_reply r)
          next_done = pages_done q mode (after_key a) n st out x h p g (both_short q a short short-after) (sym wrong ∙ right) z r out' d i

          pub next_is_done : Did (next_call q mode a n st out) r out'
          next_is_done = is_done (too_long q || too_long a) q mode (after_key a) n st out x p h g (both_short q a short short-after) b wrong z r out' right d i

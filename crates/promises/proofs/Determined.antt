-- Each promise determines what it speaks of: two outcomes that it allows are the same.
-- Assumes nothing.
use Prim.Native.Nat.{ℕ, ◌+◌, ◌*◌, ◌≤◌, ◌<◌, Ordering}
use mathlib.Core.Path.{◌≡◌, refl, sym, ◌∙◌, ap}
use mathlib.Core.Logic.{◌≢◌, ◌⊎◌, inl, inr}
use mathlib.Core.Bool.{Bool, true, false, ◌||◌}
use mathlib.Core.List.{List, [], ◌∷◌, ◌++◌}
use native.Mathlib.Omega.{arith}
use lib.ListN.{length, take, drop, take-append-drop}
use lib.Dec.{T, compare_is_eq, ltb, lt→ltb}
use Rattle.model.specs.Numbers.{header_size, block_size, capacity_of, used, least_size}
use Rattle.model.specs.Answers.{Answer, number, DONE, STORE, ROOM}
use Rattle.model.specs.Map.{pick}
use Rattle.model.specs.Page.{Mode, From, start, after_key}
use Rattle.model.proofs.Compare.{Said, lower, same, higher, said}
use Rattle.promises.specs.Meaning.{Layout, Lawful, Meaning, Means, Reply, alone}
use Rattle.promises.specs.Says.{Says, Asked, create_says}
use Rattle.promises.specs.Promises.{Kind, Reads, Writes, Pages, Create, Check, PageCall, is_among, check_kinds, page_kinds}
use Rattle.promises.specs.Determined.{SameStore, SameWrite, SamePage, OfKind}
use Rattle.promises.proofs.MeansOne.{means_one}

-- The check's two answers.
same_reply : (r s : Reply) → r.answer ≡ s.answer → r.value ≡ s.value → r.count ≡ s.count → r.end ≡ s.end → r ≡ s
same_reply r s a b c d = λ i. record { answer = a i; value = b i; count = c i; end = d i }

refused_reply : (kinds : List Answer) (r : Reply) → Kind kinds r → r.answer ≡ 10 → r ≡ alone STORE
refused_reply kinds r k e =
    let h : 10 ≤ r.answer = omega arith in
    same_reply r (alone STORE) e (k.value h) (k.count h) (k.end h)

zero_or_ten : (n : ℕ) → is_among n check_kinds ≡ true → (n ≡ 0) ⊎ (n ≡ 10)
zero_or_ten n h = go (said n 0) (said n 10) h
  where
    go : {o p : Ordering} → Said n 0 o → Said n 10 p → (compare_is_eq o || (compare_is_eq p || false)) ≡ true → (n ≡ 0) ⊎ (n ≡ 10)
    go (same a) b e = inl a
    go (lower a) (same b) e = inr b
    go (higher a) (same b) e = inr b
    go (lower a) (lower b) e = absurd (let z : ◌≡◌ {A = ℕ} 0 1 = cc in omega arith)
    go (lower a) (higher b) e = absurd (let z : ◌≡◌ {A = ℕ} 0 1 = cc in omega arith)
    go (higher a) (lower b) e = absurd (let z : ◌≡◌ {A = ℕ} 0 1 = cc in omega arith)
    go (higher a) (higher b) e = absurd (let z : ◌≡◌ {A = ℕ} 0 1 = cc in omega arith)

-- Which of the listed answers it is.
which_of : (n : ℕ) (kinds : List Answer) → is_among n kinds ≡ true → (a : Answer) × (n ≡ number a)
which_of n [] h = absurd (let z : ◌≡◌ {A = ℕ} 0 1 = cc in omega arith)
which_of n (a ∷ rest) h = go (said n (number a)) h (which_of n rest)
  where
    go : {o : Ordering} → Said n (number a) o → (compare_is_eq o || is_among n rest) ≡ true → (is_among n rest ≡ true → (b : Answer) × (n ≡ number b)) → (b : Answer) × (n ≡ number b)
    go (same e) f i = (a, e)
    go (lower e) f i = i f
    go (higher e) f i = i f

of_kind : (kinds : List Answer) (r : Reply) → Kind kinds r → OfKind kinds r
of_kind kinds r k =
    let w = which_of r.answer kinds k.among in
    record {
      which = w.0;
      listed = ap (λ (n : ℕ). is_among n kinds) (sym w.1) ∙ k.among;
      number_is = w.1;
      refusal = λ h. same_reply r (alone w.0) w.1 (k.value h) (k.count h) (k.end h);
    }

-- a creation that is refused, and what a slice is made of
size_refused : (n : ℕ) → n < least_size → create_says n ≡ ROOM
size_refused n h = go (ltb n least_size) (lt→ltb n least_size h)
  where
    go : (b : Bool) → T b → pick b ROOM DONE ≡ ROOM
    go true t = refl
    go false t = absurd t

rest_stays : (n : ℕ) (st su : List ℕ) → drop n su ≡ drop n st → su ≡ take n su ++ drop n st
rest_stays n st su e = sym (take-append-drop n su) ∙ ap (λ (z : List ℕ). take n su ++ z) e

used_same : (st su : List ℕ) → length st ≡ length su → used st ≡ used su
used_same st su l = ap (λ (n : ℕ). header_size + block_size * capacity_of n) l

pub used_capacity : (st su : List ℕ) → used st ≡ used su → capacity_of (length st) ≡ capacity_of (length su)
used_capacity st su u = go (capacity_of (length st)) (capacity_of (length su)) u
  where
    go : (a b : ℕ) → header_size + block_size * a ≡ header_size + block_size * b → a ≡ b
    go a b e = omega arith

-- The call for a place in a listing promises that place's page.
pub page_promise : (L : Layout) (q : List ℕ) (mode : Mode) (from : From) (n : ℕ) (st out out' : List ℕ) (r : Reply) → PageCall L q mode from n st out out' r
    → Pages L (record { prefix = q; mode = mode; from = from; size = n; room = length out }) st out out' r
page_promise L q mode start n st out out' r p = p
page_promise L q mode (after_key k) n st out out' r p = p

module _ (L : Layout) (law : Lawful L) where
  -- check, on any bytes
  pub check_one : (st : List ℕ) (r s : Reply) → Check L st r → Check L st s → r ≡ s
  check_one st r s a b = go (zero_or_ten r.answer a.kind.among) (zero_or_ten s.answer b.kind.among)
    where
      go : (r.answer ≡ 0) ⊎ (r.answer ≡ 10) → (s.answer ≡ 0) ⊎ (s.answer ≡ 10) → r ≡ s
      go (inl e) f = let m = a.sound e in a.accepts m.0 m.1 ∙ sym (b.accepts m.0 m.1)
      go (inr e) (inl f) = let m = b.sound f in a.accepts m.0 m.1 ∙ sym (b.accepts m.0 m.1)
      go (inr e) (inr f) = refused_reply check_kinds r a.kind e ∙ sym (refused_reply check_kinds s b.kind f)

  same_store : (st su : List ℕ) (m : Meaning) → Means L st m → Means L su m → SameStore L st su
  same_store st su m a b = record {
    meaning = m;
    left = a;
    right = b;
    meanings = λ x y f g. means_one law st x m f a ∙ means_one law su m y b g;
    checks = λ c d f g. f.accepts m a ∙ sym (g.accepts m b);
  }

  -- a reading call: is_empty, get
  pub reads_one : (kinds : List Answer) (says : Meaning → Reply) (st : List ℕ) (m : Meaning) (r s : Reply) → Means L st m
      → Reads L kinds says st r → Reads L kinds says st s → r ≡ s
  reads_one kinds says st m r s h a b = a.answers m h ∙ sym (b.answers m h)

  pub reads_wrong : (kinds : List Answer) (says : Meaning → Reply) (st : List ℕ) (r s : Reply) → L.header st ≡ false
      → Reads L kinds says st r → Reads L kinds says st s → r ≡ s
  reads_wrong kinds says st r s h a b = a.wrong h ∙ sym (b.wrong h)

  -- a writing call: set_limit, insert, overwrite, remove
  pub writes_one : (kinds : List Answer) (says : Meaning → Says) (st su sv : List ℕ) (m : Meaning) (r s : Reply) → Means L st m
      → Writes L kinds says st su r → Writes L kinds says st sv s → SameWrite L su sv r s
  writes_one kinds says st su sv m r s h a b = record {
    replies = a.answers m h ∙ sym (b.answers m h);
    stores = same_store su sv (says m).after (a.after m h) (b.after m h);
  }

  -- a refused one, on any bytes, leaves the bytes
  pub writes_refused : (kinds : List Answer) (says : Meaning → Says) (st su sv : List ℕ) (r s : Reply) → r ≡ s → 10 ≤ r.answer
      → Writes L kinds says st su r → Writes L kinds says st sv s → su ≡ sv
  writes_refused kinds says st su sv r s e h a b = a.kept.refused h ∙ sym (b.kept.refused (omega (arith, ap (λ (x : Reply). x.answer) e)))

  pub writes_wrong : (kinds : List Answer) (says : Meaning → Says) (st su sv : List ℕ) (r s : Reply) → L.header st ≡ false
      → Writes L kinds says st su r → Writes L kinds says st sv s → (r ≡ s) × (su ≡ sv)
  writes_wrong kinds says st su sv r s h a b =
      let e : r ≡ s = a.wrong h ∙ sym (b.wrong h) in
      (e, writes_refused kinds says st su sv r s e (omega (arith, ap (λ (x : Reply). x.answer) (a.wrong h))) a b)

  -- a page: first_page, next_page
  pub pages_one : (asked : Asked) (st out ou ov : List ℕ) (m : Meaning) (r s : Reply) → Means L st m
      → Pages L asked st out ou r → Pages L asked st out ov s → SamePage ou ov r s
  pages_one asked st out ou ov m r s h a b = record {
    replies = a.answers m h ∙ sym (b.answers m h);
    outputs = a.output m h ∙ sym (b.output m h);
  }

  pub pages_wrong : (asked : Asked) (st out ou ov : List ℕ) (r s : Reply) → L.header st ≡ false
      → Pages L asked st out ou r → Pages L asked st out ov s → SamePage ou ov r s
  pages_wrong asked st out ou ov r s h a b = record {
    replies = a.wrong h ∙ sym (b.wrong h);
    outputs =
        a.kept.refused (omega (arith, ap (λ (x : Reply). x.answer) (a.wrong h)))
        ∙ sym (b.kept.refused (omega (arith, ap (λ (x : Reply). x.answer) (b.wrong h))));
  }

  -- create, on any bytes: the answer, the bytes if it is refused, and the store otherwise
  pub create_one : (limit : ℕ) (st su sv : List ℕ) (r s : Reply) → Create L limit st su r → Create L limit st sv s → r ≡ s
  create_one limit st su sv r s a b = a.answers ∙ sym b.answers

  pub create_same : (limit : ℕ) (st su sv : List ℕ) (r s : Reply) → least_size ≤ length st → Create L limit st su r → Create L limit st sv s → SameStore L su sv
  create_same limit st su sv r s h a b = same_store su sv _ (a.after h) (b.after h)

  -- a refused one: "Under 256 bytes it is refused", and "changes no lent byte"
  pub create_refused : (limit : ℕ) (st made : List ℕ) (r : Reply) → length st < least_size → Create L limit st made r → (r ≡ alone ROOM) × (made ≡ st)
  create_refused limit st made r h a =
      let e : r ≡ alone ROOM = a.answers ∙ ap alone (size_refused (length st) h) in
      (e, a.kept.refused (omega (arith, ap (λ (x : Reply). x.answer) e)))

  -- On any bytes the answer is one of the call's own, and "values and counts beside it are 0 and the end mark is no" of a refusal.
  pub reads_kind : (kinds : List Answer) (says : Meaning → Reply) (st : List ℕ) (r : Reply) → Reads L kinds says st r → OfKind kinds r
  reads_kind kinds says st r a = of_kind kinds r a.kind

  pub writes_kind : (kinds : List Answer) (says : Meaning → Says) (st su : List ℕ) (r : Reply) → Writes L kinds says st su r → OfKind kinds r
  writes_kind kinds says st su r a = of_kind kinds r a.kind

  pub pages_kind : (asked : Asked) (st out ou : List ℕ) (r : Reply) → Pages L asked st out ou r → OfKind page_kinds r
  pages_kind asked st out ou r a = of_kind page_kinds r a.kind

  -- "Bytes past 128 x (capacity + 1) are neither read nor written", on any bytes and whatever the answer: a call leaves a slice as long as it was, of the same
  -- capacity, and with the bytes past the used ones as they were.
  pub writes_size : (kinds : List Answer) (says : Meaning → Says) (st su : List ℕ) (r : Reply) → Writes L kinds says st su r
      → (length su ≡ length st) × (used su ≡ used st)
  writes_size kinds says st su r a = (a.kept.size, used_same su st a.kept.size)

  pub writes_rest : (kinds : List Answer) (says : Meaning → Says) (st su : List ℕ) (r : Reply) → Writes L kinds says st su r
      → su ≡ take (used st) su ++ drop (used st) st
  writes_rest kinds says st su r a = rest_stays (used st) st su a.rest

  pub create_size : (limit : ℕ) (st made : List ℕ) (r : Reply) → Create L limit st made r → (length made ≡ length st) × (used made ≡ used st)
  create_size limit st made r a = (a.kept.size, used_same made st a.kept.size)

  pub create_rest : (limit : ℕ) (st made : List ℕ) (r : Reply) → Create L limit st made r → made ≡ take (used st) made ++ drop (used st) st
  create_rest limit st made r a = rest_stays (used st) st made a.rest

  pub pages_size : (asked : Asked) (st out ou : List ℕ) (r : Reply) → Pages L asked st out ou r → length ou ≡ length out
  pages_size asked st out ou r a = a.kept.size

  -- and these bytes are not read: on two slices of one capacity that differ in them alone a call has the same outcome.
  unread : (st su : List ℕ) (m : Meaning) → used st ≡ used su → take (used st) st ≡ take (used su) su → Means L st m → Means L su m
  unread st su m u e h = record {
    tree = h.tree;
    accepted = law.accepted_used st su h.tree u e h.accepted;
    map = h.map;
    limit = sym (law.limit_used st su u e) ∙ h.limit;
    capacity = used_capacity su st (sym u) ∙ h.capacity;
  }

  pub writes_unread : (kinds : List Answer) (says : Meaning → Says) (st sv su sw : List ℕ) (m : Meaning) (r s : Reply)
      → used st ≡ used sv → take (used st) st ≡ take (used sv) sv → Means L st m
      → Writes L kinds says st su r → Writes L kinds says sv sw s → SameWrite L su sw r s
  writes_unread kinds says st sv su sw m r s l e h a b =
      let g = unread st sv m l e h in
      record { replies = a.answers m h ∙ sym (b.answers m g); stores = same_store su sw (says m).after (a.after m h) (b.after m g) }

  pub reads_unread : (kinds : List Answer) (says : Meaning → Reply) (st sv : List ℕ) (m : Meaning) (r s : Reply)
      → used st ≡ used sv → take (used st) st ≡ take (used sv) sv → Means L st m → Reads L kinds says st r → Reads L kinds says sv s → r ≡ s
  reads_unread kinds says st sv m r s l e h a b = a.answers m h ∙ sym (b.answers m (unread st sv m l e h))

  pub pages_unread : (asked : Asked) (st sv out ou ov : List ℕ) (m : Meaning) (r s : Reply)
      → used st ≡ used sv → take (used st) st ≡ take (used sv) sv → Means L st m → Pages L asked st out ou r → Pages L asked sv out ov s → SamePage ou ov r s
  pages_unread asked st sv out ou ov m r s l e h a b =
      let g = unread st sv m l e h in
      record { replies = a.answers m h ∙ sym (b.answers m g); outputs = a.output m h ∙ sym (b.output m g) }

  -- the same where the header is wrong
  pub reads_wrong_unread : (kinds : List Answer) (says : Meaning → Reply) (st sv : List ℕ) (r s : Reply)
      → used st ≡ used sv → take (used st) st ≡ take (used sv) sv → L.header st ≡ false → Reads L kinds says st r → Reads L kinds says sv s → r ≡ s
  reads_wrong_unread kinds says st sv r s u e h a b = a.wrong h ∙ sym (b.wrong (sym (law.header_used st sv u e) ∙ h))

  pub writes_wrong_unread : (kinds : List Answer) (says : Meaning → Says) (st sv su sw : List ℕ) (r s : Reply)
      → used st ≡ used sv → take (used st) st ≡ take (used sv) sv → L.header st ≡ false → Writes L kinds says st su r → Writes L kinds says sv sw s
      → (r ≡ s) × (take (used st) su ≡ take (used sv) sw)
  writes_wrong_unread kinds says st sv su sw r s u e h a b =
      let g : L.header sv ≡ false = sym (law.header_used st sv u e) ∙ h in
      let f : su ≡ st = a.kept.refused (omega (arith, ap (λ (x : Reply). x.answer) (a.wrong h))) in
      let i : sw ≡ sv = b.kept.refused (omega (arith, ap (λ (x : Reply). x.answer) (b.wrong g))) in
      (a.wrong h ∙ sym (b.wrong g), ap (take (used st)) f ∙ e ∙ sym (ap (take (used sv)) i))

  pub pages_wrong_unread : (asked : Asked) (st sv out ou ov : List ℕ) (r s : Reply)
      → used st ≡ used sv → take (used st) st ≡ take (used sv) sv → L.header st ≡ false → Pages L asked st out ou r → Pages L asked sv out ov s → SamePage ou ov r s
  pages_wrong_unread asked st sv out ou ov r s u e h a b =
      let g : L.header sv ≡ false = sym (law.header_used st sv u e) ∙ h in
      record {
        replies = a.wrong h ∙ sym (b.wrong g);
        outputs =
            a.kept.refused (omega (arith, ap (λ (x : Reply). x.answer) (a.wrong h)))
            ∙ sym (b.kept.refused (omega (arith, ap (λ (x : Reply). x.answer) (b.wrong g))));
      }

  -- the check, on any bytes
  pub check_unread : (st sv : List ℕ) (r s : Reply) → used st ≡ used sv → take (used st) st ≡ take (used sv) sv → Check L st r → Check L sv s → r ≡ s
  check_unread st sv r s u e a b = go (zero_or_ten r.answer a.kind.among) (zero_or_ten s.answer b.kind.among)
    where
      go : (r.answer ≡ 0) ⊎ (r.answer ≡ 10) → (s.answer ≡ 0) ⊎ (s.answer ≡ 10) → r ≡ s
      go (inl d) f = let m = a.sound d in a.accepts m.0 m.1 ∙ sym (b.accepts m.0 (unread st sv m.0 u e m.1))
      go (inr d) (inl f) = let m = b.sound f in a.accepts m.0 (unread sv st m.0 (sym u) (sym e) m.1) ∙ sym (b.accepts m.0 m.1)
      go (inr d) (inr f) = refused_reply check_kinds r a.kind d ∙ sym (refused_reply check_kinds s b.kind f)

  -- "the slice's capacity is the one it was created with": a store cut or grown to another capacity, its first bytes as they were, has a wrong header, so that
  -- every call answers STORE, the check too.
  pub other_capacity : (st su : List ℕ) (m : Meaning) → Means L st m → take header_size st ≡ take header_size su → capacity_of (length st) ≢ capacity_of (length su)
      → L.header su ≡ false
  other_capacity st su m h e d = go (L.header su) refl
    where
      go : (b : Bool) → L.header su ≡ b → b ≡ false
      go false f = refl
      go true f = absurd (d (law.told st su e (law.headed st h.tree h.accepted) f))

  pub other_capacity_checked : (st su : List ℕ) (m : Meaning) (r : Reply) → Means L st m → take header_size st ≡ take header_size su
      → capacity_of (length st) ≢ capacity_of (length su) → Check L su r → r ≡ alone STORE
  other_capacity_checked st su m r h e d a = go (zero_or_ten r.answer a.kind.among)
    where
      go : (r.answer ≡ 0) ⊎ (r.answer ≡ 10) → r ≡ alone STORE
      go (inr f) = refused_reply check_kinds r a.kind f
      go (inl f) =
          let n = a.sound f in
          absurd (d (law.told st su e (law.headed st h.tree h.accepted) (law.headed su n.1.tree n.1.accepted)))

  -- The past does not show: two accepted stores with one meaning answer alike and stay alike.
  pub writes_alike : (kinds : List Answer) (says : Meaning → Says) (st sv su sw : List ℕ) (m : Meaning) (r s : Reply) → Means L st m → Means L sv m
      → Writes L kinds says st su r → Writes L kinds says sv sw s → SameWrite L su sw r s
  writes_alike kinds says st sv su sw m r s h g a b =
      record { replies = a.answers m h ∙ sym (b.answers m g); stores = same_store su sw (says m).after (a.after m h) (b.after m g) }

  pub reads_alike : (kinds : List Answer) (says : Meaning → Reply) (st sv : List ℕ) (m : Meaning) (r s : Reply) → Means L st m → Means L sv m
      → Reads L kinds says st r → Reads L kinds says sv s → r ≡ s
  reads_alike kinds says st sv m r s h g a b = a.answers m h ∙ sym (b.answers m g)

  pub pages_alike : (asked : Asked) (st sv out ou ov : List ℕ) (m : Meaning) (r s : Reply) → Means L st m → Means L sv m
      → Pages L asked st out ou r → Pages L asked sv out ov s → SamePage ou ov r s
  pages_alike asked st sv out ou ov m r s h g a b =
      record { replies = a.answers m h ∙ sym (b.answers m g); outputs = a.output m h ∙ sym (b.output m g) }

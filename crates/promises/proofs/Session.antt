-- Demand 3 for `first_page` and `next_page` calls that keep their promises: what their bytes show is what the pages of the moments give.
-- Assumes nothing.
use Prim.Native.Nat.{ℕ, zero, suc, ◌*◌, ◌≤◌}
use mathlib.Core.Path.{◌≡◌, refl, sym, ◌∙◌, ap, subst}
use mathlib.Core.Bool.{Bool, true, false, ◌||◌}
use mathlib.Core.List.{List, [], ◌∷◌, ◌++◌}
use native.Mathlib.Omega.{arith}
use lib.ListN.{length, drop}
use lib.Dec.{eqb, ltb}
use Rattle.model.specs.Numbers.{entry_limit, page_limit}
use Rattle.model.specs.Answers.{Answer, number, DONE, REPLACED, STORE, KEY, HEIGHT, FULL, ABSENT, COUNT, ROOM}
use Rattle.model.specs.Map.{pick}
use Rattle.model.specs.Picture.{too_long}
use Rattle.model.specs.Page.{Mode, From, start, Page, page}
use Rattle.model.specs.Entry.{entries_bytes}
use Rattle.model.proofs.Less.{Sorted}
use Rattle.promises.specs.Meaning.{Layout, Lawful, Reply, alone}
use Rattle.promises.specs.Says.{Asked, PageSays, page_says, page_given, page_of, page_answer, unless, from_too_long, bad_count}
use Rattle.promises.specs.Promises.{Pages}
use Rattle.promises.specs.Moments.{onward, fetch, UntilEnd, Always, FullBefore, Listed}
use Rattle.promises.specs.Session.{Step, Fetched, Session, moments_of, pages_of, SomeBefore}
use Rattle.promises.proofs.MeansOne.{map_sorted}
use Rattle.promises.proofs.EntryOne.{shows_one}
use Rattle.promises.proofs.Listing.{listed}
use Rattle.promises.proofs.Determined.{page_promise}

-- An answer 0 to a page is the page itself.
given : (p q : PageSays) (a : Answer) → p.reply.answer ≡ number a → (unless a p q).reply.answer ≡ 0 → unless a p q ≡ q
given p q DONE e h = refl
given p q REPLACED e h = refl
given p q STORE e h = absurd (omega arith)
given p q KEY e h = absurd (omega arith)
given p q HEIGHT e h = absurd (omega arith)
given p q FULL e h = absurd (omega arith)
given p q ABSENT e h = absurd (omega arith)
given p q COUNT e h = absurd (omega arith)
given p q ROOM e h = absurd (omega arith)

module _ (L : Layout) (law : Lawful L) (mode : Mode) (q : List ℕ) where
  asked : From → Step → Asked
  asked from s = record { prefix = q; mode = mode; from = from; size = s.size; room = length s.out }

  -- the call for its place keeps the page promise
  promised : (from : From) (s : Step) → Fetched L mode q from s → Pages L (asked from s) s.store s.out s.out' s.reply
  unfolding asked
  promised from s f = page_promise L q mode from s.size s.store s.out s.out' s.reply f.promise

  -- the page that the promise gives, its end mark and its entries
  fetched_page : (from : From) (s : Step) → Fetched L mode q from s
      → ◌≡◌ {A = Page} (record { entries = s.given; end = s.reply.end }) (page mode q from s.size s.meaning.map)
  unfolding asked
  fetched_page from s f = λ i. record { entries = shown i; end = ap (λ (r : Reply). r.end) answer i }
    where
      p : Page
      p = page mode q from s.size s.meaning.map

      says : page_says (asked from s) s.meaning ≡ page_given p
      says =
          given (record { reply = alone (page_answer (asked from s)); bytes = [] }) (page_given p) (page_answer (asked from s)) refl
          (ap (λ (r : Reply). r.answer) (sym ((promised from s f).answers s.meaning f.means)) ∙ f.done)

      answer : s.reply ≡ (page_given p).reply
      answer = (promised from s f).answers s.meaning f.means ∙ ap (λ (z : PageSays). z.reply) says

      output : s.out' ≡ entries_bytes p.entries ++ drop (length (entries_bytes p.entries)) s.out
      output =
          (promised from s f).output s.meaning f.means
          ∙ ap (λ (z : PageSays). z.bytes ++ drop (length z.bytes) s.out) says

      shown : s.given ≡ p.entries
      shown =
          shows_one s.out' s.reply s.given p.entries f.shows
          (record { count = sym (ap (λ (r : Reply). r.count) answer); rest = drop (length (entries_bytes p.entries)) s.out; bytes = output })

  pub session_fetch : (from : From) (ss : List Step) → Session L mode q from ss → pages_of ss ≡ fetch mode q from (moments_of ss)
  session_fetch from [] h = refl
  session_fetch from (s ∷ ss) h =
      let e = fetched_page from s h.0 in
      let i = session_fetch (onward from s.given) ss h.1 in
      λ j. e j ∷ rest e i j
    where
      rest : ◌≡◌ {A = Page} (record { entries = s.given; end = s.reply.end }) (page mode q from s.size s.meaning.map)
          → pages_of ss ≡ fetch mode q (onward from s.given) (moments_of ss)
          → pages_of ss ≡ fetch mode q (onward from (page mode q from s.size s.meaning.map).entries) (moments_of ss)
      rest e i = i ∙ ap (λ (z : Page). fetch mode q (onward from z.entries) (moments_of ss)) e

  session_sorted : (from : From) (ss : List Step) → Session L mode q from ss → Always Sorted (moments_of ss)
  session_sorted from [] h = tt
  session_sorted from (s ∷ ss) h = (map_sorted law s.store s.meaning h.0.means, session_sorted (onward from s.given) ss h.1)

  -- Demand 3.
  pub session_listed : (ss : List Step) → Session L mode q start ss → UntilEnd (pages_of ss) → Listed mode q (moments_of ss) (pages_of ss)
  session_listed ss h u =
      let e = session_fetch start ss h in
      subst (Listed mode q (moments_of ss)) (sym e) (listed mode q (moments_of ss) (session_sorted start ss h) (subst UntilEnd e u))

  -- A size of 0 is refused, so no page before the end is empty.
  size_some : (from : From) (s : Step) → Fetched L mode q from s → 1 ≤ s.size
  unfolding asked
  size_some from s f = go s.size refl
    where
      go : (n : ℕ) → s.size ≡ n → 1 ≤ s.size
      go zero e =
          absurd (refused (too_long q || from_too_long from) (ap (λ (z : ℕ). eqb z 0) e)
          (ap (λ (r : Reply). r.answer) (sym ((promised from s f).answers s.meaning f.means)) ∙ f.done))
        where
          refused : (k : Bool) → eqb s.size 0 ≡ true
              → (unless (pick k KEY (pick (bad_count (asked from s)) COUNT DONE)) (record { reply = alone (pick k KEY (pick (bad_count (asked from s)) COUNT DONE)); bytes = [] }) (page_given (page_of (asked from s) s.meaning))).reply.answer ≡ 0
              → ⊥
          refused true z a = omega arith
          refused false z a =
              let b : bad_count (asked from s) ≡ true = ap (λ (x : Bool). x || (ltb page_limit s.size || ltb (length s.out) (entry_limit * s.size))) z in
              let c = subst (λ (x : Bool). (unless (pick x COUNT DONE) (record { reply = alone (pick x COUNT DONE); bytes = [] }) (page_given (page_of (asked from s) s.meaning))).reply.answer ≡ 0) b a in
              omega arith
      go (suc n) e = omega arith

  some_before : (from : From) (ss : List Step) → Session L mode q from ss → FullBefore (moments_of ss) (pages_of ss) → SomeBefore (pages_of ss)
  some_before from [] h f = tt
  some_before from (s ∷ []) h f = tt
  some_before from (s ∷ t ∷ ss) h f =
      (let z = size_some from s h.0 in omega (arith, f.0), some_before (onward from s.given) (t ∷ ss) h.1 f.1)

  pub session_some : (ss : List Step) → Session L mode q start ss → UntilEnd (pages_of ss) → SomeBefore (pages_of ss)
  session_some ss h u = some_before start ss h (session_listed ss h u).full

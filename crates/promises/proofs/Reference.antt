-- The promises can be kept, all of them at once: a layout that is lawful, and programs for the ten public calls that keep every promise over it, on everything that
-- their types let in. So no theorem from `Lawful` and `Programs` is about nothing. The layout is the plain coding of Coding; its header is right where the
-- capacity that it tells is the slice's, and every slice of bytes with a right header is a store. The programs are functions on lists. They say nothing of the layout of
-- the implementation, which is to be proved lawful by itself.
-- Assumes nothing.
use Prim.Native.Nat.{ℕ, ◌+◌, ◌*◌, ◌≤◌, ◌<◌}
use mathlib.Core.Path.{◌≡◌, refl, sym, ◌∙◌, ap, ap₂, subst}
use mathlib.Core.Bool.{Bool, true, false, ◌&&◌, ◌||◌, not}
use mathlib.Core.List.{List, [], ◌++◌}
use mathlib.Core.Option.{Option, none, some}
use native.Mathlib.Omega.{arith}
use lib.ListN.{length, take, drop, length-append, length-drop}
use lib.Seq.{take_at, drop_at, get_or-take}
use lib.Dec.{T, ltb, eqb, ltb→lt, lt→ltb, nltb→le, eqb→eq, eqb_refl}
use Rattle.model.specs.Key.{Bytes}
use Rattle.model.specs.Numbers.{Values, limit_bound, header_size, block_size, most, capacity_of, least_size, used}
use Rattle.model.specs.Answers.{Answer, number, DONE, REPLACED, STORE, KEY, HEIGHT, FULL, ABSENT, COUNT, ROOM}
use Rattle.model.specs.Map.{Entry, lookup, put, del, pick}
use Rattle.model.specs.Picture.{Tree, entries, Pictured, picture_of, too_long}
use Rattle.model.specs.Page.{Mode, From, start, after_key}
use Rattle.model.specs.Entry.{entries_bytes}
use Rattle.model.proofs.OrderedMap.{sorted_rising}
use Rattle.pictures.proofs.Exists.{picture_of_pictured, picture_of_entries}
use Rattle.promises.specs.Meaning.{Layout, Lawful, Meaning, Means, Reply, alone}
use Rattle.promises.specs.Says.{saying, unless, keyed, put_answer, new_answer, stored_answer, value_reply, with_map, empty, get_says, is_empty_says, Asked, bad_count, from_too_long, page_of, page_given, page_says, PageSays}
use Rattle.promises.specs.Promises.{Kept, Kind, Reads, Writes, Pages, Create, Check, is_among, check_kinds, is_empty_kinds, set_limit_kinds, insert_kinds, get_kinds, overwrite_kinds, remove_kinds, page_kinds}
use Rattle.promises.specs.Programs.{Ran, Programs}
use Rattle.promises.proofs.BytesLaws.{bytes_append, bytes_take, bytes_drop, entries_bytes_lem}
use Rattle.promises.proofs.MeansOne.{same_meaning}
use Rattle.promises.proofs.Determined.{used_capacity}
use Rattle.promises.proofs.EntryOne.{page_fits, page_keys, page_values}
use Rattle.promises.proofs.Bridge.{after_either}
use Rattle.promises.proofs.Possible.{Good, insert_good, overwrite_good, remove_good, set_limit_good, empty_good, insert_kind, get_kind, overwrite_kind, remove_kind}
use Rattle.promises.proofs.Coding.{two_in, two_bound, map_in, map_in_lem, body, body_size, body_bytes, body_capacity, body_limit, body_map}

-- The layout.
abbrev pub cut : List ℕ → List ℕ
cut st = take (used st) st

abbrev pub cap : List ℕ → ℕ
cap st = capacity_of (length st)

-- the header tells the capacity, and that is not 0
abbrev pub right : ℕ → ℕ → Bool
right told c = eqb told c && ltb 0 c

abbrev pub headed : List ℕ → Bool
headed st = right (two_in (cut st) 0) (cap st)

pub record Held (st : List ℕ) (o : Option Tree) : Type 0 where
  pub bytes : Bytes (cut st)
  pub header : headed st ≡ true
  pub pictured : Pictured o
  pub holds : entries o ≡ map_in (cap st) (cut st)

abbrev pub reference : Layout
reference = record { header = headed; limit = λ st. two_in (cut st) 2; Accepted = Held }

-- it is lawful
right_is : (told c : ℕ) → right told c ≡ true → (told ≡ c) × (1 ≤ c)
right_is told c e = go (eqb told c) refl (ltb 0 c) refl e
  where
    go : (a : Bool) → eqb told c ≡ a → (b : Bool) → ltb 0 c ≡ b → (a && b) ≡ true → (told ≡ c) × (1 ≤ c)
    go true f true g h = (eqb→eq told c (subst T (sym f) tt), ltb→lt 0 c (subst T (sym g) tt))
    go true f false g h = absurd (let z : ◌≡◌ {A = ℕ} 0 1 = cc in omega arith)
    go false f b g h = absurd (let z : ◌≡◌ {A = ℕ} 0 1 = cc in omega arith)

is_right : (told c : ℕ) → told ≡ c → 1 ≤ c → right told c ≡ true
is_right told c e h = ap₂ (λ (a b : Bool). a && b) (yes (eqb told c) (subst (λ (z : ℕ). T (eqb told z)) e (eqb_refl told))) (yes (ltb 0 c) (lt→ltb 0 c h))
  where
    yes : (b : Bool) → T b → b ≡ true
    yes true t = refl
    yes false t = absurd t

two_take : (n : ℕ) (b : List ℕ) → 2 ≤ n → two_in (take n b) 0 ≡ two_in b 0
two_take n b h = ap₂ (λ (x y : ℕ). x * 256 + y) (get_or-take n b 0 0 (omega arith)) (get_or-take n b 1 0 (omega arith))

-- the first bytes alone tell the capacity
told_first : (st : List ℕ) → two_in (cut st) 0 ≡ two_in (take header_size st) 0
told_first st = two_take (used st) st (omega arith) ∙ sym (two_take header_size st (omega arith))

pub reference_lawful : Lawful reference
reference_lawful = record {
  long = λ st h. let c = (right_is (two_in (cut st) 0) (cap st) h).1 in omega arith;
  headed = λ st o a. a.header;
  limited = λ st o a. two_bound (cut st) 2 a.bytes;
  picture = λ st o a. a.pictured;
  values = λ st o a. subst Values (sym a.holds) (map_in_lem (cap st) (cut st) a.bytes).values;
  fits = λ st o a. omega (arith, (map_in_lem (cap st) (cut st) a.bytes).fits, ap (length {A = Entry}) a.holds);
  one = λ st o p a b. a.holds ∙ sym b.holds;
  told = λ st su e h i.
      sym (right_is (two_in (cut st) 0) (cap st) h).0
      ∙ told_first st
      ∙ ap (λ (b : List ℕ). two_in b 0) e
      ∙ sym (told_first su)
      ∙ (right_is (two_in (cut su) 0) (cap su) i).0;
  header_used = λ st su u e. ap₂ (λ (b : List ℕ) (c : ℕ). right (two_in b 0) c) e (used_capacity st su u);
  limit_used = λ st su u e. ap (λ (b : List ℕ). two_in b 2) e;
  accepted_used = λ st su o u e a. record {
    bytes = subst Bytes e a.bytes;
    header = sym (ap₂ (λ (b : List ℕ) (c : ℕ). right (two_in b 0) c) e (used_capacity st su u)) ∙ a.header;
    pictured = a.pictured;
    holds = a.holds ∙ ap₂ (λ (c : ℕ) (b : List ℕ). map_in c b) (used_capacity st su u) e;
  };
}

-- What the bytes mean.
abbrev meaning_of : List ℕ → Meaning
meaning_of st = record { map = map_in (cap st) (cut st); limit = two_in (cut st) 2; capacity = cap st }

meaning_good : (st : List ℕ) → Bytes st → Good (meaning_of st)
meaning_good st b =
    let c = bytes_take (used st) st b in
    let g = map_in_lem (cap st) (cut st) c in
    record { sorted = g.sorted; keys = g.keys; values = g.values; fits = g.fits; limit = two_bound (cut st) 2 c }

-- every slice of bytes with a right header is a store
means_it : (st : List ℕ) → Bytes st → headed st ≡ true → Means reference st (meaning_of st)
means_it st b h =
    let g = map_in_lem (cap st) (cut st) (bytes_take (used st) st b) in
    let r = sorted_rising (map_in (cap st) (cut st)) g.sorted in
    let e = picture_of_entries (map_in (cap st) (cut st)) g.keys r in
    record {
      tree = picture_of (map_in (cap st) (cut st));
      accepted = record { bytes = bytes_take (used st) st b; header = h; pictured = picture_of_pictured (map_in (cap st) (cut st)) g.keys r; holds = e };
      map = e;
      limit = refl;
      capacity = refl;
    }

-- and a store means nothing else
means_only : (st : List ℕ) (m : Meaning) → Means reference st m → meaning_of st ≡ m
means_only st m h = same_meaning (meaning_of st) m (sym h.accepted.holds ∙ h.map) h.limit h.capacity

-- The slice with another meaning written into it; what is past the used bytes stays.
abbrev with_meaning : Meaning → List ℕ → List ℕ
with_meaning m st = body (used st) m ++ drop (used st) st

module _ (m : Meaning) (st : List ℕ) (g : Good m) (c : m.capacity ≡ cap st) (l : least_size ≤ length st) where
  room : m.capacity ≤ most
  room = omega (arith, c)

  fills : length (body (used st) m) ≡ used st
  fills = subst (λ (n : ℕ). length (body (header_size + block_size * n) m) ≡ header_size + block_size * n) c (body_size m g room)

  with_size : length (with_meaning m st) ≡ length st
  with_size = omega (arith, length-append (body (used st) m) (drop (used st) st), length-drop (used st) st, fills)

  with_rest : drop (used st) (with_meaning m st) ≡ drop (used st) st
  with_rest = drop_at (body (used st) m) (drop (used st) st) (used st) fills

  with_bytes : Bytes st → Bytes (with_meaning m st)
  with_bytes b = bytes_append (body (used st) m) (drop (used st) st) (body_bytes m g room (used st)) (bytes_drop (used st) st b)

  with_cut : cut (with_meaning m st) ≡ body (used st) m
  with_cut =
      ap (λ (n : ℕ). take (header_size + block_size * capacity_of n) (with_meaning m st)) with_size
      ∙ take_at (body (used st) m) (drop (used st) st) (used st) fills

  with_cap : cap (with_meaning m st) ≡ m.capacity
  with_cap = ap capacity_of with_size ∙ sym c

  with_header : headed (with_meaning m st) ≡ true
  with_header =
      ap₂ (λ (b : List ℕ) (n : ℕ). right (two_in b 0) n) with_cut with_cap
      ∙ is_right (two_in (body (used st) m) 0) m.capacity (body_capacity m g room (used st)) (omega (arith, c))

  with_means : Bytes st → Means reference (with_meaning m st) m
  with_means b =
      let e : meaning_of (with_meaning m st) ≡ m =
      same_meaning (meaning_of (with_meaning m st)) m
      (ap₂ (λ (n : ℕ) (x : List ℕ). map_in n x) with_cap with_cut ∙ body_map m g room (used st))
      (ap (λ (x : List ℕ). two_in x 2) with_cut ∙ body_limit m g room (used st))
      with_cap in
      subst (Means reference (with_meaning m st)) e (means_it (with_meaning m st) (with_bytes b) with_header)

-- One of two things by an answer.
unless_both : {A : Type 0} (P : A → Type 0) (a : Answer) (x y : A) → P x → (number a < 10 → P y) → P (unless a x y)
unless_both P DONE x y p q = q (omega arith)
unless_both P REPLACED x y p q = q (omega arith)
unless_both P STORE x y p q = p
unless_both P KEY x y p q = p
unless_both P HEIGHT x y p q = p
unless_both P FULL x y p q = p
unless_both P ABSENT x y p q = p
unless_both P COUNT x y p q = p
unless_both P ROOM x y p q = p

unless_refused : {A : Type 0} (a : Answer) (x y : A) → 10 ≤ number a → unless a x y ≡ x
unless_refused DONE x y h = absurd (omega arith)
unless_refused REPLACED x y h = absurd (omega arith)
unless_refused STORE x y h = refl
unless_refused KEY x y h = refl
unless_refused HEIGHT x y h = refl
unless_refused FULL x y h = refl
unless_refused ABSENT x y h = refl
unless_refused COUNT x y h = refl
unless_refused ROOM x y h = refl

unless_done : {A : Type 0} (a : Answer) (x y : A) → number a < 10 → unless a x y ≡ y
unless_done DONE x y h = refl
unless_done REPLACED x y h = refl
unless_done STORE x y h = absurd (omega arith)
unless_done KEY x y h = absurd (omega arith)
unless_done HEIGHT x y h = absurd (omega arith)
unless_done FULL x y h = absurd (omega arith)
unless_done ABSENT x y h = absurd (omega arith)
unless_done COUNT x y h = absurd (omega arith)
unless_done ROOM x y h = absurd (omega arith)

-- a header is not right and wrong
both : {A : Type 0} (st : List ℕ) → headed st ≡ true → headed st ≡ false → A
both st e f = absurd (let z : ◌≡◌ {A = ℕ} 0 1 = cc in omega arith)

long_enough : (st : List ℕ) → headed st ≡ true → least_size ≤ length st
long_enough st h = reference_lawful.long st h

alone_kind : (kinds : List Answer) (a : Answer) → is_among (number a) kinds ≡ true → Kind kinds (alone a)
alone_kind kinds a h = record { among = h; value = λ l. refl; count = λ l. refl; end = λ l. refl }

-- A writing program: by what a call answers and does on a meaning.
module _ (kinds : List Answer) (answer : Meaning → Answer) (next : Meaning → Meaning) where
  abbrev writer : List ℕ → Ran
  writer st =
      pick (headed st) (record { bytes = unless (answer (meaning_of st)) st (with_meaning (next (meaning_of st)) st); reply = alone (answer (meaning_of st)) })
      (record { bytes = st; reply = alone STORE })

  module _ (among : (m : Meaning) → is_among (number (answer m)) kinds ≡ true) (store : is_among 10 kinds ≡ true)
      (good : (m : Meaning) → Good m → Good (unless (answer m) m (next m))) (same : (m : Meaning) → (next m).capacity ≡ m.capacity) (st : List ℕ) (b : Bytes st) where
    abbrev m : Meaning
    m = meaning_of st

    abbrev a : Answer
    a = answer m

    good_next : number a < 10 → Good (next m)
    good_next h = subst Good (unless_done a m (next m) h) (good m (meaning_good st b))

    -- a slice with a right header
    module _ (h : headed st ≡ true) where
      done_size : length (unless a st (with_meaning (next m) st)) ≡ length st
      done_size = unless_both (λ z. length z ≡ length st) a st (with_meaning (next m) st) refl (λ d. with_size (next m) st (good_next d) (same m) (long_enough st h))

      done_rest : drop (used st) (unless a st (with_meaning (next m) st)) ≡ drop (used st) st
      done_rest =
          unless_both (λ z. drop (used st) z ≡ drop (used st) st) a st (with_meaning (next m) st) refl (λ d. with_rest (next m) st (good_next d) (same m) (long_enough st h))

      done_bytes : Bytes (unless a st (with_meaning (next m) st))
      done_bytes = unless_both Bytes a st (with_meaning (next m) st) b (λ d. with_bytes (next m) st (good_next d) (same m) (long_enough st h) b)

      done_means : Means reference (unless a st (with_meaning (next m) st)) (unless a m (next m))
      done_means =
          after_either reference reference_lawful st (unless a st (with_meaning (next m) st)) m (next m) a (means_it st b h)
          (unless_refused a st (with_meaning (next m) st))
          (λ d. subst (λ (z : List ℕ). Means reference z (next m)) (sym (unless_done a st (with_meaning (next m) st) d))
          (with_means (next m) st (good_next d) (same m) (long_enough st h) b))

      done_writes : Writes reference kinds (λ n. saying (answer n) n (next n)) st (unless a st (with_meaning (next m) st)) (alone a)
      done_writes = record {
        kept = record { size = done_size; refused = unless_refused a st (with_meaning (next m) st) };
        rest = done_rest;
        kind = alone_kind kinds a (among m);
        wrong = both st h;
        answers = λ n i. ap (λ (z : Meaning). alone (answer z)) (means_only st n i);
        after = λ n i.
            subst (λ (z : Meaning). Means reference (unless a st (with_meaning (next m) st)) (unless (answer z) z (next z))) (means_only st n i) done_means;
      }

    refused_writes : headed st ≡ false → Writes reference kinds (λ n. saying (answer n) n (next n)) st st (alone STORE)
    refused_writes h = record {
      kept = record { size = refl; refused = λ l. refl };
      rest = refl;
      kind = alone_kind kinds STORE store;
      wrong = λ l. refl;
      answers = λ n i. both st i.accepted.header h;
      after = λ n i. both st i.accepted.header h;
    }

    writer_writes : Writes reference kinds (λ n. saying (answer n) n (next n)) st (writer st).bytes (writer st).reply
    writer_writes = go (headed st) refl
      where
        go : (x : Bool) → headed st ≡ x
            → let z : Ran = pick x (record { bytes = unless a st (with_meaning (next m) st); reply = alone a }) (record { bytes = st; reply = alone STORE }) in
            Writes reference kinds (λ n. saying (answer n) n (next n)) st z.bytes z.reply
        go true h = done_writes h
        go false h = refused_writes h

    writer_bytes : Bytes (writer st).bytes
    writer_bytes = go (headed st) refl
      where
        go : (x : Bool) → headed st ≡ x
            → let z : Ran = pick x (record { bytes = unless a st (with_meaning (next m) st); reply = alone a }) (record { bytes = st; reply = alone STORE }) in
            Bytes z.bytes
        go true h = done_bytes h
        go false h = b

-- A reading program.
abbrev reader : (Meaning → Reply) → List ℕ → Reply
reader says st = pick (headed st) (says (meaning_of st)) (alone STORE)

reader_reads : (kinds : List Answer) (says : Meaning → Reply) (st : List ℕ) → Kind kinds (says (meaning_of st)) → is_among 10 kinds ≡ true
    → Reads reference kinds says st (reader says st)
reader_reads kinds says st k store = go (headed st) refl
  where
    go : (x : Bool) → headed st ≡ x → Reads reference kinds says st (pick x (says (meaning_of st)) (alone STORE))
    go true h = record { kind = k; wrong = both st h; answers = λ n i. ap says (means_only st n i) }
    go false h = record { kind = alone_kind kinds STORE store; wrong = λ l. refl; answers = λ n i. both st i.accepted.header h }

get_beside : (k : List ℕ) (m : Meaning) → Kind get_kinds (get_says k m)
get_beside k m = go (too_long k) (lookup k m.map) (get_kind k m)
  where
    go : (t : Bool) (o : Option ℕ) → is_among (pick t (alone KEY) (value_reply o)).answer get_kinds ≡ true → Kind get_kinds (pick t (alone KEY) (value_reply o))
    go true o e = alone_kind get_kinds KEY e
    go false none e = alone_kind get_kinds ABSENT e
    go false (some v) e = record { among = e; value = λ l. absurd (omega arith); count = λ l. refl; end = λ l. refl }

is_empty_beside : (m : Meaning) → Kind is_empty_kinds (is_empty_says m)
is_empty_beside m = record { among = refl; value = λ l. absurd (omega arith); count = λ l. refl; end = λ l. refl }

-- A page program.
abbrev paged : List ℕ → PageSays → Ran
paged out s = record { bytes = s.bytes ++ drop (length s.bytes) out; reply = s.reply }

abbrev pager : Asked → List ℕ → List ℕ → Ran
pager a st out = pick (headed st) (paged out (page_says a (meaning_of st))) (record { bytes = out; reply = alone STORE })

record Paged (out : List ℕ) (s : PageSays) : Type 0 where
  kept : Kept out (paged out s).bytes s.reply
  kind : Kind page_kinds s.reply
  bytes : Bytes (paged out s).bytes

page_paged : (q : List ℕ) (mode : Mode) (from : From) (n : ℕ) (out : List ℕ) (m : Meaning) → Good m → Bytes out
    → Paged out (page_says (record { prefix = q; mode = mode; from = from; size = n; room = length out }) m)
page_paged q mode from n out m g b = go (too_long q || from_too_long from) (bad_count a) refl
  where
    a : Asked
    a = record { prefix = q; mode = mode; from = from; size = n; room = length out }

    given : List Entry
    given = (page_of a m).entries

    go : (x y : Bool) → bad_count a ≡ y
        → Paged out (unless (pick x KEY (pick y COUNT DONE)) (record { reply = alone (pick x KEY (pick y COUNT DONE)); bytes = [] }) (page_given (page_of a m)))
    go true y e = record { kept = record { size = refl; refused = λ l. refl }; kind = alone_kind page_kinds KEY refl; bytes = b }
    go false true e = record { kept = record { size = refl; refused = λ l. refl }; kind = alone_kind page_kinds COUNT refl; bytes = b }
    go false false e = record {
      kept = record {
        size =
            omega (
              arith,
              length-append (entries_bytes given) (drop (length (entries_bytes given)) out),
              length-drop (length (entries_bytes given)) out,
              page_fits a m g.keys e,
            );
        refused = λ l. absurd (omega arith);
      };
      kind = record { among = refl; value = λ l. absurd (omega arith); count = λ l. absurd (omega arith); end = λ l. absurd (omega arith) };
      bytes =
          bytes_append (entries_bytes given) (drop (length (entries_bytes given)) out)
          (entries_bytes_lem given (page_keys a m g.keys) (page_values a m g.values)) (bytes_drop (length (entries_bytes given)) out b);
    }

pager_pages : (q : List ℕ) (mode : Mode) (from : From) (n : ℕ) (st out : List ℕ) → Bytes st → Bytes out
    → let a : Asked = record { prefix = q; mode = mode; from = from; size = n; room = length out } in
    Pages reference a st out (pager a st out).bytes (pager a st out).reply × Bytes (pager a st out).bytes
pager_pages q mode from n st out b d = go (headed st) refl
  where
    a : Asked
    a = record { prefix = q; mode = mode; from = from; size = n; room = length out }

    p : Paged out (page_says a (meaning_of st))
    p = page_paged q mode from n out (meaning_of st) (meaning_good st b) d

    go : (x : Bool) → headed st ≡ x → let z : Ran = pick x (paged out (page_says a (meaning_of st))) (record { bytes = out; reply = alone STORE }) in
        Pages reference a st out z.bytes z.reply × Bytes z.bytes
    go true h = (
      record {
        kept = p.kept;
        kind = p.kind;
        wrong = both st h;
        answers = λ n i. ap (λ (z : Meaning). (page_says a z).reply) (means_only st n i);
        output = λ n i. ap (λ (z : Meaning). (page_says a z).bytes ++ drop (length (page_says a z).bytes) out) (means_only st n i);
      },
      p.bytes,
    )
    go false h = (
      record {
        kept = record { size = refl; refused = λ l. refl };
        kind = alone_kind page_kinds STORE refl;
        wrong = λ l. refl;
        answers = λ n i. both st i.accepted.header h;
        output = λ n i. both st i.accepted.header h;
      },
      d,
    )

-- create
abbrev creator : ℕ → List ℕ → Ran
creator limit st =
    pick (ltb (length st) least_size) (record { bytes = st; reply = alone ROOM }) (record { bytes = with_meaning (empty limit (cap st)) st; reply = alone DONE })

creator_creates : (limit : ℕ) (st : List ℕ) → limit < limit_bound → Bytes st
    → Create reference limit st (creator limit st).bytes (creator limit st).reply × Bytes (creator limit st).bytes
creator_creates limit st l b = go (ltb (length st) least_size) refl
  where
    new : Meaning
    new = empty limit (cap st)

    go : (x : Bool) → ltb (length st) least_size ≡ x
        → let z : Ran = pick x (record { bytes = st; reply = alone ROOM }) (record { bytes = with_meaning new st; reply = alone DONE }) in
        Create reference limit st z.bytes z.reply × Bytes z.bytes
    go true h =
        let short = ltb→lt (length st) least_size (subst T (sym h) tt) in (
          record {
            kept = record { size = refl; refused = λ d. refl };
            rest = refl;
            answers = ap (λ (x : Bool). alone (pick x ROOM DONE)) (sym h);
            after = λ d. absurd (omega arith);
          },
          b,
        )
    go false h =
        let e : least_size ≤ length st = nltb→le (length st) least_size (subst (λ (x : Bool). T (not x)) (sym h) tt) in
        let g : Good new = empty_good limit (cap st) l in (
          record {
            kept = record { size = with_size new st g refl e; refused = λ d. absurd (omega arith) };
            rest = with_rest new st g refl e;
            answers = ap (λ (x : Bool). alone (pick x ROOM DONE)) (sym h);
            after = λ d. with_means new st g refl e b;
          },
          with_bytes new st g refl e b,
        )

-- check
abbrev checker : List ℕ → Reply
checker st = alone (pick (headed st) DONE STORE)

checker_checks : (st : List ℕ) → Bytes st → Check reference st (checker st)
checker_checks st b = go (headed st) refl
  where
    go : (x : Bool) → headed st ≡ x → Check reference st (alone (pick x DONE STORE))
    go true h = record { kind = alone_kind check_kinds DONE refl; accepts = λ m i. refl; sound = λ e. (meaning_of st, means_it st b h) }
    go false h = record { kind = alone_kind check_kinds STORE refl; accepts = λ m i. both st i.accepted.header h; sound = λ e. absurd (omega arith) }

-- The writing calls, by what they answer and what they leave.
abbrev insert_answer : List ℕ → Meaning → Answer
insert_answer k m = keyed k (put_answer (lookup k m.map) (new_answer k m))

abbrev stored_at : List ℕ → Meaning → Answer
stored_at k m = keyed k (stored_answer (lookup k m.map))

abbrev put_in : List ℕ → ℕ → Meaning → Meaning
put_in k v m = with_map m (put k v m.map)

abbrev taken_out : List ℕ → Meaning → Meaning
taken_out k m = with_map m (del k m.map)

abbrev limited : ℕ → Meaning → Meaning
limited l m = record { map = m.map; limit = l; capacity = m.capacity }

-- All ten, at once.
pub reference_programs : Programs reference
reference_programs = record {
  create = creator;
  check = checker;
  is_empty = reader is_empty_says;
  set_limit = λ l. writer set_limit_kinds (λ m. DONE) (limited l);
  insert = λ k v. writer insert_kinds (insert_answer k) (put_in k v);
  get = λ k. reader (get_says k);
  overwrite = λ k v. writer overwrite_kinds (stored_at k) (put_in k v);
  remove = λ k. writer remove_kinds (stored_at k) (taken_out k);
  first_page = λ q mode n st out. pager (record { prefix = q; mode = mode; from = start; size = n; room = length out }) st out;
  next_page = λ q mode k n st out. pager (record { prefix = q; mode = mode; from = after_key k; size = n; room = length out }) st out;
  creates = λ l st h s. (creator_creates l st h s.bytes).0;
  checks = λ st s. checker_checks st s.bytes;
  is_empties = λ st s. reader_reads is_empty_kinds is_empty_says st (is_empty_beside (meaning_of st)) refl;
  set_limits = λ l st h s.
      writer_writes set_limit_kinds (λ m. DONE) (limited l) (λ m. refl) refl (λ m g. set_limit_good m g l h) (λ m. refl) st s.bytes;
  inserts = λ k v st i h s.
      writer_writes insert_kinds (insert_answer k) (put_in k v) (insert_kind k v) refl (λ m g. insert_good m g k v i.bytes h) (λ m. refl) st s.bytes;
  gets = λ k st i s. reader_reads get_kinds (get_says k) st (get_beside k (meaning_of st)) refl;
  overwrites = λ k v st i h s.
      writer_writes overwrite_kinds (stored_at k) (put_in k v) (overwrite_kind k v) refl (λ m g. overwrite_good m g k v i.bytes h) (λ m. refl) st s.bytes;
  removes = λ k st i s.
      writer_writes remove_kinds (stored_at k) (taken_out k) (remove_kind k) refl (λ m g. remove_good m g k) (λ m. refl) st s.bytes;
  firsts = λ q mode n st out i h s o. (pager_pages q mode start n st out s.bytes o.bytes).0;
  nexts = λ q mode k n st out i j h s o. (pager_pages q mode (after_key k) n st out s.bytes o.bytes).0;
  create_bytes = λ l st h s. (creator_creates l st h s.bytes).1;
  set_limit_bytes = λ l st h s.
      writer_bytes set_limit_kinds (λ m. DONE) (limited l) (λ m. refl) refl (λ m g. set_limit_good m g l h) (λ m. refl) st s.bytes;
  insert_bytes = λ k v st i h s.
      writer_bytes insert_kinds (insert_answer k) (put_in k v) (insert_kind k v) refl (λ m g. insert_good m g k v i.bytes h) (λ m. refl) st s.bytes;
  overwrite_bytes = λ k v st i h s.
      writer_bytes overwrite_kinds (stored_at k) (put_in k v) (overwrite_kind k v) refl (λ m g. overwrite_good m g k v i.bytes h) (λ m. refl) st s.bytes;
  remove_bytes = λ k st i s.
      writer_bytes remove_kinds (stored_at k) (taken_out k) (remove_kind k) refl (λ m g. remove_good m g k) (λ m. refl) st s.bytes;
  first_bytes = λ q mode n st out i h s o. (pager_pages q mode start n st out s.bytes o.bytes).1;
  next_bytes = λ q mode k n st out i j h s o. (pager_pages q mode (after_key k) n st out s.bytes o.bytes).1;
}

-- "Every public function has a promise": they can be kept, all at once.
pub promises_kept : (L : Layout) × Lawful L × Programs L
promises_kept = (reference, reference_lawful, reference_programs)

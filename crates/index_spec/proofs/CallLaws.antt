-- A law for each way out of insert, get, overwrite and remove: from what their callees do to the bytes to their promises. Assumes nothing.
use Prim.Native.Nat.{ℕ, ◌≤◌, ◌<◌}
use mathlib.Core.Path.{◌≡◌, refl, sym, ap, subst, ◌∙◌}
use mathlib.Core.Logic.{◌≢◌}
use mathlib.Core.List.{List}
use mathlib.Core.Option.{Option, none, some}
use native.Mathlib.Omega.{arith}
use lib.ListN.{length, get_or}
use mir.Syntax.{w8, w32}
use mir.Val.{Fits}
use Rattle.model.specs.Key.{key_limit, IsKey}
use Rattle.model.specs.Numbers.{used, value_bound}
use Rattle.model.specs.Answers.{Answer, number, KEY}
use Rattle.model.specs.Map.{lookup, put, del}
use Rattle.model.specs.Picture.{Tree, Picture, Pictured, closest}
use Rattle.model.proofs.ClosestFound.{closest_is}
use Rattle.pictures.specs.Tree.{get_t, set_t, remove_t}
use Rattle.pictures.specs.Calls.{insert_answer, insert_root, get_root, remove_root}
use Rattle.pictures.proofs.CallLaws.{get_entries}
use Rattle.promises.specs.Meaning.{Lawful, Meaning, Means, Reply, alone}
use Rattle.promises.specs.Says.{saying, with_map, unless, keyed, new_answer, put_answer, stored_answer, value_reply, insert_says, get_says, overwrite_says, remove_says}
use Rattle.promises.specs.Promises.{Kind, Reads, Writes, insert_kinds, get_kinds, overwrite_kinds, remove_kinds, Insert, Get, Overwrite, Remove}
use Rattle.promises.proofs.Bridge.{Wrote, after_either, some_room, insert_answer_lem, insert_after, get_reply_lem, remove_after, overwrite_after}
use Rattle.node.specs.Layout.{start}
use Rattle.node.specs.Header.{head_in, head_of}
use Rattle.node.specs.declared.header.Header.{Header}
use Rattle.trie_spec.specs.Accepted.{Accepted}
use Rattle.trie_spec.specs.Find.{find_in, Stands}
use Rattle.trie_spec.specs.Writes.{Outcome, outcome, Did, insert_in, remove_under}
use Rattle.trie_spec.specs.Writes.{Put, Removed}
use Rattle.trie_spec.specs.declared.insert.PutError.{PutError}
use Rattle.trie_spec.proofs.HeldLaws.{bytes_of}
use Rattle.trie_spec.proofs.PutLaws.{answer_of, Inserts, insert_means}
use Rattle.trie_spec.proofs.KeepLaws.{Keeps, keeps_refl, Decent, insert_decent, DecentCut, remove_decent, keeps_value, find_stands}
use Rattle.trie_spec.proofs.FirstLaws.{set_accepted, set_head_lem, set_size}
use Rattle.trie_spec.proofs.TakeLaws.{remove_means}
use Rattle.trie_spec.proofs.AcceptedLaws.{few}
use Rattle.trie_spec.proofs.FoundLaws.{Found, find_means}
use Rattle.trie_spec.specs.declared.descent.Spot.TheVariants.{Root}
use Rattle.trie_spec.proofs.OneLaws.{one_map}
use Rattle.index_spec.specs.Layout.{layout}
use Rattle.index_spec.specs.Replies.{insert_reply, inserted_of, get_reply, changed_reply}
use Rattle.index_spec.specs.Calls.{got_of, got_in, overwritten, overwritten_in, taken_out, removed_of, removed, removed_in}
use Rattle.index_spec.proofs.LawfulLaws.{lawful_but_one}
use Rattle.index_spec.proofs.WayLaws.{too_long_lem, not_too_long}
use Rattle.index_spec.proofs.HeadLaws.{Headed, headed, blocks, not_wrong, rest_of, reads_bad, writes_bad}
use Rattle.std.specs.Prelude.{Result, Ok, Err, Some, None}
use Rattle.trie_spec.specs.Find.{Exact}
use Rattle.node.specs.declared.NotAStore.{NotAStore}
use Rattle.node.specs.NotAStore.{not_a_store}
use Rattle.index_spec.specs.declared.insert.InsertError.{InsertError}
use Rattle.trie_spec.specs.declared.insert.Inserted.{Inserted}
use Rattle.index_spec.specs.declared.stored.LookupError.{LookupError}

-- a key that is too long
keyed_short : (k : List ℕ) (a : Answer) → length k ≤ key_limit → keyed k a ≡ a
keyed_short k a l = rw (not_too_long k l)

keyed_long : (k : List ℕ) (a : Answer) → key_limit < length k → keyed k a ≡ KEY
keyed_long k a l = rw (too_long_lem k l)

module _ (st : List ℕ) (h : Header) (e : Headed st h) (k : List ℕ) (long : key_limit < length k) where
  reads_key : (kinds : List Answer) (says : Meaning → Reply) → Kind kinds (alone KEY) → ((m : Meaning) → alone KEY ≡ says m) → Reads layout kinds says st (alone KEY)
  reads_key kinds says q s = record { kind = q; wrong = λ w. absurd (not_wrong st h e w); answers = λ m w. s m }

  writes_key : (kinds : List Answer) (f : Meaning → Answer) (n : Meaning → Meaning) → Kind kinds (alone KEY) → Writes layout kinds (λ m. saying (keyed k (f m)) m (n m)) st st (alone KEY)
  writes_key kinds f n q = record {
    kept = record { size = refl; refused = λ l. refl };
    rest = refl;
    kind = q;
    wrong = λ w. absurd (not_wrong st h e w);
    answers = λ m w. ap alone (sym (keyed_long k (f m) long));
    after = λ m w. subst (λ (a : Answer). Means layout st (unless a m (n m))) (sym (keyed_long k (f m) long)) w;
  }

-- ---- insert

inserted_kind : (r : Result Inserted InsertError) → Kind insert_kinds (insert_reply r)
inserted_kind (Ok Inserted.New) = record { among = refl; value = λ q. refl; count = λ q. refl; end = λ q. refl }
inserted_kind (Ok Inserted.Replaced) = record { among = refl; value = λ q. refl; count = λ q. refl; end = λ q. refl }
inserted_kind (Err InsertError.Store) = record { among = refl; value = λ q. refl; count = λ q. refl; end = λ q. refl }
inserted_kind (Err InsertError.Key) = record { among = refl; value = λ q. refl; count = λ q. refl; end = λ q. refl }
inserted_kind (Err InsertError.Height) = record { among = refl; value = λ q. refl; count = λ q. refl; end = λ q. refl }
inserted_kind (Err InsertError.Full) = record { among = refl; value = λ q. refl; count = λ q. refl; end = λ q. refl }

-- an insertion's name is its answer
inserted_is : (p : Put) → insert_reply (inserted_of p) ≡ alone (answer_of p)
inserted_is (Ok Inserted.New) = refl
inserted_is (Ok Inserted.Replaced) = refl
inserted_is (Err PutError.Height) = refl
inserted_is (Err PutError.Full) = refl
inserted_is (Err PutError.Store) = refl

pub insert_bad : (k : List ℕ) (v : ℕ) (st : List ℕ) (x : Result Header NotAStore) → x ≡ head_of st → x ≡ Err not_a_store → Insert layout k v st st (insert_reply (Err InsertError.Store))
insert_bad k v st x p b = writes_bad st x p b insert_kinds (insert_says k v) (inserted_kind (Err InsertError.Store))

pub insert_long : (k : List ℕ) (v : ℕ) (st : List ℕ) (x : Result Header NotAStore) (h : Header) → x ≡ head_of st → x ≡ Ok h → key_limit < length k → Insert layout k v st st (insert_reply (Err InsertError.Key))
insert_long k v st x h p g l =
    writes_key st h (headed st x h p g) k l insert_kinds (λ m. put_answer (lookup k m.map) (new_answer k m)) (λ m. with_map m (put k v m.map)) (inserted_kind (Err InsertError.Key))

-- the layout of the index keeps what the promises need
pub lawful : Lawful layout
lawful = lawful_but_one one_map

module _ (k : List ℕ) (v : ℕ) (st st' : List ℕ) (x : Result Header NotAStore) (h : Header) (p : x ≡ head_of st) (g : x ≡ Ok h) (short : length k ≤ key_limit) (bytes : (i : ℕ) → Fits w8 (get_or k i 0))
    (exit : (i : ℕ) → Fits w8 (get_or st' i 0)) where
  e : Headed st h
  e = headed st x h p g

  is : h ≡ head_in st
  is = e.right.is

  is_key : IsKey k
  is_key = record { bytes = bytes_of k bytes; fits = short }

  pub insert_done : (q : Put) (r : Result Inserted InsertError) → Fits w32 v → Did (insert_in st h k v) q st' → r ≡ inserted_of q → Insert layout k v st st' (insert_reply r)
  insert_done q r value d n =
      let decent : Decent h.capacity st (insert_in st h k v) = insert_decent st h.capacity (blocks st x h p g) k v short is_key.bytes h refl in
      let keeps : Keeps h.capacity st st' = subst (Keeps h.capacity st) (sym d.1) decent.keeps in
      let refused : 10 ≤ number (answer_of q) → st' ≡ st = λ l. d.1 ∙ decent.refused (subst (λ (z : Put). 10 ≤ number (answer_of z)) d.0 l) in
      let said : insert_reply r ≡ alone (answer_of q) = ap insert_reply n ∙ inserted_is q in
      record {
        kept = record { size = keeps.size; refused = λ l. refused (subst (λ (z : Reply). 10 ≤ z.answer) said l) };
        rest = rest_of st st' h e keeps;
        kind = inserted_kind r;
        wrong = λ w. absurd (not_wrong st h e w);
        answers = λ m w. said ∙ ap alone (answer m w q d);
        after = λ m w.
            subst (λ (a : Answer). Means layout st' (unless a m (with_map m (put k v m.map)))) (answer m w q d)
            (after_either layout lawful st st' m (with_map m (put k v m.map)) (answer_of q) w refused (after_done m w q d));
      }
    where
      means : (m : Meaning) (w : Means layout st m) → Inserts st w.tree k v (insert_in st h k v)
      means m w = subst (λ (z : Header). Inserts st w.tree k v (insert_in st z k v)) (sym is) (insert_means st w.tree w.accepted k v is_key value.fits)

      answer : (m : Meaning) (w : Means layout st m) (q : Put) → Did (insert_in st h k v) q st' → answer_of q ≡ keyed k (put_answer (lookup k m.map) (new_answer k m))
      answer m w q d =
          ap answer_of d.0 ∙ (means m w).answer
          ∙ ap (λ (z : ℕ). insert_answer z (head_in st).limit k w.tree) (ap (λ (z : Header). z.capacity) (sym is) ∙ e.right.capacity ∙ w.capacity)
          ∙ ap (λ (z : ℕ). insert_answer m.capacity z k w.tree) w.limit
          ∙ insert_answer_lem k m w.tree w.accepted.picture w.map (some_room layout lawful st m w)

      after_done : (m : Meaning) (w : Means layout st m) (q : Put) → Did (insert_in st h k v) q st' → number (answer_of q) < 10 → Means layout st' (with_map m (put k v m.map))
      after_done m w q d l =
          insert_after layout lawful st st' m (head_in st).leaf (head_in st).branch k v w is_key
          (subst (λ (z : List ℕ). Wrote layout lawful st z (insert_root (head_in st).leaf (head_in st).branch k v w.tree)) (sym d.1)
          (record {
            accepted = (means m w).accepted (λ i u. (subst (λ (z : List ℕ). Fits w8 (get_or z i 0)) d.1 (exit i)).fits) (subst (λ (z : Put). number (answer_of z) < 10) d.0 l);
            limit = (means m w).limit;
            size = (means m w).size;
          }))

-- ---- get

got_kind : (r : Result ℕ LookupError) → Kind get_kinds (get_reply r)
got_kind (Ok v) = record { among = refl; value = λ q. absurd (omega arith); count = λ q. refl; end = λ q. refl }
got_kind (Err LookupError.Store) = record { among = refl; value = λ q. refl; count = λ q. refl; end = λ q. refl }
got_kind (Err LookupError.Key) = record { among = refl; value = λ q. refl; count = λ q. refl; end = λ q. refl }
got_kind (Err LookupError.Absent) = record { among = refl; value = λ q. refl; count = λ q. refl; end = λ q. refl }

pub get_bad : (k st : List ℕ) (x : Result Header NotAStore) → x ≡ head_of st → x ≡ Err not_a_store → Get layout k st (get_reply (Err LookupError.Store))
get_bad k st x p b = reads_bad st x p b get_kinds (get_says k) (got_kind (Err LookupError.Store))

pub get_long : (k st : List ℕ) (x : Result Header NotAStore) (h : Header) → x ≡ head_of st → x ≡ Ok h → key_limit < length k → Get layout k st (get_reply (Err LookupError.Key))
get_long k st x h p g l = reads_key st h (headed st x h p g) k l get_kinds (get_says k) (got_kind (Err LookupError.Key)) (λ m. sym (rw (too_long_lem k l)))

-- what a lookup says of an accepted store is what the tree has
got_is : (k st : List ℕ) (o : Option Tree) → Accepted st o → get_reply (got_in st (head_in st) k) ≡ value_reply (get_root k o)
got_is k st none a = ap (λ (z : Exact). get_reply (got_of st z)) (find_means st k none a)
got_is k st (some t) a = go (get_t k t) (find_means st k (some t) a)
  where
    go : (v : Option ℕ) → Found st (head_in st).capacity (few st (some t) a) k t Root Root v (find_in st (head_in st) k) → get_reply (got_in st (head_in st) k) ≡ value_reply v
    go none f = ap (λ (z : Exact). get_reply (got_of st z)) f
    go (some v) (s, f, i, c) = ap (λ (z : Exact). get_reply (got_of st z)) f ∙ ap (λ (z : ℕ). value_reply (some z)) i.value

pub get_done : (k st : List ℕ) (x : Result Header NotAStore) (h : Header) → x ≡ head_of st → x ≡ Ok h → length k ≤ key_limit → (r : Result ℕ LookupError) → r ≡ got_in st h k → Get layout k st (get_reply r)
get_done k st x h p g short r d =
    let e = headed st x h p g in
    record {
      kind = got_kind r;
      wrong = λ w. absurd (not_wrong st h e w);
      answers = λ m w.
          get_reply_lem layout lawful st m k w (get_reply r)
          (ap get_reply (d ∙ ap (λ (z : Header). got_in st z k) e.right.is) ∙ got_is k st w.tree w.accepted ∙ sym (rw (not_too_long k short)));
    }

-- ---- overwrite and remove

changed_kind : (r : Result (Unit {0}) LookupError) → Kind remove_kinds (changed_reply r)
changed_kind (Ok u) = record { among = refl; value = λ q. refl; count = λ q. refl; end = λ q. refl }
changed_kind (Err LookupError.Store) = record { among = refl; value = λ q. refl; count = λ q. refl; end = λ q. refl }
changed_kind (Err LookupError.Key) = record { among = refl; value = λ q. refl; count = λ q. refl; end = λ q. refl }
changed_kind (Err LookupError.Absent) = record { among = refl; value = λ q. refl; count = λ q. refl; end = λ q. refl }

pub overwrite_bad : (k : List ℕ) (v : ℕ) (st : List ℕ) (x : Result Header NotAStore) → x ≡ head_of st → x ≡ Err not_a_store → Overwrite layout k v st st (changed_reply (Err LookupError.Store))
overwrite_bad k v st x p b = writes_bad st x p b overwrite_kinds (overwrite_says k v) (changed_kind (Err LookupError.Store))

pub remove_bad : (k st : List ℕ) (x : Result Header NotAStore) → x ≡ head_of st → x ≡ Err not_a_store → Remove layout k st st (changed_reply (Err LookupError.Store))
remove_bad k st x p b = writes_bad st x p b remove_kinds (remove_says k) (changed_kind (Err LookupError.Store))

pub overwrite_long : (k : List ℕ) (v : ℕ) (st : List ℕ) (x : Result Header NotAStore) (h : Header) → x ≡ head_of st → x ≡ Ok h → key_limit < length k → Overwrite layout k v st st (changed_reply (Err LookupError.Key))
overwrite_long k v st x h p g l =
    writes_key st h (headed st x h p g) k l overwrite_kinds (λ m. stored_answer (lookup k m.map)) (λ m. with_map m (put k v m.map)) (changed_kind (Err LookupError.Key))

pub remove_long : (k st : List ℕ) (x : Result Header NotAStore) (h : Header) → x ≡ head_of st → x ≡ Ok h → key_limit < length k → Remove layout k st st (changed_reply (Err LookupError.Key))
remove_long k st x h p g l =
    writes_key st h (headed st x h p g) k l remove_kinds (λ m. stored_answer (lookup k m.map)) (λ m. with_map m (del k m.map)) (changed_kind (Err LookupError.Key))

-- What overwrite and remove come to, by the tree's value for the key, which some other tree takes the place of.
pub record Changes (st : List ℕ) (cap : ℕ) (c : Outcome (Result (Unit {0}) LookupError)) : Type 0 where
  pub keeps : Keeps cap st c.bytes
  pub refused : 10 ≤ (changed_reply c.answer).answer → c.bytes ≡ st

-- the answer, where the tree has the key or has it not, and the store after it
abbrev pub Means_by : (st : List ℕ) (k : List ℕ) (o after : Option Tree) → Outcome (Result (Unit {0}) LookupError) → Type 0
Means_by st k o after c =
    (changed_reply c.answer ≡ alone (stored_answer (get_root k o)))
    × (get_root k o ≢ none → ((i : ℕ) → i < used c.bytes → get_or c.bytes i 0 < 256) → Wrote layout lawful st c.bytes after)

module _ (k st st' : List ℕ) (x : Result Header NotAStore) (h : Header) (p : x ≡ head_of st) (g : x ≡ Ok h) (short : length k ≤ key_limit) (exit : (i : ℕ) → Fits w8 (get_or st' i 0))
    (c : Outcome (Result (Unit {0}) LookupError)) (changes : Changes st h.capacity c) (r : Result (Unit {0}) LookupError) (d : Did c r st') (n : Meaning → Meaning)
    (after-of : (m : Meaning) → Means layout st m → Option Tree)
    (says : (m : Meaning) (w : Means layout st m) → Means_by st k w.tree (after-of m w) c)
    (maps : (m : Meaning) (w : Means layout st m) → get_root k w.tree ≢ none → Wrote layout lawful st st' (after-of m w) → Means layout st' (n m)) where
  ok : Headed st h
  ok = headed st x h p g

  keeps : Keeps h.capacity st st'
  keeps = subst (Keeps h.capacity st) (sym d.1) changes.keeps

  refused : 10 ≤ (changed_reply r).answer → st' ≡ st
  refused l = d.1 ∙ changes.refused (subst (λ (z : Result (Unit {0}) LookupError). 10 ≤ (changed_reply z).answer) d.0 l)

  found : (m : Meaning) (w : Means layout st m) → get_root k w.tree ≡ lookup k m.map
  found m w = get_entries k w.tree w.accepted.picture ∙ ap (lookup k) w.map

  reply : (m : Meaning) (w : Means layout st m) → changed_reply r ≡ alone (stored_answer (get_root k w.tree))
  reply m w = ap changed_reply d.0 ∙ (says m w).0

  after_in_lem : (m : Meaning) (w : Means layout st m) (v : Option ℕ) → get_root k w.tree ≡ v → Means layout st' (unless (stored_answer v) m (n m))
  after_in_lem m w none q = subst (λ (z : List ℕ). Means layout z m) (sym (refused (subst (λ (z : Reply). 10 ≤ z.answer) (sym (reply m w ∙ ap (λ (z : Option ℕ). alone (stored_answer z)) q)) (omega arith)))) w
  after_in_lem m w (some v) q =
      maps m w stored
      (subst (λ (z : List ℕ). Wrote layout lawful st z (after-of m w)) (sym d.1) ((says m w).1 stored (λ i l. (subst (λ (z : List ℕ). Fits w8 (get_or z i 0)) d.1 (exit i)).fits)))
    where
      stored : get_root k w.tree ≢ none
      stored z = let y : ◌≡◌ {A = ℕ} 0 1 = cc in omega arith

  change_done : Writes layout remove_kinds (λ m. saying (keyed k (stored_answer (lookup k m.map))) m (n m)) st st' (changed_reply r)
  change_done = record {
    kept = record { size = keeps.size; refused = refused };
    rest = rest_of st st' h ok keeps;
    kind = changed_kind r;
    wrong = λ w. absurd (not_wrong st h ok w);
    answers = λ m w. reply m w ∙ ap (λ (z : Option ℕ). alone (stored_answer z)) (found m w) ∙ ap alone (sym (keyed_short k (stored_answer (lookup k m.map)) short));
    after = λ m w.
        subst (λ (a : Answer). Means layout st' (unless a m (n m))) (sym (keyed_short k (stored_answer (lookup k m.map)) short))
        (after_in_lem m w (lookup k m.map) (found m w));
  }

-- a change that is done, or is none
no_change : (st : List ℕ) (cap : ℕ) (a : Result (Unit {0}) LookupError) → Changes st cap (outcome a st)
no_change st cap a = record { keeps = keeps_refl cap st; refused = λ l. refl }

stored_closest : (k : List ℕ) (t : Tree) → Picture t → get_t k t ≢ none → k ≡ (closest k t).key
stored_closest k t pic d = closest_is k t pic (λ e. d (get_entries k (some t) pic ∙ e))

-- ---- overwrite

overwrite_changes : (st : List ℕ) (cap v : ℕ) (z : Exact) → Stands cap z → Changes st cap (overwritten st v z)
overwrite_changes st cap v (Ok (Some (n, s))) q = record { keeps = keeps_value cap st n.0 v q.0; refused = λ l. absurd (omega arith) }
overwrite_changes st cap v (Ok None) q = no_change st cap (Err LookupError.Absent)
overwrite_changes st cap v (Err e) q = no_change st cap (Err LookupError.Store)

abbrev set_root : List ℕ → ℕ → Option Tree → Option Tree
set_root k v none = none
set_root k v (some t) = some (set_t k v t)

overwrite_by : (st : List ℕ) (k : List ℕ) (v : ℕ) → IsKey k → v < value_bound → (o : Option Tree) → Accepted st o → Means_by st k o (set_root k v o) (overwritten_in st (head_in st) k v)
overwrite_by st k v i f none a = (ap (λ (z : Exact). changed_reply (overwritten st v z).answer) (find_means st k none a), λ d. absurd (d refl))
overwrite_by st k v i f (some t) a = go (get_t k t) refl (find_means st k (some t) a)
  where
    go : (u : Option ℕ) → get_t k t ≡ u → Found st (head_in st).capacity (few st (some t) a) k t Root Root u (find_in st (head_in st) k)
        → (changed_reply (overwritten_in st (head_in st) k v).answer ≡ alone (stored_answer u))
        × (u ≢ none → ((j : ℕ) → j < used (overwritten_in st (head_in st) k v).bytes → get_or (overwritten_in st (head_in st) k v).bytes j 0 < 256)
        → Wrote layout lawful st (overwritten_in st (head_in st) k v).bytes (some (set_t k v t)))
    go none q e = (ap (λ (z : Exact). changed_reply (overwritten st v z).answer) e, λ d. absurd (d refl))
    go (some u) q (s, e, is, c) = rw e (refl, λ d b. record { accepted = set_accepted st t a k v i f stored b; limit = ap (λ (z : Header). z.limit) (set_head_lem st t a k v i f stored); size = set_size st t a k v i f stored })
      where
        stored : k ≡ (closest k t).key
        stored = stored_closest k t a.picture (λ z. let y : ◌≡◌ {A = ℕ} 0 1 = cc in omega arith)

overwrite_maps : (st st' k : List ℕ) (v : ℕ) → IsKey k → (m : Meaning) (w : Means layout st m) → get_root k w.tree ≢ none → Wrote layout lawful st st' (set_root k v w.tree) → Means layout st' (with_map m (put k v m.map))
overwrite_maps st st' k v i m w d u = go w.tree refl d u
  where
    go : (o : Option Tree) → w.tree ≡ o → get_root k o ≢ none → Wrote layout lawful st st' (set_root k v o) → Means layout st' (with_map m (put k v m.map))
    go none q n x = absurd (n refl)
    go (some t) q n x =
        overwrite_after layout lawful st st' m k v t w q i
        (λ z. n (get_entries k (some t) (subst Pictured q w.accepted.picture) ∙ z)) x

module _ (k st st' : List ℕ) (x : Result Header NotAStore) (h : Header) (p : x ≡ head_of st) (g : x ≡ Ok h) (short : length k ≤ key_limit) (bytes : (i : ℕ) → Fits w8 (get_or k i 0))
    (exit : (i : ℕ) → Fits w8 (get_or st' i 0)) (r : Result (Unit {0}) LookupError) where
  its_head : h ≡ head_in st
  its_head = (headed st x h p g).right.is

  its_key : IsKey k
  its_key = record { bytes = bytes_of k bytes; fits = short }

  stands : Stands h.capacity (find_in st h k)
  stands = find_stands st h k its_key.bytes

  pub overwrite_done : (v : ℕ) → Fits w32 v → Did (overwritten_in st h k v) r st' → Overwrite layout k v st st' (changed_reply r)
  overwrite_done v f d =
      change_done k st st' x h p g short exit (overwritten_in st h k v) (overwrite_changes st h.capacity v (find_in st h k) stands) r d (λ m. with_map m (put k v m.map))
      (λ m w. set_root k v w.tree)
      (λ m w. subst (λ (z : Header). Means_by st k w.tree (set_root k v w.tree) (overwritten_in st z k v)) (sym its_head) (overwrite_by st k v its_key f.fits w.tree w.accepted))
      (λ m w n u. overwrite_maps st st' k v its_key m w n u)

-- ---- remove

taken_changes : (st : List ℕ) (cap : ℕ) (fits : start cap ≤ length st) (t : Outcome Removed) → DecentCut st cap fits t → Changes st cap (taken_out t)
taken_changes st cap fits t d = record { keeps = d.keeps; refused = go t.answer refl }
  where
    go : (b : Removed) → t.answer ≡ b → 10 ≤ (changed_reply (removed_of b)).answer → t.bytes ≡ st
    go (Ok u) z l = absurd (omega arith)
    go (Err x) z l = d.refused z

remove_changes : (st : List ℕ) (h : Header) → start h.capacity ≤ length st → (z : Exact) → Stands h.capacity z → Changes st h.capacity (removed st h z)
remove_changes st h fits (Ok (Some (n, s))) q =
    taken_changes st h.capacity fits (remove_under st h n.0 s.at s.above) (remove_decent st h.capacity fits h n.0 s.at s.above q.0 q.1 q.2)
remove_changes st h fits (Ok None) q = no_change st h.capacity (Err LookupError.Absent)
remove_changes st h fits (Err e) q = no_change st h.capacity (Err LookupError.Store)

remove_by : (st : List ℕ) (k : List ℕ) (o : Option Tree) → Accepted st o → Means_by st k o (remove_root k o) (removed_in st (head_in st) k)
remove_by st k none a = (ap (λ (z : Exact). changed_reply (removed st (head_in st) z).answer) (find_means st k none a), λ d. absurd (d refl))
remove_by st k (some t) a = go (get_t k t) refl (find_means st k (some t) a)
  where
    go : (u : Option ℕ) → get_t k t ≡ u → Found st (head_in st).capacity (few st (some t) a) k t Root Root u (find_in st (head_in st) k)
        → (changed_reply (removed_in st (head_in st) k).answer ≡ alone (stored_answer u))
        × (u ≢ none → ((j : ℕ) → j < used (removed_in st (head_in st) k).bytes → get_or (removed_in st (head_in st) k).bytes j 0 < 256)
        → Wrote layout lawful st (removed_in st (head_in st) k).bytes (remove_t k t))
    go none q e = (ap (λ (z : Exact). changed_reply (removed st (head_in st) z).answer) e, λ d. absurd (d refl))
    go (some u) q (s, e, is, c) =
        let y = remove_means st t a k stored s c in
        rw e (rw y.done, λ d b. record { accepted = y.accepted b; limit = y.limit; size = y.size })
      where
        stored : k ≡ (closest k t).key
        stored = stored_closest k t a.picture (λ z. let y : ◌≡◌ {A = ℕ} 0 1 = cc in omega arith)

module _ (k st st' : List ℕ) (x : Result Header NotAStore) (h : Header) (p : x ≡ head_of st) (g : x ≡ Ok h) (short : length k ≤ key_limit) (bytes : (i : ℕ) → Fits w8 (get_or k i 0))
    (exit : (i : ℕ) → Fits w8 (get_or st' i 0)) (r : Result (Unit {0}) LookupError) where
  pub remove_done : Did (removed_in st h k) r st' → Remove layout k st st' (changed_reply r)
  remove_done d =
      change_done k st st' x h p g short exit (removed_in st h k) (remove_changes st h (blocks st x h p g) (find_in st h k) (find_stands st h k (bytes_of k bytes))) r d (λ m. with_map m (del k m.map))
      (λ m w. remove_root k w.tree)
      (λ m w. subst (λ (z : Header). Means_by st k w.tree (remove_root k w.tree) (removed_in st z k)) (sym (headed st x h p g).right.is) (remove_by st k w.tree w.accepted))
      (λ m w n u. remove_after layout lawful st st' m k w u)

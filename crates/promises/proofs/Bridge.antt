-- From what the code does to the tree of an accepted store to the promise: what an implementer cites.
-- Assumes nothing.
use Prim.Native.Nat.{ℕ, ◌≤◌, ◌<◌, Ordering}
use mathlib.Core.Path.{◌≡◌, refl, sym, ◌∙◌, ap, subst}
use mathlib.Core.Bool.{Bool, false}
use mathlib.Core.Logic.{◌≢◌}
use mathlib.Core.List.{List, [], ◌∷◌}
use mathlib.Core.Option.{Option, none, some}
use native.Mathlib.Omega.{arith}
use lib.ListN.{length}
use lib.Dec.{compare_is_eq, eqb}
use Rattle.model.specs.Key.{IsKey, on_equal}
use Rattle.model.specs.Numbers.{capacity_of}
use Rattle.model.specs.Answers.{Answer, number, DONE, REPLACED, STORE, KEY, HEIGHT, FULL, ABSENT, COUNT, ROOM}
use Rattle.model.specs.Map.{Entry, lookup, put, del, pick}
use Rattle.model.specs.Picture.{Tree, listing, entries, Picture, Pictured, closest, too_long, too_high, picture_of, refuses_height}
use Rattle.model.proofs.Compare.{compare_lt}
use Rattle.model.proofs.KeyLaws.{Ordered, before, equal, after, ordered, less_differs}
use Rattle.model.proofs.Unique.{listing_some}
use Rattle.model.proofs.ClosestFound.{not_closest, closest_stored}
use Rattle.model.proofs.Sentences.{height_is}
use Rattle.pictures.specs.Tree.{set_t}
use Rattle.pictures.specs.Calls.{insert_answer, insert_root, get_root, remove_root}
use Rattle.pictures.proofs.CallLaws.{get_entries, insert_entries, remove_entries, overwrite_listing}
use Rattle.promises.specs.Meaning.{Layout, Lawful, Meaning, Means, Reply, alone}
use Rattle.promises.specs.Says.{with_map, unless, new_answer, put_answer, insert_says, get_says, remove_says, stored_answer, value_reply, keyed, is_empty_says, is_nothing}

stored_answer_lem : (o : Option ℕ) (a : Answer) → o ≢ none → put_answer o a ≡ REPLACED
stored_answer_lem none a d = absurd (d refl)
stored_answer_lem (some v) a d = refl

-- Document 01's table, on the map, gives what the code works out on the tree.
abbrev table : ℕ → ℕ → List ℕ → Bool → List Entry → Answer
table capacity limit k high z = keyed k (put_answer (lookup k z) (pick high HEIGHT (pick (eqb (length z) capacity) FULL DONE)))

table_tree : (capacity limit : ℕ) (k : List ℕ) (o : Option Tree) → Pictured o → 1 ≤ capacity
    → insert_answer capacity limit k o ≡ table capacity limit k (refuses_height limit k o) (entries o)
table_tree capacity limit k none h c = ap (λ (x : Ordering). pick (too_long k) KEY (pick (compare_is_eq x) FULL DONE)) (sym (compare_lt {m = 0} {n = capacity} c))
table_tree capacity limit k (some t) h c = ap (pick (too_long k) KEY) (go (ordered k (closest k t).key))
  where
    new : Answer
    new = pick (too_high limit k (closest k t)) HEIGHT (pick (eqb (length (listing t)) capacity) FULL DONE)

    go : {x : Ordering} → Ordered k (closest k t).key x → on_equal x REPLACED new ≡ put_answer (lookup k (listing t)) new
    go (before l) = sym (ap (λ (z : Option ℕ). put_answer z new) (not_closest k t h (less_differs l)))
    go (equal l) = sym (stored_answer_lem (lookup k (listing t)) new (closest_stored k t h l))
    go (after l) = sym (ap (λ (z : Option ℕ). put_answer z new) (not_closest k t h (λ q. less_differs l (sym q))))

pub insert_answer_lem : (k : List ℕ) (m : Meaning) (o : Option Tree) → Pictured o → entries o ≡ m.map → 1 ≤ m.capacity
    → insert_answer m.capacity m.limit k o ≡ keyed k (put_answer (lookup k m.map) (new_answer k m))
insert_answer_lem k m o h e c =
    table_tree m.capacity m.limit k o h c
    ∙ ap (λ (b : Bool). table m.capacity m.limit k b (entries o)) (sym (height_is m.limit k o h))
    ∙ ap (λ (z : List Entry). table m.capacity m.limit k (refuses_height m.limit k (picture_of z)) z) e

-- A store is empty exactly if it holds no tree.
abbrev pub is_none : Option Tree → ℕ
is_none none = 1
is_none (some t) = 0

pub is_empty_lem : (o : Option Tree) → Pictured o → is_nothing (entries o) ≡ is_none o
is_empty_lem none h = refl
is_empty_lem (some t) h = go (listing t) (listing_some t h)
  where
    go : (m : List Entry) → 1 ≤ length m → is_nothing m ≡ 0
    go [] l = absurd (omega arith)
    go (e ∷ m) l = refl

module _ (L : Layout) (law : Lawful L) where
  -- the store after a write: accepted with this tree, with the same limit and as long
  pub record Wrote (st st' : List ℕ) (o : Option Tree) : Type 0 where
    pub accepted : L.Accepted st' o
    pub limit : L.limit st' ≡ L.limit st
    pub size : length st' ≡ length st

  after_write : (st st' : List ℕ) (m : Meaning) (o : Option Tree) (x : List Entry) → Means L st m → Wrote st st' o → entries o ≡ x → Means L st' (with_map m x)
  after_write st st' m o x h w e = record {
    tree = o;
    accepted = w.accepted;
    map = e;
    limit = w.limit ∙ h.limit;
    capacity = ap capacity_of w.size ∙ h.capacity;
  }

  -- A refusal leaves the bytes and so the meaning; any other answer has another meaning.
  pub after_either : (st st' : List ℕ) (m n : Meaning) (a : Answer) → Means L st m → (10 ≤ number a → st' ≡ st) → (number a < 10 → Means L st' n)
      → Means L st' (unless a m n)
  after_either st st' m n DONE h f g = g (omega arith)
  after_either st st' m n REPLACED h f g = g (omega arith)
  after_either st st' m n STORE h f g = subst (λ (z : List ℕ). Means L z m) (sym (f (omega arith))) h
  after_either st st' m n KEY h f g = subst (λ (z : List ℕ). Means L z m) (sym (f (omega arith))) h
  after_either st st' m n HEIGHT h f g = subst (λ (z : List ℕ). Means L z m) (sym (f (omega arith))) h
  after_either st st' m n FULL h f g = subst (λ (z : List ℕ). Means L z m) (sym (f (omega arith))) h
  after_either st st' m n ABSENT h f g = subst (λ (z : List ℕ). Means L z m) (sym (f (omega arith))) h
  after_either st st' m n COUNT h f g = subst (λ (z : List ℕ). Means L z m) (sym (f (omega arith))) h
  after_either st st' m n ROOM h f g = subst (λ (z : List ℕ). Means L z m) (sym (f (omega arith))) h

  -- an accepted store has room for a key
  pub some_room : (st : List ℕ) (m : Meaning) → Means L st m → 1 ≤ m.capacity
  some_room st m h = let z = law.long st (law.headed st h.tree h.accepted) in omega (arith, h.capacity)

  -- insert: the answer is the tree's, and the tree after it holds the map with the key put in
  pub insert_reply_lem : (st : List ℕ) (m : Meaning) (k : List ℕ) (v : ℕ) (h : Means L st m) (r : Reply)
      → r ≡ alone (insert_answer (capacity_of (length st)) (L.limit st) k h.tree) → r ≡ (insert_says k v m).reply
  insert_reply_lem st m k v h r e =
      e
      ∙ ap alone (ap (λ (z : ℕ). insert_answer z (L.limit st) k h.tree) h.capacity
      ∙ ap (λ (z : ℕ). insert_answer m.capacity z k h.tree) h.limit
      ∙ insert_answer_lem k m h.tree (law.picture st h.tree h.accepted) h.map (some_room st m h))

  pub insert_after : (st st' : List ℕ) (m : Meaning) (a b : ℕ) (k : List ℕ) (v : ℕ) (h : Means L st m) → IsKey k
      → Wrote st st' (insert_root a b k v h.tree) → Means L st' (with_map m (put k v m.map))
  insert_after st st' m a b k v h i w =
      after_write st st' m (insert_root a b k v h.tree) (put k v m.map) h w
      (insert_entries a b k v h.tree i (law.picture st h.tree h.accepted) ∙ ap (put k v) h.map)

  -- get
  pub get_reply_lem : (st : List ℕ) (m : Meaning) (k : List ℕ) (h : Means L st m) (r : Reply)
      → r ≡ pick (too_long k) (alone KEY) (value_reply (get_root k h.tree)) → r ≡ get_says k m
  get_reply_lem st m k h r e =
      e
      ∙ ap (λ (z : Option ℕ). pick (too_long k) (alone KEY) (value_reply z))
      (get_entries k h.tree (law.picture st h.tree h.accepted) ∙ ap (lookup k) h.map)

  -- remove
  pub remove_reply : (st : List ℕ) (m : Meaning) (k : List ℕ) (h : Means L st m) (r : Reply)
      → r ≡ alone (keyed k (stored_answer (get_root k h.tree))) → r ≡ (remove_says k m).reply
  remove_reply st m k h r e =
      e
      ∙ ap (λ (z : Option ℕ). alone (keyed k (stored_answer z)))
      (get_entries k h.tree (law.picture st h.tree h.accepted) ∙ ap (lookup k) h.map)

  pub remove_after : (st st' : List ℕ) (m : Meaning) (k : List ℕ) (h : Means L st m) → Wrote st st' (remove_root k h.tree) → Means L st' (with_map m (del k m.map))
  remove_after st st' m k h w =
      after_write st st' m (remove_root k h.tree) (del k m.map) h w
      (remove_entries k h.tree (law.picture st h.tree h.accepted) ∙ ap (del k) h.map)

  -- overwrite
  pub overwrite_after : (st st' : List ℕ) (m : Meaning) (k : List ℕ) (v : ℕ) (t : Tree) (h : Means L st m) → h.tree ≡ some t → IsKey k
      → lookup k (listing t) ≢ none → Wrote st st' (some (set_t k v t)) → Means L st' (with_map m (put k v m.map))
  overwrite_after st st' m k v t h e i d w =
      let p : Picture t = subst Pictured e (law.picture st h.tree h.accepted) in
      after_write st st' m (some (set_t k v t)) (put k v m.map) h w
      (overwrite_listing k v t p i d ∙ ap (put k v) (ap entries (sym e) ∙ h.map))

  -- is_empty
  pub is_empty_reply : (st : List ℕ) (m : Meaning) (h : Means L st m) (r : Reply)
      → r ≡ record { answer = number DONE; value = is_none h.tree; count = 0; end = false } → r ≡ is_empty_says m
  is_empty_reply st m h r e =
      e
      ∙ ap (λ (n : ℕ). record { answer = number DONE; value = n; count = 0; end = false })
      (sym (is_empty_lem h.tree (law.picture st h.tree h.accepted)) ∙ ap is_nothing h.map)

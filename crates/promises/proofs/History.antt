-- Runs of calls that keep their promises: what they answer and leave, and the number of stored keys from creation on.
-- Assumes nothing.
use Prim.Native.Nat.{ℕ, ◌+◌}
use mathlib.Core.Path.{◌≡◌, refl, ◌∙◌, ap, sym, subst}
use mathlib.Core.Bool.{Bool, true, false}
use mathlib.Core.List.{List, [], ◌∷◌}
use mathlib.Core.Option.{Option, none, some}
use native.Mathlib.Omega.{arith}
use lib.ListN.{length}
use lib.Dec.{eqb}
use Rattle.model.specs.Numbers.{capacity_of}
use Rattle.model.specs.Answers.{number, DONE, KEY, HEIGHT, FULL}
use Rattle.model.specs.Map.{lookup, put, del, pick}
use Rattle.model.specs.Picture.{too_long, refuses_height, picture_of}
use Rattle.model.proofs.Less.{Sorted}
use Rattle.model.proofs.MapLaws.{put_sorted, del_sorted, length_put, length_del, extra}
use Rattle.promises.specs.Meaning.{Meaning, Layout, Lawful, Means, Reply}
use Rattle.promises.specs.Says.{unless, put_answer, stored_answer, with_map, empty, page_says}
use Rattle.promises.specs.History.{Call, insert, overwrite, remove, set_limit, get, is_empty, next, is_new, is_removal, news, removals, Counted, page, after, reply, told, Keeps, Made, Run, last, heard}
use Rattle.promises.proofs.MeansOne.{means_one}
use Rattle.promises.proofs.Determined.{page_promise}

-- One call: the map stays sorted, and its length changes by what the answer says.
record Step (m n : Meaning) (plus minus : ℕ) : Type 0 where
  sorted : Sorted n.map
  size : length n.map + minus ≡ length m.map + plus

same : (m : Meaning) → Sorted m.map → Step m m 0 0
same m s = record { sorted = s; size = refl }

insert_step : (k : List ℕ) (v : ℕ) (m : Meaning) → Sorted m.map → Step m (next (insert k v) m) (is_new (insert k v) (reply (insert k v) m)) 0
insert_step k v m s = go (too_long k) (lookup k m.map) refl (refuses_height m.limit k (picture_of m.map)) (eqb (length m.map) m.capacity)
  where
    n : Meaning
    n = with_map m (put k v m.map)

    size : (o : Option ℕ) → lookup k m.map ≡ o → length (put k v m.map) ≡ length m.map + extra o
    size o e = length_put k v m.map s ∙ ap (λ (z : Option ℕ). length m.map + extra z) e

    go : (b : Bool) (o : Option ℕ) → lookup k m.map ≡ o → (h f : Bool)
        → let a = pick b KEY (put_answer o (pick h HEIGHT (pick f FULL DONE))) in Step m (unless a m n) (pick (eqb (number a) 0) 1 0) 0
    go true o e h f = same m s
    go false (some w) e h f = record { sorted = put_sorted k v m.map s; size = omega (arith, size (some w) e) }
    go false none e true f = same m s
    go false none e false true = same m s
    go false none e false false = record { sorted = put_sorted k v m.map s; size = omega (arith, size none e) }

overwrite_step : (k : List ℕ) (v : ℕ) (m : Meaning) → Sorted m.map → Step m (next (overwrite k v) m) 0 0
overwrite_step k v m s = go (too_long k) (lookup k m.map) refl
  where
    go : (b : Bool) (o : Option ℕ) → lookup k m.map ≡ o → Step m (unless (pick b KEY (stored_answer o)) m (with_map m (put k v m.map))) 0 0
    go true o e = same m s
    go false none e = same m s
    go false (some w) e = record { sorted = put_sorted k v m.map s; size = omega (arith, length_put k v m.map s, ap extra e) }

remove_step : (k : List ℕ) (m : Meaning) → Sorted m.map → Step m (next (remove k) m) 0 (is_removal (remove k) (reply (remove k) m))
remove_step k m s = go (too_long k) (lookup k m.map) refl
  where
    go : (b : Bool) (o : Option ℕ) → lookup k m.map ≡ o
        → let a = pick b KEY (stored_answer o) in Step m (unless a m (with_map m (del k m.map))) 0 (pick (eqb (number a) 0) 1 0)
    go true o e = same m s
    go false none e = same m s
    go false (some w) e = record { sorted = del_sorted k m.map s; size = omega (arith, length_del k m.map s, ap extra e) }

step : (c : Call) (m : Meaning) → Sorted m.map → Step m (next c m) (is_new c (reply c m)) (is_removal c (reply c m))
step (insert k v) m s = insert_step k v m s
step (overwrite k v) m s = overwrite_step k v m s
step (remove k) m s = remove_step k m s
step (set_limit l) m s = record { sorted = s; size = refl }
step (get k) m s = same m s
step is_empty m s = same m s
step (page q mode from n z) m s = same m s

counted_from : (cs : List Call) (m : Meaning) → Sorted m.map → length (after cs m).map + removals (told cs m) ≡ length m.map + news (told cs m)
counted_from [] m s = refl
counted_from (c ∷ cs) m s =
    let i = step c m s in
    let j = counted_from cs (next c m) i.sorted in
    omega (arith, i.size)

-- The calls that were made.
abbrev calls : List Made → List Call
calls [] = []
calls (d ∷ ds) = d.call ∷ calls ds

-- On an accepted store a call that keeps its promise answers what the definitions say, and leaves what they say.
module _ (L : Layout) where
  kept_means : (c : Call) (st st' : List ℕ) (r : Reply) (m : Meaning) → Means L st m → Keeps L c st st' r → Means L st' (next c m)
  kept_means (insert k v) st st' r m h p = p.after m h
  kept_means (overwrite k v) st st' r m h p = p.after m h
  kept_means (remove k) st st' r m h p = p.after m h
  kept_means (set_limit l) st st' r m h p = p.after m h
  kept_means (get k) st st' r m h p = subst (λ (z : List ℕ). Means L z m) (sym p.0) h
  kept_means is_empty st st' r m h p = subst (λ (z : List ℕ). Means L z m) (sym p.0) h
  kept_means (page q mode from n z) st st' r m h p = subst (λ (z : List ℕ). Means L z m) (sym p.0) h

  kept_reply : (c : Call) (st st' : List ℕ) (r : Reply) (m : Meaning) → Means L st m → Keeps L c st st' r → r ≡ reply c m
  kept_reply (insert k v) st st' r m h p = p.answers m h
  kept_reply (overwrite k v) st st' r m h p = p.answers m h
  kept_reply (remove k) st st' r m h p = p.answers m h
  kept_reply (set_limit l) st st' r m h p = p.answers m h
  kept_reply (get k) st st' r m h p = p.1.answers m h
  kept_reply is_empty st st' r m h p = p.1.answers m h
  kept_reply (page q mode from n z) st st' r m h p =
      (page_promise L q mode from n st p.1.0 p.1.1 r p.1.3).answers m h
      ∙ ap (λ (x : ℕ). (page_says (record { prefix = q; mode = mode; from = from; size = n; room = x }) m).reply) p.1.2

  -- A run of them.
  pub run_means : (st : List ℕ) (ds : List Made) (m : Meaning) → Means L st m → Run L st ds → Means L (last st ds) (after (calls ds) m)
  run_means st [] m h p = h
  run_means st (d ∷ ds) m h p = run_means d.store ds (next d.call m) (kept_means d.call st d.store d.reply m h p.0) p.1

  pub run_heard : (st : List ℕ) (ds : List Made) (m : Meaning) → Means L st m → Run L st ds → heard ds ≡ told (calls ds) m
  run_heard st [] m h p = refl
  run_heard st (d ∷ ds) m h p =
      let e = kept_reply d.call st d.store d.reply m h p.0 in
      let i = run_heard d.store ds (next d.call m) (kept_means d.call st d.store d.reply m h p.0) p.1 in
      λ j. (d.call, e j) ∷ i j

  -- "From creation on, stored keys = NEW answers less successful removals"
  pub counted : Lawful L → Counted L
  counted law limit st st' r made long ds run m h =
      let n : Meaning = empty limit (capacity_of (length st)) in
      let g : Means L st' n = made.after long in
      let e : after (calls ds) n ≡ m = means_one law (last st' ds) (after (calls ds) n) m (run_means st' ds n g run) h in
      let f : heard ds ≡ told (calls ds) n = run_heard st' ds n g run in
      let i = counted_from (calls ds) n tt in
      omega (arith, ap (λ (z : Meaning). length z.map) e, ap news f, ap removals f)

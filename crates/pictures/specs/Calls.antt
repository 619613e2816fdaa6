-- The calls on a store's whole content, nothing or a tree, as code works them out.
-- Assumes nothing.
use Rattle.std.specs.Prelude.{ℕ, List, length, eqb}
use Rattle.std.proofs.Math.Option.{Option, none, some}
use Rattle.model.specs.Key.{order, on_equal}
use Rattle.model.specs.Answers.{Answer, DONE, REPLACED, KEY, HEIGHT, FULL}
use Rattle.model.specs.Map.{pick}
use Rattle.model.specs.Picture.{Tree, leaf, listing, closest, too_long, too_high}
use Rattle.pictures.specs.Tree.{get_t, insert_t, remove_t}

-- What an insertion answers: KEY; REPLACED if the closest leaf has the key; HEIGHT; FULL; else DONE.
abbrev pub insert_answer : ℕ → ℕ → List ℕ → Option Tree → Answer
insert_answer capacity limit k none = pick (too_long k) KEY DONE
insert_answer capacity limit k (some t) =
    let d = closest k t in
    pick (too_long k) KEY
    (on_equal (order k d.key) REPLACED
    (pick (too_high limit k d) HEIGHT
    (pick (eqb (length (listing t)) capacity) FULL DONE)))

-- The tree after an insertion that was not refused, with the record numbers that the new leaf and the new branch take.
abbrev pub insert_root : ℕ → ℕ → List ℕ → ℕ → Option Tree → Option Tree
insert_root a b k v none = some (leaf a k v)
insert_root a b k v (some t) = some (insert_t a b k v t)

-- What a lookup finds.
abbrev pub get_root : List ℕ → Option Tree → Option ℕ
get_root k none = none
get_root k (some t) = get_t k t

-- What a removal leaves.
abbrev pub remove_root : List ℕ → Option Tree → Option Tree
remove_root k none = none
remove_root k (some t) = remove_t k t

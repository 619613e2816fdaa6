-- The check's promise: it says done exactly of the accepted stores. Assumes nothing.
use Prim.Native.Nat.{ℕ}
use mathlib.Core.Path.{◌≡◌, refl, ap}
use mathlib.Core.List.{List}
use mathlib.Core.Option.{Option}
use native.Mathlib.Omega.{arith}
use lib.ListN.{length}
use Rattle.model.specs.Numbers.{capacity_of}
use Rattle.model.specs.Answers.{number, DONE}
use Rattle.model.specs.Picture.{Tree, entries}
use Rattle.promises.specs.Meaning.{Meaning, Means}
use Rattle.promises.specs.Promises.{Kind, check_kinds, Check}
use Rattle.node.specs.Header.{head_in}
use Rattle.trie_spec.specs.Accepted.{Accepted}
use Rattle.index_spec.specs.Layout.{layout}
use Rattle.index_spec.specs.Replies.{check_reply}
use Rattle.std.specs.Prelude.{Result, Ok, Err}
use Rattle.node.specs.declared.NotAStore.{NotAStore}

checked_kind : (r : Result (Unit {0}) NotAStore) → Kind check_kinds (check_reply r)
checked_kind (Ok u) = record { among = refl; value = λ q. refl; count = λ q. refl; end = λ q. refl }
checked_kind (Err e) = record { among = refl; value = λ q. refl; count = λ q. refl; end = λ q. refl }

-- the meaning of an accepted store
meaning : (st : List ℕ) (o : Option Tree) → Accepted st o → (m : Meaning) × Means layout st m
meaning st o a = (
  record { map = entries o; limit = (head_in st).limit; capacity = capacity_of (length st) },
  record { tree = o; accepted = a; map = refl; limit = refl; capacity = refl },
)

pub check_promise : (st : List ℕ) (r : Result (Unit {0}) NotAStore) → (r ≡ Ok tt → (o : Option Tree) × Accepted st o) → ((o : Option Tree) → Accepted st o → r ≡ (Ok tt)) → Check layout st (check_reply r)
check_promise st r sound whole = record {
  kind = checked_kind r;
  accepts = λ m w. ap check_reply (whole w.tree w.accepted);
  sound = λ e. go r sound e;
}
  where
    go : (z : Result (Unit {0}) NotAStore) → (z ≡ Ok tt → (o : Option Tree) × Accepted st o) → (check_reply z).answer ≡ number DONE → (m : Meaning) × Means layout st m
    go (Ok u) f e = let (o, a) = f refl in meaning st o a
    go (Err x) f e = absurd (omega arith)

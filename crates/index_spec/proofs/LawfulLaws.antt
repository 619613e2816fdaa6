-- The layout is lawful, so that the promises over it say enough. Assumes nothing.
use Prim.Native.Nat.{ℕ, ◌≤◌, ◌<◌}
use mathlib.Core.Path.{◌≡◌, refl, sym, ap, subst, ◌∙◌}
use mathlib.Core.Bool.{true, true≢false}
use mathlib.Core.List.{List, [], ◌∷◌, ◌++◌}
use mathlib.Core.Option.{Option, none, some}
use native.Mathlib.Omega.{arith}
use lib.ListN.{length, take}
use Rattle.model.specs.Map.{Entry}
use Rattle.model.specs.Numbers.{Values, header_size, capacity_of, value_bound}
use Rattle.model.specs.Picture.{Tree, leaf, branch, Kids, end, kid, listing, listings, entries}
use Rattle.pictures.specs.Records.{at, leaf_times, tallies}
use Rattle.pictures.specs.Stored.{Holds, HoldsAll}
use Rattle.pictures.proofs.Frame.{at_self}
use Rattle.pictures.proofs.Tally.{leaves_length}
use Rattle.promises.specs.Meaning.{Lawful}
use Rattle.node.specs.Header.{head_in, head_of}
use Rattle.node.specs.Leaf.{leaf_in}
use Rattle.node.specs.declared.header.Header.{Header}
use Rattle.node.proofs.HeaderLaws.{Right, good_right}
use Rattle.trie_spec.specs.Accepted.{memory_of, Accepted}
use Rattle.trie_spec.proofs.AcceptedLaws.{right, capacity_is, inside, leaf_count_lem, limit_fits, value_fits}
use Rattle.index_spec.specs.Layout.{is_good, layout}
use Rattle.index_spec.proofs.UsedLaws.{byte_same, head_same, header_same, head_in_same, accepted_same}
use Rattle.std.specs.Prelude.{Result, Ok, Err}
use Rattle.node.specs.declared.NotAStore.{NotAStore}

-- ---- the header

pub good_is : (st : List ℕ) → is_good (head_of st) ≡ true → head_of st ≡ Ok (head_in st)
good_is st e = go (head_of st) refl e
  where
    go : (x : Result Header NotAStore) → head_of st ≡ x → is_good x ≡ true → head_of st ≡ Ok (head_in st)
    go (Ok h) q g = q ∙ ap Ok (good_right st h q).is
    go (Err x) q g = absurd (true≢false (sym g))

pub right_is : (st : List ℕ) → is_good (head_of st) ≡ true → Right st (head_in st)
right_is st e = good_right st (head_in st) (good_is st e)

-- ---- the values

values_append : (m n : List Entry) → Values m → Values n → Values (m ++ n)
values_append [] n a b = b
values_append (e ∷ m) n a b = (a.0, values_append m n a.1 b)

module _ (st : List ℕ) (cap : ℕ) (small : (n : ℕ) → n < cap → (leaf_in st n).value < value_bound) where
  mutual
    values_in : (t : Tree) → Holds (memory_of st) t → ((n : ℕ) → 1 ≤ leaf_times n t → n < cap) → Values (listing t)
    values_in (leaf n k v) h i = (subst (λ (z : ℕ). z < value_bound) h.value (small n (i n (omega (arith, at_self n)))), tt)
    values_in (branch n p ks) h i = values_all ks h.1 (λ m q. i m (omega arith))

    values_all : (ks : Kids) → HoldsAll (memory_of st) ks → ((n : ℕ) → 1 ≤ tallies (at n) (λ m p. 0) ks → n < cap) → Values (listings ks)
    values_all end h i = tt
    values_all (kid s t ks) h i =
        values_append (listing t) (listings ks) (values_in t h.0 (λ m q. i m (omega arith))) (values_all ks h.1 (λ m q. i m (omega arith)))

pub accepted_values : (st : List ℕ) (o : Option Tree) → Accepted st o → Values (entries o)
accepted_values st none a = tt
accepted_values st (some t) a = values_in st (head_in st).capacity (value_fits st (some t) a) t a.held (inside st t a).leaves

-- ---- the number of keys

pub accepted_fits : (st : List ℕ) (o : Option Tree) → Accepted st o → length (entries o) ≤ capacity_of (length st)
accepted_fits st none a = omega arith
accepted_fits st (some t) a = omega (arith, leaf_count_lem st t a, leaves_length t, (right st (some t) a).leaves, capacity_is st (some t) a)

-- ---- the capacity that the header tells

pub told : (st su : List ℕ) → take header_size st ≡ take header_size su → is_good (head_of st) ≡ true → is_good (head_of su) ≡ true
    → capacity_of (length st) ≡ capacity_of (length su)
told st su e g h =
    sym (right_is st g).capacity
    ∙ ap (λ (z : Header). z.capacity) (head_same st su (λ i l. byte_same header_size st su e i l))
    ∙ (right_is su h).capacity

-- All of the laws, from the one that the bytes hold one map only.
pub lawful_but_one : ((st : List ℕ) (o p : Option Tree) → Accepted st o → Accepted st p → entries o ≡ entries p) → Lawful layout
lawful_but_one one = record {
  long = λ st g. (right_is st g).long;
  headed = λ st o a. ap is_good a.head;
  limited = λ st o a. limit_fits st o a;
  picture = λ st o a. a.picture;
  values = λ st o a. accepted_values st o a;
  fits = λ st o a. accepted_fits st o a;
  one = one;
  told = λ st su e g h. told st su e g h;
  header_used = λ st su e p. ap is_good (header_same st su e p);
  limit_used = λ st su e p. ap (λ (z : Header). z.limit) (head_in_same st su e p);
  accepted_used = λ st su o e p a. accepted_same st su e p o a;
}

-- A new store is accepted, and holds the empty map. Assumes nothing.
use Prim.Native.Nat.{ℕ, zero, suc, ◌≤◌, ◌<◌}
use mathlib.Core.Path.{◌≡◌, refl, sym, ap, subst, ◌∙◌}
use mathlib.Core.List.{List}
use mathlib.Core.Option.{none}
use native.Mathlib.Omega.{arith}
use lib.ListN.{length, get_or}
use Rattle.model.specs.Numbers.{capacity_of, least_size, used}
use Rattle.pictures.specs.Chain.{Accounted}
use Rattle.pictures.proofs.ChainLaws.{sum_zero}
use Rattle.node.specs.Layout.{last}
use Rattle.node.specs.Header.{head_in}
use Rattle.records.specs.Chain.{Kind, Free, leaves, branches}
use Rattle.records.specs.Create.{created, new_head}
use Rattle.node.specs.declared.header.Header.{Header}
use Rattle.std.specs.Prelude.{Ok}
use Rattle.records.proofs.ChainLaws.{ChainIn}
use Rattle.records.proofs.CreateLaws.{up_from, create_head, create_right, create_leaves, create_branches}
use Rattle.trie_spec.specs.Accepted.{leaf_uses, branch_uses, Accepted}

up_length : (i k : ℕ) → length (up_from i k) ≡ k
up_length i zero = refl
up_length i (suc k) = ap suc (up_length (suc i) k)

-- No record is reached, and all of them are in the chain.
all_free : (K : Kind) (st : List ℕ) (cap : ℕ) → ChainIn K st cap 0 (up_from 0 cap)
    → Accounted (Free K st cap) (K.next st) last (λ r. 0) 0 cap 0 (up_from 0 cap)
all_free K st cap c = record {
  once = λ r. omega arith;
  within = λ r l. refl;
  total = sum_zero cap;
  apart = λ r l f. absurd (omega arith);
  below = λ r f. f.0;
  chain = c;
  counted = omega (arith, up_length 0 cap);
}

module _ (limit : ℕ) (st : List ℕ) (long : least_size ≤ length st) (small : limit < 65536) where
  abbrev cap : ℕ
  cap = capacity_of (length st)

  abbrev st' : List ℕ
  st' = created limit st

  head_is : head_in st' ≡ new_head cap limit
  head_is = create_head limit st small long

  -- "creation, which takes the limit, makes an empty one"
  pub create_accepted : ((i : ℕ) → i < used (created limit st) → get_or (created limit st) i 0 < 256) → Accepted (created limit st) none
  create_accepted bytes = record {
    bytes = bytes;
    head = create_right limit st small long ∙ ap Ok (sym head_is);
    held = tt;
    rooted = ap (λ (z : Header). z.root) head_is;
    picture = tt;
    free_leaves = up_from 0 cap;
    leaves =
        subst (λ (z : Header). Accounted (Free leaves st' z.capacity) (leaves.next st') last (leaf_uses none) z.leaves z.capacity z.leaf (up_from 0 cap)) (sym head_is)
        (all_free leaves st' cap (create_leaves limit st small long));
    free_branches = up_from 0 cap;
    branches =
        subst (λ (z : Header). Accounted (Free branches st' z.capacity) (branches.next st') last (branch_uses none) z.branches z.capacity z.branch (up_from 0 cap)) (sym head_is)
        (all_free branches st' cap (create_branches limit st small long));
  }

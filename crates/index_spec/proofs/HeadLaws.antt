-- The header's test: what a right header gives, and the promise kept by STORE where it is wrong. Assumes nothing.
use Prim.Native.Nat.{ℕ, ◌≤◌}
use mathlib.Core.Path.{◌≡◌, refl, sym, ap, subst, ◌∙◌}
use mathlib.Core.Bool.{false, true≢false}
use mathlib.Core.List.{List}
use native.Mathlib.Omega.{arith}
use lib.ListN.{length, drop}
use Rattle.model.specs.Numbers.{most, used}
use Rattle.model.specs.Answers.{Answer, STORE}
use Rattle.promises.specs.Meaning.{Meaning, Reply, alone}
use Rattle.promises.specs.Says.{Says}
use Rattle.promises.specs.Promises.{Kind, Reads, Writes}
use Rattle.node.specs.Layout.{start}
use Rattle.node.specs.Header.{head_in, head_of}
use Rattle.node.specs.declared.header.Header.{Header}
use Rattle.node.proofs.HeaderLaws.{Right, good_right, blocks_fit}
use Rattle.trie_spec.proofs.KeepLaws.{Keeps}
use Rattle.index_spec.specs.Layout.{is_good, layout}
use Rattle.std.specs.Prelude.{Result, Ok, Err}
use Rattle.node.specs.declared.NotAStore.{NotAStore}
use Rattle.node.specs.NotAStore.{not_a_store}

-- a right header, as the code has it
pub record Headed (st : List ℕ) (h : Header) : Type 0 where
  pub right : Right st h
  pub good : head_of st ≡ Ok h

pub headed : (st : List ℕ) (x : Result Header NotAStore) (h : Header) → x ≡ head_of st → x ≡ Ok h → Headed st h
headed st x h p g = record { right = good_right st h (sym p ∙ g); good = sym p ∙ g }

-- the blocks of a store with a right header lie in it
pub blocks : (st : List ℕ) (x : Result Header NotAStore) (h : Header) → x ≡ head_of st → x ≡ Ok h → start h.capacity ≤ length st
blocks st x h p g = let r = (headed st x h p g).right in subst (λ (z : ℕ). start z ≤ length st) (sym r.capacity) (blocks_fit (length st) r.long)

pub blocks_few : (st : List ℕ) (x : Result Header NotAStore) (h : Header) → x ≡ head_of st → x ≡ Ok h → h.capacity ≤ most
blocks_few st x h p g = let r = (headed st x h p g).right in omega (arith, r.capacity)

pub not_wrong : (st : List ℕ) (h : Header) → Headed st h → is_good (head_of st) ≡ false → ⊥
not_wrong st h e w = true≢false (sym (ap is_good e.good) ∙ w)

-- all past the last block is all past the used bytes
pub rest_of : (st st' : List ℕ) (h : Header) → Headed st h → Keeps h.capacity st st' → drop (used st) st' ≡ drop (used st) st
rest_of st st' h e k = subst (λ (z : ℕ). drop (start z) st' ≡ drop (start z) st) e.right.capacity k.past

-- a wrong header
pub not_good : (st : List ℕ) (x : Result Header NotAStore) → x ≡ head_of st → x ≡ Err not_a_store → head_of st ≡ Ok (head_in st) → ⊥
not_good st x p b g = true≢false (sym (ap is_good g) ∙ ap is_good (sym p ∙ b))

module _ (st : List ℕ) (x : Result Header NotAStore) (p : x ≡ head_of st) (b : x ≡ Err not_a_store) where
  pub reads_bad : (kinds : List Answer) (says : Meaning → Reply) → Kind kinds (alone STORE) → Reads layout kinds says st (alone STORE)
  reads_bad kinds says k = record { kind = k; wrong = λ w. refl; answers = λ m w. absurd (not_good st x p b w.accepted.head) }

  pub writes_bad : (kinds : List Answer) (says : Meaning → Says) → Kind kinds (alone STORE) → Writes layout kinds says st st (alone STORE)
  writes_bad kinds says k = record {
    kept = record { size = refl; refused = λ l. refl };
    rest = refl;
    kind = k;
    wrong = λ w. refl;
    answers = λ m w. absurd (not_good st x p b w.accepted.head);
    after = λ m w. absurd (not_good st x p b w.accepted.head);
  }

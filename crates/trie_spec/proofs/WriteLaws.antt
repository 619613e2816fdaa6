-- Insertion over bytes: what a key equal to the closest leaf's comes to, and another one, that a critical position is small, and what the first key comes to.
-- Assumes nothing.
use Prim.Native.Nat.{ℕ, ◌+◌, ◌*◌, ◌≤◌, ◌<◌}
use mathlib.Core.Path.{◌≡◌, sym, subst, ◌∙◌}
use mathlib.Core.Logic.{◌≢◌}
use mathlib.Core.Bool.{Bool, true, false}
use mathlib.Core.List.{List}
use native.Mathlib.Decide.{dec_lt}
use native.Mathlib.Omega.{arith}
use lib.ListN.{length}
use mir.Syntax.{w8, w64}
use mir.Val.{Fits}
use borrow.Author.Tests.{eq-eqb}
use Rattle.model.specs.Key.{key_limit}
use Rattle.model.specs.Nibble.{critical}
use Rattle.model.proofs.KeyLaws.{key_same, key_other, critical_differs}
use Rattle.model.proofs.NibbleAt.{nibble_past}
use Rattle.fields.specs.Common.{Says}
use Rattle.node.specs.Leaf.{leaf_in, set_value}
use Rattle.node.specs.declared.child.Link.{Link}
use Rattle.node.specs.declared.header.Header.{Header}
use Rattle.trie_spec.specs.Writes.{outcome, hung, put_beside, put_near, insert_in, Put}
use Rattle.trie_spec.specs.declared.descent.Spot.TheVariants.{Root}
use Rattle.trie_spec.specs.declared.insert.Inserted.TheVariants.{Replaced}
use Rattle.std.specs.Prelude.{Ok}

-- ---- a key by its closest leaf

module _ (st : List ℕ) (h : Header) (k : List ℕ) (v : ℕ) (root : Link) (n d : ℕ) (q : List ℕ) (is : q ≡ (leaf_in st n).key) (f : Bool) (says : Says f (k ≡ q)) where
  equal : f ≡ true → k ≡ (leaf_in st n).key
  equal e = subst (λ (b : Bool). Says b (k ≡ q)) e says ∙ is

  differ : f ≡ false → k ≢ (leaf_in st n).key
  differ e z = subst (λ (b : Bool). Says b (k ≡ q)) e says (z ∙ sym is)

  pub replaced_answer : f ≡ true → Ok Replaced ≡ (put_near st h k v root n d).answer
  replaced_answer e = rw (key_same (equal e) (outcome {A = Put} (Ok Replaced) (set_value st n v)) _)

  pub replaced_bytes : (st' : List ℕ) → f ≡ true → st' ≡ set_value st n v → st' ≡ (put_near st h k v root n d).bytes
  replaced_bytes st' e w = w ∙ rw (key_same (equal e) (outcome {A = Put} (Ok Replaced) (set_value st n v)) _)

  pub is_new_lem : f ≡ false → k ≢ (leaf_in st n).key
  is_new_lem e = differ e

  pub new_answer_lem : (a : Put) → f ≡ false → a ≡ (put_beside st h k v root n d).answer → a ≡ (put_near st h k v root n d).answer
  new_answer_lem a e g = g ∙ rw (key_other (differ e) (outcome {A = Put} (Ok Replaced) (set_value st n v)) (put_beside st h k v root n d))

  pub new_bytes : (b : List ℕ) → f ≡ false → b ≡ (put_beside st h k v root n d).bytes → b ≡ (put_near st h k v root n d).bytes
  new_bytes b e g = g ∙ rw (key_other (differ e) (outcome {A = Put} (Ok Replaced) (set_value st n v)) (put_beside st h k v root n d))

-- a new key: its critical position is below two for each byte of a key
module _ (st : List ℕ) (h : Header) (k : List ℕ) (v : ℕ) (root : Link) (n d : ℕ) (new : k ≢ (leaf_in st n).key) (q : List ℕ) (is : q ≡ (leaf_in st n).key) (c : ℕ) (ec : c ≡ critical k q) where
  place_small : length k ≤ key_limit → length q ≤ key_limit → c < 2 * key_limit
  place_small lk lq = go (dec_lt c (2 * key_limit))
    where
      go : Dec (c < 2 * key_limit) → c < 2 * key_limit
      go (yes h) = h
      go (no h) =
          absurd (critical_differs k q (λ z. new (z ∙ is))
          (rw (← ec) (nibble_past k c (omega arith) ∙ sym (nibble_past q c (omega arith)))))

  pub place_fits : length k ≤ key_limit → length q ≤ key_limit → Fits w8 c
  place_fits lk lq = record { fits = omega (arith, place_small lk lq) }

  pub next_fits : length k ≤ key_limit → length q ≤ key_limit → Fits w64 (c + 1)
  next_fits lk lq = record { fits = omega (arith, place_small lk lq) }

-- a key in an empty store
module _ (st : List ℕ) (h : Header) (k : List ℕ) (v : ℕ) where
  pub first_answer : (a : Put) → h.leaves ≡ 0 → a ≡ (hung st h k v Root).answer → a ≡ (insert_in st h k v).answer
  first_answer a e q = q ∙ rw (eq-eqb h.leaves 0 e)

  pub first_bytes_lem : (b : List ℕ) → h.leaves ≡ 0 → b ≡ (hung st h k v Root).bytes → b ≡ (insert_in st h k v).bytes
  first_bytes_lem b e q = q ∙ rw (eq-eqb h.leaves 0 e)

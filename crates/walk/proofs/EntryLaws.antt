-- The bytes of an entry: fields written one directly after the other. Assumes nothing.
use Prim.Native.Nat.{ℕ, ◌+◌, ◌-◌, ◌/◌, ◌%◌, ◌≤◌, ◌<◌}
use mathlib.Core.Path.{◌≡◌, ap, ◌∙◌}
use mathlib.Core.List.{List, [], ◌∷◌, ◌++◌, append_assoc}
use native.Mathlib.Omega.{arith}
use lib.ListN.{length, take, drop, length-append}
use mir.Syntax.{w16, w32}
use mir.Val.{Fits}
use Rattle.model.specs.Key.{key_limit}
use Rattle.model.specs.Numbers.{entry_limit}
use Rattle.model.specs.Entry.{four_bytes, entry_bytes}
use Rattle.fields.specs.Part.{splice}
use Rattle.fields.specs.Number.{little_bytes, big_bytes}
use Rattle.fields.proofs.PartLaws.{length_splice, splice_append, lent_back}
use Rattle.node.specs.Leaf.{leaf_in}
use Rattle.walk.specs.Walk.{field_head, entry_in}

two_big : (v : ℕ) → v < 65536 → big_bytes 2 v ≡ v / 256 ∷ v % 256 ∷ []
unfolding little_bytes big_bytes
two_big v h = let e : v / 256 % 256 ≡ v / 256 = omega arith in rw e

four_big : (v : ℕ) → v < 4294967296 → big_bytes 4 v ≡ four_bytes v
unfolding little_bytes big_bytes
four_big v h =
    let d : v / 256 / 256 % 256 ≡ v / 65536 % 256 = omega arith in
    let e : v / 256 / 256 / 256 % 256 ≡ v / 16777216 = omega arith in
    rw (d, e)

pub field_written : (out s₁ s₂ : List ℕ) (at tag size : ℕ) → Fits w16 size → s₁ ≡ splice out at (tag ∷ []) → s₂ ≡ splice s₁ (at + 1) (big_bytes 2 size) → s₂ ≡ splice out at (field_head tag size)
field_written out s₁ s₂ at tag size f p q = q ∙ rw (p, two_big size f.fits) (splice_append out at (tag ∷ []) (size / 256 ∷ size % 256 ∷ []))

-- the longest entry has a key of key_limit bytes
entry_size : (k : List ℕ) (v : ℕ) → length (entry_bytes (k, v)) ≡ 3 + length k + 7
entry_size k v = let e = length-append (field_head 1 (length k) ++ k) (field_head 2 4 ++ four_bytes v) in omega (arith, e)

module _ (st : List ℕ) (n : ℕ) (k : List ℕ) (key : k ≡ (leaf_in st n).key) (short : length k ≤ key_limit) where
  pub size_is : length k + 10 ≡ length (entry_bytes (entry_in st n))
  size_is = rw (← key) (omega (arith, entry_size k (leaf_in st n).value))

  pub size_fits : length k + 10 ≤ entry_limit
  size_fits = omega arith

  pub entry_written : (p out s₁ s₃ s₄ : List ℕ) (v : ℕ) → entry_limit ≤ length out → v ≡ (leaf_in st n).value → Fits w32 v → s₁ ≡ splice out 0 (field_head 1 (length k)) → p ≡ k
      → s₃ ≡ splice (take 3 s₁ ++ (p ++ drop (3 + length k - 3) (drop 3 s₁))) (3 + length k) (field_head 2 4) → s₄ ≡ splice s₃ (3 + length k + 3) (big_bytes 4 v)
      → s₄ ≡ splice out 0 (entry_bytes (entry_in st n))
  entry_written p out s₁ s₃ s₄ v room ev f e₁ ep e₃ e₄ =
      let one : List ℕ = field_head 1 (length k) ++ k in
      let two : List ℕ = one ++ field_head 2 4 in
      let l : length s₁ ≡ length out = ap length e₁ ∙ length_splice out 0 (field_head 1 (length k)) in
      let back : take 3 s₁ ++ (p ++ drop (3 + length k - 3) (drop 3 s₁)) ≡ splice out 0 one =
      lent_back s₁ 3 (length k) p (omega arith) (ap length ep) ∙ rw (ep, e₁) (splice_append out 0 (field_head 1 (length k)) k) in
      let first : 3 + length k ≡ 0 + length one = omega arith in
      let third : s₃ ≡ splice out 0 two = e₃ ∙ rw (back, first) (splice_append out 0 one (field_head 2 4)) in
      let both = length-append one (field_head 2 4) in
      let long : 3 + length k + 3 ≡ 0 + length two = omega (arith, both) in
      let last : s₄ ≡ splice out 0 (two ++ four_bytes v) = e₄ ∙ rw (third, long, four_big v f.fits) (splice_append out 0 two (four_bytes v)) in
      last ∙ rw (append_assoc one (field_head 2 4) (four_bytes v), ev, ← key)

-- A link and its item: what is written is read back, and the item fits its 3 bytes. Assumes nothing.
use mathlib.Core.Path.{◌≡◌, refl, ◌∙◌}
use Prim.Native.Nat.{ℕ, ◌+◌, ◌-◌, ◌*◌, ◌/◌, ◌%◌, ◌≤◌, ◌<◌}
use native.Mathlib.Nat.{add-mul-mod_self_right, add-mul-div_right, mod-eq_of_lt}
use native.Mathlib.Omega.{arith}
use mathlib.Core.Bool.{Bool, true, false, cond}
use lib.Dec.{ltb}
use borrow.Author.Tests.{lt-ltb, le-ltb, ltb-true}
use Rattle.model.specs.Numbers.{most}
use Rattle.node.specs.Child.{to_leaf, to_branch, link_of, number_in, code_of, item_of}
use Rattle.std.specs.Prelude.{Ok, Err}
use Rattle.node.specs.NotAStore.{not_a_store}
use Rattle.node.specs.declared.child.Child.{Child}
use Rattle.node.specs.declared.child.Child.TheVariants.{Leaf, Branch}
use Rattle.node.specs.declared.child.Link.{Link}

pub item_fits : (l : Link) → number_in l.child < most → l.position < 256 → item_of l < 16777216
item_fits l h p = omega (arith, code_fits l.child h)
  where
    code_fits : (c : Child) → number_in c < most → code_of c < 32768
    code_fits (Leaf n) h = omega arith
    code_fits (Branch n) h = omega arith

-- the two parts of an item
module _ (code p : ℕ) (h : code < 65536) (q : p < 256) where
  code_part : (code + p * 65536) % 65536 ≡ code
  code_part = add-mul-mod_self_right code p 65536 ∙ mod-eq_of_lt h

  position_part : (code + p * 65536) / 65536 % 256 ≡ p
  position_part =
      let z : code / 65536 ≡ 0 = omega arith in
      rw (add-mul-div_right code p {z = 65536} (omega arith), z) (omega arith)

module _ (cap : ℕ) (fits : cap ≤ most) (n p : ℕ) (h : n < cap) (q : p < 256) where
  pub leaf_back : link_of cap (item_of (to_leaf n p)) ≡ Ok (to_leaf n p)
  leaf_back = rw (code_part n p (omega arith) q, position_part n p (omega arith) q, lt-ltb n cap h)

  pub branch_back : link_of cap (item_of (to_branch n p)) ≡ Ok (to_branch n p)
  branch_back =
      let e : most + n - most ≡ n = omega arith in
      rw (
        code_part (most + n) p (omega arith) q,
        position_part (most + n) p (omega arith) q,
        le-ltb (most + n) cap (omega arith),
        le-ltb (most + n) most (omega arith),
        e,
        lt-ltb n cap h,
      )

-- "leaf numbers and branch numbers are kept apart": no item is that of a leaf and of a branch of the store
pub apart : (cap n p m q : ℕ) → cap ≤ most → n < cap → item_of (to_leaf n p) ≡ item_of (to_branch m q) → m < cap → ⊥
apart cap n p m q fits h e k = omega arith

-- what a link leads to is a record of the store: its number is below the capacity
pub within : (cap item : ℕ) (l : Link) → link_of cap item ≡ Ok l → number_in l.child < cap
within cap item l e = go (ltb code cap) refl (ltb code most) (ltb (code - most) cap) refl e
  where
    code : ℕ
    code = item % 65536

    p : ℕ
    p = item / 65536 % 256

    go : (s : Bool) → ltb code cap ≡ s → (t u : Bool) → ltb (code - most) cap ≡ u
        → cond s (Ok (to_leaf code p)) (cond t (Err not_a_store) (cond u (Ok (to_branch (code - most) p)) (Err not_a_store))) ≡ Ok l → number_in l.child < cap
    go true i t u j e = let q : to_leaf code p ≡ l = cc in rw (← q) (ltb-true code cap i)
    go false i true u j e = absurd (let z : ◌≡◌ {A = ℕ} 0 1 = cc in omega arith)
    go false i false true j e = let q : to_branch (code - most) p ≡ l = cc in rw (← q) (ltb-true (code - most) cap j)
    go false i false false j e = absurd (let z : ◌≡◌ {A = ℕ} 0 1 = cc in omega arith)

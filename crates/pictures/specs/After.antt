-- The walk of a page: the entries under a prefix from some key on, by one way down. What lies before that key, which need not be stored, is left out.
-- Assumes nothing.
use Prim.Native.Nat.{ℕ, compare}
use Rattle.std.specs.Prelude.{Bool, true, false, List, [], ◌∷◌, ◌++◌, leb}
use Rattle.std.proofs.Math.Option.{Option, none, some}
use Rattle.model.specs.Key.{order, starts_with}
use Rattle.model.specs.Map.{Entry, pick, choose}
use Rattle.model.specs.Nibble.{nibble, critical}
use Rattle.model.specs.Page.{Mode, plain, inclusive, From, start, after_key}
use Rattle.model.specs.Picture.{Tree, leaf, branch, Kids, end, kid, listing, listings, closest}

-- The key k (last) lies strictly above b, or is b where that counts too.
abbrev pub passes : (too : Bool) → List ℕ → List ℕ → Bool
passes too b k = choose (order b k) true too false

-- The entries above b: c is the critical position of b and its closest leaf, and `up` says whether that leaf passes. Down to position c the leaves agree with b, so
-- that the slots below b's nibble lie before it and those above it lie past it; what stands past c lies with the closest leaf on one side of b.
abbrev mutual
  pub after_t : List ℕ → (c : ℕ) (up : Bool) → Tree → List Entry
  after_t b c up (leaf n k v) = pick up ((k, v) ∷ []) []
  after_t b c up (branch n p ks) = pick (leb p c) (after_k b c up (nibble b p) ks) (pick up (listings ks) [])

  pub after_k : List ℕ → (c : ℕ) (up : Bool) → (slot : ℕ) → Kids → List Entry
  after_k b c up s end = []
  after_k b c up s (kid r t ks) = choose (compare r s) (after_k b c up s ks) (after_t b c up t ++ listings ks) (listing t ++ listings ks)

-- The entries above b under a subtree whose keys all start with the prefix or all do not, as its closest leaf to b does.
abbrev pub after_in : (prefix : List ℕ) (too : Bool) → List ℕ → Option Tree → List Entry
after_in q too b none = []
after_in q too b (some u) = let l = (closest b u).key in pick (starts_with q l) (after_t b (critical b l) (passes too b l) u) []

-- Where a page begins. The keys that start with a prefix and are not equal to it are those above it, so a plain listing begins above the prefix, and after a key it
-- begins above the higher of the two.
abbrev pub bound : Mode → (prefix : List ℕ) → From → List ℕ
bound mode q start = q
bound inclusive q (after_key a) = a
bound plain q (after_key a) = choose (order a q) q a a

-- Only an inclusive listing from the start has the key itself.
abbrev pub bound_too : Mode → From → Bool
bound_too inclusive start = true
bound_too inclusive (after_key a) = false
bound_too plain from = false

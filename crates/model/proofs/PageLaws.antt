-- Pages of a sorted map: the entries above an after-key are a last part of it, and those above the last entry of a page are what the page left.
-- Assumes nothing.
use Prim.Native.Nat.{ℕ, Ordering, ◌<◌}
use mathlib.Core.Path.{◌≡◌, refl, sym, ◌∙◌, ap, subst}
use mathlib.Core.Bool.{Bool, true, false, not}
use mathlib.Core.List.{List, [], ◌∷◌, ◌++◌, append_assoc}
use lib.ListN.{length, take, drop, take-append-drop}
use lib.Seq.{take_all}
use lib.Dec.{T, leb, leb→le, nleb→lt}
use Rattle.model.specs.Map.{Entry, All, pick, choose, Rising}
use Rattle.model.specs.Page.{From, start, after_key, follows, above, Mode, matches, under, page}
use Rattle.model.proofs.Less.{Less, Sorted}
use Rattle.model.proofs.KeyLaws.{Ordered, before, equal, after, ordered, order_lt, order_eq, order_gt}
use Rattle.model.proofs.MapLaws.{all_map, all_below}
use Rattle.model.proofs.Keep.{keep_one, keep_sorted}
use Rattle.model.proofs.OrderedMap.{rising_sorted}

-- Where every key is above the after-key all are kept.
above_all : (a : List ℕ) (m : List Entry) → All (Less a) m → above (after_key a) m ≡ m
above_all a m h = keep_one (follows (after_key a)) true m (all_map (λ l z. ap (λ (o : Ordering). choose o true false false) (order_lt z)) m h)

-- What is above an after-key, or from the start, is a last part.
pub above_part : (from : From) (m : List Entry) → Sorted m → (xs : List Entry) × (m ≡ xs ++ above from m)
above_part start m s = ([], sym (keep_one (follows start) true m (every_true m)))
  where
    every_true : (n : List Entry) → All (λ k. true ≡ true) n
    every_true [] = tt
    every_true (e ∷ n) = (refl, every_true n)
above_part (after_key a) [] s = ([], refl)
above_part (after_key a) (e ∷ m) s = go (ordered a e.0) (above_part (after_key a) m s.1)
  where
    go : {o : Ordering} → Ordered a e.0 o → (xs : List Entry) × (m ≡ xs ++ above (after_key a) m)
        → (xs : List Entry) × (e ∷ m ≡ xs ++ pick (choose o true false false) (e ∷ above (after_key a) m) (above (after_key a) m))
    go (before h) i = ([], ap {B = List Entry} (λ z. e ∷ z) (sym (above_all a m (all_below m h s.0))))
    go (equal h) i = (e ∷ i.0, ap {B = List Entry} (λ z. e ∷ z) i.1)
    go (after h) i = (e ∷ i.0, ap {B = List Entry} (λ z. e ∷ z) i.1)

-- The entries above one of the map's own keys are those that stand after it.
pub above_entry : (xs : List Entry) (e : Entry) (ys : List Entry) → Sorted (xs ++ e ∷ ys) → above (after_key e.0) (xs ++ e ∷ ys) ≡ ys
above_entry [] e ys s = rw (order_eq {k = e.0} refl) (above_all e.0 ys s.0)
above_entry (x ∷ xs) e ys s = rw (order_gt (here xs s.0)) (above_entry xs e ys s.1)
  where
    here : (m : List Entry) → All (Less x.0) (m ++ e ∷ ys) → Less x.0 e.0
    here [] a = a.0
    here (d ∷ m) a = here m a.1

-- The next page: if a listing from somewhere on has e at the end of a page, a listing from e on is the rest.
pub next_page_lem : (from : From) (m : List Entry) → Sorted m → (xs : List Entry) (e : Entry) (ys : List Entry) → above from m ≡ xs ++ e ∷ ys → above (after_key e.0) m ≡ ys
next_page_lem from m s xs e ys h =
    let i = above_part from m s in
    let g : m ≡ (i.0 ++ xs) ++ e ∷ ys = i.1 ∙ ap (λ (z : List Entry). i.0 ++ z) h ∙ sym (append_assoc i.0 xs (e ∷ ys)) in
    ap (above (after_key e.0)) g ∙ above_entry (i.0 ++ xs) e ys (subst Sorted g s)

-- A page that says end is all that was left, and one that does not leaves something.
pub page_last : (n : ℕ) (m : List Entry) → leb (length m) n ≡ true → take n m ≡ m
page_last n m h = take_all n m (leb→le (length m) n (subst T (sym h) tt))

pub page_more : (n : ℕ) (m : List Entry) → leb (length m) n ≡ false → n < length m
page_more n m h = nleb→lt (length m) n (subst (λ (b : Bool). T (not b)) (sym h) tt)

-- A page and the entries above its last key are what was left, so that pages of an unchanged map, joined, are its listing.
pub page_then : (mode : Mode) (q : List ℕ) (from : From) (n : ℕ) (m : List Entry) → Rising m → (xs : List Entry) (e : Entry)
    → (page mode q from n m).entries ≡ xs ++ e ∷ [] → (page mode q from n m).entries ++ above (after_key e.0) (under mode q m) ≡ above from (under mode q m)
page_then mode q from n m r xs e h =
    let l : List Entry = above from (under mode q m) in
    let g : l ≡ xs ++ e ∷ drop n l = sym (take-append-drop n l) ∙ ap (λ (z : List Entry). z ++ drop n l) h ∙ append_assoc xs (e ∷ []) (drop n l) in
    ap (λ (z : List Entry). take n l ++ z) (next_page_lem from (under mode q m) (keep_sorted (matches mode q) m (rising_sorted m r)) xs e (drop n l) g) ∙ take-append-drop n l

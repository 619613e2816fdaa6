-- The laws of a packed array over the list of its bits: each operation on the packed items and on one bit does to the
-- (slot, item) list what its meaning says. All by induction on the bits. Assumes nothing.
use mathlib.Core.Path.{◌≡◌, refl, sym, ap, ap₂, ◌∙◌}
use mathlib.Core.Bool.{Bool, true, false, cond, true≢false}
use mathlib.Core.Option.{none, some, some-injective}
use mathlib.Core.List.{List, [], ◌∷◌, map}
use Prim.Native.Nat.{ℕ, zero, suc, ◌≤◌, ◌<◌, zero-le, suc-le-suc}
use native.Mathlib.Nat.{not-suc-le-zero, le_of_suc-le-suc, le-suc, le_trans, zero-lt-suc, suc_inj}
use native.Mathlib.Omega.{arith}
use lib.ListN.{length, get_or, set, take, drop, length-map}
use lib.Dec.{eqb, eqb-zero-suc, eqb-suc-zero, eqb-suc-suc, leb-suc-suc, leb-zero, leb-suc-zero}
use Rattle.bitmap.specs.Bits.{count, lowest}
use Rattle.bitmap.specs.Entries.{Entry, up, pack, lookup, nth, head, tail, insert, erase, below, Rising}

-- ---- one slot up

map_cond : (t : Bool) (xs ys : List Entry) → map up (cond t xs ys) ≡ cond t (map up xs) (map up ys)
map_cond true xs ys = refl
map_cond false xs ys = refl

lookup_up_zero : (es : List Entry) → lookup 0 (map up es) ≡ none
unfolding lookup
lookup_up_zero [] = refl
lookup_up_zero (e ∷ es) = rw (eqb-zero-suc, lookup_up_zero es)

lookup_up_suc : (k : ℕ) (es : List Entry) → lookup (suc k) (map up es) ≡ lookup k es
unfolding lookup
lookup_up_suc k [] = refl
lookup_up_suc k (e ∷ es) = rw (eqb-suc-suc, lookup_up_suc k es)

insert_up_zero : (x : ℕ) (es : List Entry) → insert 0 x (map up es) ≡ (0, x) ∷ map up es
unfolding insert
insert_up_zero x [] = refl
insert_up_zero x (e ∷ es) = rw (leb-suc-suc, leb-zero)

insert_up_suc : (k x : ℕ) (es : List Entry) → insert (suc k) x (map up es) ≡ map up (insert k x es)
unfolding insert
insert_up_suc k x [] = refl
insert_up_suc k x (e ∷ es) = simp (leb-suc-suc, eqb-suc-suc, insert_up_suc k x es, map_cond)

erase_up_suc : (k : ℕ) (es : List Entry) → erase (suc k) (map up es) ≡ map up (erase k es)
unfolding erase
erase_up_suc k [] = refl
erase_up_suc k (e ∷ es) = simp (eqb-suc-suc, erase_up_suc k es, map_cond)

-- ---- reading

pub lookup_pack : (bs : List Bool) (f : ℕ → ℕ) (k : ℕ) → lookup k (pack bs f) ≡ cond (get_or bs k false) (some (f (count (take k bs)))) none
unfolding pack lookup
lookup_pack [] f k = refl
lookup_pack (false ∷ bs) f zero = lookup_up_zero (pack bs f)
lookup_pack (true ∷ bs) f zero = refl
lookup_pack (false ∷ bs) f (suc k) = lookup_up_suc k (pack bs f) ∙ lookup_pack bs f k
lookup_pack (true ∷ bs) f (suc k) = rw eqb-suc-zero (lookup_up_suc k (pack bs (λ i. f (suc i))) ∙ lookup_pack bs (λ i. f (suc i)) k)

pub length_pack : (bs : List Bool) (f : ℕ → ℕ) → length (pack bs f) ≡ count bs
unfolding pack
length_pack [] f = refl
length_pack (false ∷ bs) f = length-map (pack bs f) up ∙ length_pack bs f
length_pack (true ∷ bs) f = ap suc (length-map (pack bs (λ i. f (suc i))) up ∙ length_pack bs (λ i. f (suc i)))

head_up : (es : List Entry) → head (map up es) ≡ head es
head_up [] = refl
head_up (e ∷ es) = refl

pub head_pack : (bs : List Bool) (f : ℕ → ℕ) → 0 < count bs → head (pack bs f) ≡ some (f 0)
unfolding pack
head_pack [] f h = absurd (not-suc-le-zero h)
head_pack (false ∷ bs) f h = head_up (pack bs f) ∙ head_pack bs f h
head_pack (true ∷ bs) f h = refl

nth_up : (i : ℕ) (es : List Entry) → nth i (map up es) ≡ nth i es
unfolding nth
nth_up i [] = refl
nth_up zero (e ∷ es) = refl
nth_up (suc i) (e ∷ es) = nth_up i es

pub nth_pack : (bs : List Bool) (f : ℕ → ℕ) (i : ℕ) → i < count bs → nth i (pack bs f) ≡ some (f i)
unfolding nth pack
nth_pack [] f i h = absurd (omega arith)
nth_pack (false ∷ bs) f i h = nth_up i (pack bs f) ∙ nth_pack bs f i h
nth_pack (true ∷ bs) f zero h = refl
nth_pack (true ∷ bs) f (suc i) h = nth_up i (pack bs (λ j. f (suc j))) ∙ nth_pack bs (λ j. f (suc j)) i (omega arith)

pub nth_past : (i : ℕ) (es : List Entry) → length es ≤ i → nth i es ≡ none
unfolding nth
nth_past i [] h = refl
nth_past zero (e ∷ es) h = absurd (omega arith)
nth_past (suc i) (e ∷ es) h = nth_past i es (omega arith)

-- what is left from a place on is the item there and what is left after it
pub drop_nth : (i : ℕ) (es : List Entry) (x : ℕ) → nth i es ≡ some x → (s : ℕ) × (drop i es ≡ (s, x) ∷ drop (suc i) es)
unfolding nth
drop_nth i [] x e = absurd (let z : ◌≡◌ {A = ℕ} 0 1 = cc in omega arith)
drop_nth zero (d ∷ es) x e = (d.0, ap (λ (y : ℕ). (d.0, y) ∷ es) (some-injective d.1 x e))
drop_nth (suc i) (d ∷ es) x e = drop_nth i es x e

pub pack_none : (bs : List Bool) (f : ℕ → ℕ) → count bs ≡ 0 → pack bs f ≡ []
unfolding pack
pack_none [] f h = refl
pack_none (false ∷ bs) f h = ap (map up) (pack_none bs f h)
pack_none (true ∷ bs) f h = absurd (omega arith)

-- only the first items count
pub pack_ext : (bs : List Bool) (f g : ℕ → ℕ) → ((i : ℕ) → i < count bs → f i ≡ g i) → pack bs f ≡ pack bs g
unfolding pack
pack_ext [] f g h = refl
pack_ext (false ∷ bs) f g h = ap (map up) (pack_ext bs f g h)
pack_ext (true ∷ bs) f g h =
    ap₂ (λ (x : ℕ) (es : List Entry). (0, x) ∷ map up es) (h 0 (zero-lt-suc (count bs)))
    (pack_ext bs (λ i. f (suc i)) (λ i. g (suc i)) (λ i l. h (suc i) (suc-le-suc l)))

-- the place of a slot
below_zero : (es : List Entry) → below 0 es ≡ 0
unfolding below
below_zero [] = refl
below_zero (e ∷ es) = rw (leb-suc-zero, below_zero es)

below_up : (k : ℕ) (es : List Entry) → below (suc k) (map up es) ≡ below k es
unfolding below
below_up k [] = refl
below_up k (e ∷ es) = rw (leb-suc-suc, below_up k es)

pub below_pack : (bs : List Bool) (f : ℕ → ℕ) (k : ℕ) → below k (pack bs f) ≡ count (take k bs)
unfolding pack below
below_pack bs f zero = below_zero (pack bs f)
below_pack [] f (suc k) = refl
below_pack (false ∷ bs) f (suc k) = below_up k (pack bs f) ∙ below_pack bs f k
below_pack (true ∷ bs) f (suc k) =
    rw (leb-suc-suc, leb-zero) (ap suc (below_up k (pack bs (λ i. f (suc i))) ∙ below_pack bs (λ i. f (suc i)) k))

-- ---- counts

pub count_take : (bs : List Bool) (k : ℕ) → count (take k bs) ≤ k
count_take bs zero = zero-le
count_take [] (suc k) = zero-le
count_take (false ∷ bs) (suc k) = le_trans (count_take bs k) (le-suc k)
count_take (true ∷ bs) (suc k) = suc-le-suc (count_take bs k)

pub place_le : (bs : List Bool) (k : ℕ) → count (take k bs) ≤ count bs
place_le bs zero = zero-le
place_le [] (suc k) = zero-le
place_le (false ∷ bs) (suc k) = place_le bs k
place_le (true ∷ bs) (suc k) = suc-le-suc (place_le bs k)

pub count_le : (bs : List Bool) → count bs ≤ length bs
count_le [] = zero-le
count_le (false ∷ bs) = le_trans (count_le bs) (le-suc (length bs))
count_le (true ∷ bs) = suc-le-suc (count_le bs)

pub place_lt : (bs : List Bool) (k : ℕ) → get_or bs k false ≡ true → count (take k bs) < count bs
place_lt [] k e = absurd (true≢false (sym e))
place_lt (false ∷ bs) zero e = absurd (true≢false (sym e))
place_lt (true ∷ bs) zero e = zero-lt-suc (count bs)
place_lt (false ∷ bs) (suc k) e = place_lt bs k e
place_lt (true ∷ bs) (suc k) e = suc-le-suc (place_lt bs k e)

pub count_set : (bs : List Bool) (k : ℕ) → k < length bs → get_or bs k false ≡ false → count (set bs k true) ≡ suc (count bs)
count_set [] k h e = absurd (not-suc-le-zero h)
count_set (false ∷ bs) zero h e = refl
count_set (true ∷ bs) zero h e = absurd (true≢false e)
count_set (false ∷ bs) (suc k) h e = count_set bs k (le_of_suc-le-suc h) e
count_set (true ∷ bs) (suc k) h e = ap suc (count_set bs k (le_of_suc-le-suc h) e)

pub count_clear : (bs : List Bool) (k : ℕ) → get_or bs k false ≡ true → suc (count (set bs k false)) ≡ count bs
count_clear [] k e = absurd (true≢false (sym e))
count_clear (false ∷ bs) zero e = absurd (true≢false (sym e))
count_clear (true ∷ bs) zero e = refl
count_clear (false ∷ bs) (suc k) e = count_clear bs k e
count_clear (true ∷ bs) (suc k) e = ap suc (count_clear bs k e)

-- ---- the items with one put in, overwritten or taken out

abbrev pub put_in : ℕ → ℕ → (ℕ → ℕ) → ℕ → ℕ
put_in zero x f zero = x
put_in zero x f (suc i) = f i
put_in (suc p) x f zero = f zero
put_in (suc p) x f (suc i) = put_in p x (λ j. f (suc j)) i

abbrev pub put_over : ℕ → ℕ → (ℕ → ℕ) → ℕ → ℕ
put_over zero x f zero = x
put_over zero x f (suc i) = f (suc i)
put_over (suc p) x f zero = f zero
put_over (suc p) x f (suc i) = put_over p x (λ j. f (suc j)) i

abbrev pub take_out : ℕ → (ℕ → ℕ) → ℕ → ℕ
take_out zero f i = f (suc i)
take_out (suc p) f zero = f zero
take_out (suc p) f (suc i) = take_out p (λ j. f (suc j)) i

-- what loops that move the n items from place p on give: g is f with an item put in, overwritten, or taken out
pub is_put_in : (n p x : ℕ) (f g : ℕ → ℕ) → ((i : ℕ) → i < p → g i ≡ f i) → g p ≡ x → ((i : ℕ) → p ≤ i → i < n → g (suc i) ≡ f i)
    → (i : ℕ) → i < suc n → g i ≡ put_in p x f i
is_put_in n zero x f g low e high zero h = e
is_put_in n zero x f g low e high (suc i) h = high i zero-le (le_of_suc-le-suc h)
is_put_in n (suc p) x f g low e high zero h = low zero (zero-lt-suc p)
is_put_in zero (suc p) x f g low e high (suc i) h = absurd (not-suc-le-zero (le_of_suc-le-suc h))
is_put_in (suc n) (suc p) x f g low e high (suc i) h =
    is_put_in n p x (λ j. f (suc j)) (λ j. g (suc j)) (λ j l. low (suc j) (suc-le-suc l)) e
    (λ j l m. high (suc j) (suc-le-suc l) (suc-le-suc m)) i (le_of_suc-le-suc h)

pub is_put_over : (p x : ℕ) (f g : ℕ → ℕ) → ((i : ℕ) → (i ≡ p → ⊥) → g i ≡ f i) → g p ≡ x → (i : ℕ) → g i ≡ put_over p x f i
is_put_over zero x f g other e zero = e
is_put_over zero x f g other e (suc i) = other (suc i) (λ q. omega arith)
is_put_over (suc p) x f g other e zero = other zero (λ q. omega arith)
is_put_over (suc p) x f g other e (suc i) =
    is_put_over p x (λ j. f (suc j)) (λ j. g (suc j)) (λ j l. other (suc j) (λ q. l (suc_inj q))) e i

pub is_take_out : (n p : ℕ) (f g : ℕ → ℕ) → ((i : ℕ) → i < p → g i ≡ f i) → ((i : ℕ) → p ≤ i → i < n → g i ≡ f (suc i))
    → (i : ℕ) → i < n → g i ≡ take_out p f i
is_take_out n zero f g low high i h = high i zero-le h
is_take_out n (suc p) f g low high zero h = low zero (zero-lt-suc p)
is_take_out zero (suc p) f g low high (suc i) h = absurd (not-suc-le-zero h)
is_take_out (suc n) (suc p) f g low high (suc i) h =
    is_take_out n p (λ j. f (suc j)) (λ j. g (suc j)) (λ j l. low (suc j) (suc-le-suc l))
    (λ j l m. high (suc j) (suc-le-suc l) (suc-le-suc m)) i (le_of_suc-le-suc h)

-- ---- writing

pub insert_pack : (bs : List Bool) (f : ℕ → ℕ) (k x : ℕ) → k < length bs → get_or bs k false ≡ false
    → pack (set bs k true) (put_in (count (take k bs)) x f) ≡ insert k x (pack bs f)
unfolding pack insert
insert_pack [] f k x h e = absurd (not-suc-le-zero h)
insert_pack (false ∷ bs) f zero x h e = sym (insert_up_zero x (pack bs f))
insert_pack (true ∷ bs) f zero x h e = absurd (true≢false e)
insert_pack (false ∷ bs) f (suc k) x h e = ap (map up) (insert_pack bs f k x (le_of_suc-le-suc h) e) ∙ sym (insert_up_suc k x (pack bs f))
insert_pack (true ∷ bs) f (suc k) x h e =
    rw (leb-suc-zero, eqb-suc-zero)
    (ap (λ (es : List Entry). (0, f 0) ∷ es)
    (ap (map up) (insert_pack bs (λ i. f (suc i)) k x (le_of_suc-le-suc h) e) ∙ sym (insert_up_suc k x (pack bs (λ i. f (suc i))))))

pub replace_pack : (bs : List Bool) (f : ℕ → ℕ) (k x : ℕ) → get_or bs k false ≡ true
    → pack bs (put_over (count (take k bs)) x f) ≡ insert k x (pack bs f)
unfolding pack insert
replace_pack [] f k x e = absurd (true≢false (sym e))
replace_pack (false ∷ bs) f zero x e = absurd (true≢false (sym e))
replace_pack (true ∷ bs) f zero x e = refl
replace_pack (false ∷ bs) f (suc k) x e = ap (map up) (replace_pack bs f k x e) ∙ sym (insert_up_suc k x (pack bs f))
replace_pack (true ∷ bs) f (suc k) x e =
    rw (leb-suc-zero, eqb-suc-zero)
    (ap (λ (es : List Entry). (0, f 0) ∷ es)
    (ap (map up) (replace_pack bs (λ i. f (suc i)) k x e) ∙ sym (insert_up_suc k x (pack bs (λ i. f (suc i))))))

pub erase_pack : (bs : List Bool) (f : ℕ → ℕ) (k : ℕ) → get_or bs k false ≡ true
    → pack (set bs k false) (take_out (count (take k bs)) f) ≡ erase k (pack bs f)
unfolding pack erase
erase_pack [] f k e = absurd (true≢false (sym e))
erase_pack (false ∷ bs) f zero e = absurd (true≢false (sym e))
erase_pack (true ∷ bs) f zero e = refl
erase_pack (false ∷ bs) f (suc k) e = ap (map up) (erase_pack bs f k e) ∙ sym (erase_up_suc k (pack bs f))
erase_pack (true ∷ bs) f (suc k) e =
    rw eqb-suc-zero
    (ap (λ (es : List Entry). (0, f 0) ∷ es)
    (ap (map up) (erase_pack bs (λ i. f (suc i)) k e) ∙ sym (erase_up_suc k (pack bs (λ i. f (suc i))))))

-- ---- the lowest slot

pub lowest_set : (bs : List Bool) → 0 < count bs → get_or bs (lowest bs) false ≡ true
lowest_set [] h = absurd (not-suc-le-zero h)
lowest_set (false ∷ bs) h = lowest_set bs h
lowest_set (true ∷ bs) h = refl

pub lowest_lt : (bs : List Bool) → 0 < count bs → lowest bs < length bs
lowest_lt [] h = absurd (not-suc-le-zero h)
lowest_lt (false ∷ bs) h = suc-le-suc (lowest_lt bs h)
lowest_lt (true ∷ bs) h = zero-lt-suc (length bs)

pub lowest_place : (bs : List Bool) → count (take (lowest bs) bs) ≡ 0
lowest_place [] = refl
lowest_place (false ∷ bs) = lowest_place bs
lowest_place (true ∷ bs) = refl

tail_up : (es : List Entry) → tail (map up es) ≡ map up (tail es)
tail_up [] = refl
tail_up (e ∷ es) = refl

pub erase_lowest : (bs : List Bool) (f : ℕ → ℕ) → 0 < count bs → erase (lowest bs) (pack bs f) ≡ tail (pack bs f)
unfolding pack erase
erase_lowest [] f h = absurd (not-suc-le-zero h)
erase_lowest (false ∷ bs) f h = erase_up_suc (lowest bs) (pack bs f) ∙ ap (map up) (erase_lowest bs f h) ∙ sym (tail_up (pack bs f))
erase_lowest (true ∷ bs) f h = refl

pub erase_missing : (k : ℕ) (es : List Entry) → lookup k es ≡ none → erase k es ≡ es
unfolding lookup erase
erase_missing k [] h = refl
erase_missing k (e ∷ es) h = go (eqb k e.0) (erase_missing k es) h
  where
    go : (t : Bool) → (lookup k es ≡ none → erase k es ≡ es) → cond t (some e.1) (lookup k es) ≡ none → cond t es (e ∷ erase k es) ≡ e ∷ es
    go true rest q = absurd (let z : ◌≡◌ {A = ℕ} 0 1 = cc in omega arith)
    go false rest q = ap (λ (r : List Entry). e ∷ r) (rest q)

-- ---- the slots rise

rising_up : (low high : ℕ) (es : List Entry) → Rising low high es → Rising (suc low) (suc high) (map up es)
rising_up low high [] r = tt
rising_up low high (e ∷ es) r = (suc-le-suc r.0, suc-le-suc r.1, rising_up (suc e.0) high es r.2)

rising_from : (low low' high : ℕ) (es : List Entry) → low ≤ low' → Rising low' high es → Rising low high es
rising_from low low' high [] h r = tt
rising_from low low' high (e ∷ es) h r = (le_trans h r.0, r.1, r.2)

pub pack_rising : (bs : List Bool) (f : ℕ → ℕ) → Rising 0 (length bs) (pack bs f)
unfolding pack
pack_rising [] f = tt
pack_rising (false ∷ bs) f =
    rising_from 0 1 (suc (length bs)) (map up (pack bs f)) zero-le (rising_up 0 (length bs) (pack bs f) (pack_rising bs f))
pack_rising (true ∷ bs) f =
    (zero-le, zero-lt-suc (length bs), rising_up 0 (length bs) (pack bs (λ i. f (suc i))) (pack_rising bs (λ i. f (suc i))))

-- where none is set, the digit after the last one is not set either
pub none_set : (bs : List Bool) → count bs ≡ 0 → get_or bs (lowest bs) false ≡ false
none_set [] e = refl
none_set (false ∷ bs) e = none_set bs e
none_set (true ∷ bs) e = absurd (omega arith)

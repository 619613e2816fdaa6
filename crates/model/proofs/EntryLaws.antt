-- The bytes of entries: they show one list of entries of a given length at most, and an entry fits its room.
-- Assumes nothing.
use Prim.Native.Nat.{ℕ, ◌*◌, ◌/◌, ◌%◌, ◌≤◌}
use mathlib.Core.Path.{◌≡◌, refl, sym, ◌∙◌}
use mathlib.Core.List.{List, [], ◌∷◌, ◌++◌, append_assoc}
use native.Mathlib.Omega.{arith}
use lib.ListN.{length, length-append}
use Rattle.model.specs.Key.{IsKey}
use Rattle.model.specs.Numbers.{entry_limit}
use Rattle.model.specs.Map.{Entry, All}
use Rattle.model.specs.Entry.{field, four_bytes, entry_bytes, entries_bytes}

-- two lists of one length, one after which something follows
pub record Split (a b xs ys : List ℕ) : Type 0 where
  pub first : a ≡ b
  pub second : xs ≡ ys

pub split : (a b xs ys : List ℕ) → length a ≡ length b → a ++ xs ≡ b ++ ys → Split a b xs ys
split [] [] xs ys l e = record { first = refl; second = e }
split [] (y ∷ b) xs ys l e = absurd (omega arith)
split (x ∷ a) [] xs ys l e = absurd (omega arith)
split (x ∷ a) (y ∷ b) xs ys l e =
    let h : x ≡ y = cc in
    let t : a ++ xs ≡ b ++ ys = cc in
    let i = split a b xs ys (omega arith) t in
    record { first = λ j. h j ∷ i.first j; second = i.second }

-- a number by its bytes
up : (x y : ℕ) → x / 256 ≡ y / 256 → x % 256 ≡ y % 256 → x ≡ y
up x y a b = omega arith

high_two : (x : ℕ) → x / 65536 ≡ x / 256 / 256
high_two x = omega arith

high_three : (x : ℕ) → x / 16777216 ≡ x / 65536 / 256
high_three x = omega arith

-- an entry and what follows it
pub record SplitEntry (e d : Entry) (xs ys : List ℕ) : Type 0 where
  pub first : e ≡ d
  pub second : xs ≡ ys

split_entry : (e d : Entry) (xs ys : List ℕ) → entry_bytes e ++ xs ≡ entry_bytes d ++ ys → SplitEntry e d xs ys
split_entry e d xs ys q =
    record { first = λ j. (key j, value j); second = cc parts.second }
  where
    high : length e.0 / 256 ≡ length d.0 / 256
    high = cc

    low : length e.0 % 256 ≡ length d.0 % 256
    low = cc

    tails : (e.0 ++ field 2 (four_bytes e.1)) ++ xs ≡ (d.0 ++ field 2 (four_bytes d.1)) ++ ys
    tails = cc

    parts : Split e.0 d.0 (field 2 (four_bytes e.1) ++ xs) (field 2 (four_bytes d.1) ++ ys)
    parts =
        split e.0 d.0 (field 2 (four_bytes e.1) ++ xs) (field 2 (four_bytes d.1) ++ ys) (omega (arith, high, low))
        (sym (append_assoc e.0 (field 2 (four_bytes e.1)) xs) ∙ tails ∙ append_assoc d.0 (field 2 (four_bytes d.1)) ys)

    key : e.0 ≡ d.0
    key = parts.first

    b3 : e.1 / 16777216 ≡ d.1 / 16777216
    b3 = cc parts.second

    b2 : e.1 / 65536 % 256 ≡ d.1 / 65536 % 256
    b2 = cc parts.second

    b1 : e.1 / 256 % 256 ≡ d.1 / 256 % 256
    b1 = cc parts.second

    b0 : e.1 % 256 ≡ d.1 % 256
    b0 = cc parts.second

    value : e.1 ≡ d.1
    value =
        let c2 : e.1 / 65536 ≡ d.1 / 65536 = up (e.1 / 65536) (d.1 / 65536) (sym (high_three e.1) ∙ b3 ∙ high_three d.1) b2 in
        up e.1 d.1 (up (e.1 / 256) (d.1 / 256) (sym (high_two e.1) ∙ c2 ∙ high_two d.1) b1) b0

pub entries_one : (es ds : List Entry) (xs ys : List ℕ) → length es ≡ length ds → entries_bytes es ++ xs ≡ entries_bytes ds ++ ys → es ≡ ds
entries_one [] [] xs ys l q = refl
entries_one [] (d ∷ ds) xs ys l q = absurd (omega arith)
entries_one (e ∷ es) [] xs ys l q = absurd (omega arith)
entries_one (e ∷ es) (d ∷ ds) xs ys l q =
    let p = split_entry e d (entries_bytes es ++ xs) (entries_bytes ds ++ ys)
    (sym (append_assoc (entry_bytes e) (entries_bytes es) xs) ∙ q ∙ append_assoc (entry_bytes d) (entries_bytes ds) ys) in
    let i = entries_one es ds xs ys (omega arith) p.second in
    λ j. p.first j ∷ i j

-- "74 bytes per entry": an entry has no more than `entry_limit` bytes, and entries no more than as many times that.
pub entry_fits : (e : Entry) → IsKey e.0 → length (entry_bytes e) ≤ entry_limit
entry_fits e k = omega (arith, length-append (field 1 e.0) (field 2 (four_bytes e.1)), k.fits)

pub entries_fit : (es : List Entry) → All IsKey es → length (entries_bytes es) ≤ entry_limit * length es
entries_fit [] a = omega arith
entries_fit (e ∷ es) a = omega (arith, length-append (entry_bytes e) (entries_bytes es), entry_fits e a.0, entries_fit es a.1)

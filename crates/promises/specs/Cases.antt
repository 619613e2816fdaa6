-- Document 01's checked cases C1 to C12 as one table, and further rows: in each what the definitions give, and what the document says. A run starts from creation
-- with a limit and a capacity and goes by the promises' own definitions of the calls.
-- Assumes nothing.
use Rattle.std.specs.Prelude.{ℕ, suc, ◌*◌, ◌≡◌, Bool, true, false, List, [], ◌∷◌, map, replicate}
use Rattle.std.proofs.Math.Option.{Option, some}
use Rattle.model.specs.Key.{key_limit}
use Rattle.model.specs.Numbers.{entry_limit, page_limit}
use Rattle.model.specs.Answers.{number, Answer, DONE, REPLACED, KEY, HEIGHT, FULL, ABSENT, COUNT, ROOM}
use Rattle.model.specs.Map.{Entry}
use Rattle.model.specs.Nibble.{nibble, critical}
use Rattle.model.specs.Picture.{Tree, leaf, branch, end, kid, picture_of, depth}
use Rattle.model.specs.Page.{Mode, plain, inclusive, From, start, after_key}
use Rattle.promises.specs.Meaning.{Reply}
use Rattle.promises.specs.Says.{create_says, empty, page_of, page_says}
use Rattle.promises.specs.Moments.{fetch, joined}
use Rattle.promises.specs.History.{Call, insert, overwrite, remove, set_limit, get, is_empty, page, replies, after}

-- The answers' numbers, with the value beside each.
abbrev pub answers : ℕ → ℕ → List Call → List (ℕ × ℕ)
answers limit capacity cs = map (λ (r : Reply). (r.answer, r.value)) (replies cs (empty limit capacity))

-- The picture of the stored keys after the calls.
abbrev pub picture : ℕ → ℕ → List Call → Option Tree
picture limit capacity cs = picture_of (after cs (empty limit capacity)).map

-- The whole listing of a prefix after the calls, as one page.
abbrev pub listing : ℕ → ℕ → List Call → List ℕ → Mode → List Entry
listing limit capacity cs q mode =
    (page_of (record { prefix = q; mode = mode; from = start; size = page_limit; room = entry_limit * page_limit }) (after cs (empty limit capacity))).entries

-- The bytes, the count and the end mark of a page after the calls.
abbrev pub shown : ℕ → ℕ → List Call → List ℕ → Mode → From → ℕ → List ℕ × (ℕ × Bool)
shown limit capacity cs q mode from n =
    let s = page_says (record { prefix = q; mode = mode; from = from; size = n; room = entry_limit * n }) (after cs (empty limit capacity)) in
    (s.bytes, (s.reply.count, s.reply.end))

-- Pages of these sizes of the whole listing after the calls, joined.
abbrev pub fetched : ℕ → ℕ → List Call → List ℕ → List Entry
fetched limit capacity cs sizes =
    joined (fetch inclusive [] start (map (λ (n : ℕ). record { map = (after cs (empty limit capacity)).map; size = n }) sizes))

-- The kinds of things that a row compares.
pub data Outcome : Type 0 where
  numbers : List ℕ → Outcome
  called : List (ℕ × ℕ) → Outcome
  listed : List Entry → Outcome
  pictured : Option Tree → Outcome
  paged : List ℕ × (ℕ × Bool) → Outcome

-- The names of the rows.
pub data Label : Type 0 where
  C1 C2 C3 C4 C5 C6 C7 C8 C9 C10 C11 C12 : Label
  -- of the rows that C1 to C12 lack
  worked_entry branch_at_c limit_lowered empty_store key_first count_said after_empty after_any page_ends page_goes_on pages_carry_on : Label
  -- of the rows at the ends of the ranges
  greatest_byte greatest_byte_last greatest_value greatest_value_shown greatest_limit : Label
  -- of the rows with numbers that hang on the longest key
  create_sizes output_sizes : Label

-- What a row holds against each other.
pub record Row : Type 0 where
  pub label : Label
  -- what the definitions give
  pub gives : Outcome
  -- what document 01 says
  pub says : Outcome

-- A row of a table.
abbrev pub row : Label → Outcome → Outcome → Row
row l g s = record { label = l; gives = g; says = s }

-- In every row the two are equal.
abbrev pub AllHold : List Row → Type 0
AllHold [] = Unit {0}
AllHold (r ∷ rs) = (r.gives ≡ r.says) × AllHold rs

-- The keys of the cases.
abbrev pub x : List ℕ
x = 0x78 ∷ []

abbrev pub y : List ℕ
y = 0x79 ∷ []

abbrev pub a : List ℕ
a = 0x61 ∷ []

abbrev pub b : List ℕ
b = 0x62 ∷ []

abbrev pub ab : List ℕ
ab = 0x61 ∷ 0x62 ∷ []

abbrev pub ac : List ℕ
ac = 0x61 ∷ 0x63 ∷ []

-- The runs of C5, C7 and C8.
abbrev pub c5 : List Call
c5 = insert [] 9 ∷ insert a 7 ∷ []

abbrev pub c7 : List Call
c7 = insert (0x11 ∷ 0x00 ∷ []) 1 ∷ insert (0x11 ∷ 0x10 ∷ []) 2 ∷ insert (0x11 ∷ 0x11 ∷ []) 3 ∷ insert (0x21 ∷ []) 4 ∷ []

abbrev pub c8 : List Call
c8 = insert (0x11 ∷ 0x00 ∷ []) 1 ∷ insert (0x11 ∷ 0x10 ∷ []) 2 ∷ insert (0x21 ∷ []) 3 ∷ insert (0x11 ∷ 0x11 ∷ []) 4 ∷ []

-- An answer with no value beside it, and an answer 0 with one.
abbrev pub only : Answer → ℕ × ℕ
only a = (number a, 0)

abbrev pub valued : ℕ → ℕ × ℕ
valued v = (number DONE, v)

-- "These twelve stand as a single table of the definitions with one proved statement."
abbrev pub cases : List Row
cases =
    -- "nibbles of byte 41 (hex): 5, 2, then 0"
    row C1 (numbers (map (nibble (0x41 ∷ [])) (0 ∷ 1 ∷ 2 ∷ []))) (numbers (5 ∷ 2 ∷ 0 ∷ []))
    -- "critical positions: empty and `a`: 0; `a` and `b`: 1; `a` and `ab`: 2"
    ∷ row C2 (numbers (critical [] a ∷ critical a b ∷ critical a ab ∷ [])) (numbers (0 ∷ 1 ∷ 2 ∷ []))
    -- "`a` and bytes 61 00: position 2, slots 0 and 1, `a` first"
    ∷ row C3
    (pictured (picture 128 511 (insert a 1 ∷ insert (0x61 ∷ 0x00 ∷ []) 2 ∷ [])))
    (pictured (some (branch 0 2 (kid 0 (leaf 0 a 1) (kid 1 (leaf 0 (0x61 ∷ 0x00 ∷ []) 2) end)))))
    -- "empty store: get of the empty key is ABSENT; insert it with 9, NEW; get gives 9"
    ∷ row C4 (called (answers 128 511 (get [] ∷ insert [] 9 ∷ get [] ∷ []))) (called (only ABSENT ∷ only DONE ∷ valued 9 ∷ []))
    -- "keys empty and `a`, empty prefix: plain gives `a`; inclusive gives empty, `a`"
    ∷ row C5 (listed (listing 128 511 c5 [] plain)) (listed ((a, 7) ∷ []))
    ∷ row C5 (listed (listing 128 511 c5 [] inclusive)) (listed (([], 9) ∷ (a, 7) ∷ []))
    -- "limit 0: `x` NEW, `y` HEIGHT, `x` REPLACED"
    ∷ row C6 (called (answers 0 511 (insert x 1 ∷ insert y 2 ∷ insert x 3 ∷ []))) (called (only DONE ∷ only HEIGHT ∷ only REPLACED ∷ []))
    -- "limit 2, bytes 11 00, 11 10, 11 11, then 21: all NEW, and 11 10 ends at depth 3"
    ∷ row C7 (called (answers 2 511 c7)) (called (only DONE ∷ only DONE ∷ only DONE ∷ only DONE ∷ []))
    ∷ row C7 (numbers (depth (0x11 ∷ 0x10 ∷ []) (picture 2 511 c7) ∷ [])) (numbers (3 ∷ []))
    -- "limit 2, order 11 00, 11 10, 21, 11 11: the last is HEIGHT"
    ∷ row C8 (called (answers 2 511 c8)) (called (only DONE ∷ only DONE ∷ only DONE ∷ only HEIGHT ∷ []))
    -- "`a`, `ab`, `ac`, remove `ab`: one branch at 2, slot 0 `a`, slot 7 `ac`"
    ∷ row C9
    (pictured (picture 128 511 (insert a 1 ∷ insert ab 2 ∷ insert ac 3 ∷ remove ab ∷ [])))
    (pictured (some (branch 0 2 (kid 0 (leaf 0 a 1) (kid 7 (leaf 0 ac 3) end)))))
    -- "capacity 1, limit 128: `x` NEW, `y` FULL; remove `x`; `y` NEW"
    ∷ row C10 (called (answers 128 1 (insert x 1 ∷ insert y 2 ∷ remove x ∷ insert y 2 ∷ []))) (called (only DONE ∷ only FULL ∷ only DONE ∷ only DONE ∷ []))
    -- "capacity 1, limit 0: `x` NEW, `y` HEIGHT"
    ∷ row C11 (called (answers 0 1 (insert x 1 ∷ insert y 2 ∷ []))) (called (only DONE ∷ only HEIGHT ∷ []))
    -- "64 bytes are taken, 65 are KEY"
    ∷ row C12 (called (answers 128 511 (insert (replicate 64 0) 1 ∷ insert (replicate 65 0) 2 ∷ []))) (called (only DONE ∷ only KEY ∷ []))
    ∷ []

-- What document 01 says and no checked case shows.
abbrev pub slips : List Row
slips =
    -- "Key `1.2`, value 7, whole: `01 00 03 31 2E 32 02 00 04 00 00 00 07`"
    row worked_entry
    (paged (shown 128 511 (insert (0x31 ∷ 0x2E ∷ 0x32 ∷ []) 7 ∷ []) [] plain start 1))
    (paged (0x01 ∷ 0x00 ∷ 0x03 ∷ 0x31 ∷ 0x2E ∷ 0x32 ∷ 0x02 ∷ 0x00 ∷ 0x04 ∷ 0x00 ∷ 0x00 ∷ 0x00 ∷ 0x07 ∷ [], (1, true)))
    -- "If the path to that leaf has a branch at c, a child is added and nothing is refused."
    ∷ row branch_at_c (called (answers 1 511 (insert a 1 ∷ insert b 2 ∷ insert (0x63 ∷ []) 3 ∷ []))) (called (only DONE ∷ only DONE ∷ only DONE ∷ []))
    -- "the limit may be set at any time, also on a filled store": a lowered one refuses only what its rule refuses
    ∷ row limit_lowered
    (called (answers 128 511 (insert a 1 ∷ insert b 2 ∷ set_limit 0 ∷ insert (0x63 ∷ []) 3 ∷ insert ab 4 ∷ overwrite a 5 ∷ remove b ∷ get a ∷ [])))
    (called (only DONE ∷ only DONE ∷ only DONE ∷ only DONE ∷ only HEIGHT ∷ only DONE ∷ only DONE ∷ valued 5 ∷ []))
    -- "An empty store takes a key under any limit."
    ∷ row empty_store (called (answers 0 1 (is_empty ∷ insert x 1 ∷ is_empty ∷ remove x ∷ is_empty ∷ []))) (called (valued 1 ∷ only DONE ∷ valued 0 ∷ only DONE ∷ valued 1 ∷ []))
    -- "The table's order 10 to 16 is the order of the checks": KEY before ABSENT and COUNT; ABSENT of an overwrite and a removal
    ∷ row key_first
    (called (answers 128 511 (get (replicate (suc key_limit) 0) ∷ overwrite x 1 ∷ remove x ∷ page (replicate (suc key_limit) 0) plain start 0 0 ∷ page [] plain (after_key (replicate (suc key_limit) 0)) 0 0 ∷ [])))
    (called (only KEY ∷ only ABSENT ∷ only ABSENT ∷ only KEY ∷ only KEY ∷ []))
    -- "page size is 0 or over 256"
    ∷ row count_said
    (called (answers 128 511 (page [] plain start 0 0 ∷ page [] plain start 257 99999 ∷ page [] plain start 256 99999 ∷ [])))
    (called (only COUNT ∷ only COUNT ∷ only DONE ∷ []))
    -- ""From the start" isn't "after the empty key": the second never gives the empty key."
    ∷ row after_empty (paged (shown 128 511 (insert [] 9 ∷ []) [] inclusive (after_key []) 1)) (paged ([], (0, true)))
    -- "an after-key (any key, stored or not, under the prefix or not)"
    ∷ row after_any
    (paged (shown 128 511 (insert ab 1 ∷ insert ac 2 ∷ []) ac inclusive (after_key (0x10 ∷ [])) 1))
    (paged (1 ∷ 0 ∷ 2 ∷ 0x61 ∷ 0x63 ∷ 2 ∷ 0 ∷ 4 ∷ 0 ∷ 0 ∷ 0 ∷ 2 ∷ [], (1, true)))
    -- "says end exactly if no further one is stored at that moment"
    ∷ row page_ends (paged (shown 128 511 (insert [] 9 ∷ []) [] inclusive start 1)) (paged (1 ∷ 0 ∷ 0 ∷ 2 ∷ 0 ∷ 4 ∷ 0 ∷ 0 ∷ 0 ∷ 9 ∷ [], (1, true)))
    ∷ row page_goes_on (paged (shown 128 511 c5 [] inclusive start 1)) (paged (1 ∷ 0 ∷ 0 ∷ 2 ∷ 0 ∷ 4 ∷ 0 ∷ 0 ∷ 0 ∷ 9 ∷ [], (1, false)))
    -- pages of an unchanged store, each after the last key given, "a page .. whose first page works and later ones say end at once" shut out
    ∷ row pages_carry_on (listed (fetched 128 511 c5 (1 ∷ 1 ∷ []))) (listed (([], 9) ∷ (a, 7) ∷ []))
    ∷ []

-- Document 01's ranges at their upper ends.
abbrev pub ends : List Row
ends =
    -- "any bytes", "17 slots, 0 to 16": both nibbles of byte FF are 16, in the last slot
    row greatest_byte (numbers (map (nibble (0xFF ∷ [])) (0 ∷ 1 ∷ 2 ∷ []))) (numbers (16 ∷ 16 ∷ 0 ∷ []))
    ∷ row greatest_byte
    (pictured (picture 128 511 (insert (0xFF ∷ []) 1 ∷ insert (0xF0 ∷ []) 2 ∷ insert (0x0F ∷ []) 3 ∷ [])))
    (pictured (some (branch 0 0 (kid 1 (leaf 0 (0x0F ∷ []) 3) (kid 16 (branch 0 1 (kid 1 (leaf 0 (0xF0 ∷ []) 2) (kid 16 (leaf 0 (0xFF ∷ []) 1) end))) end)))))
    -- bytes are compared as unsigned numbers, and "a proper prefix first"
    ∷ row greatest_byte_last
    (listed (listing 128 511 (insert (0xFF ∷ 0x00 ∷ []) 1 ∷ insert (0xFF ∷ []) 2 ∷ insert (0x80 ∷ 0xFF ∷ []) 3 ∷ insert (0x7F ∷ []) 4 ∷ []) [] plain))
    (listed ((0x7F ∷ [], 4) ∷ (0x80 ∷ 0xFF ∷ [], 3) ∷ (0xFF ∷ [], 2) ∷ (0xFF ∷ 0x00 ∷ [], 1) ∷ []))
    -- "Value: any unsigned 32-bit number."
    ∷ row greatest_value (called (answers 128 511 (insert x 4294967295 ∷ get x ∷ []))) (called (only DONE ∷ valued 4294967295 ∷ []))
    -- "tag 02 with the value in 4 bytes"
    ∷ row greatest_value_shown
    (paged (shown 128 511 (insert x 4294967295 ∷ []) [] plain start 1))
    (paged (1 ∷ 0 ∷ 1 ∷ 0x78 ∷ 2 ∷ 0 ∷ 4 ∷ 0xFF ∷ 0xFF ∷ 0xFF ∷ 0xFF ∷ [], (1, true)))
    -- "Height limit: 0 to 65,535; 128 or more never refuses"
    ∷ row greatest_limit
    (called (answers 0 511 (insert x 1 ∷ insert y 2 ∷ set_limit 65535 ∷ insert y 2 ∷ [])))
    (called (only DONE ∷ only HEIGHT ∷ only DONE ∷ only DONE ∷ []))
    ∷ row greatest_limit (numbers ((after (set_limit 65535 ∷ []) (empty 0 511)).limit ∷ (after [] (empty 65535 511)).limit ∷ [])) (numbers (65535 ∷ 65535 ∷ []))
    ∷ []

-- Document 01's numbers that hang on the longest key.
abbrev pub sizes : List Row
sizes =
    -- "Under 256 bytes it is refused."
    row create_sizes (numbers (map (λ (n : ℕ). number (create_says n)) (0 ∷ 255 ∷ 256 ∷ []))) (numbers (map number (ROOM ∷ ROOM ∷ DONE ∷ [])))
    -- "the output must have at least 74 bytes per entry asked"
    ∷ row output_sizes
    (called (answers 128 511 (page [] plain start 2 147 ∷ page [] plain start 2 148 ∷ page [] plain start 256 18943 ∷ page [] plain start 256 18944 ∷ [])))
    (called (only COUNT ∷ only DONE ∷ only COUNT ∷ only DONE ∷ []))
    ∷ []
